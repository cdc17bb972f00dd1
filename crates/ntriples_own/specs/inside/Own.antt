-- Bytes of IRIs and strings that stand for themselves in canonical text. Definitions only.
use Rattle.std.specs.Prelude.{ℕ, ◌+◌, Bool, false, ◌&&◌, not, [], ◌∷◌, eqb, ltb}
use Rattle.ntriples_cursor.specs.declared.Mode.{Mode}
use Rattle.ntriples_cursor.specs.declared.Mode.TheVariants.{Term, Iri, Label, Quoted, Suffix, Tag}
use Rattle.ntriples_cursor.specs.declared.Cursor.{Cursor}
use Rattle.ntriples_cursor.specs.declared.Piece.{Piece}

-- Whether a byte is a character of ASCII that neither closes a terminal, by its mark, nor begins an escape.
abbrev pub is_but : ℕ → ℕ → Bool
is_but close b = ltb b 0x80 && (not (eqb b close) && not (eqb b 0x5C))

-- Whether a byte that a cursor stands at stands for itself.
abbrev pub is_own : Mode → ℕ → Bool
is_own Term b = false
is_own Iri b = is_but 0x3E b
is_own Label b = false
is_own Quoted b = is_but 0x22 b
is_own Suffix b = false
is_own Tag b = false

-- The piece of such a byte.
abbrev pub own_piece : Cursor → ℕ → Piece
own_piece c b = record { bytes = b ∷ 0 ∷ 0 ∷ 0 ∷ []; len = 1; next = record { place = c.place + 1; mode = c.mode } }
