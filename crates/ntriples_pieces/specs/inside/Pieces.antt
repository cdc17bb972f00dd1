-- What stands at an index of an IRI or a string. Definitions only.
use Rattle.std.specs.Prelude.{ℕ, ◌<◌, ◌≡◌, Bool, true, List, []}
use Prim.Native.Char.{code}
use Rattle.spec_ntriples.specs.Characters.{is_iri_char, is_string_char}
use Rattle.spec_ntriples.specs.computed.Terminals.{none, got, push, State, outside, Step, iri_step, string_step, scan}
use Rattle.ntriples_bytes.specs.inside.Places.{Utf8From, chars_at}
use Rattle.ntriples_pieces.specs.declared.Terminal.{Terminal}
use Rattle.ntriples_pieces.specs.declared.Terminal.TheVariants.{Iri, Quoted}
use Rattle.ntriples_pieces.specs.declared.Piece.{Piece}
use Rattle.ntriples_pieces.specs.declared.Piece.TheVariants.{Broken, Ends, Gives}

-- The steps of a reader of an IRI, or of a string.
unfoldable pub step_of : Terminal → State → ℕ → Step
step_of Iri = iri_step
step_of Quoted = string_step

-- Whether a character may stand there as it is.
unfoldable pub may_stand : Terminal → ℕ → Bool
may_stand Iri = is_iri_char
may_stand Quoted = is_string_char

-- Whether an escape may stand for it there.
unfoldable pub may_escape : Terminal → ℕ → Bool
may_escape Iri = is_iri_char
may_escape Quoted = λ c. true

-- The mark that closes it.
unfoldable pub closing_of : Terminal → ℕ
closing_of Iri = code ">"
closing_of Quoted = code "\""

-- A piece is what a reader in a state finds at an index; behind it the bytes are UTF-8.
abbrev pub IsPiece : (State → ℕ → Step) → State → List ℕ → ℕ → Piece → Type 0
IsPiece step s bs at Broken = scan step s (chars_at bs at) ≡ none
IsPiece step s bs at (Ends next) = (scan step s (chars_at bs at) ≡ got [] (chars_at bs next)) × Utf8From bs next
IsPiece step s bs at (Gives c next) =
    (scan step s (chars_at bs at) ≡ push c (scan step outside (chars_at bs next))) × (Utf8From bs next × (at < next))
