-- Characters and terms at the indices of bytes. Definitions only.
use Rattle.std.specs.Prelude.{ℕ, ◌≤◌, ◌<◌, ◌≡◌, List, [], ◌∷◌, length, drop}
use Rattle.spec_ntriples.specs.computed.Decoded.{Decoded, broken, decoded, decode}
use Rattle.spec_ntriples.specs.Texts.{Text}
use Rattle.spec_ntriples.specs.computed.Lines.{read, read_object}
use Rattle.ntriples_bytes.specs.declared.Mark.{Mark}

-- The characters cs stand in the bytes from an index on, up to the last.
pub record At (bs : List ℕ) (at : ℕ) (cs : List ℕ) : Type 0 where
  pub within : at ≤ length bs
  pub chars : decode (drop at bs) ≡ decoded cs

-- Some characters do: the bytes are UTF-8 from an index on.
pub record Utf8From (bs : List ℕ) (at : ℕ) : Type 0 where
  pub chars : List ℕ
  pub stands : At bs at chars

-- The characters of some bytes, none where they are broken.
unfoldable pub chars_of : Decoded → List ℕ
chars_of broken = []
chars_of (decoded cs) = cs

-- The characters from an index on: where any stand, these (law `chars_are`).
unfoldable pub chars_at : List ℕ → ℕ → List ℕ
chars_at bs at = chars_of (decode (drop at bs))

-- A mark has the character that stands at an index, and the index behind it, where the others stand.
pub record Marks (bs : List ℕ) (at : ℕ) (m : Mark) : Type 0 where
  pub behind : List ℕ
  pub stands : At bs at (m.code ∷ behind)
  pub after : at < m.next
  pub rest : At bs m.next behind

-- The bytes of a line from one index to another are a term with a text.
pub record HasText (line : List ℕ) (from end : ℕ) (t : Text) : Type 0 where
  pub chars : List ℕ
  pub rest : List ℕ
  pub starts : At line from chars
  pub reads : read_object chars ≡ read t rest
  pub behind : At line end rest
