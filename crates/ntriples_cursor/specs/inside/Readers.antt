-- Characters of IRIs and strings at indices of a line, escapes resolved. Definitions only.
use Rattle.std.specs.Prelude.{ℕ, zero, suc, ◌+◌, ◌≤◌, ◌<◌, ◌≡◌, Bool, List, ◌∷◌, length}
use Prim.Native.Char.{code}
use Rattle.spec_ntriples.specs.Utf8.{encode_char}
use Rattle.spec_ntriples.specs.Characters.{no_char, echar}
use Rattle.spec_ntriples.specs.computed.Terminals.{State, outside, slash, digits, Step, ends, breaks, leads, gives, hex_step, scan, got}
use Rattle.spec_ntriples.specs.Texts.{canonical_char}
use Rattle.ntriples_bytes.specs.inside.Places.{At}
use Rattle.ntriples_bytes.specs.declared.Mark.{Mark}

-- What the readers of IRIs and strings share: a character closes the terminal, a backslash begins an escape, and any other character is given
-- as it is or breaks the terminal. One that is given as it is stays so in canonical text.
pub record IsReader (step : State → ℕ → Step) (close : ℕ) : Type 0 where
  pub allowed : ℕ → Bool
  pub closes : step outside close ≡ ends
  pub escapes : step outside (code "\\") ≡ leads slash
  pub plain : (c : ℕ) → (c ≡ close → ⊥) → (c ≡ code "\\" → ⊥) → (step outside c ≡ breaks → ⊥) → (step outside c ≡ gives c) × (canonical_char c ≡ encode_char c)
  pub short : step slash (code "u") ≡ leads (digits 4 0)
  pub long : step slash (code "U") ≡ leads (digits 8 0)
  pub letter : (c : ℕ) → (c ≡ code "u" → ⊥) → (c ≡ code "U" → ⊥) → (step slash c ≡ breaks → ⊥) → (step slash c ≡ gives (echar c)) × echar c < no_char
  pub number : (left v c : ℕ) → step (digits left v) c ≡ hex_step allowed left v c

-- A reader that stands at an index in a state has characters ds still to give before its terminal ends, behind which others stand.
pub record Reads (line : List ℕ) (at : ℕ) (step : State → ℕ → Step) (s : State) (ds rest : List ℕ) : Type 0 where
  pub chars : List ℕ
  pub stands : At line at chars
  pub scans : scan step s chars ≡ got ds rest

-- Some reader stands at an index in a state.
pub record InState (line : List ℕ) (at : ℕ) (s : State) : Type 0 where
  pub step : State → ℕ → Step
  pub close : ℕ
  pub reader : IsReader step close
  pub given : List ℕ
  pub rest : List ℕ
  pub reads : Reads line at step s given rest

-- The character at an index is not the one that closes.
abbrev pub NotClosed : List ℕ → ℕ → ℕ → Type 0
NotClosed line at close = (cs : List ℕ) → At line at (close ∷ cs) → ⊥

-- Some reader stands at an index outside an escape, at a character that does not close.
pub record AtChar (line : List ℕ) (at : ℕ) : Type 0 where
  pub step : State → ℕ → Step
  pub close : ℕ
  pub reader : IsReader step close
  pub given : List ℕ
  pub rest : List ℕ
  pub reads : Reads line at step outside given rest
  pub unclosed : NotClosed line at close

-- A mark has the first character that a reader has to give, and the index where it goes on; the character's canonical bytes are no more than
-- those that were read from an index on, and some before it.
pub record Gives (line : List ℕ) (from before : ℕ) (step : State → ℕ → Step) (ds rest : List ℕ) (m : Mark) : Type 0 where
  pub later : List ℕ
  pub same : ds ≡ m.code ∷ later
  pub reads : Reads line m.next step outside later rest
  pub small : m.code < 0x200000
  pub room : from + length (canonical_char m.code) ≤ before + m.next

-- A character was given, and a reader goes on at an index.
pub record Given (line : List ℕ) (at : ℕ) (step : State → ℕ → Step) (c : ℕ) (ds rest : List ℕ) : Type 0 where
  pub later : List ℕ
  pub same : ds ≡ c ∷ later
  pub reads : Reads line at step outside later rest
  pub small : c < 0x200000

-- A number of an escape that has digits due; where none is, its character is given.
abbrev pub DigitsDue : (line : List ℕ) (at : ℕ) (step : State → ℕ → Step) (left v : ℕ) (ds rest : List ℕ) → Type 0
DigitsDue line at step zero v ds rest = Given line at step v ds rest
DigitsDue line at step (suc left) v ds rest = Reads line at step (digits (suc left) v) ds rest
