-- Where what is read from the front of characters ends. Definitions only.
use Rattle.std.specs.Prelude.{ℕ, ◌≡◌, Bool, cond, List, [], ◌∷◌, Option, Some, None}
use Rattle.spec_ntriples.specs.computed.Terminals.{Got, none, got}
use Rattle.spec_ntriples.specs.computed.Lines.{Read, nothing, read}
use Rattle.ntriples_bytes.specs.inside.Places.{Utf8From, chars_at}

-- What is behind: nothing was read; or some characters.
pub data Behind : Type 0 where
  nowhere : Behind
  behind : List ℕ → Behind

-- What is behind the first character, where that passes a test.
unfoldable pub behind_head : (ℕ → Bool) → List ℕ → Behind
behind_head test [] = nowhere
behind_head test (c ∷ cs) = cond (test c) (behind cs) nowhere

-- What is behind a terminal whose characters pass a test.
unfoldable pub behind_where : (List ℕ → Bool) → Got → Behind
behind_where test none = nowhere
behind_where test (got cs rest) = cond (test cs) (behind rest) nowhere

-- What is behind a terminal.
unfoldable pub behind_got : Got → Behind
behind_got none = nowhere
behind_got (got cs rest) = behind rest

-- What is behind a term.
unfoldable pub behind_read : Read → Behind
behind_read nothing = nowhere
behind_read (read t rest) = behind rest

-- Something was read up to an index, and the bytes are UTF-8 from there on.
pub record Ended (bs : List ℕ) (b : Behind) (end : ℕ) : Type 0 where
  pub same : b ≡ behind (chars_at bs end)
  pub from : Utf8From bs end

-- An index, where there is one, is where something that was read ends; there is none, where nothing was.
abbrev pub IsEnd : List ℕ → Behind → Option ℕ → Type 0
IsEnd bs b None = b ≡ nowhere
IsEnd bs b (Some end) = Ended bs b end
