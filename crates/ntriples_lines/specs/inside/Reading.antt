-- A line, read into places. Definitions only.
use Rattle.std.specs.Prelude.{ℕ, ◌≡◌, Bool, false, ◌&&◌, List, [], ◌∷◌, eqb}
use Prim.Native.Char.{code}
use Rattle.spec_ntriples.specs.computed.Terminals.{skip}
use Rattle.spec_ntriples.specs.Texts.{TextTriple}
use Rattle.spec_ntriples.specs.computed.Lines.{Line, wrong, empty, full, is_rest}
use Rattle.ntriples_bytes.specs.inside.Places.{HasText}
use Rattle.ntriples_lines.specs.declared.Tokens.{Tokens}
use Rattle.ntriples_lines.specs.declared.Line as code-line
use Rattle.ntriples_lines.specs.declared.Line.TheVariants.{Wrong, Empty, Full}

-- Whether a dot, and no more, follows.
unfoldable pub is_ended : List ℕ → Bool
is_ended [] = false
is_ended (c ∷ cs) = eqb c (code ".") && is_rest (skip cs)

-- The places of a triple's terms: the texts there are its texts.
pub record IsFull (line : List ℕ) (l : Line) (k : Tokens) : Type 0 where
  pub triple : TextTriple
  pub same : l ≡ full triple
  pub subject : HasText line k.subject.from k.subject.end triple.subject
  pub property : HasText line k.property.from k.property.end triple.property
  pub object : HasText line k.object.from k.object.end triple.object

-- A line is wrong, empty or full as it is read.
abbrev pub IsLine : List ℕ → Line → code-line.Line → Type 0
IsLine line l Wrong = l ≡ wrong
IsLine line l Empty = l ≡ empty
IsLine line l (Full k) = IsFull line l k
