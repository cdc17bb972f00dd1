-- The conclusions from a fact, by the places of the terms found. Definitions only.
use Rattle.std.specs.Prelude.{cond, ℕ, ltb}
use Rattle.spec.specs.declared.Triple.{Triple}
use Rattle.spec.specs.Terms.{type, triple}

-- The conclusion from f by the term x that is found at place i.
unfoldable pub conclusion_at : Triple → ℕ → ℕ → ℕ → ℕ → Triple
conclusion_at f a b x i = cond (ltb i a) (triple f.subject x f.object) (cond (ltb i b) (triple f.subject type x) (triple f.object type x))
