-- Numbered questions and refusals (document 01, "Questions at the door"). Definitions only.
use Rattle.std.specs.Prelude.{ℕ, Bool, true, cond, List, [], ◌∷◌}
use Rattle.spec.specs.declared.Triple.{Triple}
use Rattle.spec.specs.Terms.{is_triple, is_statement, are_sides_allowed}

-- "Asked in this order; the first "no" gives its number, and never otherwise." 0 where every answer is yes.
unfoldable pub first_refusal : List (ℕ × Bool) → ℕ
first_refusal [] = 0
first_refusal (q ∷ qs) = cond q.1 (first_refusal qs) q.0

-- "2. Update: is it a triple? 3. Update: are a statement's sides allowed?"
abbrev pub triple_checks : Triple → List (ℕ × Bool)
triple_checks t = (2, is_triple t) ∷ (3, cond (is_statement t) (are_sides_allowed t) true) ∷ []
