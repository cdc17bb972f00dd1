-- Fields with other tags than 1 alter no answer. Assumes nothing.
use mathlib.Core.Path.{◌≡◌, ap}
use mathlib.Core.List.{List, [], ◌∷◌, ◌++◌}
use borrow.Author.Tests.{ne_eqb}
use Rattle.spec.specs.Lists.{select}
use Rattle.spec.specs.Deliveries.{number_fields, are_sections_right, is_number_right, number_of}
use Rattle.spec.specs.Messages.{Field, Message}
use Rattle.delivery_format.specs.inside.Encodable.{Agree}

-- The questions 10 and 11 and the delivery number of messages that agree but for such fields.
module _ (m n : Message) (e : Agree m n) where
  pub unknown_sections : are_sections_right m ≡ are_sections_right n
  unfolding are_sections_right
  unknown_sections = rw (e.statements_withdrawn, e.facts_withdrawn, e.statements_added, e.facts_added)

  pub unknown_right : is_number_right (number_fields m.fields) ≡ is_number_right (number_fields n.fields)
  unknown_right = ap is_number_right e.numbers

  pub unknown-number : number_of (number_fields m.fields) ≡ number_of (number_fields n.fields)
  unknown-number = ap number_of e.numbers

-- A field with another tag may stand anywhere among the fields.
pub unknown-field : (f : Field) → (f.tag ≡ 1 → ⊥) → (fs gs : List Field) → number_fields (fs ++ f ∷ gs) ≡ number_fields (fs ++ gs)
unfolding number_fields select
unknown-field f h [] gs = rw (ne_eqb _ _ h)
unknown-field f h (g ∷ fs) gs = rw (unknown-field f h fs gs)
