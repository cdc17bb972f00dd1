-- A store that was lent, and not grown, can be spoiled by the withdrawal of a fact, and by no other update (`add_formed` and
-- `statement_formed` of Laws). Assumes nothing.
use mathlib.Core.Path.{◌≡◌, refl}
use mathlib.Core.Bool.{true, false}
use mathlib.Core.List.{[], ◌∷◌, zip, zip_with}
use Rattle.spec.specs.declared.Triple.{Triple}
use Rattle.spec.specs.Terms.{is_uri, is_blank, is_literal, is_vocabulary, triple, is_triple, is_statement, are_sides_allowed, is_allowed_statement, is_allowed_fact}
use Rattle.spec.specs.Refusals.{first_refusal}
use Rattle.spec.specs.Order.{is_same, is_ascending, insert, remove}
use Rattle.spec.specs.computed.Carried.{ascend, leaves, steps, spread, reach, objects, properties, subject_classes, object_classes, conclusions, carried}
use Rattle.spec.specs.Tables.{capacity, first_rows, rows, flatten, layout, are_zero, is_table, is_support_table, Tables, tables, are_formed, contents_of, kept_of, put}
use Rattle.spec.specs.Lists.{all, any, select}
use Rattle.spec.specs.Rows.{less}
use Rattle.spec.specs.Saturation.{one_less, lower, lower_all}
use Rattle.spec.specs.declared.Answer.TheVariants.{Applied}
use Rattle.spec.specs.Updates.{is_member, changed, applying, is_change, is_admitted, settle, kept_after, contents_after, is_kept_fitting, update, withdraw}

-- The fact that is withdrawn.
abbrev pub second : Triple
second = triple 40 19 41

-- Tables that hold a fact, that fact after it, and no statement. The first has support 2, which is within the number of facts and not the number of
-- facts that carry it.
abbrev pub lent : Tables
lent = tables (0 ∷ []) (2 ∷ 32 ∷ 19 ∷ 33 ∷ 40 ∷ 19 ∷ 41 ∷ []) (2 ∷ 32 ∷ 19 ∷ 33 ∷ 40 ∷ 19 ∷ 41 ∷ []) (2 ∷ 1 ∷ [])

-- They are well formed; the withdrawal of the second fact is applied; the first keeps support 2 with one fact left.
pub withdrawal_can_spoil : (are_formed lent ≡ true) × ((withdraw lent second).0 ≡ Applied) × (are_formed (withdraw lent second).1 ≡ false)
unfolding zip zip_with is_uri is_blank is_literal is_vocabulary is_triple is_statement are_sides_allowed is_allowed_statement is_allowed_fact first_refusal any select less is_same is_ascending insert remove ascend capacity first_rows rows flatten layout are_zero all is_table is_support_table leaves steps spread reach objects properties subject_classes object_classes conclusions carried one_less lower lower_all contents_of kept_of put is_kept_fitting are_formed is_member changed applying is_change is_admitted settle kept_after contents_after update
withdrawal_can_spoil = (refl, refl, refl)
