-- A section over a small store, worked out by the definitions: what theorems ask is met, and both sides give these tallies. Assumes nothing.
use Prim.Native.Nat.{◌+◌}
use mathlib.Core.Path.{◌≡◌, refl}
use mathlib.Core.Bool.{true}
use mathlib.Core.List.{List, [], ◌∷◌, zip, zip_with, flat_map}
use lib.ListN.{length}
use lib.Dec.{leb}
use Rattle.spec.specs.declared.Triple.{Triple}
use Rattle.spec.specs.Terms.{is_uri, is_blank, is_literal, is_vocabulary, triple, is_triple, is_statement, are_sides_allowed, is_allowed_statement, is_allowed_fact}
use Rattle.spec.specs.Refusals.{first_refusal}
use Rattle.spec.specs.Order.{is_same, is_ascending, insert, remove}
use Rattle.spec.specs.computed.Carried.{ascend, leaves, steps, spread, reach, objects, properties, subject_classes, object_classes, conclusions, carried}
use Rattle.spec.specs.Tables.{capacity, first_rows, rows, flatten, layout, are_zero, is_table, is_support_table, Tables, tables, are_formed, capacities_of, contents_of, kept_of, put}
use Rattle.spec.specs.Lists.{all, any, select}
use Rattle.spec.specs.Rows.{less}
use Rattle.spec.specs.Saturation.{raise, raise_all, one_less, lower, lower_all}
use Rattle.spec.specs.declared.Change.TheVariants.{Addition, Withdrawal}
use Rattle.spec.specs.declared.Tally.{Tally}
use Rattle.spec.specs.Updates.{is_member, changed, applying, is_change, is_admitted, settle, kept_after, contents_after, is_kept_fitting, update}
use Rattle.spec.specs.Deliveries.{is_fact, tally, tallied, run_entries}
use Rattle.spec.specs.inside.Pairs.{progress}
use Rattle.delivery_batch.specs.inside.Batches.{carried_all, missing, present, insert_all, remove_all, coming, going, with_facts, without_facts, tally_after}

-- A store with one fact, room for a second, and no statement.
abbrev store : Tables
store = tables (0 ∷ []) (1 ∷ 32 ∷ 19 ∷ 33 ∷ 0 ∷ 0 ∷ 0 ∷ []) (1 ∷ 32 ∷ 19 ∷ 33 ∷ 0 ∷ 0 ∷ 0 ∷ []) (1 ∷ 0 ∷ [])

-- A fact that it lacks, the one that it has, the first again, and no triple.
abbrev entries : List Triple
entries = triple 40 19 41 ∷ triple 32 19 33 ∷ triple 40 19 41 ∷ triple 0 19 41 ∷ []

-- No entry was dealt with.
abbrev none : Tally
none = tally 0 0 0

-- Added: one is applied, two are idle, one is refused, and the table is full.
pub added : (are_formed store ≡ true) × (all is_fact entries ≡ true)
    × (leb (length (contents_of store).explicit.facts + length (coming (contents_of store).explicit.facts entries)) (capacities_of store).facts ≡ true)
    × (leb (length (with_facts (coming (contents_of store).explicit.facts entries) (contents_of store)).kept) (capacities_of store).kept ≡ true)
    × ((run_entries (update Addition) entries (progress store none)).1 ≡ tally 1 2 1) × (tally_after (length (coming (contents_of store).explicit.facts entries)) entries none ≡ tally 1 2 1)
unfolding zip zip_with flat_map is_uri is_blank is_literal is_vocabulary is_triple is_statement are_sides_allowed is_allowed_statement is_allowed_fact first_refusal any select less is_same is_ascending insert remove ascend capacity first_rows rows flatten layout are_zero all is_table is_support_table leaves steps spread reach objects properties subject_classes object_classes conclusions carried raise raise_all one_less lower lower_all contents_of kept_of put is_kept_fitting are_formed is_member changed applying is_change is_admitted settle kept_after contents_after update tallied run_entries carried_all missing present insert_all remove_all with_facts without_facts tally_after
added = (refl, refl, refl, refl, refl, refl)

-- Withdrawn: one is applied, two are idle, one is refused, and nothing is left.
pub withdrawn : ((without_facts (going (contents_of store).explicit.facts entries) (contents_of store)).explicit.facts ≡ []) × ((without_facts (going (contents_of store).explicit.facts entries) (contents_of store)).kept ≡ [])
    × ((run_entries (update Withdrawal) entries (progress store none)).1 ≡ tally 1 2 1) × (tally_after (length (going (contents_of store).explicit.facts entries)) entries none ≡ tally 1 2 1)
unfolding zip zip_with flat_map is_uri is_blank is_literal is_vocabulary is_triple is_statement are_sides_allowed is_allowed_statement is_allowed_fact first_refusal any select less is_same is_ascending insert remove ascend capacity first_rows rows flatten layout are_zero all is_table is_support_table leaves steps spread reach objects properties subject_classes object_classes conclusions carried raise raise_all one_less lower lower_all contents_of kept_of put is_kept_fitting are_formed is_member changed applying is_change is_admitted settle kept_after contents_after update tallied run_entries carried_all missing present insert_all remove_all with_facts without_facts tally_after
withdrawn = (refl, refl, refl, refl)
