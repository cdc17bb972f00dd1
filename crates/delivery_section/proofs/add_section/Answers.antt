-- By whether the store is well formed. Assumes nothing.
use mathlib.Core.Path.{sym, ◌∙◌}
use Rattle.table.proofs.Store.{is_store_formed}
use Rattle.spec.specs.declared.Change.TheVariants.{Addition}
use Rattle.spec.specs.Updates.{update}
use Rattle.spec.proofs.Outcomes.{update_malformed}
use Rattle.delivery_section.specs.inside.Running.{keeps_formed}
use Rattle.delivery_section.proofs.Formed.{all_keep}
use Rattle.delivery_section.proofs.Runs.{left_first, left_refused}
use Rattle.delivery_section.proofs.add_section.Goals as goal

pub returns-then-not-formed : goal.returns-then-not-formed
returns-then-not-formed c = left_refused c.short_at.result (left_first (update Addition) (keeps_formed Addition) c.args.bytes.now _ c.args.k c.section_start-start.result c.short_at.result c.args.counted c.requires.next (all_keep _) c.section_start-start.ensures.value c.short_at.ensures.value) (λ t. update_malformed Addition _ t (sym c.requires.formed_value ∙ c.if-not-formed.true)) c.refused.ensures

pub run_section-requires : goal.run_section-requires
run_section-requires c = record { formed_store = is_store_formed _ _ _ _ (sym c.requires.formed_value ∙ c.if-not-formed.false); next = c.requires.next; k_value = all_keep _ }

pub returns : goal.returns
returns c = c.run_section.ensures.result_after
