-- `settle` leaves the ordered set of the rows, which has the same members.
use mathlib.Core.Path.{refl}
use Rattle.rows_distinct.proofs.Collecting.{settled-within, collects_settled}
use Rattle.rows_distinct.proofs.settle.Goals as goal

pub returns : goal.returns
returns c = record { within = settled-within _ _ _ c.args.out.now c.merge_distinct-sorted.new.t c.merge_distinct-sorted.ensures.count c.requires.1 c.merge_distinct-sorted.auto.t; settled = (refl, refl); collects = λ R C. collects_settled _ _ _ _ _ R _ _ c.merge_distinct-sorted.ensures.holds c.merge_distinct-sorted.auto.t C }
