-- The shorter delivery lies within the bytes made.
use Rattle.std.proofs.Common.{arith, length-take-le, sym}
use Rattle.std.proofs.lemmas.List.{length-set}
use Rattle.cases_deliveries.proofs.long_cases.Goals as goal

pub slice_bounds-case-end-2 : goal.slice_bounds-case-end-2
slice_bounds-case-end-2 g c = sym (length-take-le 65536 _ (simp length-set (omega (arith, c.zeros-delivery.ensures))))
