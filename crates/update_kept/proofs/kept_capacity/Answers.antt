-- The lesser of two numbers.
use mathlib.Core.Path.{refl}
use native.Mathlib.Omega.{arith}
use Rattle.update_kept.proofs.kept_capacity.Goals as goal

pub returns : goal.returns
returns c = omega (arith, c.capacity-rows.ensures c.args.kept.now refl)
