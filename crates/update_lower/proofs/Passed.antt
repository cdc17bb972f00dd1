-- Where the first of the rows to be lowered stands among the kept ones. Assumes nothing.
use Prim.Native.Nat.{ℕ}
use mathlib.Core.Path.{◌≡◌}
use mathlib.Core.List.{List}
use native.Mathlib.Omega.{arith}
use Rattle.spec.specs.declared.Triple.{Triple}
use Rattle.spec.specs.Tables.{count, triple_from}
use Rattle.spec.proofs.TableRows.{length-rows}
use Rattle.table.specs.inside.Bounds.{Below}
use Rattle.update_lower.specs.inside.Lowering.{Passed}

pub first_passed : (ws rs : List ℕ) (r : ℕ) (x : Triple) → x ≡ triple_from rs 0 → Below ws (count ws) x r → Passed r ws rs
first_passed ws rs r x e b = record { within = omega (arith, length-rows ws, b.within); below = λ p h. rw (← e) (b.less p h) }

pub none_passed : (ws rs : List ℕ) → Passed 0 ws rs
none_passed ws rs = record { within = omega arith; below = λ p h. absurd (omega arith) }
