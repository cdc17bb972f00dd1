-- A byte fits; past the end the definition gives 0.
use native.Mathlib.Omega.{arith}
use mathlib.Core.Path.{refl, sym}
use lib.ListN.{get_or-eq_default}
use borrow.Author.Rules.{rules}
use Rattle.delivery_format.proofs.byte_at.Goals as goal

pub overflow_cast-result : goal.overflow_cast-result
overflow_cast-result c = omega (arith, c.type_inv.bytes c.args.at)

pub returns-then-at-bytes : goal.returns-then-at-bytes
returns-then-at-bytes c = record { value = refl; upper_bound = omega (arith, c.type_inv.bytes c.args.at) }

pub returns-else-at-bytes : goal.returns-else-at-bytes
returns-else-at-bytes c = record { value = sym (get_or-eq_default c.args.bytes.now 0 (search rules)); upper_bound = search rules }
