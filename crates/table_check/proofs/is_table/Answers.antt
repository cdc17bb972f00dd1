-- By the tests of `is_table`, one by one.
use Prim.Native.Nat.{◌≤◌}
use mathlib.Core.Path.{refl, sym}
use native.Mathlib.Omega.{arith}
use Rattle.spec.specs.Tables.{capacity, count}
use Rattle.table_check.specs.inside.Allowed.{allowed_in}
use Rattle.spec.proofs.TableFormed.{capacity_fits}
use Rattle.table_check.proofs.Tests.{no_word, too_many, enough}
use Rattle.table_check.proofs.is_table.Goals as goal

pub returns-then-t-eq0 : goal.returns-then-t-eq0
returns-then-t-eq0 c = sym (no_word (allowed_in c.args.statements) c.args.most c.args.t.now c.if-t-eq0.true)

pub overflow_cast-n : goal.overflow_cast-n
overflow_cast-n c = omega (arith, c.type_inv.t 0)

pub returns-then-capacity-n : goal.returns-then-capacity-n
returns-then-capacity-n c = sym (too_many (allowed_in c.args.statements) c.args.most c.args.t.now (omega (arith, c.if-t-eq0.false)) (rw (← c.capacity.ensures c.args.t.now refl) c.if-capacity-n.true))

pub are_rows-requires : goal.are_rows-requires
are_rows-requires c = let within : count c.args.t.now ≤ capacity c.args.most c.args.t.now = rw (← c.capacity.ensures c.args.t.now refl) c.if-capacity-n.false in
    capacity_fits c.args.most c.args.t.now (count c.args.t.now) (omega (arith, c.if-t-eq0.false)) within

pub overflow_mul-n : goal.overflow_mul-n
overflow_mul-n c = let within : count c.args.t.now ≤ capacity c.args.most c.args.t.now = rw (← c.capacity.ensures c.args.t.now refl) c.if-capacity-n.false in
    omega (arith, capacity_fits c.args.most c.args.t.now (count c.args.t.now) (omega (arith, c.if-t-eq0.false)) within)

pub overflow_add-n : goal.overflow_add-n
overflow_add-n c = let within : count c.args.t.now ≤ capacity c.args.most c.args.t.now = rw (← c.capacity.ensures c.args.t.now refl) c.if-capacity-n.false in
    omega (arith, capacity_fits c.args.most c.args.t.now (count c.args.t.now) (omega (arith, c.if-t-eq0.false)) within)

pub returns-then-are_rows : goal.returns-then-are_rows
returns-then-are_rows c = let within : count c.args.t.now ≤ capacity c.args.most c.args.t.now = rw (← c.capacity.ensures c.args.t.now refl) c.if-capacity-n.false in
    rw (enough (allowed_in c.args.statements) c.args.most c.args.t.now (omega (arith, c.if-t-eq0.false)) within, ← c.are_rows.ensures, c.if-are_rows.true) c.are_words_zero.ensures

pub returns-else-are_rows : goal.returns-else-are_rows
returns-else-are_rows c = let within : count c.args.t.now ≤ capacity c.args.most c.args.t.now = rw (← c.capacity.ensures c.args.t.now refl) c.if-capacity-n.false in
    rw (enough (allowed_in c.args.statements) c.args.most c.args.t.now (omega (arith, c.if-t-eq0.false)) within, ← c.are_rows.ensures, c.if-are_rows.false)
