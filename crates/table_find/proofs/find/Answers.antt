-- The first row that is not below x is x, or x is missing there.
use mathlib.Core.Path.{sym}
use native.Mathlib.Omega.{arith}
use Rattle.table.proofs.SearchLaws.{between-all}
use Rattle.table_find.proofs.FindLaws.{found_at, found_gap}
use Rattle.table_find.proofs.find.Goals as goal
use Rattle.table_find.proofs.find.Goals.{else-i-n-via-then-i-n+else-is_row, else-i-n-via-else-i-n}

pub lower_bound-i-requires : goal.lower_bound-i-requires
lower_bound-i-requires c = record { rising = record { fits = c.requires.n_in_bounds; ascends = c.requires.t_value }; between = between-all c.args.t.now c.args.n c.args.x }

pub returns-then-is_row : goal.returns-then-is_row
returns-then-is_row c = sym (found_at c.args.t.now _ _ c.lower_bound-i.ensures c.if-i-n.true (c.is_row.ensures.if_true c.if-is_row.true))

pub returns : goal.returns
returns c =
    elim c.else-i-n.branch [
      | else-i-n-via-then-i-n+else-is_row w ↦ sym (found_gap c.args.t.now _ _ c.lower_bound-i.ensures (λ _. w.is_row.ensures.if_false w.if-is_row.false))
      | else-i-n-via-else-i-n w ↦ sym (found_gap c.args.t.now _ _ c.lower_bound-i.ensures (λ h. absurd (omega (arith, w.if-i-n.false))))
    ]
