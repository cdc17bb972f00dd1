-- By `copy_table` and `copy_supports`; an accepted store is well formed and has room.
use native.Mathlib.Omega.{arith}
use Rattle.spec.specs.Tables.{tables}
use Rattle.old_store.specs.CarryingOver.{carried_tables}
use Rattle.old_store.proofs.Tables.{tables_eq}
use Rattle.old_store.proofs.Carrying.{old_store, some_words}
use Rattle.carry_over.proofs.copy_tables.Goals as goal

pub copy_table-requires : goal.copy_table-requires
copy_table-requires c = let T = tables c.args.s.now c.args.f.now c.args.k.now c.args.u.now in
    let S = (old_store T).0 c.requires.store in
    record { laid = S.statements.laid; in_bounds = c.requires.statements }

pub copy_table-requires-2 : goal.copy_table-requires-2
copy_table-requires-2 c = let T = tables c.args.s.now c.args.f.now c.args.k.now c.args.u.now in
    let S = (old_store T).0 c.requires.store in
    record { laid = S.facts.laid; in_bounds = c.requires.facts }

pub copy_table-requires-3 : goal.copy_table-requires-3
copy_table-requires-3 c = let T = tables c.args.s.now c.args.f.now c.args.k.now c.args.u.now in
    let S = (old_store T).0 c.requires.store in
    record { laid = S.kept.laid; in_bounds = c.requires.kept }

pub bounds-k-0 : goal.bounds-k-0
bounds-k-0 c = let w = some_words (tables c.args.s.now c.args.f.now c.args.k.now c.args.u.now) c.requires.store in
    omega (arith, w.0, w.1, w.2)

pub copy_supports-requires : goal.copy_supports-requires
copy_supports-requires c = let T = tables c.args.s.now c.args.f.now c.args.k.now c.args.u.now in
    let S = (old_store T).0 c.requires.store in
    record { n_in_bounds = S.supports.within; n_in_bounds_2 = c.requires.supports }

pub returns : goal.returns
unfolding carried_tables
returns c = tables_eq c.copy_table.ensures c.copy_table-2.ensures c.copy_table-3.ensures c.copy_supports.ensures
