-- The first words that differ decide the order of two triples.
use Rattle.std.specs.declared.cmp.Ordering.TheVariants.{Equal}
use Rattle.spec.specs.Tables.{row_at}
use Rattle.table_find.proofs.Place.{says-ordering, cmp_says, by_subjects, by_properties, by_objects}
use Rattle.table_find.proofs.compare_at.Goals as goal

pub returns-in-Equal-cmp : goal.returns-in-Equal-cmp
unfolding row_at
returns-in-Equal-cmp c = let t = row_at c.args.t.now c.args.i in
    let e = cmp_says _ _ Equal c.in-Equal.ensures in
    let f = cmp_says _ _ Equal c.in-Equal-cmp.ensures in
    says-ordering t c.args.x _ (by_objects t c.args.x _ e f (cmp_says _ _ _ c.cmp-in-Equal-cmp.ensures))

pub returns-in_default-cmp : goal.returns-in_default-cmp
unfolding row_at
returns-in_default-cmp c = let t = row_at c.args.t.now c.args.i in
    let e = cmp_says _ _ Equal c.in-Equal.ensures in
    says-ordering t c.args.x _ (by_properties t c.args.x _ c.in_default-cmp.not-Equal e (cmp_says _ _ _ c.cmp-in-Equal.ensures))

pub returns-in_default : goal.returns-in_default
unfolding row_at
returns-in_default c = let t = row_at c.args.t.now c.args.i in says-ordering t c.args.x _ (by_subjects t c.args.x _ c.in_default.not-Equal (cmp_says _ _ _ c.cmp.ensures))
