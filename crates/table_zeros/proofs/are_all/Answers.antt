use mathlib.Core.Path.{sym, ◌∙◌}
use Rattle.spec.proofs.TableAll.{all_end}
use Rattle.table_zeros.proofs.Folds.{fold_end, all_fold}
use Rattle.table_zeros.proofs.are_all.Goals as goal

pub loop-i-preserved : goal.loop-i-preserved
loop-i-preserved g c = c.loop-i.invariant ∙ all_fold (λ w. g.T.PartialEq.eq w c.args.x) c.args.t.now c.loop-i.ok c.loop-i.i c.loop-i-test.true c.index-t-i.is c.eq-ok.ensures

pub returns : goal.returns
returns g c = sym (c.loop-i.invariant ∙ fold_end c.loop-i.ok (all_end (λ w. g.T.PartialEq.eq w c.args.x) c.args.t.now c.loop-i.i c.loop-i-test.false))
