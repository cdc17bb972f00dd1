use mathlib.Core.Path.{◌≡◌}
use native.Mathlib.Omega.{arith}
use Rattle.query_alternatives.specs.inside.Putting.{given}
use Rattle.query_alternatives.proofs.PutLaws.{puts_start, puts_more}
use Rattle.query_alternatives.proofs.sources.put_rows.Goals as goal

pub loop-i-init : goal.loop-i-init
loop-i-init c = puts_start (given c.args.atom c.args.source) c.args.list.now c.requires.1

pub put_given-c-requires : goal.put_given-c-requires
put_given-c-requires c = c.loop-i.invariant.within

pub loop-i-preserved : goal.loop-i-preserved
loop-i-preserved c = puts_more (given c.args.atom c.args.source) c.args.list.now c.loop-i.i c.loop-i.invariant c.atom_at-row.result c.atom_at-row.ensures c.put_given-c.ensures

pub returns : goal.returns
returns c = let e : c.loop-i.i ≡ c.args.n = omega arith in
    rw (← e) c.loop-i.invariant
