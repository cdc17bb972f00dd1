use mathlib.Core.Path.{◌≡◌}
use native.Mathlib.Omega.{arith}
use Rattle.rdfs_reach.proofs.WorkLaws.{all_end}
use Rattle.rdfs_reach.proofs.append_all.Goals as goal

pub returns-clause-by_index : goal.returns-clause-by_index
returns-clause-by_index c = let q : c.loop-i.i ≡ c.args.to = omega arith in
    all_end c.requires.from_le_to.1 c.requires.unused (rw q at c.loop-i.invariant)
