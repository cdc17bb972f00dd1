use native.Mathlib.Omega.{arith}
use Rattle.update_raise.proofs.Missing.{counting_start, counting_step, counting_end, absence-bound}
use Rattle.update_kept.proofs.Entries.{sought_ready}
use borrow.Author.Rules.{rules}
use Rattle.update_raise.proofs.count_missing.Goals as goal

pub loop-j-init : goal.loop-j-init
loop-j-init c = counting_start _ _ _

pub absent-missing-requires : goal.absent-missing-requires
absent-missing-requires c = record { n_in_bounds = search rules; t_value = sought_ready c.requires }

pub overflow_add-missing : goal.overflow_add-missing
overflow_add-missing c = omega (arith, absence-bound _ _ c.absent-missing.ensures, c.loop-j.invariant.few, c.loop-j-test.true)

pub loop-j-preserved : goal.loop-j-preserved
loop-j-preserved c = counting_step c.requires c.loop-j.invariant _ _ c.loop-j-test.true c.row_from.ensures c.absent-missing.ensures

pub returns : goal.returns
returns c = counting_end c.loop-j.invariant c.loop-j-test.false
