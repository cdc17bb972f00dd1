-- By what the search found.
use mathlib.Core.Path.{ap}
use Rattle.update_raise.specs.inside.Raising.{absence}
use Rattle.update_raise.proofs.absent.Goals as goal

pub returns-in-Ok : goal.returns-in-Ok
unfolding absence
returns-in-Ok c = ap absence c.in-Ok.ensures

pub returns-in-Err : goal.returns-in-Err
unfolding absence
returns-in-Err c = ap absence c.in-Err.ensures
