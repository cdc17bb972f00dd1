use Rattle.std.specs.Prelude.{Err}
use mathlib.Core.Path.{ap}
use Rattle.spec_writing.specs.Writing.{written}
use Rattle.ntriples_write.proofs.refuse.Goals as goal

-- src/lib.rt:24:1
pub returns : goal.returns
returns c = ap (written (Err c.args.number)) c.clear.ensures
