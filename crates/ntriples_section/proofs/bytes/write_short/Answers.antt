use native.Mathlib.Omega.{arith}
use mathlib.Core.Path.{◌∙◌}
use Rattle.ntriples_section.proofs.Writing.{short-written}
use Rattle.ntriples_section.proofs.bytes.write_short.Goals as goal

pub returns : goal.returns
returns c = short-written c.args.out.now _ c.args.at _ c.args.n (omega arith) (c.copy_from_slice.ensures.after ∙ c.to_le_bytes.ensures) (omega arith) c.requires
