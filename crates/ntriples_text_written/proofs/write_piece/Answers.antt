use native.Mathlib.Omega.{arith}
use lib.ListN.{take}
use lib.Seq.{length-take-le}
use Rattle.ntriples_text.proofs.Writing.{part_sets}
use Rattle.ntriples_text_written.proofs.write_piece.Goals as goal

pub returns : goal.returns
returns c =
    part_sets c.args.out.now (take c.args.p.len c.args.p.bytes) _ c.args.at _ c.copy_from_slice.ensures.after
    (omega (arith, length-take-le c.args.p.len c.args.p.bytes (omega arith))) (omega arith)
