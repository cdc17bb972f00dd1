use Prim.Native.Nat.{◌*◌}
use Rattle.ntriples_words.proofs.Writing.{row_put}
use Rattle.ntriples_words.proofs.put_row.Goals as goal

pub returns : goal.returns
returns c = row_put c.args.terms.now (c.args.i * 3) c.args.t.subject c.args.t.property c.args.t.object
