use Rattle.ntriples_section.proofs.Writing.{word-written}
use Rattle.ntriples_section.proofs.bytes.write_word.Goals as goal

-- src/bytes.rt:19:1
pub returns : goal.returns
returns c = word-written c.args.out.now c.write_short.new.out c.write_short-2.new.out c.args.at c.args.w c.write_short.ensures c.write_short-2.ensures
