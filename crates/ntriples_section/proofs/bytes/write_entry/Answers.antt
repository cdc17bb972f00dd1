use Rattle.ntriples_section.proofs.Writing.{entry-written}
use Rattle.ntriples_section.proofs.bytes.write_entry.Goals as goal

-- src/bytes.rt:28:1
pub returns : goal.returns
returns c = entry-written c.args.out.now c.write_word.new.out c.write_word-2.new.out c.write_word-3.new.out c.args.at c.args.t c.write_word.ensures c.write_word-2.ensures c.write_word-3.ensures
