use lib.ListN.{length}
use Rattle.ntriples_write.proofs.Outcomes.{no_table, no_dictionary, formed-written}
use Rattle.ntriples_write.proofs.write_table.Goals as goal

-- src/lib.rt:51:9
pub returns-then-not-formed : goal.returns-then-not-formed
returns-then-not-formed c = no_table c.args.table.now c.args.dictionary.now (length c.args.out.now) _ c.args.formed c.if-not-formed.true c.refuse.ensures

-- src/lib.rt:55:30
pub write_lines-requires : goal.write_lines-requires
write_lines-requires c = record { laid = c.requires c.if-not-formed.false; dictionary_value = rw c.in-Some.is at c.check_dictionary.ensures }

-- src/lib.rt:46:1
pub returns-in-None : goal.returns-in-None
returns-in-None c = no_dictionary c.args.table.now c.args.dictionary.now (length c.args.out.now) _ c.args.formed c.if-not-formed.false (rw c.in-None.is at c.check_dictionary.ensures) c.refuse-in-None.ensures

-- src/lib.rt:46:1
pub returns-in-Some : goal.returns-in-Some
returns-in-Some c = formed-written c.args.table.now c.args.dictionary.now (length c.args.out.now) _ c.args.formed c.if-not-formed.false c.write_lines.ensures
