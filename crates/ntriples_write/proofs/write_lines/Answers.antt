use mathlib.Core.Path.{sym, ◌∙◌}
use lib.ListN.{length}
use Rattle.ntriples_write.proofs.Outcomes.{no_text_lem, with-texts}
use Rattle.ntriples_write.proofs.write_lines.Goals as goal

-- src/lib.rt:38:9
pub returns-then-not-have_texts : goal.returns-then-not-have_texts
returns-then-not-have_texts c = no_text_lem c.args.table.now c.args.dictionary.now (length c.args.out.now) _ c.requires.dictionary_value.0 (sym (c.have_texts.ensures c.args.dictionary.now c.requires.dictionary_value.0 c.requires.dictionary_value.1) ∙ c.if-not-have_texts.true) c.refuse.ensures

-- src/lib.rt:42:5
pub write_rows-requires : goal.write_rows-requires
write_rows-requires c = record { laid = c.requires.laid; are_places = c.index_places.ensures; table_value = sym (c.have_texts.ensures c.args.dictionary.now c.requires.dictionary_value.0 c.requires.dictionary_value.1) ∙ c.if-not-have_texts.false }

-- src/lib.rt:32:1
pub returns : goal.returns
returns c = with-texts c.args.table.now c.args.dictionary.now (length c.args.out.now) _ c.requires.dictionary_value.0 (sym (c.have_texts.ensures c.args.dictionary.now c.requires.dictionary_value.0 c.requires.dictionary_value.1) ∙ c.if-not-have_texts.false) c.write_rows.ensures
