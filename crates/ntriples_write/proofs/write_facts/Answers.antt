use mathlib.Core.Path.{sym, ◌∙◌}
use Rattle.spec.proofs.TableFormed.{is_table_well_formed}
use Rattle.spec_writing.specs.Writing.{write_facts}
use Rattle.ntriples_write.proofs.write_facts.Goals as goal

-- src/lib.rt:67:5
pub write_table-requires : goal.write_table-requires
write_table-requires c = λ e. (is_table_well_formed _ _ _ (sym c.is_fact_table.ensures ∙ e)).laid

-- src/lib.rt:64:1
pub returns : goal.returns
unfolding write_facts
returns c = rw c.is_fact_table.ensures at c.write_table.ensures
