use mathlib.Core.Path.{sym, ◌∙◌}
use Rattle.spec.proofs.TableFormed.{is_table_well_formed}
use Rattle.spec_writing.specs.Writing.{write_statements}
use Rattle.ntriples_write.proofs.write_statements.Goals as goal

-- src/lib.rt:60:5
pub write_table-requires : goal.write_table-requires
write_table-requires c = λ e. (is_table_well_formed _ _ _ (sym c.is_statement_table.ensures ∙ e)).laid

-- src/lib.rt:57:1
pub returns : goal.returns
unfolding write_statements
returns c = rw c.is_statement_table.ensures at c.write_table.ensures
