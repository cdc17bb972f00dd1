use mathlib.Core.Path.{sym, ◌∙◌}
use Rattle.spec.proofs.TableFormed.{is_table_well_formed}
use Rattle.spec_writing.specs.Writing.{write_kept}
use Rattle.ntriples_write.proofs.write_kept.Goals as goal

-- src/lib.rt:74:5
pub write_table-requires : goal.write_table-requires
write_table-requires c = λ e. (is_table_well_formed _ _ _ (sym c.is_kept_table.ensures ∙ e)).laid

-- src/lib.rt:71:1
pub returns : goal.returns
unfolding write_kept
returns c = rw c.is_kept_table.ensures at c.write_table.ensures
