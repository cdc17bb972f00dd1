-- `list_facts` lists a table that `is_fact_table` judges.
use mathlib.Core.Path.{sym, ◌∙◌}
use Rattle.spec.proofs.TableFormed.{is_table_well_formed}
use Rattle.listing.proofs.Replies.{listable}
use Rattle.listing.proofs.list_facts.Goals as goal

pub list_rows-requires : goal.list_rows-requires
list_rows-requires c = λ e. listable (is_table_well_formed _ _ _ (sym c.is_fact_table.ensures ∙ e))

pub returns : goal.returns
returns c = rw c.is_fact_table.ensures at c.list_rows.ensures
