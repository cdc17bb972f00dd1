-- By the answer to question 5, as the code counts it. Assumes nothing.
use Rattle.spec.proofs.TableFormed.{well_formed-is_table}
use Rattle.update_statement_at.proofs.Statements.{kept_room, statement_laid, without-table, without-spare, statement-withdrawn, withdrawal-unfit}
use Rattle.update_statement_at.proofs.withdraw_old_statement.Goals as goal

pub remove_at-requires : goal.remove_at-requires
remove_at-requires c =
    let both = statement_laid c.requires.formed_store _ c.requires.statement_value c.requires.statements_value in
    record { laid = both.0; at_in_bounds = both.1 }

pub saturate-requires : goal.saturate-requires
saturate-requires c = record { statements_value = without-table c.requires.formed_store _ c.requires.statement_value c.requires.statements_value c.remove_at.ensures; facts_value = well_formed-is_table c.requires.formed_store.facts; room_in_bounds = kept_room c.requires.formed_store _ c.kept_capacity-room.ensures }

pub returns-then-saturate : goal.returns-then-saturate
returns-then-saturate c = statement-withdrawn c.requires.formed_store _ c.requires.statement_value c.requires.statements_value c.remove_at.ensures _ c.kept_capacity-room.ensures c.saturate.ensures c.if-saturate.true

pub insert_at-requires : goal.insert_at-requires
insert_at-requires c =
    let both = without-spare c.requires.formed_store _ c.requires.statement_value c.requires.statements_value c.remove_at.ensures in
    record { spare = both.0; at_in_bounds = both.1 }

pub returns : goal.returns
returns c = withdrawal-unfit c.requires.formed_store _ c.requires.statement_value c.requires.statements_value c.remove_at.ensures _ c.kept_capacity-room.ensures c.saturate.ensures c.if-saturate.false c.insert_at.ensures
