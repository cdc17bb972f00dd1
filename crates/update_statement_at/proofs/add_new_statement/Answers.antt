-- By the answers to questions 4 and 5, as the code counts them. Assumes nothing.
use mathlib.Core.Path.{refl}
use native.Mathlib.Omega.{arith}
use Rattle.spec.proofs.TableRows.{length-rows}
use Rattle.table_find.proofs.Place.{missing_at}
use Rattle.spec.proofs.TableFormed.{well_formed-is_table}
use Rattle.update_statement_at.proofs.Statements.{kept_room, statements_full, statement_spare, with-table, with-laid, statement-added, statement-unfit}
use Rattle.update_statement_at.proofs.add_new_statement.Goals as goal

pub returns-then-capacity-n : goal.returns-then-capacity-n
returns-then-capacity-n c = statements_full c.requires.formed_store _ c.requires.statement_value c.requires.statements_value (omega (arith, c.capacity.ensures c.args.statements.now refl, c.if-capacity-n.true, length-rows c.args.statements.now))

pub insert_at-requires : goal.insert_at-requires
insert_at-requires c = record { spare = statement_spare c.requires.formed_store _ c.requires.statement_value (omega (arith, c.capacity.ensures c.args.statements.now refl, c.if-capacity-n.false, length-rows c.args.statements.now)); at_in_bounds = (missing_at _ _ _ c.requires.statements_value).within }

pub saturate-requires : goal.saturate-requires
saturate-requires c = record { statements_value = with-table c.requires.formed_store _ c.requires.statement_value c.requires.statements_value (omega (arith, c.capacity.ensures c.args.statements.now refl, c.if-capacity-n.false, length-rows c.args.statements.now)) c.insert_at.ensures; facts_value = well_formed-is_table c.requires.formed_store.facts; room_in_bounds = kept_room c.requires.formed_store _ c.kept_capacity-room.ensures }

pub returns-then-saturate : goal.returns-then-saturate
returns-then-saturate c = statement-added c.requires.formed_store _ c.requires.statement_value c.requires.statements_value (omega (arith, c.capacity.ensures c.args.statements.now refl, c.if-capacity-n.false, length-rows c.args.statements.now)) c.insert_at.ensures _ c.kept_capacity-room.ensures c.saturate.ensures c.if-saturate.true

pub remove_at-requires : goal.remove_at-requires
remove_at-requires c =
    let both = with-laid c.requires.formed_store _ c.requires.statement_value c.requires.statements_value (omega (arith, c.capacity.ensures c.args.statements.now refl, c.if-capacity-n.false, length-rows c.args.statements.now)) c.insert_at.ensures in
    record { laid = both.0; at_in_bounds = both.1 }

pub returns : goal.returns
returns c = statement-unfit c.requires.formed_store _ c.requires.statement_value c.requires.statements_value (omega (arith, c.capacity.ensures c.args.statements.now refl, c.if-capacity-n.false, length-rows c.args.statements.now)) c.insert_at.ensures _ c.kept_capacity-room.ensures c.saturate.ensures c.if-saturate.false c.remove_at.ensures
