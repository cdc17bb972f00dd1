-- A refusal, or what is written of the kept facts. Assumes nothing.
use native.Mathlib.Omega.{arith}
use Rattle.report_kept.proofs.Responding.{delivery_refused, delivery-printed}
use Rattle.report_kept.proofs.print_delivery.Goals as goal

pub returns-then-result-ne0 : goal.returns-then-result-ne0
returns-then-result-ne0 c = record { errors_after = delivery_refused c.args.delivery.now c.args.dictionary.now c.deliver-result.result c.deliver-result.new.statements c.deliver-result.new.facts c.deliver-result.new.kept c.deliver-result.new.supports c.no_statements-statements.ensures c.no_facts-facts.ensures c.no_kept-kept.ensures c.no_supports-supports.ensures c.deliver-result.ensures c.args.out.now c.if-result-ne0.true c.refuse.ensures.output_value c.refuse.ensures.appended; output_le_most_output = omega (arith, c.refuse.ensures.output_value); errors_le_head_room = c.refuse.ensures.errors_le_head_room }

pub returns : goal.returns
returns c = record { errors_after = delivery-printed c.args.delivery.now c.args.dictionary.now c.deliver-result.result c.deliver-result.new.statements c.deliver-result.new.facts c.deliver-result.new.kept c.deliver-result.new.supports c.no_statements-statements.ensures c.no_facts-facts.ensures c.no_kept-kept.ensures c.no_supports-supports.ensures c.deliver-result.ensures c.if-result-ne0.false c.write_delivered.ensures.errors_after; output_le_most_output = c.write_delivered.ensures.output_le_most_output; errors_le_head_room = c.write_delivered.ensures.errors_le_head_room }
