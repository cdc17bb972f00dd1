-- A delivery to an empty store leaves well-formed tables, which have room for their lines. Assumes nothing.
use native.Mathlib.Omega.{arith}
use Rattle.report_text.specs.Text.{refusal_text}
use Rattle.report.proofs.Responding.{from_zeros, few-rows, printable, refused_response, report_response}
use Rattle.report.proofs.respond.Goals as goal

pub returns-then-result-ne0 : goal.returns-then-result-ne0
unfolding refusal_text
returns-then-result-ne0 c = let A = refused_response (from_zeros c.args.input.now c.deliver-result.result c.deliver-result.new.statements c.deliver-result.new.facts c.deliver-result.new.kept c.deliver-result.new.supports c.no_statements-statements.ensures c.no_facts-facts.ensures c.no_kept-kept.ensures c.no_supports-supports.ensures c.deliver-result.ensures c.deliver-result.auto.supports) c.if-result-ne0.true c.write_labelled.ensures.appended in
    record { text = A.start_and_text; rest = A.rest; room = omega (arith, c.write_labelled.ensures.upper_bound) }

pub write_report-requires : goal.write_report-requires
write_report-requires c = printable (from_zeros c.args.input.now c.deliver-result.result c.deliver-result.new.statements c.deliver-result.new.facts c.deliver-result.new.kept c.deliver-result.new.supports c.no_statements-statements.ensures c.no_facts-facts.ensures c.no_kept-kept.ensures c.no_supports-supports.ensures c.deliver-result.ensures c.deliver-result.auto.supports) c.args.out.now c.requires

pub returns : goal.returns
returns c = let A = report_response (from_zeros c.args.input.now c.deliver-result.result c.deliver-result.new.statements c.deliver-result.new.facts c.deliver-result.new.kept c.deliver-result.new.supports c.no_statements-statements.ensures c.no_facts-facts.ensures c.no_kept-kept.ensures c.no_supports-supports.ensures c.deliver-result.ensures c.deliver-result.auto.supports) c.if-result-ne0.false c.write_report.ensures.appended in
    record { text = A.start_and_text; rest = A.rest; room = omega (arith, few-rows (from_zeros c.args.input.now c.deliver-result.result c.deliver-result.new.statements c.deliver-result.new.facts c.deliver-result.new.kept c.deliver-result.new.supports c.no_statements-statements.ensures c.no_facts-facts.ensures c.no_kept-kept.ensures c.no_supports-supports.ensures c.deliver-result.ensures c.deliver-result.auto.supports), c.write_report.ensures.upper_bound) }
