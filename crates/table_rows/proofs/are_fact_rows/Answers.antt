use mathlib.Core.Path.{refl, sym, ◌∙◌}
use native.Mathlib.Omega.{arith}
use Rattle.spec.specs.Terms.{is_allowed_fact}
use Rattle.spec.proofs.TableAll.{answered}
use Rattle.table_rows.proofs.Scan.{refused, passed, no_row, first_part_lem}
use borrow.Author.Rules.{rules}
use Rattle.table_rows.proofs.are_fact_rows.Goals as goal

pub returns-then-n-eq0 : goal.returns-then-n-eq0
returns-then-n-eq0 c = sym (no_row is_allowed_fact c.args.t.now c.args.n 0 (omega (arith, c.if-n-eq0.true)))

pub returns-then-not-is_allowed_fact : goal.returns-then-not-is_allowed_fact
returns-then-not-is_allowed_fact c = let wrong = answered is_allowed_fact c.row_at.ensures c.is_allowed_fact.ensures c.if-not-is_allowed_fact.true in
    sym (refused is_allowed_fact c.args.t.now c.args.n 0 (omega (arith, c.if-n-eq0.false)) wrong)

pub loop-i-init : goal.loop-i-init
loop-i-init c = let right = answered is_allowed_fact c.row_at.ensures c.is_allowed_fact.ensures c.if-not-is_allowed_fact.false in
    (search rules, omega (arith, c.if-n-eq0.false), passed is_allowed_fact c.args.t.now c.args.n 0 refl (omega (arith, c.if-n-eq0.false)) right)

pub returns-then-not-are_facts_between : goal.returns-then-not-are_facts_between
returns-then-not-are_facts_between c = sym (c.loop-i.invariant.2 ∙ first_part_lem is_allowed_fact c.args.t.now 64 c.loop-i.i c.args.n c.loop-i.invariant.0 c.loop-i-test.true c.are_facts_between.ensures c.if-not-are_facts_between.true)

pub loop-i-preserved : goal.loop-i-preserved
loop-i-preserved c = (search rules, search rules, c.loop-i.invariant.2 ∙ first_part_lem is_allowed_fact c.args.t.now 64 c.loop-i.i c.args.n c.loop-i.invariant.0 c.loop-i-test.true c.are_facts_between.ensures c.if-not-are_facts_between.false)

pub returns : goal.returns
returns c = sym (c.loop-i.invariant.2 ∙ sym c.are_facts_between-2.ensures)
