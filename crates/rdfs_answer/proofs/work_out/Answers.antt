-- The terms of the example are found, and the target is among those that are asked for, or not. Assumes nothing.
use mathlib.Core.Path.{refl, ap, ◌∙◌}
use Prim.Native.Nat.{ℕ}
use native.Mathlib.Omega.{arith}
use lib.ListN.{length, length-replicate}
use Rattle.rdfs_reach.proofs.MarkLaws.{table_statements}
use Rattle.rdfs_derive.proofs.PartLaws.{few-rows}
use Rattle.rdfs_answer.proofs.LedLaws.{led_property, led-object, led-subject, led-any}
use Rattle.rdfs_answer.proofs.work_out.Goals as goal

pub bounds-statements-0 : goal.bounds-statements-0
bounds-statements-0 c = omega (arith, (table_statements c.args.statements.now _ c.requires.statements_value refl).size)

pub find_terms-ends-requires : goal.find_terms-ends-requires
find_terms-ends-requires c = record { statements = table_statements c.args.statements.now _ c.requires.statements_value refl; in_bounds = omega (arith, ap length c.no_terms-found.ensures ∙ length-replicate {A = ℕ} 1026 0) }

pub is_found-requires : goal.is_found-requires
is_found-requires c = let n = few-rows c.args.statements.now _ _ c.find_terms-ends.new.found _ _ _ c.requires.statements_value refl c.find_terms-ends.ensures in
    (omega (arith, c.find_terms-ends.ensures.low, c.find_terms-ends.ensures.high), omega (arith, n, c.find_terms-ends.ensures.low, c.find_terms-ends.ensures.high, c.find_terms-ends.auto.found, ap length c.no_terms-found.ensures ∙ length-replicate {A = ℕ} 1026 0))

pub returns-then-asked-eq-PROPERTY : goal.returns-then-asked-eq-PROPERTY
returns-then-asked-eq-PROPERTY c = led_property c.args.statements.now _ c.args.asked c.args.word c.args.target _ c.find_terms-ends.new.found _ _ _ refl
    c.example_of.ensures c.find_terms-ends.ensures c.if-asked-eq-PROPERTY.true c.is_found.ensures

pub is_found-requires-then-asked-eq-OBJECT_CLASS : goal.is_found-requires-then-asked-eq-OBJECT_CLASS
is_found-requires-then-asked-eq-OBJECT_CLASS c = let n = few-rows c.args.statements.now _ _ c.find_terms-ends.new.found _ _ _ c.requires.statements_value refl c.find_terms-ends.ensures in
    (omega (arith, c.find_terms-ends.ensures.low, c.find_terms-ends.ensures.high), omega (arith, n, c.find_terms-ends.ensures.low, c.find_terms-ends.ensures.high, c.find_terms-ends.auto.found, ap length c.no_terms-found.ensures ∙ length-replicate {A = ℕ} 1026 0))

pub returns-then-asked-eq-OBJECT_CLASS : goal.returns-then-asked-eq-OBJECT_CLASS
returns-then-asked-eq-OBJECT_CLASS c = led-object c.args.statements.now _ c.args.asked c.args.word c.args.target _ c.find_terms-ends.new.found _ _ _ refl
    c.example_of.ensures c.find_terms-ends.ensures c.if-asked-eq-OBJECT_CLASS.true c.is_found-then-asked-eq-OBJECT_CLASS.ensures

pub returns-then-asked-eq-ANY_OBJECT_CLASS : goal.returns-then-asked-eq-ANY_OBJECT_CLASS
returns-then-asked-eq-ANY_OBJECT_CLASS c = led-any c.args.statements.now _ c.args.asked c.args.word c.args.target _ c.find_terms-ends.new.found _ _ _ refl
    c.example_of.ensures c.find_terms-ends.ensures c.if-asked-eq-ANY_OBJECT_CLASS.true (c.requires.target_value c.if-asked-eq-ANY_OBJECT_CLASS.true)

pub is_found-requires-2 : goal.is_found-requires-2
is_found-requires-2 c = let n = few-rows c.args.statements.now _ _ c.find_terms-ends.new.found _ _ _ c.requires.statements_value refl c.find_terms-ends.ensures in
    (omega (arith, c.find_terms-ends.ensures.low, c.find_terms-ends.ensures.high), omega (arith, n, c.find_terms-ends.ensures.low, c.find_terms-ends.ensures.high, c.find_terms-ends.auto.found, ap length c.no_terms-found.ensures ∙ length-replicate {A = ℕ} 1026 0))

pub returns : goal.returns
returns c = led-subject c.args.statements.now _ c.args.asked c.args.word c.args.target _ c.find_terms-ends.new.found _ _ _ refl
    c.example_of.ensures c.find_terms-ends.ensures c.if-asked-eq-PROPERTY.false c.if-asked-eq-OBJECT_CLASS.false c.if-asked-eq-ANY_OBJECT_CLASS.false c.is_found-2.ensures
