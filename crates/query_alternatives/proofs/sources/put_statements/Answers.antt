use mathlib.Core.Path.{◌≡◌}
use native.Mathlib.Omega.{arith}
use Rattle.spec.specs.Terms.{is_allowed_statement}
use Rattle.spec.specs.Tables.{count, most_statements}
use Rattle.spec.proofs.TableFormed.{some_word}
use Rattle.query_alternatives.proofs.GatherLaws.{below_start}
use Rattle.query_alternatives.proofs.sources.put_statements.Goals as goal

pub bounds-statements-0 : goal.bounds-statements-0
bounds-statements-0 c = omega (arith, some_word is_allowed_statement most_statements c.args.statements.now c.requires.0)

pub overflow_cast-n : goal.overflow_cast-n
overflow_cast-n c = omega (arith, c.type_inv.statements 0)

pub loop-i-init : goal.loop-i-init
loop-i-init c = below_start c.args.statements.now c.args.atom c.requires.1

pub put_statement-c-requires : goal.put_statement-c-requires
put_statement-c-requires c = (c.requires.0, (c.loop-i-test.true, c.loop-i.invariant.within))

pub loop-i-preserved : goal.loop-i-preserved
loop-i-preserved c = c.put_statement-c.ensures c.args.out.now c.args.c0 c.loop-i.invariant

pub returns : goal.returns
returns c = let e : c.loop-i.i ≡ count c.args.statements.now = omega arith in
    rw (← e) c.loop-i.invariant
