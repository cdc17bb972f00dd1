use native.Mathlib.Omega.{arith}
use mathlib.Core.Path.{◌≡◌, refl, ◌∙◌}
use Prim.Native.Nat.{◌+◌, ◌*◌}
use Rattle.std.proofs.lemmas.Result.{err_from_is_err_and}
use Rattle.ntriples_naming.specs.inside.Progress.{lines_texts}
use Rattle.ntriples_naming.proofs.Batch.{begin-reached}
use Rattle.ntriples_naming.proofs.Steps.{stopped}
use Rattle.ntriples_names.proofs.name_terms.Goals as goal

pub loop-i-init : goal.loop-i-init
loop-i-init c = (refl, refl, refl, λ ds es ts B. begin-reached ds es ts c.args.slots.now c.args.dictionary.now c.args.first c.args.last c.args.file.now c.args.lines.now c.args.n c.args.terms.now B)

pub name_at-requires : goal.name_at-requires
name_at-requires c = record { before = c.requires.before; old = c.requires.old; triples = c.requires.triples; reached = c.loop-i.invariant.3 c.requires.before c.requires.old c.requires.triples c.requires.begins; within = omega (arith, c.loop-i-test.true, c.requires.begins.counted); line = c.requires.begins.stand c.loop-i.i c.loop-i-test.true; enough = omega (arith, c.requires.enough, c.loop-i.invariant.0); room = omega (arith, c.requires.room, c.loop-i.invariant.2, c.loop-i-test.true) }

pub returns-in_err-l : goal.returns-in_err-l
returns-in_err-l c = λ ds es ts B. let p = err_from_is_err_and c.from_residual.result c.from_residual.ensures.1 in rw (p.1, p.2) (stopped ds es (lines_texts ts) _ _ _ _ _ (c.loop-i.i * 3 + 3) (c.args.n * 3) (c.in_err-l.ensures ds es ts (omega (arith, c.loop-i-test.true, B.counted)) (B.stand c.loop-i.i c.loop-i-test.true) (c.loop-i.invariant.3 ds es ts B)))

pub loop-i-preserved : goal.loop-i-preserved
loop-i-preserved c = (c.name_at.auto.slots ∙ c.loop-i.invariant.0, c.name_at.auto.dictionary ∙ c.loop-i.invariant.1, c.name_at.auto.terms ∙ c.loop-i.invariant.2, λ ds es ts B. let e : c.loop-i.i * 3 + 3 ≡ (c.loop-i.i + 1) * 3 = omega arith in rw e at (c.in_ok-l.ensures ds es ts (omega (arith, c.loop-i-test.true, B.counted)) (B.stand c.loop-i.i c.loop-i-test.true) (c.loop-i.invariant.3 ds es ts B)))

pub returns : goal.returns
returns c = λ ds es ts B. let e : c.loop-i.i * 3 ≡ c.args.n * 3 = omega arith in rw e at (c.loop-i.invariant.3 ds es ts B)
