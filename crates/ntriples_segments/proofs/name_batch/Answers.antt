use native.Mathlib.Omega.{arith}
use Prim.Native.Nat.{◌-◌}
use mathlib.Core.Path.{refl, ◌∙◌}
use Rattle.ntriples_last.proofs.Steps.{looked-none}
use Rattle.ntriples_segments.proofs.name_batch.Goals as goal

-- src/lib.rt:100:5
pub name_vocabulary-requires : goal.name_vocabulary-requires
name_vocabulary-requires c = record { triples = c.requires.triples; stand = c.requires.batch.stand; noted = c.requires.noted; room = c.requires.room }

-- src/lib.rt:103:5
pub loop-g-init : goal.loop-g-init
loop-g-init c = (refl, refl, λ es ts B F. looked-none es ts c.args.dictionary.now c.args.f c.args.file.now c.args.lines.now c.args.n c.args.terms.now c.name_vocabulary.new.terms B F (c.name_vocabulary.ensures ts B.stand))

-- src/lib.rt:104:15
pub name_segment-requires : goal.name_segment-requires
name_segment-requires c = record { old = c.requires.old; triples = c.requires.triples; batch = c.requires.batch; looked = c.loop-g.invariant.2 c.requires.old c.requires.triples c.requires.batch c.requires.filled; noted = c.requires.noted; room = omega (arith, c.requires.room, c.loop-g.invariant.1, c.name_vocabulary.auto.terms) }

-- src/lib.rt:106:17
pub returns-in-Done : goal.returns-in-Done
returns-in-Done c = λ es ts B F. rw c.in-Done.is at (c.name_segment.ensures es ts B (c.loop-g.invariant.2 es ts B F))

-- src/lib.rt:109:17
pub returns-in-Lacks : goal.returns-in-Lacks
returns-in-Lacks c = λ es ts B F. rw c.in-Lacks.is at (c.name_segment.ensures es ts B (c.loop-g.invariant.2 es ts B F))

-- src/lib.rt:103:5
pub loop-g-smaller : goal.loop-g-smaller
loop-g-smaller c = let X = rw c.in-Next.is at (c.name_segment.ensures c.requires.old c.requires.triples c.requires.batch (c.loop-g.invariant.2 c.requires.old c.requires.triples c.requires.batch c.requires.filled)) in omega (arith, X.0, X.1, c.name_segment.auto.dictionary)

-- src/lib.rt:103:5
pub loop-g-preserved : goal.loop-g-preserved
loop-g-preserved c = (c.name_segment.auto.dictionary ∙ c.loop-g.invariant.0, c.name_segment.auto.terms ∙ c.loop-g.invariant.1, λ es ts B F. (rw c.in-Next.is at (c.name_segment.ensures es ts B (c.loop-g.invariant.2 es ts B F))).2)
