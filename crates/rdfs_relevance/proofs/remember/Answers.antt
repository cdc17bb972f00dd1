-- Four words are stored at the place. Assumes nothing.
use native.Mathlib.Omega.{arith}
use lib.ListN.{length-set}
use Rattle.rdfs_relevance.proofs.MemoryLaws.{remembers_stored, answer_one, answer_zero}
use Rattle.rdfs_relevance.proofs.remember.Goals as goal
use Rattle.rdfs_relevance.proofs.remember.Goals.{then-answer, else-answer}

pub bounds-memory-at-2 : goal.bounds-memory-at-2
bounds-memory-at-2 c = simp length-set (omega arith)

pub bounds-memory-at-3 : goal.bounds-memory-at-3
bounds-memory-at-3 c = simp length-set (omega arith)

pub bounds-memory-at-4 : goal.bounds-memory-at-4
bounds-memory-at-4 c = simp length-set (omega arith)

pub returns : goal.returns
returns c = remembers_stored c.args.memory.now _ _ _ _ _ c.args.answer c.requires.place_bound c.requires.memory_len
    (elim c.if-answer.branch [ then-answer w ↦ answer_one _ _ w.memory-is w.if-answer.true | else-answer w ↦ answer_zero _ _ w.memory-is w.if-answer.false ])
