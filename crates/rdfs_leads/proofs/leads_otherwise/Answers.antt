-- The answer at the second place is recalled, or it is worked out and remembered. Assumes nothing.
use native.Mathlib.Omega.{arith}
use Rattle.rdfs_relevance.proofs.MemoryLaws.{recalled}
use Rattle.rdfs_leads.proofs.leads_otherwise.Goals as goal

pub is_at-requires : goal.is_at-requires
is_at-requires c = omega (arith, c.second_place-second.ensures, c.requires.remembers.size)

pub answer_at-requires : goal.answer_at-requires
answer_at-requires c = omega (arith, c.second_place-second.ensures, c.requires.remembers.size)

pub returns-then-is_at : goal.returns-then-is_at
returns-then-is_at c = let q = c.is_at.ensures c.if-is_at.true in
    record { answer = recalled _ c.args.memory.now _ _ _ _ c.requires.remembers c.second_place-second.ensures c.requires.not_asked.0 q _ c.answer_at.ensures; memory = c.requires.remembers }

pub work_out-answer-requires : goal.work_out-answer-requires
work_out-answer-requires c = record { statements_value = c.requires.statements_value; target_value = c.requires.not_asked.1 }

pub bounds-memory-at : goal.bounds-memory-at
bounds-memory-at c = omega (arith, c.first_place-first.ensures, c.requires.remembers.size)

pub remember-requires : goal.remember-requires
remember-requires c = record { place_bound = c.first_place-first.ensures; memory_len = c.requires.remembers.size }

pub remember-requires-else-memory-at-eq0 : goal.remember-requires-else-memory-at-eq0
remember-requires-else-memory-at-eq0 c = record { place_bound = c.second_place-second.ensures; memory_len = c.requires.remembers.size }

pub returns-then-memory-at-eq0 : goal.returns-then-memory-at-eq0
returns-then-memory-at-eq0 c = record { answer = c.work_out-answer.ensures; memory = c.remember.ensures _ c.work_out-answer.ensures c.requires.remembers }

pub returns-else-memory-at-eq0 : goal.returns-else-memory-at-eq0
returns-else-memory-at-eq0 c = record { answer = c.work_out-answer.ensures; memory = c.remember-else-memory-at-eq0.ensures _ c.work_out-answer.ensures c.requires.remembers }
