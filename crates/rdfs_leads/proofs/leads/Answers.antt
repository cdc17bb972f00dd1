-- The answer at the first place is recalled, or another is found. Assumes nothing.
use native.Mathlib.Omega.{arith}
use Rattle.rdfs_relevance.proofs.MemoryLaws.{recalled}
use Rattle.rdfs_leads.proofs.leads.Goals as goal

pub is_at-requires : goal.is_at-requires
is_at-requires c = omega (arith, c.first_place-first.ensures, c.requires.remembers.size)

pub answer_at-requires : goal.answer_at-requires
answer_at-requires c = omega (arith, c.first_place-first.ensures, c.requires.remembers.size)

pub returns-then-is_at : goal.returns-then-is_at
returns-then-is_at c = let q = c.is_at.ensures c.if-is_at.true in
    record { answer = recalled _ c.args.memory.now _ _ _ _ c.requires.remembers c.first_place-first.ensures c.requires.not_asked.0 q _ c.answer_at.ensures; memory = c.requires.remembers }

pub leads_otherwise-requires : goal.leads_otherwise-requires
leads_otherwise-requires c = c.requires

pub returns : goal.returns
returns c = c.leads_otherwise.ensures
