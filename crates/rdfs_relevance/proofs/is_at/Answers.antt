-- Each word is compared. Assumes nothing.
use Rattle.rdfs_relevance.proofs.MemoryLaws.{same_question}
use Rattle.rdfs_relevance.proofs.is_at.Goals as goal

pub returns : goal.returns
returns c = same_question _ _ _ _ _ _
