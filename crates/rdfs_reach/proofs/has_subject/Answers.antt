-- The two tests together tell.
use Rattle.rdfs_reach.proofs.MarkLaws.{has_tells}
use Rattle.rdfs_reach.proofs.has_subject.Goals as goal

pub returns : goal.returns
returns c = has_tells c.args.st.now _ _ _
