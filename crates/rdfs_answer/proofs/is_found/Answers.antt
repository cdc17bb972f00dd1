use Rattle.rdfs_answer.proofs.LedLaws.{found_among}
use Rattle.rdfs_answer.proofs.is_found.Goals as goal

pub returns : goal.returns
returns c = found_among c.args.found.now _ _ _ _ c.requires.0 c.requires.1 c.contains.ensures.cases
