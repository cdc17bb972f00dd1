use Rattle.ntriples_pieces.specs.inside.Pieces.{step_of}
use Rattle.ntriples_terminals.proofs.string_end.Goals as goal

pub closing_end-requires : goal.closing_end-requires
closing_end-requires c = c.requires

pub returns : goal.returns
unfolding step_of
returns c = c.closing_end.ensures
