use Rattle.spec.specs.Tables.{are_zero}
use Rattle.table_zeros.proofs.are_supports_zero.Goals as goal

pub returns : goal.returns
unfolding are_zero
returns c = c.are_all.ensures
