-- `are_fitting` compares the number of rows with how many fit whole.
use Rattle.output.proofs.Filled.{fitting-count}
use Rattle.output.proofs.are_fitting.Goals as goal

pub returns : goal.returns
returns c = λ R e. fitting-count _ _ _ R e
