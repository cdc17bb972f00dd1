-- The three words of the row are those of the alternative. Assumes nothing.
use mathlib.Core.Path.{refl}
use mathlib.Core.List.{[], ◌∷◌}
use Rattle.rows.specs.inside.Rows.{row}
use Rattle.query_alternatives.proofs.PutLaws.{puts_one}
use Rattle.query_alternatives.proofs.sources.put_alternative.Goals as goal

pub returns : goal.returns
unfolding row
returns c = puts_one c.args.alternative (c.args.alternative.subject ∷ c.args.alternative.property ∷ c.args.alternative.object ∷ []) refl c.put.ensures.within c.put.ensures.collects
