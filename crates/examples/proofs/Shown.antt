-- Every example of the table holds, by computation. Assumes nothing.
use mathlib.Core.Path.{refl}
use Rattle.examples.specs.inside.Compute.{compute}
use Rattle.examples.specs.Examples.{AllShown, examples}

pub examples_shown : AllShown examples
unfolding compute
examples_shown = (refl, ((refl, refl), ((refl, refl), (refl, (refl, (refl, (refl, (refl, ((refl, refl), ((refl, refl), (refl, tt)))))))))))
