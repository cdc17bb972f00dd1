-- By the two cases of `is_right_in`.
use Rattle.delivery_format.specs.inside.Sections.{is_right_in}
use Rattle.delivery_format.proofs.is_right_in.Goals as goal

pub returns-then-statements : goal.returns-then-statements
unfolding is_right_in
returns-then-statements c = cc

pub returns-else-statements : goal.returns-else-statements
unfolding is_right_in
returns-else-statements c = cc
