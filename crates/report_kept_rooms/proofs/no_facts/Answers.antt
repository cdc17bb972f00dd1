-- The words made are these, not counted out. Assumes nothing.
use mathlib.Core.Path.{refl}
use Rattle.report_kept_rooms.proofs.no_facts.Goals as goal

pub returns : goal.returns
returns c = refl
