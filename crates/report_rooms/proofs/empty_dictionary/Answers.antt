-- The bytes made are these, not counted out. Assumes nothing.
use mathlib.Core.Path.{refl}
use Rattle.report_rooms.proofs.empty_dictionary.Goals as goal

pub returns : goal.returns
returns c = refl
