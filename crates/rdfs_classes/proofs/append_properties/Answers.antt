-- What is closed is the fact's property alone.
use mathlib.Core.Path.{◌∙◌}
use native.Mathlib.Omega.{arith}
use lib.ListN.{length-set}
use Rattle.rdfs_reach.proofs.WorkLaws.{room_for}
use Rattle.rdfs_classes.proofs.ConclusionLaws.{listed-properties}
use Rattle.rdfs_classes.proofs.append_properties.Goals as goal

pub close-requires : goal.close-requires
close-requires c = record { statements = c.requires.statements; room = room_for c.requires.room (omega arith) (length-set c.args.found.now 0 c.args.fact.property); unused = c.requires.unused; from_le_n = omega arith }

pub shape_of-found : goal.shape_of-found
shape_of-found c = c.close.auto.found ∙ length-set c.args.found.now 0 c.args.fact.property

pub returns : goal.returns
returns c = record { listed = listed-properties c.args.st.now _ c.args.fact c.args.found.now c.close.new.found _ (omega (arith, c.requires.room.places)) c.close.ensures.by_index; used_after = c.close.ensures.grown.cost; by_index = c.close.ensures.grown.other; uniform = c.close.ensures.grown.uniform }
