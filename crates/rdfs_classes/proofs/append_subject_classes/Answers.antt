-- The type and the domains are listed one after the other, and closed.
use native.Mathlib.Omega.{arith}
use Rattle.rdfs_reach.proofs.WorkLaws.{room_for, room_on, unused_on}
use Rattle.rdfs_classes.proofs.ConclusionLaws.{listed-subject}
use Rattle.rdfs_classes.proofs.append_subject_classes.Goals as goal

pub append_all-d-requires : goal.append_all-d-requires
append_all-d-requires c = record { statements = c.requires.statements; room = room_for c.requires.room c.append_type-e.ensures.upper_bound c.append_type-e.auto.found; unused = c.requires.unused.0; from_le_to = (omega arith, omega (arith, c.append_type-e.ensures.listed.grows)) }

pub close-requires : goal.close-requires
close-requires c = record { statements = c.requires.statements; room = room_on (room_for c.requires.room c.append_type-e.ensures.upper_bound c.append_type-e.auto.found) c.append_all-d.ensures.grown c.append_all-d.auto.used c.append_all-d.auto.found; unused = unused_on _ (λ q. omega arith) c.append_all-d.ensures.grown c.requires.unused.1; from_le_n = omega (arith, c.append_type-e.ensures.listed.grows, c.append_all-d.ensures.grown.grows) }

pub returns : goal.returns
returns c = record {
  listed = listed-subject c.args.st.now _ c.args.fact c.args.used.now c.args.found.now c.append_type-e.new.found c.append_all-d.new.found c.close.new.found
      c.append_all-d.new.used c.close.new.used _ _ _ _ c.requires.by_index c.append_type-e.ensures.listed c.append_all-d.ensures.grown c.append_all-d.ensures.by_index c.close.ensures.grown c.close.ensures.by_index;
  upper_bound = omega (arith, c.append_type-e.ensures.upper_bound, c.append_all-d.ensures.grown.cost, c.close.ensures.grown.cost);
}
