-- The ranges are listed and closed.
use mathlib.Core.Path.{sym, ◌∙◌}
use native.Mathlib.Omega.{arith}
use Rattle.rdfs_reach.proofs.WorkLaws.{room_on, unused_on}
use Rattle.rdfs_classes.proofs.ConclusionLaws.{listed_object, listed_literal}
use borrow.Author.Rules.{rules}
use Rattle.rdfs_classes.proofs.append_object_classes.Goals as goal

pub returns-then-is_literal : goal.returns-then-is_literal
returns-then-is_literal c = record { listed = listed_literal c.args.st.now _ c.args.fact c.args.found.now _ (sym c.is_literal.ensures ∙ c.if-is_literal.true); upper_bound = search rules }

pub append_all-e-requires : goal.append_all-e-requires
append_all-e-requires c = record { statements = c.requires.statements; room = c.requires.room.0; unused = c.requires.unused.0; from_le_to = (omega arith, c.requires.room.1) }

pub close-requires : goal.close-requires
close-requires c = record { statements = c.requires.statements; room = room_on c.requires.room.0 c.append_all-e.ensures.grown c.append_all-e.auto.used c.append_all-e.auto.found; unused = unused_on _ (λ q. omega arith) c.append_all-e.ensures.grown c.requires.unused.1; from_le_n = c.append_all-e.ensures.grown.grows }

pub returns : goal.returns
returns c = record {
  listed = listed_object c.args.st.now _ c.args.fact c.args.used.now c.args.found.now c.append_all-e.new.found c.close.new.found c.append_all-e.new.used
      c.close.new.used _ _ _ _ c.requires.room.1 c.requires.by_index (sym
      c.is_literal.ensures ∙ c.if-is_literal.false) c.append_all-e.ensures.grown c.append_all-e.ensures.by_index c.close.ensures.grown c.close.ensures.by_index;
  upper_bound = omega (arith, c.append_all-e.ensures.grown.cost, c.close.ensures.grown.cost);
}
