-- Each part finds the marks and the room that it asks for.
use native.Mathlib.Omega.{arith}
use Rattle.rdfs_reach.proofs.MarkLaws.{zeros_room, zeros-unused}
use Rattle.rdfs_derive.proofs.PartLaws.{room_after, unused_after, room_again, few_terms, all_concluded}
use Rattle.rdfs_classes.proofs.ConclusionLaws.{both, kept_iff}
use Rattle.rdfs_derive.proofs.find_terms.Goals as goal

pub append_properties-properties-requires : goal.append_properties-properties-requires
append_properties-properties-requires c = record { statements = c.requires.statements; room = zeros_room c.args.st.now _ c.no_marks-used.result c.args.found.now 1 c.requires.statements c.no_marks-used.ensures (omega (arith, c.requires.statements.few, c.requires.in_bounds)); unused = zeros-unused c.args.st.now _ _ c.no_marks-used.result c.no_marks-used.ensures }

pub append_subject_classes-subject-requires : goal.append_subject_classes-subject-requires
append_subject_classes-subject-requires c = record {
  statements = c.requires.statements;
  room = room_after c.args.st.now _ c.no_marks-used.result c.append_properties-properties.new.used _ c.no_marks-used.ensures c.append_properties-properties.ensures.used_after c.append_properties-properties.new.found c.requires.statements c.append_properties-properties.auto.used
      c.append_properties-properties.ensures.uniform (omega (arith, c.requires.in_bounds, c.append_properties-properties.auto.found));
  unused = (unused_after c.args.st.now _ c.no_marks-used.result c.append_properties-properties.new.used _ c.no_marks-used.ensures c.append_properties-properties.ensures.used_after _ (λ z. omega arith) c.append_properties-properties.ensures.by_index, unused_after c.args.st.now _ c.no_marks-used.result c.append_properties-properties.new.used _ c.no_marks-used.ensures c.append_properties-properties.ensures.used_after _ (λ z. omega arith) c.append_properties-properties.ensures.by_index);
  by_index = c.append_properties-properties.ensures.listed.exact;
}

pub append_object_classes-object-requires : goal.append_object_classes-object-requires
append_object_classes-object-requires c = record {
  statements = c.requires.statements;
  room = (room_again c.args.st.now _ c.no_marks-used.result c.append_properties-properties.new.used _ c.no_marks-used.ensures c.append_properties-properties.ensures.used_after c.append_subject_classes-subject.new.found c.no_marks-again.result _ c.requires.statements c.no_marks-again.ensures c.append_subject_classes-subject.ensures.upper_bound (omega (arith, c.requires.in_bounds, c.append_properties-properties.auto.found, c.append_subject_classes-subject.auto.found)), c.append_subject_classes-subject.ensures.listed.grows);
  unused = (zeros-unused c.args.st.now _ _ c.no_marks-again.result c.no_marks-again.ensures, zeros-unused c.args.st.now _ _ c.no_marks-again.result c.no_marks-again.ensures);
  by_index = λ x. both
      (kept_iff _ c.append_subject_classes-subject.ensures.listed.kept (omega arith)) (c.append_properties-properties.ensures.listed.exact x);
}

pub returns : goal.returns
returns c = all_concluded _ _ c.args.fact c.args.found.now c.append_properties-properties.new.found c.append_subject_classes-subject.new.found c.append_object_classes-object.new.found _ _ _ c.append_properties-properties.ensures.listed c.append_subject_classes-subject.ensures.listed
    c.append_object_classes-object.ensures.listed (few_terms c.args.st.now _ c.no_marks-used.result c.append_properties-properties.new.used _ c.no_marks-used.ensures c.append_properties-properties.ensures.used_after c.no_marks-again.result _ _ c.no_marks-again.ensures c.append_subject_classes-subject.ensures.upper_bound
    c.append_object_classes-object.ensures.upper_bound)
