-- Where `compute` unfolds, the definitions of the store compute on closed terms. Definitions only.
use mathlib.Core.List.{flat_map}
use Rattle.spec.specs.Terms.{is_uri, is_blank, is_literal, is_variable, is_vocabulary, is_triple, is_statement, are_sides_allowed}
use Rattle.spec.specs.Refusals.{first_refusal}
use Rattle.spec.specs.Order.{is_same, insert, remove}
use Rattle.spec.specs.computed.Carried.{ascend, leaves, steps, spread, reach, objects, properties, subject_classes, object_classes, conclusions, carried, carriers, support}
use Rattle.spec.specs.Saturation.{raise, one_less, lower, raise_all, lower_all}
use Rattle.spec.specs.computed.Saturated.{saturation}
use Rattle.spec.specs.inside.Counts.{lookup}
use Rattle.spec.specs.Rows.{less, insert_once, ordered}
use Rattle.spec.specs.computed.Closed.{pairs_from, pairs, closed}
use Rattle.spec.specs.computed.Solutions.{bound_to, is_bound, bind, match_word, match_triple, solutions, answers}
use Rattle.spec.specs.Lists.{select, any}
use Rattle.spec.specs.computed.Reformulated.{to_classes, to_properties, without, alternatives_from, alternatives}

-- The definitions that an example needs, by one name.
unfoldable pub compute : Unit {0}
unfolding flat_map is_uri is_blank is_literal is_variable is_vocabulary is_triple is_statement are_sides_allowed first_refusal any is_same insert remove ascend leaves steps spread reach objects properties subject_classes object_classes conclusions carried carriers support lookup raise one_less lower raise_all lower_all saturation less insert_once ordered pairs_from pairs closed bound_to is_bound bind match_word match_triple solutions answers select to_classes to_properties without alternatives_from alternatives
compute = tt
