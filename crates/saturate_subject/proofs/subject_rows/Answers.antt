-- Rows of rdf:type from explicit types and counts, then those of the other properties.
use native.Mathlib.Omega.{arith}
use Rattle.spec.specs.Tables.{count}
use Rattle.saturate_subject.proofs.Subjects.{types_rising, keys-rising, types-small, uncounted, subject-rows-of}
use Rattle.saturate_subject.proofs.Plain.{one_subject}
use Rattle.saturate_subject.proofs.subject_rows.Goals as goal

pub first_from-t-requires : goal.first_from-t-requires
first_from-t-requires c = record { q_le_e = omega (arith, c.requires.range.low, c.requires.range.high, c.requires.facts.fit); one_subject = one_subject c.args.f.now (count c.args.f.now) c.args.task.own.term _ _ c.requires.facts c.requires.range.high c.requires.range.all }

pub merge_counted-n-requires : goal.merge_counted-n-requires
merge_counted-n-requires c = record { to_in_bounds = omega (arith, c.first_from-t.ensures.high, c.requires.range.high, c.requires.facts.fit, c.requires.prepared.keyed.classes, c.requires.prepared.keyed.columns); rising = types_rising c.args.f.now (count c.args.f.now) c.args.task.own.term c.args.task.own.first c.first_from-t.result c.args.task.own.end c.requires.facts c.requires.range c.first_from-t.ensures; keys_rising = keys-rising c.args.f.now (count c.args.f.now) c.args.task.own.term c.args.task.own.first c.first_from-t.result c.args.task.own.end c.requires.facts c.requires.range c.first_from-t.ensures c.args.statements.now c.args.task.sizes.statements c.args.domains.now c.args.ranges.now c.args.keys.now c.args.task.sizes.classes c.args.task.sizes.columns c.counts_of-counts.result c.requires.prepared.keyed c.counts_of-counts.ensures c.requires.term_value; by_index = types-small c.args.f.now (count c.args.f.now) c.args.task.own.term c.args.task.own.first c.first_from-t.result c.args.task.own.end c.requires.facts c.requires.range c.first_from-t.ensures c.args.statements.now c.args.task.sizes.statements c.args.domains.now c.args.ranges.now c.args.keys.now c.args.task.sizes.classes c.args.task.sizes.columns c.counts_of-counts.result c.requires.prepared.keyed c.counts_of-counts.ensures c.requires.term_value c.requires.small; room_in_bounds = c.requires.room_in_bounds }

pub property_rows-requires : goal.property_rows-requires
property_rows-requires c = record { statements = c.requires.prepared.statements; square = c.requires.prepared.domains; keys = c.requires.prepared.keyed; facts = c.requires.facts; statements_bound = (c.requires.prepared.rows, c.first_from-t.ensures.high, c.requires.range.high, c.requires.in_bounds); of = (λ y l u. c.requires.range.all y (omega (arith, c.first_from-t.ensures.low)) u); by_index = c.first_from-t.ensures.after; uncounted = uncounted c.args.f.now (count c.args.f.now) c.args.task.own.term c.args.task.own.first c.first_from-t.result c.args.task.own.end c.requires.facts c.requires.range c.first_from-t.ensures c.args.statements.now c.args.task.sizes.statements c.args.domains.now c.args.ranges.now c.args.keys.now c.args.task.sizes.classes c.args.task.sizes.columns c.counts_of-counts.result c.requires.prepared.keyed c.counts_of-counts.ensures c.requires.term_value c.requires.prepared; room_in_bounds = omega (arith, c.requires.room_in_bounds, c.merge_counted-n.auto.kept, c.merge_counted-n.auto.supports) }

pub returns : goal.returns
returns c = subject-rows-of c.args.f.now (count c.args.f.now) c.args.task.own.term c.args.task.own.first c.first_from-t.result c.args.task.own.end c.requires.facts c.requires.range c.first_from-t.ensures c.args.statements.now c.args.task.sizes.statements c.args.domains.now c.args.ranges.now c.args.keys.now c.args.task.sizes.classes c.args.task.sizes.columns c.counts_of-counts.result c.requires.prepared.keyed c.counts_of-counts.ensures c.requires.term_value c.requires.prepared _ _ _ _ c.merge_counted-n.ensures c.property_rows.ensures
