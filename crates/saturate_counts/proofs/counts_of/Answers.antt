-- What was counted over the two ranges is what all facts add.
use native.Mathlib.Omega.{arith}
use Rattle.saturate_counts.proofs.Adding.{summed_few, own_bit_lem, counts_of}
use Rattle.saturate_counts.proofs.Zeros.{zero-words}
use Rattle.saturate_counts.proofs.counts_of.Goals as goal

pub count_subject-requires-clause-by_index : goal.count_subject-requires-clause-by_index
count_subject-requires-clause-by_index c = λ k l. rw (zero-words 512 k) (omega (arith, c.requires.range.low, c.requires.range.high, c.requires.facts.few))

pub count_object-requires-clause-by_index_2 : goal.count_object-requires-clause-by_index_2
count_object-requires-clause-by_index_2 c = λ k l. omega (arith, zero-words 512 k, c.requires.range.low, c.requires.range.high, c.requires.range_2.high, c.requires.facts.few, summed_few _ _ _ _ _ _ c.count_subject.ensures c.requires.range.low (λ q z lq _ _. own_bit_lem c.args.statements.now c.args.sizes.statements c.args.sizes.classes c.args.sizes.columns c.args.domains.now c.args.ranges.now c.args.f.now c.args.own.term z c.requires.square c.requires.square_2 q lq) k (omega (arith, c.requires.classes_le_columns)))

pub returns : goal.returns
returns c = counts_of c.args.statements.now _ _ _ c.args.domains.now c.args.ranges.now c.args.f.now c.args.ix.now _ _ _ _ _ _ c.requires.range c.requires.range_2 c.requires.once _ _ _ c.requires.classes_le_columns.0 (zero-words 512) c.count_subject.ensures c.count_object.ensures
