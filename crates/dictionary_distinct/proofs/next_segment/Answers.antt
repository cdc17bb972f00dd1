use Rattle.dictionary_index.proofs.Indexing.{index-within}
use Rattle.dictionary_distinct.proofs.Apartness.{behind_segment, segment_repeats, segment_apart}
use Rattle.dictionary_distinct.proofs.next_segment.Goals as goal

-- src/lib.rt:70:8
pub are_repeated-requires : goal.are_repeated-requires
are_repeated-requires c = record { lead_within = index-within c.index_segment-end.new.slots c.args.dictionary.now c.args.first c.index_segment-end.result.count c.index_segment-end.ensures.index; are_entries = behind_segment c.index_segment-end.new.slots c.args.dictionary.now c.args.first c.args.last c.requires.are_entries c.requires.first_lt_last c.index_segment-end.result c.index_segment-end.ensures }

-- src/lib.rt:71:9
pub returns-then-are_repeated : goal.returns-then-are_repeated
returns-then-are_repeated c = segment_repeats c.index_segment-end.new.slots c.args.dictionary.now c.args.first c.args.last c.requires.are_entries c.requires.first_lt_last c.index_segment-end.result c.index_segment-end.ensures (rw c.if-are_repeated.true at (c.are_repeated.ensures c.index_segment-end.result.count c.index_segment-end.ensures.index))

-- src/lib.rt:63:1
pub returns : goal.returns
returns c = segment_apart c.index_segment-end.new.slots c.args.dictionary.now c.args.first c.args.last c.requires.are_entries c.requires.first_lt_last c.index_segment-end.result c.index_segment-end.ensures (rw c.if-are_repeated.false at (c.are_repeated.ensures c.index_segment-end.result.count c.index_segment-end.ensures.index))
