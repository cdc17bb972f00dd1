use native.Mathlib.Omega.{arith}
use Rattle.ntriples_last.proofs.Steps.{index_leads, left-entries, here, here-index, here-some, here-within, looked-on, here-last}
use Rattle.ntriples_segment.proofs.name_segment.Goals as goal

-- src/lib.rt:75:9
pub index_segment-segment-requires : goal.index_segment-segment-requires
index_segment-segment-requires c = record { are_zero = c.no_slots-slots.ensures.1; in_bounds = omega (arith, c.no_slots-slots.ensures.0); are_entries = left-entries c.requires.old c.requires.triples c.args.dictionary.now c.args.first c.args.f c.args.terms.now c.requires.looked }

-- src/lib.rt:77:9
pub find_terms-requires : goal.find_terms-requires
find_terms-requires c = record { lead_within = index_leads c.index_segment-segment.new.slots c.args.dictionary.now c.args.first (here c.requires.old c.requires.triples c.args.dictionary.now c.args.first c.args.f c.args.terms.now c.requires.looked c.index_segment-segment.new.slots c.index_segment-segment.result c.index_segment-segment.ensures) (here-index c.requires.old c.requires.triples c.args.dictionary.now c.args.first c.args.f c.args.terms.now c.requires.looked c.index_segment-segment.new.slots c.index_segment-segment.result c.index_segment-segment.ensures); can_be_named = record { triples = c.requires.triples; stand = c.requires.batch.stand; noted = c.requires.noted; room = c.requires.room } }

-- src/lib.rt:78:9
pub returns-then-segment-f : goal.returns-then-segment-f
returns-then-segment-f c = λ es ts B L. (here-some es ts c.args.dictionary.now c.args.first c.args.f c.args.terms.now L c.index_segment-segment.new.slots c.index_segment-segment.result c.index_segment-segment.ensures c.if-segment-f.true, here-within es ts c.args.dictionary.now c.args.first c.args.f c.args.terms.now L c.index_segment-segment.new.slots c.index_segment-segment.result c.index_segment-segment.ensures, looked-on es ts c.args.dictionary.now c.args.first c.args.f c.args.terms.now L c.index_segment-segment.new.slots c.index_segment-segment.result c.index_segment-segment.ensures c.args.file.now c.args.lines.now c.args.n c.find_terms.new.terms B (c.find_terms.ensures (here es ts c.args.dictionary.now c.args.first c.args.f c.args.terms.now L c.index_segment-segment.new.slots c.index_segment-segment.result c.index_segment-segment.ensures) ts (here-index es ts c.args.dictionary.now c.args.first c.args.f c.args.terms.now L c.index_segment-segment.new.slots c.index_segment-segment.result c.index_segment-segment.ensures) B.stand))

-- src/lib.rt:84:5
pub name_last-requires : goal.name_last-requires
name_last-requires c = record { can = c.requires; last = here-last c.requires.old c.requires.triples c.args.dictionary.now c.args.first c.args.f c.args.terms.now c.requires.looked c.index_segment-segment.new.slots c.index_segment-segment.result c.index_segment-segment.ensures (omega arith); enough = omega (arith, c.index_segment-segment.auto.slots, c.no_slots-slots.ensures.0) }

-- src/lib.rt:62:1
pub returns : goal.returns
returns c = λ es ts B L. c.name_last.ensures es ts B L (here-last es ts c.args.dictionary.now c.args.first c.args.f c.args.terms.now L c.index_segment-segment.new.slots c.index_segment-segment.result c.index_segment-segment.ensures (omega arith))
