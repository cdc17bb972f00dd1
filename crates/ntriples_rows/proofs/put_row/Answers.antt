use native.Mathlib.Omega.{arith}
use Rattle.spec_ntriples.specs.Dictionary.{entries}
use Rattle.spec_writing.proofs.WrittenRows.{all_texts}
use Rattle.ntriples_rows.proofs.Lines.{no_subject, no_property, no_object, line-put}
use Rattle.ntriples_rows.proofs.put_row.Goals as goal

-- src/lib.rt:64:9
pub put_term-property-requires : goal.put_term-property-requires
put_term-property-requires c = record { are_places = c.requires.are_places; term_value = (all_texts (entries c.args.dictionary.now) c.args.t c.requires.t_value).subject; at_in_bounds = c.requires.at_in_bounds }

-- src/lib.rt:66:9
pub returns-then-property-eq0 : goal.returns-then-property-eq0
returns-then-property-eq0 c = no_subject (entries c.args.dictionary.now) c.args.t c.put_term-property.ensures (omega (arith, c.if-property-eq0.true))

-- src/lib.rt:68:9
pub put_term-object-requires : goal.put_term-object-requires
put_term-object-requires c = record { are_places = c.requires.are_places; term_value = (all_texts (entries c.args.dictionary.now) c.args.t c.requires.t_value).property; at_in_bounds = omega (arith, c.put_term-property.ensures.fits (omega (arith, c.if-property-eq0.false)), c.put_term-property.auto.out) }

-- src/lib.rt:70:9
pub returns-then-object-eq0 : goal.returns-then-object-eq0
returns-then-object-eq0 c = no_property (entries c.args.dictionary.now) c.args.t c.put_term-property.ensures (omega (arith, c.if-property-eq0.false)) c.put_term-object.ensures (omega (arith, c.if-object-eq0.true))

-- src/lib.rt:72:9
pub put_term-end-requires : goal.put_term-end-requires
put_term-end-requires c = record { are_places = c.requires.are_places; term_value = (all_texts (entries c.args.dictionary.now) c.args.t c.requires.t_value).object; at_in_bounds = omega (arith, c.put_term-object.ensures.fits (omega (arith, c.if-object-eq0.false)), c.put_term-object.auto.out) }

-- src/lib.rt:74:9
pub returns-then-end-eq0 : goal.returns-then-end-eq0
returns-then-end-eq0 c = no_object (entries c.args.dictionary.now) c.args.t c.put_term-property.ensures (omega (arith, c.if-property-eq0.false)) c.put_term-object.ensures (omega (arith, c.if-object-eq0.false)) c.put_term-end.ensures (omega (arith, c.if-end-eq0.true))

-- src/lib.rt:76:5
pub put_end-requires : goal.put_end-requires
put_end-requires c = omega (arith, c.put_term-end.ensures.fits (omega (arith, c.if-end-eq0.false)), c.put_term-end.auto.out)

-- src/lib.rt:51:1
pub returns : goal.returns
returns c = line-put (entries c.args.dictionary.now) c.args.t c.put_term-property.ensures (omega (arith, c.if-property-eq0.false)) c.put_term-object.ensures (omega (arith, c.if-object-eq0.false)) c.put_term-end.ensures (omega (arith, c.if-end-eq0.false)) c.put_end.ensures
