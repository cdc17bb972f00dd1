use native.Mathlib.Omega.{arith}
use mathlib.Core.Path.{sym, ◌∙◌}
use Rattle.spec_ntriples.specs.Dictionary.{entries}
use Rattle.ntriples_read.proofs.Reading.{can_name, lacking-within, refused-14, named-within, refused-15, few, room-there, read_whole}
use Rattle.ntriples_read.proofs.read_triples.Goals as goal

-- src/lib.rt:59:11
pub name_file-requires : goal.name_file-requires
name_file-requires c = can_name c.args.file.now c.args.n c.args.dictionary.now c.args.f c.args.delivery.now c.requires c.no_terms-terms.result c.no_terms-terms.ensures

-- src/lib.rt:61:13
pub take_back-requires : goal.take_back-requires
take_back-requires c = lacking-within c.args.file.now c.args.n c.args.dictionary.now c.args.f c.args.delivery.now c.requires c.name_file.new.dictionary c.name_file.new.terms c.name_file.result (c.name_file.ensures (entries c.args.dictionary.now) c.requires.lines c.requires.said c.requires.counted c.requires.filled) c.name_file.auto.dictionary _ c.in-Err.is

-- src/lib.rt:66:42
pub write_delivery-requires : goal.write_delivery-requires
write_delivery-requires c = record { n_in_bounds = (omega (arith, few c.args.file.now c.args.n c.args.dictionary.now c.args.f c.args.delivery.now c.requires c.name_file.new.dictionary c.name_file.new.terms c.name_file.result (c.name_file.ensures (entries c.args.dictionary.now) c.requires.lines c.requires.said c.requires.counted c.requires.filled) c.name_file.auto.dictionary _ c.in-Ok.is (sym c.has_room.ensures ∙ c.if-has_room.true), c.name_file.auto.terms, c.no_terms-terms.ensures), few c.args.file.now c.args.n c.args.dictionary.now c.args.f c.args.delivery.now c.requires c.name_file.new.dictionary c.name_file.new.terms c.name_file.result (c.name_file.ensures (entries c.args.dictionary.now) c.requires.lines c.requires.said c.requires.counted c.requires.filled) c.name_file.auto.dictionary _ c.in-Ok.is (sym c.has_room.ensures ∙ c.if-has_room.true)); n_in_bounds_2 = room-there c.args.file.now c.args.n c.args.dictionary.now c.args.f c.args.delivery.now c.requires c.name_file.new.dictionary c.name_file.new.terms c.name_file.result (c.name_file.ensures (entries c.args.dictionary.now) c.requires.lines c.requires.said c.requires.counted c.requires.filled) c.name_file.auto.dictionary _ c.in-Ok.is (sym c.has_room.ensures ∙ c.if-has_room.true) }

-- src/lib.rt:66:17
pub returns-then-has_room : goal.returns-then-has_room
returns-then-has_room c = read_whole c.args.file.now c.args.n c.args.dictionary.now c.args.f c.args.delivery.now c.requires c.name_file.new.dictionary c.name_file.new.terms c.name_file.result (c.name_file.ensures (entries c.args.dictionary.now) c.requires.lines c.requires.said c.requires.counted c.requires.filled) c.name_file.auto.dictionary _ c.in-Ok.is (sym c.has_room.ensures ∙ c.if-has_room.true) c.write_delivery.result c.write_delivery.new.delivery c.write_delivery.ensures.whole c.write_delivery.ensures.written

-- src/lib.rt:68:13
pub take_back-requires-in-Ok : goal.take_back-requires-in-Ok
take_back-requires-in-Ok c = named-within c.args.file.now c.args.n c.args.dictionary.now c.args.f c.args.delivery.now c.requires c.name_file.new.dictionary c.name_file.new.terms c.name_file.result (c.name_file.ensures (entries c.args.dictionary.now) c.requires.lines c.requires.said c.requires.counted c.requires.filled) c.name_file.auto.dictionary _ c.in-Ok.is

-- src/lib.rt:48:1
pub returns-in-Err : goal.returns-in-Err
returns-in-Err c = refused-14 c.args.file.now c.args.n c.args.dictionary.now c.args.f c.args.delivery.now c.requires c.name_file.new.dictionary c.name_file.new.terms c.name_file.result (c.name_file.ensures (entries c.args.dictionary.now) c.requires.lines c.requires.said c.requires.counted c.requires.filled) c.name_file.auto.dictionary _ c.in-Err.is c.take_back.new.dictionary c.take_back.auto.dictionary c.take_back.ensures

-- src/lib.rt:48:1
pub returns-else-has_room : goal.returns-else-has_room
returns-else-has_room c = refused-15 c.args.file.now c.args.n c.args.dictionary.now c.args.f c.args.delivery.now c.requires c.name_file.new.dictionary c.name_file.new.terms c.name_file.result (c.name_file.ensures (entries c.args.dictionary.now) c.requires.lines c.requires.said c.requires.counted c.requires.filled) c.name_file.auto.dictionary _ c.in-Ok.is (sym c.has_room.ensures ∙ c.if-has_room.false) c.take_back-in-Ok.new.dictionary c.take_back-in-Ok.auto.dictionary c.take_back-in-Ok.ensures
