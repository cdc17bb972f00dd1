use native.Mathlib.Omega.{arith}
use Rattle.dictionary_entries.proofs.Writing.{entry-written}
use Rattle.dictionary_entries.proofs.write_entry.Goals as goal

-- src/lib.rt:41:5
pub write_text-requires : goal.write_text-requires
write_text-requires c = record { text = c.requires.has_room.text; has = c.requires.has_room.has; room = omega (arith, c.requires.has_room.room, c.write_number-2.auto.out, c.write_number.auto.out) }

-- src/lib.rt:33:1
pub returns : goal.returns
returns c = λ es t H K. entry-written c.args.dictionary.now c.write_number.new.out c.write_number-2.new.out c.write_text.new.out c.args.end c.args.term c.text_length-n.result c.write_text.result t.bytes es H c.requires.term_nonzero (omega arith) (omega arith) (c.text_length-n.ensures.value t K) (omega (arith, c.requires.has_room.room, c.text_length-n.ensures.value c.requires.has_room.text c.requires.has_room.has)) c.write_number.ensures c.write_number-2.ensures (c.write_text.ensures.out_after t K) (c.write_text.ensures.value t K)
