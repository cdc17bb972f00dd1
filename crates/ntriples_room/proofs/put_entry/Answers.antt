use native.Mathlib.Omega.{arith}
use mathlib.Core.Path.{sym, ap, ◌∙◌}
use lib.Seq.{sets}
use Rattle.dictionary_bytes.specs.inside.Entries.{text_at}
use Rattle.dictionary_bytes.proofs.Entry.{text-length}
use Rattle.ntriples_room.proofs.Putting.{text_none, text-put, text_part}
use Rattle.ntriples_room.proofs.put_entry.Goals as goal

-- src/lib.rt:33:9
pub returns-then-out-at : goal.returns-then-out-at
returns-then-out-at c = text_none c.args.out.now _ (text_at c.args.dictionary.now c.args.place) c.args.at _ (c.length_at-n.ensures ∙ sym (text-length c.args.dictionary.now c.args.place c.requires.place_in_bounds)) c.requires.at_in_bounds (omega arith)

-- src/lib.rt:26:1
pub returns : goal.returns
returns c = text-put c.args.out.now _ (text_at c.args.dictionary.now c.args.place) c.args.at _ (c.copy_bytes.ensures ∙ ap (sets c.args.out.now c.args.at) (text_part c.args.dictionary.now c.args.place _ c.length_at-n.ensures)) (c.length_at-n.ensures ∙ sym (text-length c.args.dictionary.now c.args.place c.requires.place_in_bounds)) c.requires.at_in_bounds (omega arith)
