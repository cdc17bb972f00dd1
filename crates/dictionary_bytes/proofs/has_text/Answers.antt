use mathlib.Core.Path.{sym, ◌∙◌}
use Rattle.dictionary_bytes.proofs.Entry.{other_length, same_length}
use Rattle.dictionary_bytes.proofs.has_text.Goals as goal

-- src/lib.rt:104:9
pub returns-then-length_at-n : goal.returns-then-length_at-n
returns-then-length_at-n c = sym (other_length c.args.dictionary.now c.args.bytes.now c.args.at c.args.from c.args.n _ c.requires.at_in_bounds c.requires.n_in_bounds c.length_at.ensures c.if-length_at-n.true)

-- src/lib.rt:98:1
pub returns : goal.returns
returns c = c.is_same.ensures ∙ same_length c.args.dictionary.now c.args.bytes.now c.args.at c.args.from c.args.n _ c.length_at.ensures c.if-length_at-n.false
