use mathlib.Core.Path.{◌∙◌}
use Rattle.dictionary_bytes.specs.inside.Entries.{text_at}
use Rattle.dictionary_index.proofs.has_token.Goals as goal

-- src/lib.rt:95:1
pub returns : goal.returns
unfolding text_at
returns c = λ t H. c.is_text.ensures t H ∙ rw c.length_at-n.ensures
