use mathlib.Core.Path.{◌∙◌}
use lib.Seq.{drop-drop}
use Rattle.dictionary_bytes.specs.inside.Entries.{length_at}
use Rattle.dictionary_bytes.proofs.length_at.Goals as goal

-- src/lib.rt:90:1
pub returns : goal.returns
unfolding length_at
returns c = c.number_at.ensures.value ∙ rw (drop-drop 4 c.args.at c.args.dictionary.now)
