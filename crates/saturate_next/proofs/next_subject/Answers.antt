-- The lesser of the two.
use mathlib.Core.Path.{ap₂, ◌∙◌}
use Rattle.saturate_merge.specs.inside.Streams.{lesser_of}
use Rattle.saturate_merge.proofs.Streams.{lesser-min}
use Rattle.saturate_next.proofs.next_subject.Goals as goal

pub returns : goal.returns
returns c = c.min.ensures ∙ lesser-min _ _ ∙ ap₂ lesser_of c.subject_from.ensures c.thing_from.ensures
