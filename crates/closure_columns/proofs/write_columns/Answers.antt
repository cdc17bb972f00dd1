-- The terms are written into their part, behind the counts.
use mathlib.Core.Path.{◌∙◌}
use Rattle.closure_columns.proofs.Heads.{headed}
use Rattle.closure_columns.proofs.write_columns.Goals as goal

pub returns : goal.returns
returns c = headed _ _ _ c.args.closure.now c.write_counts.new.closure c.terms.new.terms (c.write_counts.auto.closure ∙ c.requires.closure_len.0) c.write_counts.ensures.closure_after.0 c.write_counts.ensures.closure_after.1 c.write_counts.ensures.by_index c.terms.auto.terms c.requires.closure_len.2 c.terms.ensures
