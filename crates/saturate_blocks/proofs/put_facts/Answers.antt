use mathlib.Core.Path.{sym, ◌∙◌}
use native.Mathlib.Omega.{arith}
use Rattle.saturate_blocks.proofs.Plain.{ones-put, ones_done}
use Rattle.saturate_blocks.proofs.put_facts.Goals as goal

pub loop-y-preserved : goal.loop-y-preserved
loop-y-preserved c = ones-put c.args.f.now _ _ _ _ _ _ (omega arith) c.row_at-t.ensures c.put-n.ensures ∙ c.loop-y.invariant

pub returns : goal.returns
returns c = sym (ones_done c.args.f.now _ _ _ _ (omega arith)) ∙ c.loop-y.invariant
