-- What is put and what is left to put is all.
use mathlib.Core.Path.{◌≡◌}
use Prim.Native.Nat.{◌-◌}
use Rattle.saturate_merge.specs.inside.Output.{output, put_all}
use Rattle.saturate_blocks.specs.inside.Plain.{ones}
use Rattle.saturate_blocks.proofs.put_facts.Given as goal

abbrev pub invariant-loop-y : goal.invariant-loop-y
invariant-loop-y l = put_all l.room (ones l.f l.y (l.b - l.y)) (output l.kept l.supports l.n) ≡ put_all l.room (ones l.f l.a (l.b - l.a)) (output l.initial.kept l.initial.supports l.n0)
