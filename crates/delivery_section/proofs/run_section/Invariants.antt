-- The invariant: the entries that are left end as the whole section does, and the store is well formed. Assumes nothing.
use Prim.Native.Nat.{◌+◌, ◌-◌, ◌*◌}
use Rattle.spec.specs.inside.Laid.{FormedStore}
use Rattle.spec.specs.Tables.{tables}
use Rattle.store.proofs.Fitting.{SameLengths}
use Rattle.spec.specs.Updates.{update}
use Rattle.spec.specs.Deliveries.{run_entries}
use Rattle.spec.specs.inside.Pairs.{progress}
use Rattle.delivery_section.specs.inside.Running.{keeps_formed, section}
use Rattle.delivery_section.proofs.Runs.{Left}
use Rattle.delivery_section.proofs.run_section.Given as goal

abbrev pub invariant-loop-i : goal.invariant-loop-i
invariant-loop-i l = Left (update l.change) (keeps_formed l.change) l.bytes (run_entries (update l.change) (section l.bytes l.k) (progress (tables l.initial.statements l.initial.facts l.initial.kept l.initial.supports) l.initial.sum)) (tables l.statements l.facts l.kept l.supports) (l.start + 2 + l.i * 12) (l.entries - l.i) l.sum × FormedStore l.statements l.facts l.kept l.supports × SameLengths (tables l.statements l.facts l.kept l.supports) (tables l.initial.statements l.initial.facts l.initial.kept l.initial.supports)
