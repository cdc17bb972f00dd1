-- The invariant: the entries that are left end as the whole section does, the store is well formed, and the supports have a bound. Assumes nothing.
use Prim.Native.Nat.{◌+◌, ◌-◌, ◌*◌, ◌≤◌}
use lib.ListN.{take}
use Rattle.spec.specs.Tables.{count, tables}
use Rattle.spec.specs.inside.Laid.{FormedStore}
use Rattle.store.proofs.Fitting.{SameLengths}
use Rattle.spec.specs.declared.Change.TheVariants.{Withdrawal}
use Rattle.spec.specs.Updates.{update}
use Rattle.spec.specs.Deliveries.{is_fact, run_entries}
use Rattle.spec.specs.inside.Pairs.{progress}
use Rattle.delivery_supports.specs.inside.Highest.{highest}
use Rattle.delivery_section.specs.inside.Running.{section}
use Rattle.delivery_section.proofs.Runs.{Left}
use Rattle.delivery_withdrawals.proofs.withdraw_facts.Given as goal

abbrev pub invariant-loop-i : goal.invariant-loop-i
invariant-loop-i l = Left (update Withdrawal) is_fact l.bytes (run_entries (update Withdrawal) (section l.bytes l.k) (progress (tables l.initial.statements l.initial.facts l.initial.kept l.initial.supports) l.initial.sum)) (tables l.statements l.facts l.kept l.supports) (l.start + 2 + l.i * 12) (l.entries - l.i) l.sum × FormedStore l.statements l.facts l.kept l.supports × SameLengths (tables l.statements l.facts l.kept l.supports) (tables l.initial.statements l.initial.facts l.initial.kept l.initial.supports) × (highest (take (count l.kept) l.supports) ≤ l.most)
