use Prim.Native.Nat.{ℕ, ◌+◌, ◌-◌, ◌^◌, ◌≤◌, ◌<◌}
use mathlib.Core.List.{List}
use Rattle.spec_ntriples.specs.computed.Terminals.{State, Step, digits}
use Rattle.ntriples_cursor.specs.inside.Readers.{IsReader, Reads, DigitsDue}
use Rattle.ntriples_cursor.proofs.chars.number_char.Given as goal

abbrev pub invariant-loop : goal.invariant-loop
invariant-loop l = ((l.value < 16 ^ l.counter) × (l.at + l.counter ≤ l.place)) × ((step : State → ℕ → Step) (close : ℕ) (ds rest : List ℕ) → IsReader step close → Reads l.line l.at step (digits l.count 0) ds rest → DigitsDue l.line l.place step (l.count - l.counter) l.value ds rest)
