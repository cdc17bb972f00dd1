use mathlib.Core.Path.{◌≡◌}
use Prim.Native.Nat.{◌+◌, ◌-◌, ◌≤◌}
use mathlib.Core.List.{List}
use lib.ListN.{length, drop}
use Rattle.spec_ntriples.specs.Texts.{TextTriple}
use Rattle.spec_ntriples.specs.computed.Lines.{triples, document}
use Rattle.ntriples_batch.proofs.Gathering.{Gathering}
use Rattle.ntriples_batch.proofs.gather_lines.Given as goal

abbrev pub invariant-loop-at : goal.invariant-loop-at
invariant-loop-at l = (l.from + l.count ≤ l.at) × (l.at ≤ length l.file) × (l.count ≤ length l.lines) × (length l.lines ≡ length l.initial.lines) × ((ts : List TextTriple) → document (drop l.from l.file) ≡ triples ts → Gathering l.file ts l.lines l.count l.at)

abbrev pub decreases-loop-at : goal.decreases-loop-at
decreases-loop-at l = length l.file - l.at
