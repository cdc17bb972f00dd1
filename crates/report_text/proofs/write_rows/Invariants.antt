-- The lines of the first i rows are appended, each with the room of a row at most. Assumes nothing.
use Prim.Native.Nat.{◌+◌, ◌≤◌, ◌*◌}
use mathlib.Core.Path.{◌≡◌}
use lib.ListN.{length, take}
use Rattle.spec.specs.Tables.{kept_of}
use Rattle.report_text.specs.Text.{row_lines}
use Rattle.report_text.specs.inside.Appended.{Appended, row_room}
use Rattle.report_text.proofs.write_rows.Given as goal

abbrev pub invariant-loop-i : goal.invariant-loop-i
invariant-loop-i l = Appended (row_lines (take l.i (kept_of l.kept l.supports))) l.at l.initial.out l.out l.to × (length l.out ≡ length l.initial.out) × (l.to ≤ l.at + l.i * row_room)
