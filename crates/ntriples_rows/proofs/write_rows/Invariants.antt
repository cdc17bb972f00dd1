use Prim.Native.Nat.{◌-◌, ◌≤◌}
use lib.ListN.{drop}
use Rattle.spec.specs.Tables.{rows}
use Rattle.spec_ntriples.specs.Dictionary.{entries}
use Rattle.ntriples_rows.proofs.Lines.{Left}
use Rattle.ntriples_rows.proofs.write_rows.Given as goal

abbrev pub invariant-loop-i : goal.invariant-loop-i
invariant-loop-i l = Left (entries l.dictionary) (rows l.table) (drop l.i (rows l.table)) l.initial.out l.out l.at
