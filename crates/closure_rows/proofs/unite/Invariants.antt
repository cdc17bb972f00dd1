-- The words below w of row a have what gain has.
use Rattle.closure_rows.proofs.RowLaws.{Uniting}
use Rattle.closure_rows.proofs.unite.Given as goal

abbrev pub invariant-loop-w : goal.invariant-loop-w
invariant-loop-w l = Uniting l.initial.closure l.closure l.gain l.a l.w
