use Prim.Native.Char.{code}
use lib.Dec.{eqb}
use Rattle.ntriples_terminals.proofs.Ending.{end_same}
use Rattle.ntriples_ends.proofs.Heads.{head_found, head-missing, blank_none, blank-some}
use Rattle.ntriples_ends.proofs.blank_end.Goals as goal

pub returns-in_err-next : goal.returns-in_err-next
returns-in_err-next c = rw c.from_residual.ensures (blank_none _ (head-missing (λ x. eqb x (code ":")) _ c.in_err-next.ensures))

pub returns : goal.returns
returns c = end_same c.args.line.now _ _ c.labelled_end.result (blank-some _ _ (head_found (λ x. eqb x (code ":")) _ _ c.in_ok-next.ensures.same)) c.labelled_end.ensures
