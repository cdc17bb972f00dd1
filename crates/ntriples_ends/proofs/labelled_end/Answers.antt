use mathlib.Core.Bool.{◌||◌}
use Rattle.std.specs.Prelude.{Some}
use Rattle.spec_ntriples.specs.Characters.{is_pn_chars_u, is_digit}
use Rattle.ntriples_terminals.proofs.Ending.{end_same}
use Rattle.ntriples_ends.proofs.Heads.{head_found, head-missing, labelled_none, labelled-some}
use Rattle.ntriples_ends.proofs.labelled_end.Goals as goal

pub returns-in_err-next : goal.returns-in_err-next
returns-in_err-next c = rw c.from_residual.ensures (labelled_none _ (head-missing (λ x. is_pn_chars_u x || is_digit x) _ c.in_err-next.ensures))

pub returns : goal.returns
returns c = end_same c.args.line.now _ _ (Some c.label_end.result) (labelled-some _ _ (head_found (λ x. is_pn_chars_u x || is_digit x) _ _ c.in_ok-next.ensures.same)) c.label_end.ensures
