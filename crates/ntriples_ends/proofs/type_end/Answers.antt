use mathlib.Core.Path.{sym, ◌∙◌, ap}
use Prim.Native.Char.{code}
use lib.Dec.{eqb}
use Rattle.ntriples_bytes.proofs.Decoding.{chars_are}
use Rattle.ntriples_terminals.specs.inside.Ends.{behind_read}
use Rattle.ntriples_terminals.proofs.Ending.{end_same}
use Rattle.spec_ntriples.specs.computed.Lines.{read_iri}
use Rattle.ntriples_ends.proofs.Heads.{head_found, head-missing, type_none, type-some}
use Rattle.ntriples_ends.proofs.type_end.Goals as goal

pub returns-in_err-next : goal.returns-in_err-next
returns-in_err-next c = λ string. rw c.from_residual.ensures (type_none string _ (head-missing (λ x. eqb x (code "^")) _ c.in_err-next.ensures))

pub returns : goal.returns
returns c = λ string. end_same c.args.line.now _ _ c.iri_end.result (type-some string _ _ (head_found (λ x. eqb x (code "^")) _ _ c.in_ok-next.ensures.same) ∙ ap (λ cs. behind_read (read_iri cs)) (sym (chars_are c.skip.ensures))) c.iri_end.ensures
