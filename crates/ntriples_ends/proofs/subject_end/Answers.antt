use mathlib.Core.Path.{ap}
use Prim.Native.Char.{code}
use lib.Dec.{eqb}
use Rattle.ntriples_terminals.specs.inside.Ends.{behind_read}
use Rattle.ntriples_terminals.proofs.Ending.{end_same}
use Rattle.ntriples_ends.proofs.Heads.{head_found, head-missing, subject_iri, subject_blank}
use Rattle.ntriples_ends.proofs.subject_end.Goals as goal

pub returns-in-None : goal.returns-in-None
returns-in-None c = end_same c.args.line.now _ _ c.iri_end.result (ap behind_read (subject_iri _ (head-missing (λ x. eqb x (code "_")) _ c.in-None.ensures))) c.iri_end.ensures

pub returns-in-Some : goal.returns-in-Some
returns-in-Some c = end_same c.args.line.now _ _ c.blank_end.result (ap behind_read (subject_blank _ _ (head_found (λ x. eqb x (code "_")) _ _ c.in-Some.ensures.same))) c.blank_end.ensures
