use mathlib.Core.Path.{ap}
use Prim.Native.Char.{code}
use lib.Dec.{eqb}
use Rattle.ntriples_terminals.specs.inside.Ends.{behind_read}
use Rattle.ntriples_terminals.proofs.Ending.{end_same}
use Rattle.ntriples_ends.proofs.Heads.{head_found, head-missing, object-subject, object-literal}
use Rattle.ntriples_ends.proofs.object_end.Goals as goal

pub returns-in-None : goal.returns-in-None
returns-in-None c = end_same c.args.line.now _ _ c.subject_end.result (ap behind_read (object-subject _ (head-missing (λ x. eqb x (code "\"")) _ c.in-None.ensures))) c.subject_end.ensures

pub returns-in-Some : goal.returns-in-Some
returns-in-Some c = end_same c.args.line.now _ _ c.literal_end.result (ap behind_read (object-literal _ _ (head_found (λ x. eqb x (code "\"")) _ _ c.in-Some.ensures.same))) c.literal_end.ensures
