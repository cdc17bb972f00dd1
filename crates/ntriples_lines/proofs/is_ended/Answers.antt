use mathlib.Core.Path.{◌∙◌, ap}
use Prim.Native.Char.{code}
use lib.Dec.{eqb}
use Rattle.ntriples_bytes.proofs.Decoding.{chars_are}
use Rattle.ntriples_ends.proofs.Heads.{head_found, head-missing}
use Rattle.ntriples_lines.specs.inside.Reading.{is_ended}
use Rattle.spec_ntriples.specs.computed.Lines.{is_rest}
use Rattle.ntriples_lines.proofs.Lines.{ended_none, ended_some}
use Rattle.ntriples_lines.proofs.is_ended.Goals as goal

pub returns-in-None : goal.returns-in-None
returns-in-None c = ended_none _ (head-missing (λ x. eqb x (code ".")) _ c.in-None.ensures) ∙ ap is_ended (chars_are c.skip.ensures)

pub returns-in-Some : goal.returns-in-Some
returns-in-Some c = c.is_rest.ensures ∙ ap is_rest (chars_are c.skip-in-Some.ensures) ∙ ended_some _ _ (head_found (λ x. eqb x (code ".")) _ _ c.in-Some.ensures.same) ∙ ap is_ended (chars_are c.skip.ensures)
