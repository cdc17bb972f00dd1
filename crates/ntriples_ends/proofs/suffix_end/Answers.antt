use mathlib.Core.Path.{sym, ◌∙◌, ap}
use Prim.Native.Char.{code}
use lib.Dec.{eqb}
use Rattle.ntriples_bytes.specs.inside.Places.{chars_at}
use Rattle.ntriples_bytes.proofs.Decoding.{chars_are}
use Rattle.ntriples_terminals.specs.inside.Ends.{behind_read}
use Rattle.ntriples_terminals.proofs.Ending.{end_same}
use Rattle.spec_ntriples.specs.computed.Lines.{read, suffixed}
use Rattle.ntriples_ends.proofs.Heads.{head_found, head-missing, suffix-none, suffix-some}
use Rattle.ntriples_ends.proofs.suffix_end.Goals as goal

pub returns-in-None : goal.returns-in-None
returns-in-None c = λ string t. end_same c.args.line.now _ _ c.typed_end.result (ap (λ cs. behind_read (suffixed string (read t (chars_at c.args.line.now c.args.end)) cs)) (sym (chars_are c.skip-at.ensures)) ∙ suffix-none string t _ _ (head-missing (λ x. eqb x (code "@")) _ c.in-None.ensures)) (c.typed_end.ensures string)

pub returns-in-Some : goal.returns-in-Some
returns-in-Some c = λ string t. end_same c.args.line.now _ _ c.language_end.result (ap (λ cs. behind_read (suffixed string (read t (chars_at c.args.line.now c.args.end)) cs)) (sym (chars_are c.skip-at.ensures)) ∙ suffix-some string t _ _ _ (head_found (λ x. eqb x (code "@")) _ _ c.in-Some.ensures.same)) c.language_end.ensures
