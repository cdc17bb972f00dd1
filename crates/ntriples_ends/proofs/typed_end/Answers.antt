use Prim.Native.Char.{code}
use lib.Dec.{eqb}
use Rattle.ntriples_terminals.proofs.Ending.{end_same}
use Rattle.ntriples_ends.proofs.Heads.{head_found, head-missing, typed_none, typed-some}
use Rattle.ntriples_ends.proofs.typed_end.Goals as goal

pub returns-in-None : goal.returns-in-None
returns-in-None c = λ string. record { same = typed_none string _ _ (head-missing (λ x. eqb x (code "^")) _ c.in-None.ensures); from = c.requires.utf8from }

pub returns-in-Some : goal.returns-in-Some
returns-in-Some c = λ string. end_same c.args.line.now _ _ c.type_end.result (typed-some string _ _ _ (head_found (λ x. eqb x (code "^")) _ _ c.in-Some.ensures.same)) (c.type_end.ensures string)
