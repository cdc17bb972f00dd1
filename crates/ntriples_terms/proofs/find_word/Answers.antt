use native.Mathlib.Omega.{arith}
use Prim.Native.Nat.{◌-◌}
use Rattle.ntriples_terms.proofs.Found.{found_kept, found_new}
use Rattle.ntriples_terms.proofs.find_word.Goals as goal

-- src/lib.rt:92:9
pub returns-then-word-gt0 : goal.returns-then-word-gt0
returns-then-word-gt0 c = λ es t X H. found_kept es t.bytes c.args.word (λ e. omega (arith, e, c.if-word-gt0.true))

-- src/lib.rt:79:1
pub returns : goal.returns
returns c = λ es t X H. found_new es t.bytes c.args.word _ (omega (arith, c.if-word-gt0.false)) (c.find_term.ensures es t X H)
