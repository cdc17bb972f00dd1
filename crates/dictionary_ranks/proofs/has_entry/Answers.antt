use native.Mathlib.Omega.{arith}
use Rattle.dictionary_ranks.proofs.Taken.{not_taken, is_below}
use Rattle.dictionary_ranks.proofs.has_entry.Goals as goal

-- src/lib.rt:56:9
pub returns-then-kind-eq-NO_KIND : goal.returns-then-kind-eq-NO_KIND
returns-then-kind-eq-NO_KIND c = not_taken c.args.f c.args.term (λ H. omega (arith, H.least, c.if-kind-eq-NO_KIND.true))

-- src/lib.rt:59:9
pub returns-then-number-first_number : goal.returns-then-number-first_number
returns-then-number-first_number c = not_taken c.args.f c.args.term (λ H. omega (arith, H.first, c.first_number.ensures, c.if-number-first_number.true))

-- src/lib.rt:50:1
pub returns : goal.returns
returns c = is_below c.args.f c.args.term c.number_of.result (omega arith) (omega arith) c.number_of.ensures
