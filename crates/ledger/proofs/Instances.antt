-- The worked list of calls in the store: its answers and words by demand 3, and a question put after it by both ways. Assumes nothing.
use Prim.Native.Nat.{ℕ}
use mathlib.Core.Path.{◌≡◌, refl, ap, ◌∙◌}
use mathlib.Core.List.{List, [], ◌∷◌, ◌++◌}
use native.Mathlib.Omega.{arith}
use Rattle.spec.specs.Rules.{Follows}
use Rattle.spec.specs.Tables.{flatten, layout, Ledger}
use Rattle.spec.specs.Ledger.{Run, run}
use Rattle.spec.specs.Demand3.{store_run, graph_of, Replies, Demand3}
use Rattle.spec.proofs.Worked.{compute, worked_delivery, broken_delivery, worked_calls, worked_answers, worked_ledger, worked_tables, worked-ledger, worked_question, worked_reply, worked_kept, worked_rewritten}
use Rattle.ledger_call.specs.inside.Calls.{call_of, calls_from, encoded}
use Rattle.ledger.proofs.History.{laid_out, run-words, history}

-- The ledger's words, by computation.
worked-words : laid_out 4 7 13 3 worked_ledger ≡ worked_tables
unfolding compute flatten layout laid_out
worked-words = refl

-- The store gives the ledger's answers and has these words, by demand 3.
pub worked_store : store_run 4 7 13 3 worked_calls ≡ run worked_answers worked_tables
worked_store =
    let D = history 4 7 13 3 (omega arith) (omega arith) (omega arith) worked_calls in
    let a : (store_run 4 7 13 3 worked_calls).given ≡ worked_answers = D.answers ∙ ap (λ (r : Run Ledger). r.given) worked-ledger in
    let w : (store_run 4 7 13 3 worked_calls).after ≡ worked_tables = run-words 4 7 13 3 (omega arith) (omega arith) (omega arith) worked_calls ∙ ap (λ (r : Run Ledger). laid_out 4 7 13 3 r.after) worked-ledger ∙ worked-words in
    λ i. run (a i) (w i)

-- Demand 3 holds of the worked run,
pub worked_claim : Demand3 4 7 13 3 (run worked_answers worked_ledger) (run worked_answers worked_tables)
worked_claim = rw (worked-ledger, worked_store) at (history 4 7 13 3 (omega arith) (omega arith) (omega arith) worked_calls)

-- and so this is the reply among what follows from the ledger's triples, by the kept way and by the rewritten way.
pub worked_kept_way : Replies (Follows (graph_of worked_ledger)) worked_question 8 worked_reply
worked_kept_way = rw worked_kept at (worked_claim.kept_way worked_question 8)

pub worked_rewritten_way : Replies (Follows (graph_of worked_ledger)) worked_question 8 worked_reply
worked_rewritten_way = rw worked_rewritten at (worked_claim.rewritten_way worked_question 8)

-- ---- the calls as words

-- The same calls, encoded: their words, and the bytes of the two deliveries one after the other.
abbrev pub worked_words : List ℕ
worked_words =
    0 ∷ 16 ∷ 2 ∷ 17
    ∷ 0 ∷ 32 ∷ 1 ∷ 16
    ∷ 0 ∷ 32 ∷ 1 ∷ 16
    ∷ 0 ∷ 16 ∷ 2 ∷ 17
    ∷ 0 ∷ 0 ∷ 1 ∷ 16
    ∷ 0 ∷ 16 ∷ 2 ∷ 1
    ∷ 0 ∷ 17 ∷ 2 ∷ 18
    ∷ 0 ∷ 33 ∷ 1 ∷ 16
    ∷ 1 ∷ 40 ∷ 19 ∷ 41
    ∷ 2 ∷ 0 ∷ 59 ∷ 0
    ∷ 2 ∷ 59 ∷ 23 ∷ 0
    ∷ 1 ∷ 32 ∷ 19 ∷ 33
    ∷ []

pub worked-encoded : encoded worked_words (worked_delivery ++ broken_delivery) ≡ worked_calls
unfolding call_of calls_from
worked-encoded = refl
