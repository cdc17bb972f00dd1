-- A question that is computed among listed triples gets the reply that the claim words. Assumes nothing.
use Rattle.std.specs.Prelude.{Ok, Err}
use Prim.Native.Nat.{ℕ, ◌*◌, ◌/◌, ◌≤◌, ◌<◌}
use mathlib.Core.Path.{◌≡◌, subst}
use mathlib.Core.Bool.{true, false}
use mathlib.Core.Logic.{◌↔◌, ⊎_elim}
use mathlib.Core.List.{List, Memᴰ}
use native.Mathlib.Nat.{le-div_iff_mul-le}
use native.Mathlib.Omega.{arith}
use lib.ListN.{length, replicate}
use borrow.Author.Tests.{leb-true, leb-false}
use Rattle.spec.specs.declared.Triple.{Triple}
use Rattle.spec.specs.Refusals.{first_refusal}
use Rattle.spec.proofs.Lists.{by_test, le_or}
use Rattle.spec.specs.Outputs.{are_fitting, replied, filled, give}
use Rattle.spec.specs.Questions.{head_count, atoms, head, is_question, is_head_bound, IsAnswer, question_rows, ask}
use Rattle.spec.proofs.Meaning.{answers_iff}
use Rattle.spec.proofs.QuestionLaws.{question_laid}
use Rattle.spec.proofs.AnswerLaws.{answers-ordered, head_stands}
use Rattle.spec.proofs.RefusalLaws as refusal
use Rattle.spec.specs.Demand3.{RowsOf, Replies}

-- ---- the room

-- Rows fit whole exactly where their words do.
room_for : (m len : ℕ) (R : List (List ℕ)) → 0 < m → are_fitting m len R ≡ true → length R * m ≤ len
unfolding are_fitting
room_for m len R h e = (le-div_iff_mul-le h).0 (leb-true (length R) (len / m) e)

no_room_for : (m len : ℕ) (R : List (List ℕ)) → 0 < m → are_fitting m len R ≡ false → len < length R * m
unfolding are_fitting
no_room_for m len R h e =
    ⊎_elim
    (λ (k : length R * m ≤ len). let l : length R ≤ len / m = (le-div_iff_mul-le h).1 k in absurd (omega (arith, leb-false (length R) (len / m) e)))
    (λ (k : len < length R * m). k)
    (le_or (length R * m) len)

-- ---- the reply

-- An answer in a graph is one in any that has its triples.
answer_in : {G H : Triple → Type 0} {ps : List Triple} {vs row : List ℕ} → ((t : Triple) → G t → H t) → IsAnswer G ps vs row → IsAnswer H ps vs row
answer_in f A = record { mapping = A.mapping; solves = λ a m. f _ (A.solves a m); gives = A.gives }

module _ (K : List Triple) (G : Triple → Type 0) (same : (t : Triple) → Memᴰ t K ↔ G t) (q : List ℕ) (len : ℕ) where
  -- The computed rows among listed triples are the rows of a graph that has the same triples.
  rows_of : is_question q ≡ true → is_head_bound q ≡ true → RowsOf G q (question_rows K q)
  rows_of e f = record {
    ascend = answers-ordered K (atoms q) (head q);
    exactly = λ row.
        let r = answers_iff K (atoms q) (head q) row (head_stands q e f) in
        (λ m. answer_in (λ t. (same t).0) (r.0 m), λ a. r.1 (answer_in (λ t. (same t).1) a));
  }

  -- Rows that fit are given,
  asked-given : is_question q ≡ true → is_head_bound q ≡ true → are_fitting (head_count q) len (question_rows K q) ≡ true → replied (Ok (length (question_rows K q))) (filled len (question_rows K q)) ≡ ask true K q len
  unfolding ask first_refusal give
  asked-given e f g = rw (e, f, g)

  -- and those that do not are refused by 8.
  asked_8 : is_question q ≡ true → is_head_bound q ≡ true → are_fitting (head_count q) len (question_rows K q) ≡ false → replied (Err 8) (replicate len 0) ≡ ask true K q len
  unfolding ask first_refusal give
  asked_8 e f g = rw (e, f, g)

  -- So a question put to well-formed tables gets its reply.
  pub asked_replies : Replies G q len (ask true K q len)
  asked_replies =
      by_test (is_question q)
      (λ e. let h : 0 < head_count q = (question_laid q e).head-some in
      by_test (is_head_bound q)
      (λ f. by_test (are_fitting (head_count q) len (question_rows K q))
      (λ g. subst (Replies G q len) (asked-given e f g) (Replies.given e f (rows_of e f) (room_for (head_count q) len (question_rows K q) h g)))
      (λ g. subst (Replies G q len) (asked_8 e f g) (Replies.refused_8 e f (rows_of e f) (no_room_for (head_count q) len (question_rows K q) h g))))
      (λ f. subst (Replies G q len) (refusal.refused_7 K q len e f) (Replies.refused_7 e f)))
      (λ e. subst (Replies G q len) (refusal.refused_6 K q len e) (Replies.refused_6 e))
