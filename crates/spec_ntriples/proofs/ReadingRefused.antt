-- A reading is refused by the first "no", and then changes nothing (reading_refused, reading_refused_leaves, reading_accepted, at the end).
-- Assumes nothing.
use Rattle.std.specs.Prelude.{Ok, Err}
use Prim.Native.Nat.{ℕ, suc, ◌+◌, ◌*◌, ◌≤◌, min}
use mathlib.Core.Path.{◌≡◌, refl, sym, ap, ◌∙◌, subst}
use mathlib.Core.Bool.{Bool, true, false, ◌&&◌}
use mathlib.Core.Logic.{◌↔◌, ◌⊎◌, inl, inr, ⊎_elim}
use mathlib.Core.List.{List, [], ◌∷◌, ◌++◌, map}
use native.Mathlib.Omega.{arith}
use lib.ListN.{length, replicate, length-append}
use lib.Dec.{leb}
use borrow.Author.Tests.{leb-true, leb-false, le-leb, lt-leb}
use Rattle.spec.specs.Outputs.{Reply}
use Rattle.spec.specs.declared.Triple.{Triple}
use Rattle.spec.specs.Terms.{is_statement}
use Rattle.spec.specs.Refusals.{first_refusal}
use Rattle.spec.specs.Lists.{select}
use Rattle.spec.specs.Deliveries.{is_fact}
use Rattle.spec.specs.Messages.{most_bytes}
use Rattle.spec.proofs.Lists.{by_test}
use Rattle.spec.specs.Messages as format
use Rattle.spec_ntriples.specs.Texts.{TextTriple}
use Rattle.spec_ntriples.specs.computed.Lines.{Document, refused, triples, document}
use Rattle.spec_ntriples.specs.Dictionary.{Entry, bytes_of_entries, are_numbers_enough, is_dictionary}
use Rattle.spec_ntriples.specs.Reading.{triple_of, additions, text_triples, is_right, ReadFile, read_file, conclude_reading, read_nTriples}
use Rattle.spec_ntriples.specs.Promises.{entries_with, RefusedBy, Accepted}

-- ---- the length of a delivery

pub entries-length : (ts : List Triple) → length (format.entries_bytes ts) ≡ length ts * 12
unfolding format.entries_bytes format.entry_bytes format.word_bytes format.short_bytes
entries-length [] = refl
entries-length (t ∷ ts) = omega (arith, entries-length ts)

-- Each triple is a statement or a fact.
pub selected : (ts : List Triple) → length (select is_statement ts) + length (select is_fact ts) ≡ length ts
unfolding select
selected [] = refl
selected (t ∷ ts) =
    by_test (is_statement t) (λ p. rw p (omega (arith, selected ts))) (λ p. rw p (omega (arith, selected ts)))

pub additions-length : (ts : List Triple) → length (format.encode (additions ts)) ≡ 10 + 12 * length ts
unfolding additions format.encode format.section_bytes format.short_bytes format.fields_bytes format.entries_bytes
additions-length ts =
    let s = select is_statement ts in
    let f = select is_fact ts in
    omega (
      arith,
      selected ts,
      entries-length s,
      entries-length f,
      length-append (format.entries_bytes s) (format.short_bytes (length f) ++ (format.entries_bytes f ++ (format.short_bytes 0 ++ []))),
      length-append (format.entries_bytes f) (format.short_bytes 0 ++ []),
    )

pub length-map : {A B : Type 0} (f : A → B) (xs : List A) → length (map f xs) ≡ length xs
length-map f [] = refl
length-map f (x ∷ xs) = ap suc (length-map f xs)

pub and_no : (a b : Bool) → b ≡ false → (a && b) ≡ false
and_no true b h = h
and_no false b h = refl

-- ---- replies

pub length-not : {C : Type 0} {m n : ℕ} → ◌≡◌ {A = Reply} (Ok m) (Err n) → C
length-not e = let z : ◌≡◌ {A = ℕ} 0 1 = cc in absurd (omega arith)

pub refused-number : (m n : ℕ) → ◌≡◌ {A = Reply} (Err m) (Err n) → m ≡ n
refused-number m n e = cc

pub length-number : (m n : ℕ) → ◌≡◌ {A = Reply} (Ok m) (Ok n) → m ≡ n
length-number m n e = cc

-- ---- each outcome

module _ (dictionary file : List ℕ) (len : ℕ) where
  -- A refusal as a whole.
  abbrev refusal : ℕ → ReadFile
  refusal n = read_file (Err n) dictionary (replicate len 0)

  by_1 : is_dictionary dictionary ≡ false → read_nTriples dictionary file len ≡ refusal 1
  unfolding read_nTriples first_refusal conclude_reading
  by_1 h = rw h

  by_13 : is_dictionary dictionary ≡ true → document file ≡ refused → read_nTriples dictionary file len ≡ refusal 13
  unfolding read_nTriples first_refusal conclude_reading is_right
  by_13 h d = rw (h, d)

  module _ (ts : List TextTriple) (h : is_dictionary dictionary ≡ true) (d : document file ≡ triples ts) where
    by-14 : (leb (length (bytes_of_entries (entries_with dictionary ts))) (length dictionary) && are_numbers_enough (entries_with dictionary ts)) ≡ false → read_nTriples dictionary file len ≡ refusal 14
    unfolding read_nTriples first_refusal conclude_reading is_right text_triples
    by-14 f = rw (h, d, f)

    by-15 : (leb (length (bytes_of_entries (entries_with dictionary ts))) (length dictionary) && are_numbers_enough (entries_with dictionary ts)) ≡ true → leb (10 + 12 * length ts) (min len most_bytes) ≡ false → read_nTriples dictionary file len ≡ refusal 15
    unfolding read_nTriples first_refusal conclude_reading is_right text_triples
    by-15 f g = rw (h, d, f, g)

    by_none : (leb (length (bytes_of_entries (entries_with dictionary ts))) (length dictionary) && are_numbers_enough (entries_with dictionary ts)) ≡ true → leb (10 + 12 * length ts) (min len most_bytes) ≡ true → read_nTriples dictionary file len ≡ conclude_reading 0 dictionary (entries_with dictionary ts) (map (triple_of (entries_with dictionary ts)) ts) len
    unfolding read_nTriples first_refusal is_right text_triples
    by_none f g = rw (h, d, f, g)

  -- ---- the outcome

  -- A reading that is refused.
  record Refusal : Type 0 where
    number : ℕ
    by : RefusedBy dictionary file len number
    is : read_nTriples dictionary file len ≡ refusal number

  -- One that is accepted.
  record Acceptance : Type 0 where
    size : ℕ
    by : Accepted dictionary file len size
    is : (read_nTriples dictionary file len).reply ≡ Ok size

  -- What an accepted reading gives.
  pub accepted_is : (n : ℕ) (A : Accepted dictionary file len n) → read_nTriples dictionary file len ≡ conclude_reading 0 dictionary (entries_with dictionary A.lines) (map (triple_of (entries_with dictionary A.lines)) A.lines) len
  accepted_is n A = by_none A.lines A.formed A.said (rw (le-leb _ _ A.space, A.numbers)) (le-leb _ _ A.room)

  accepted_reply : (n : ℕ) → Accepted dictionary file len n → (read_nTriples dictionary file len).reply ≡ Ok n
  unfolding conclude_reading
  accepted_reply n A =
      let es : List Entry = entries_with dictionary A.lines in
      rw (accepted_is n A)
      (ap Ok (additions-length (map (triple_of es) A.lines) ∙ ap (λ (m : ℕ). 10 + 12 * m) (length-map (triple_of es) A.lines) ∙ sym A.size))

  in_room : (ts : List TextTriple) → is_dictionary dictionary ≡ true → document file ≡ triples ts → length (bytes_of_entries (entries_with dictionary ts)) ≤ length dictionary → are_numbers_enough (entries_with dictionary ts) ≡ true → Refusal ⊎ Acceptance
  in_room ts h d s e =
      let f : (leb (length (bytes_of_entries (entries_with dictionary ts))) (length dictionary) && are_numbers_enough (entries_with dictionary ts)) ≡ true = rw (le-leb _ _ s, e) in
      by_test (leb (10 + 12 * length ts) (min len most_bytes))
      (λ p.
      let A : Accepted dictionary file len (10 + 12 * length ts) = record { lines = ts; formed = h; said = d; space = s; numbers = e; room = leb-true _ _ p; size = refl } in
      inr (record { size = 10 + 12 * length ts; by = A; is = accepted_reply (10 + 12 * length ts) A }))
      (λ p. inl (record { number = 15; by = RefusedBy.no_room refl h ts d s e (leb-false _ _ p); is = by-15 ts h d f p }))

  in_space : (ts : List TextTriple) → is_dictionary dictionary ≡ true → document file ≡ triples ts → Refusal ⊎ Acceptance
  in_space ts h d =
      let es : List Entry = entries_with dictionary ts in
      by_test (leb (length (bytes_of_entries es)) (length dictionary))
      (λ p.
      by_test (are_numbers_enough es)
      (λ q. in_room ts h d (leb-true _ _ p) q)
      (λ q. inl (record { number = 14; by = RefusedBy.no_number refl h ts d q; is = by-14 ts h d (rw (p, q)) })))
      (λ p. inl (record { number = 14; by = RefusedBy.no_space refl h ts d (leb-false _ _ p); is = by-14 ts h d (rw p) }))

  in_grammar : (d : Document) → document file ≡ d → is_dictionary dictionary ≡ true → Refusal ⊎ Acceptance
  in_grammar refused e h = inl (record { number = 13; by = RefusedBy.wrong_line refl h e; is = by_13 h e })
  in_grammar (triples ts) e h = in_space ts h e

  outcome : Refusal ⊎ Acceptance
  outcome =
      by_test (is_dictionary dictionary) (in_grammar (document file) refl)
      (λ p. inl (record { number = 1; by = RefusedBy.no_dictionary refl p; is = by_1 p }))

  -- ---- the theorems

  refused_by : (n : ℕ) → RefusedBy dictionary file len n → read_nTriples dictionary file len ≡ refusal n
  refused_by n (RefusedBy.no_dictionary e h) = rw e (by_1 h)
  refused_by n (RefusedBy.wrong_line e h d) = rw e (by_13 h d)
  refused_by n (RefusedBy.no_space e h ts d s) = rw e (by-14 ts h d (rw (lt-leb _ _ s)))
  refused_by n (RefusedBy.no_number e h ts d q) = rw e (by-14 ts h d (and_no (leb (length (bytes_of_entries (entries_with dictionary ts))) (length dictionary)) (are_numbers_enough (entries_with dictionary ts)) q))
  refused_by n (RefusedBy.no_room e h ts d s q r) = rw e (by-15 ts h d (rw (le-leb _ _ s, q)) (lt-leb _ _ r))

  -- Theorem 4: a reading is refused by n exactly where n is the number of the first "no" of 1, 13, 14 and 15.
  pub reading_refused : (n : ℕ) → ((read_nTriples dictionary file len).reply ≡ Err n) ↔ RefusedBy dictionary file len n
  reading_refused n = (
    λ e. ⊎_elim
        (λ (R : Refusal). subst (RefusedBy dictionary file len) (refused-number R.number n (sym (ap (λ (r : ReadFile). r.reply) R.is) ∙ e)) R.by)
        (λ (A : Acceptance). length-not (sym A.is ∙ e))
        outcome,
    λ (R : RefusedBy dictionary file len n). ap (λ (r : ReadFile). r.reply) (refused_by n R),
  )

  -- It then leaves the dictionary as it was, and zeros.
  pub reading_refused_leaves : (n : ℕ) → (read_nTriples dictionary file len).reply ≡ Err n → read_nTriples dictionary file len ≡ read_file (Err n) dictionary (replicate len 0)
  reading_refused_leaves n e = refused_by n ((reading_refused n).0 e)

  -- Otherwise the reply is the length of the delivery.
  pub reading_accepted : (n : ℕ) → ((read_nTriples dictionary file len).reply ≡ Ok n) ↔ Accepted dictionary file len n
  reading_accepted n = (
    λ e. ⊎_elim
        (λ (R : Refusal). length-not (sym e ∙ ap (λ (r : ReadFile). r.reply) R.is))
        (λ (A : Acceptance). subst (Accepted dictionary file len) (length-number A.size n (sym A.is ∙ e)) A.by)
        outcome,
    accepted_reply n,
  )
