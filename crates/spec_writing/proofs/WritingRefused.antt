-- A writing is refused by the first "no", and then leaves zeros; else it gives the lines (writing_refused, writing_refused_leaves,
-- writing_accepted, writing_accepted_gives, at the end). Assumes nothing.
use Rattle.std.specs.Prelude.{Ok, Err}
use Prim.Native.Nat.{ℕ, zero, ◌-◌, ◌<◌}
use mathlib.Core.Path.{◌≡◌, refl, sym, ap, ◌∙◌, subst}
use mathlib.Core.Bool.{Bool, true, false, ◌&&◌}
use mathlib.Core.Logic.{◌↔◌, ◌⊎◌, inl, inr, ⊎_elim}
use mathlib.Core.List.Memᴰ
use mathlib.Core.List.{List, [], ◌∷◌, Memᴰ}
use native.Mathlib.Omega.{arith}
use lib.ListN.{length, replicate, length-append, length-replicate}
use lib.Dec.{leb, ltb}
use borrow.Author.Tests.{leb-true, leb-false, le-leb, lt-leb, ltb-true, ltb-false}
use Rattle.spec.specs.declared.Triple.{Triple}
use Rattle.spec.specs.Lists.{all, padded}
use Rattle.spec.specs.Refusals.{first_refusal}
use Rattle.spec.specs.Tables.{rows}
use Rattle.spec.proofs.Lists.{by_test, true-not_false}
use Rattle.spec.proofs.TableAll.{all-member}
use Rattle.spec_ntriples.specs.Dictionary.{Entry, entries, is_dictionary}
use Rattle.spec_ntriples.specs.Sights.{text_of}
use Rattle.spec_ntriples.proofs.ReadingRefused.{and_no, length-not, refused-number, length-number}
use Rattle.spec_writing.specs.Writing.{rows_bytes, has_text, has_texts, Written, written, give_bytes, write_rows}
use Rattle.spec_writing.specs.WritingPromises.{NoText, WritingRefusedBy, WritingAccepted}
use Rattle.spec_writing.proofs.WrittenRows.{all_texts}

-- ---- terms without a text

empty-text : (t : List ℕ) → ltb 0 (length t) ≡ false → t ≡ []
empty-text [] h = refl
empty-text (b ∷ t) h = let k = ltb-false 0 (length (b ∷ t)) h in absurd (omega (arith, k))

no_text_none : (es : List Entry) (w : ℕ) → has_text es w ≡ false → text_of es w ≡ []
unfolding has_text
no_text_none es w h = empty-text (text_of es w) h

none_no_text : {C : Type 0} (es : List Entry) (w : ℕ) → has_text es w ≡ true → text_of es w ≡ [] → C
unfolding has_text
none_no_text es w h e = let k : 0 < length (text_of es w) = ltb-true 0 _ h in let z : length (text_of es w) ≡ 0 = ap length e in absurd (omega (arith, k, z))

-- The term of a row that has none.
row_lacks : (es : List Entry) (ts : List Triple) (t : Triple) → Memᴰ t ts → has_texts es t ≡ false → NoText es ts
unfolding has_texts
row_lacks es ts t m h =
    by_test (has_text es t.subject)
    (λ a. by_test (has_text es t.property)
    (λ b. record { row = t; listed = m; term = t.object; stands = Memᴰ.tail (Memᴰ.tail (Memᴰ.head refl)); none = no_text_none es t.object (rw (a, b) at h) })
    (λ b. record { row = t; listed = m; term = t.property; stands = Memᴰ.tail (Memᴰ.head refl); none = no_text_none es t.property b }))
    (λ a. record { row = t; listed = m; term = t.subject; stands = Memᴰ.head refl; none = no_text_none es t.subject a })

no_text_more : (es : List Entry) (t : Triple) (ts : List Triple) → NoText es ts → NoText es (t ∷ ts)
no_text_more es t ts N = record { row = N.row; listed = Memᴰ.tail N.listed; term = N.term; stands = N.stands; none = N.none }

-- Where not all rows have all texts, a term has none,
rows_lack : (es : List Entry) (ts : List Triple) → all (has_texts es) ts ≡ false → NoText es ts
unfolding all
rows_lack es [] h = absurd (true-not_false h)
rows_lack es (t ∷ ts) h =
    by_test (has_texts es t) (λ p. no_text_more es t ts (rows_lack es ts (rw p at h))) (λ p. row_lacks es (t ∷ ts) t (Memᴰ.head refl) p)

-- and back.
rows_have : (es : List Entry) (ts : List Triple) → all (has_texts es) ts ≡ true → NoText es ts → ⊥
rows_have es ts h N =
    let a = all_texts es N.row (all-member (has_texts es) ts h N.listed) in
    ⊎_elim
    (λ (e : N.term ≡ N.row.subject). none_no_text es N.row.subject a.subject (ap (text_of es) (sym e) ∙ N.none))
    (λ m. ⊎_elim
    (λ (e : N.term ≡ N.row.property). none_no_text es N.row.property a.property (ap (text_of es) (sym e) ∙ N.none))
    (λ n. ⊎_elim
    (λ (e : N.term ≡ N.row.object). none_no_text es N.row.object a.object (ap (text_of es) (sym e) ∙ N.none))
    (λ k. Memᴰ.not-nil k)
    (Memᴰ.cases_cons n))
    (Memᴰ.cases_cons m))
    (Memᴰ.cases_cons N.stands)

pub none_lacks : (es : List Entry) (ts : List Triple) → (NoText es ts → ⊥) → all (has_texts es) ts ≡ true
none_lacks es ts h = by_test (all (has_texts es) ts) (λ p. p) (λ p. absurd (h (rows_lack es ts p)))

some_lacks : (es : List Entry) (ts : List Triple) → NoText es ts → all (has_texts es) ts ≡ false
some_lacks es ts N = by_test (all (has_texts es) ts) (λ p. absurd (rows_have es ts p N)) (λ p. p)

-- ---- each outcome

module _ (formed : Bool) (table dictionary : List ℕ) (len : ℕ) where
  -- The entries, and the lines.
  abbrev es : List Entry
  es = entries dictionary

  abbrev lines : List ℕ
  lines = rows_bytes es (rows table)

  -- A refusal as a whole.
  abbrev refusal : ℕ → Written
  refusal n = written (Err n) (replicate len 0)

  by_1 : (formed && is_dictionary dictionary) ≡ false → write_rows formed table dictionary len ≡ refusal 1
  unfolding write_rows first_refusal give_bytes
  by_1 h = rw h

  by_16 : (formed && is_dictionary dictionary) ≡ true → all (has_texts es) (rows table) ≡ false → write_rows formed table dictionary len ≡ refusal 16
  unfolding write_rows first_refusal give_bytes
  by_16 h s = rw (h, s)

  by_8 : (formed && is_dictionary dictionary) ≡ true → all (has_texts es) (rows table) ≡ true → leb (length lines) len ≡ false → write_rows formed table dictionary len ≡ refusal 8
  unfolding write_rows first_refusal give_bytes
  by_8 h s f = rw (h, s, f)

  by_none : (formed && is_dictionary dictionary) ≡ true → all (has_texts es) (rows table) ≡ true → leb (length lines) len ≡ true → write_rows formed table dictionary len ≡ written (Ok (length lines)) (padded len lines)
  unfolding write_rows first_refusal give_bytes
  by_none h s f = rw (h, s, f)

  -- ---- the outcome

  -- A writing that is refused.
  record Refusal : Type 0 where
    number : ℕ
    by : WritingRefusedBy formed table dictionary len number
    is : write_rows formed table dictionary len ≡ refusal number

  -- One that is accepted.
  record Acceptance : Type 0 where
    size : ℕ
    by : WritingAccepted formed table dictionary len size
    is : write_rows formed table dictionary len ≡ written (Ok size) (padded len lines)

  in_texts : formed ≡ true → is_dictionary dictionary ≡ true → all (has_texts es) (rows table) ≡ true → Refusal ⊎ Acceptance
  in_texts a b s =
      let h : (formed && is_dictionary dictionary) ≡ true = rw (a, b) in
      by_test (leb (length lines) len)
      (λ p.
      inr (record {
        size = length lines;
        by = record { table_formed = a; dictionary_formed = b; have_texts = rows_have es (rows table) s; room = leb-true _ _ p; size = refl };
        is = by_none h s p;
      }))
      (λ p. inl (record { number = 8; by = WritingRefusedBy.no_room refl a b (rows_have es (rows table) s) (leb-false _ _ p); is = by_8 h s p }))

  in_form : formed ≡ true → is_dictionary dictionary ≡ true → Refusal ⊎ Acceptance
  in_form a b =
      by_test (all (has_texts es) (rows table)) (in_texts a b)
      (λ p. inl (record { number = 16; by = WritingRefusedBy.no_text refl a b (rows_lack es (rows table) p); is = by_16 (rw (a, b)) p }))

  outcome : Refusal ⊎ Acceptance
  outcome =
      by_test formed
      (λ a.
      by_test (is_dictionary dictionary) (in_form a)
      (λ b. inl (record { number = 1; by = WritingRefusedBy.no_dictionary refl b; is = by_1 (rw (a, b)) })))
      (λ a. inl (record { number = 1; by = WritingRefusedBy.no_table refl a; is = by_1 (rw a) }))

  -- ---- the theorems

  refused_by : (n : ℕ) → WritingRefusedBy formed table dictionary len n → write_rows formed table dictionary len ≡ refusal n
  refused_by n (WritingRefusedBy.no_table e a) = rw e (by_1 (rw a))
  refused_by n (WritingRefusedBy.no_dictionary e b) = rw e (by_1 (and_no formed (is_dictionary dictionary) b))
  refused_by n (WritingRefusedBy.no_text e a b N) = rw e (by_16 (rw (a, b)) (some_lacks es (rows table) N))
  refused_by n (WritingRefusedBy.no_room e a b s r) = rw e (by_8 (rw (a, b)) (none_lacks es (rows table) s) (lt-leb _ _ r))

  -- Theorem 5: a writing is refused by n exactly where n is the number of the first "no" of 1, 16 and 8.
  pub writing_refused : (n : ℕ) → ((write_rows formed table dictionary len).reply ≡ Err n) ↔ WritingRefusedBy formed table dictionary len n
  writing_refused n = (
    λ e. ⊎_elim
        (λ (R : Refusal). subst (WritingRefusedBy formed table dictionary len) (refused-number R.number n (sym (ap (λ (r : Written). r.reply) R.is) ∙ e)) R.by)
        (λ (A : Acceptance). length-not (sym (ap (λ (r : Written). r.reply) A.is) ∙ e))
        outcome,
    λ (R : WritingRefusedBy formed table dictionary len n). ap (λ (r : Written). r.reply) (refused_by n R),
  )

  -- It then leaves zeros.
  pub writing_refused_leaves : (n : ℕ) → (write_rows formed table dictionary len).reply ≡ Err n → (write_rows formed table dictionary len).bytes ≡ replicate len 0
  writing_refused_leaves n e = ap (λ (r : Written). r.bytes) (refused_by n ((writing_refused n).0 e))

  accepted_is : (n : ℕ) → WritingAccepted formed table dictionary len n → write_rows formed table dictionary len ≡ written (Ok n) (padded len lines)
  accepted_is n A =
      by_none (rw (A.table_formed, A.dictionary_formed)) (none_lacks es (rows table) A.have_texts) (le-leb _ _ A.room)
      ∙ ap (λ (m : ℕ). written (Ok m) (padded len lines)) (sym A.size)

  -- Otherwise the reply is the length of the lines,
  pub writing_accepted : (n : ℕ) → ((write_rows formed table dictionary len).reply ≡ Ok n) ↔ WritingAccepted formed table dictionary len n
  writing_accepted n = (
    λ e. ⊎_elim
        (λ (R : Refusal). length-not (sym e ∙ ap (λ (r : Written). r.reply) R.is))
        (λ (A : Acceptance). subst (WritingAccepted formed table dictionary len) (length-number A.size n (sym (ap (λ (r : Written). r.reply) A.is) ∙ e)) A.by)
        outcome,
    λ (A : WritingAccepted formed table dictionary len n). ap (λ (r : Written). r.reply) (accepted_is n A),
  )

  -- and the output is the lines and zeros.
  pub writing_accepted_gives : (n : ℕ) → (write_rows formed table dictionary len).reply ≡ Ok n → (write_rows formed table dictionary len).bytes ≡ padded len (rows_bytes (entries dictionary) (rows table))
  writing_accepted_gives n e = ap (λ (r : Written). r.bytes) (accepted_is n ((writing_accepted n).0 e))

  -- The output stays as long as it was.
  pub writing_length : length (write_rows formed table dictionary len).bytes ≡ len
  writing_length =
      ⊎_elim
      (λ (R : Refusal). ap (λ (r : Written). length r.bytes) R.is ∙ length-replicate len zero)
      (λ (A : Acceptance).
      ap (λ (r : Written). length r.bytes) A.is
      ∙ omega (arith, A.by.room, length-append lines (replicate (len - length lines) 0), length-replicate (len - length lines) (zero)))
      outcome
