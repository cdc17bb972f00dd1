-- Laws of the texts of entries: canonical, none of the vocabulary, and distinct. Assumes nothing.
use Prim.Native.Nat.{ℕ, zero, suc, ◌+◌, ◌<◌}
use mathlib.Core.Path.{◌≡◌, refl, sym, ap, ◌∙◌}
use mathlib.Core.Bool.{Bool, true, false, ◌&&◌}
use mathlib.Core.List.{List, [], ◌∷◌, ◌++◌}
use native.Mathlib.Omega.{arith}
use lib.Dec.{eqb}
use borrow.Author.Tests.{ne_eqb}
use Rattle.spec.proofs.Lists.{by_test}
use Rattle.spec.specs.inside.Each.{Each}
use Rattle.spec_ntriples.specs.Texts.{is_same_text}
use Rattle.spec_ntriples.specs.Dictionary.{Entry, vocabulary_of, term_in, are_texts}
use Rattle.spec_ntriples.specs.computed.Canonical.{is_canonical}
use Rattle.spec_ntriples.proofs.KnownTexts.{HasTerm}
use Rattle.dictionary_bytes.specs.inside.Entries.{length_at, text_at, place_at, entries_at}
use Rattle.dictionary_bytes.proofs.Same.{equal_same, differ_other}
use Rattle.dictionary_entries.proofs.Standing.{place_behind}
use Rattle.dictionary_step.specs.inside.Filling.{HasOwnText}

-- ---- a text that no entry may have

third_false : (a b c : Bool) → (a && (b && (c && false))) ≡ false
third_false true true true = refl
third_false true true false = refl
third_false true false c = refl
third_false false b c = refl

second_false : (a b : Bool) → (a && (b && false)) ≡ false
second_false true true = refl
second_false true false = refl
second_false false b = refl

first_false : (a b c : Bool) → (a && b) ≡ false → (a && (b && c)) ≡ false
first_false true b c e = rw e
first_false false b c e = refl

pub other_text : (es : List Entry) (e : Entry) (rest : List Entry) → (is_canonical e.text && eqb (vocabulary_of e.text) 0) ≡ false → are_texts (es ++ (e ∷ rest)) ≡ false
unfolding are_texts
other_text [] e rest h = first_false (is_canonical e.text) (eqb (vocabulary_of e.text) 0) (eqb (term_in rest e.text) 0 && are_texts rest) h
other_text (x ∷ es) e rest h = rw (other_text es e rest h) (third_false (is_canonical x.text) (eqb (vocabulary_of x.text) 0) (eqb (term_in (es ++ (e ∷ rest)) x.text) 0))

-- ---- distinct texts

module _ (bs : List ℕ) where
  -- A text that none of the entries has.
  none_has : (at k : ℕ) (t : List ℕ) → ((i : ℕ) → i < k → t ≡ text_at bs (place_at bs at i) → ⊥) → term_in (entries_at bs at k) t ≡ 0
  unfolding term_in entries_at place_at
  none_has at zero t h = refl
  none_has at (suc k) t h =
      rw (differ_other t (text_at bs at) (h 0 (omega arith)))
      (none_has (at + 12 + length_at bs at) k t (λ i l e. h (suc i) (omega arith) (e ∙ ap (text_at bs) (sym (place_behind bs at i)))))

  -- A text that one has.
  one_has : (at k j : ℕ) (t : List ℕ) → Each HasTerm (entries_at bs at k) → j < k → t ≡ text_at bs (place_at bs at j) → 0 < term_in (entries_at bs at k) t
  unfolding term_in entries_at place_at
  one_has at zero j t h l e = absurd (omega arith)
  one_has at (suc k) zero t h l e = rw (equal_same t (text_at bs at) e) h.0
  one_has at (suc k) (suc j) t h l e =
      by_test (is_same_text t (text_at bs at)) (λ p. rw p h.0)
      (λ p. rw p (one_has (at + 12 + length_at bs at) k j t h.1 (omega arith) (e ∙ ap (text_at bs) (place_behind bs at j))))

  -- The texts of k entries are as they may be where they are by themselves, and differ.
  pub texts_right : (at k : ℕ) → Each HasOwnText (entries_at bs at k) → ((i j : ℕ) → i < j → j < k → text_at bs (place_at bs at i) ≡ text_at bs (place_at bs at j) → ⊥) → are_texts (entries_at bs at k) ≡ true
  unfolding are_texts entries_at place_at
  texts_right at zero o d = refl
  texts_right at (suc k) o d =
      let next : ℕ = at + 12 + length_at bs at in
      let n = none_has next k (text_at bs at) (λ i l e. d 0 (suc i) (omega arith) (omega arith) (e ∙ ap (text_at bs) (sym (place_behind bs at i)))) in
      rw (o.0.canonical, o.0.own, n)
      (texts_right next k o.1 (λ i j l m e. d (suc i) (suc j) (omega arith) (omega arith) (ap (text_at bs) (place_behind bs at i) ∙ e ∙ ap (text_at bs) (sym (place_behind bs at j)))))

  -- They are not where two have one text.
  pub texts_repeat : (at k i j : ℕ) → Each HasTerm (entries_at bs at k) → i < j → j < k → text_at bs (place_at bs at i) ≡ text_at bs (place_at bs at j) → are_texts (entries_at bs at k) ≡ false
  unfolding are_texts entries_at place_at
  texts_repeat at zero i j h l m e = absurd (omega arith)
  texts_repeat at (suc k) i zero h l m e = absurd (omega arith)
  texts_repeat at (suc k) zero (suc j) h l m e =
      let t : List ℕ = text_at bs at in
      let es : List Entry = entries_at bs (at + 12 + length_at bs at) k in
      let o : 0 < term_in es t = one_has (at + 12 + length_at bs at) k j t h.1 (omega arith) (e ∙ ap (text_at bs) (place_behind bs at j)) in
      rw (ne_eqb (term_in es t) 0 (λ (q : term_in es t ≡ 0). omega (arith, q, o))) (second_false (is_canonical t) (eqb (vocabulary_of t) 0))
  texts_repeat at (suc k) (suc i) (suc j) h l m e =
      let next : ℕ = at + 12 + length_at bs at in
      let t : List ℕ = text_at bs at in
      rw (texts_repeat next k i j h.1 (omega arith) (omega arith) (ap (text_at bs) (sym (place_behind bs at i)) ∙ e ∙ ap (text_at bs) (place_behind bs at j)))
      (third_false (is_canonical t) (eqb (vocabulary_of t) 0) (eqb (term_in (entries_at bs next k) t) 0))
