-- A dictionary's terms and texts lead back and forth; its texts are canonical and of their terms' kinds (text_term, term_text, text_none,
-- text_canonical, text-kind, at the end). Assumes nothing.
use Prim.Native.Nat.{ℕ, zero, suc, ◌-◌, ◌≤◌, ◌<◌}
use mathlib.Core.Path.{◌≡◌, refl, sym, ap, ◌∙◌}
use mathlib.Core.Bool.{true, false, ◌&&◌}
use mathlib.Core.Logic.{◌↔◌, ⊎_elim}
use mathlib.Core.List.Memᴰ
use mathlib.Core.List.{List, [], ◌∷◌, Memᴰ}
use native.Mathlib.Omega.{arith}
use lib.ListN.{length, get_or}
use lib.Dec.{eqb, leb, eqb-suc-zero}
use borrow.Author.Tests.{eqb-true, eqb-false, leb-true, ltb-true}
use Rattle.spec.specs.Terms.{kind, is_vocabulary}
use Rattle.spec.specs.inside.Each.{Each}
use Rattle.spec.proofs.Lists.{by_test, true-not_false}
use Rattle.spec.proofs.Ascending.{and_left, and_right}
use Rattle.spec_ntriples.specs.Texts.{is_same_text}
use Rattle.spec_ntriples.specs.Dictionary.{Entry, entries, vocabulary_texts, vocabulary_of, term_in, term_of, kind_of, are_texts, is_dictionary}
use Rattle.spec_ntriples.specs.computed.Canonical.{is_canonical}
use Rattle.spec_ntriples.specs.Sights.{text_in, text_of}
use Rattle.spec_ntriples.specs.inside.Compute.{compute}
use Rattle.spec_ntriples.proofs.Canonical.{same_bytes, same_itself}
use Rattle.spec_ntriples.proofs.Numbers.{Numbered, numbers_enough, numbered-kind, numbered-entries}
use Rattle.spec_ntriples.proofs.KnownTexts.{HasTerm, numbered_has}
use Rattle.spec_ntriples.proofs.WordTexts.{vocabulary-kind, word_text}
use Rattle.spec_ntriples.proofs.ReadingDictionary.{formed}
use Rattle.spec_writing.specs.Writing.{has_text}

-- ---- the entry of a term

-- What holds of each entry holds of the one that has a term's text.
record Holding (P : Entry → Type 0) (es : List Entry) (w : ℕ) : Type 0 where
  here : Entry
  holds : P here
  term : here.term ≡ w
  text : here.text ≡ text_in es w

holding : (P : Entry → Type 0) (es : List Entry) (w : ℕ) → Each P es → 0 < length (text_in es w) → Holding P es w
unfolding text_in
holding P [] w h s = absurd (omega (arith, s))
holding P (e ∷ es) w h s =
    by_test (eqb w e.term)
    (λ p. record { here = e; holds = h.0; term = sym (eqb-true w e.term p); text = rw p })
    (λ p.
    let r = holding P es w h.1 (rw p at s) in
    record { here = r.here; holds = r.holds; term = r.term; text = rw p r.text })

-- What is asked of an entry's text alone.
record TextRight (e : Entry) : Type 0 where
  canonical : is_canonical e.text ≡ true
  other : vocabulary_of e.text ≡ 0

texts_right : (es : List Entry) → are_texts es ≡ true → Each TextRight es
unfolding are_texts
texts_right [] h = tt
texts_right (e ∷ es) h =
    let a = is_canonical e.text in
    let b = eqb (vocabulary_of e.text) 0 in
    let c = eqb (term_in es e.text) 0 in
    let i : (b && (c && are_texts es)) ≡ true = and_right a (b && (c && are_texts es)) h in (
      record { canonical = and_left a (b && (c && are_texts es)) h; other = eqb-true (vocabulary_of e.text) 0 (and_left b (c && are_texts es) i) },
      texts_right es (and_right c (are_texts es) (and_right b (c && are_texts es) i)),
    )

-- A text that stands in an entry stands in no other.
in_term : (es : List Entry) (w : ℕ) → are_texts es ≡ true → Each HasTerm es → 0 < length (text_in es w) → term_in es (text_in es w) ≡ w
unfolding are_texts term_in text_in
in_term [] w a h s = absurd (omega (arith, s))
in_term (e ∷ es) w a h s =
    by_test (eqb w e.term)
    (λ p. rw (p, same_itself e.text) (sym (eqb-true w e.term p)))
    (λ p.
    let a0 = is_canonical e.text in
    let a1 = eqb (vocabulary_of e.text) 0 in
    let a2 = eqb (term_in es e.text) 0 in
    let k : (a2 && are_texts es) ≡ true = and_right a1 (a2 && are_texts es) (and_right a0 (a1 && (a2 && are_texts es)) a) in
    let s' : 0 < length (text_in es w) = rw p at s in
    let i : term_in es (text_in es w) ≡ w = in_term es w (and_right a2 (are_texts es) k) h.1 s' in
    rw p
    (by_test (is_same_text (text_in es w) e.text)
    (λ q.
    let z : term_in es (text_in es w) ≡ 0 = ap (term_in es) (same_bytes (text_in es w) e.text q) ∙ eqb-true (term_in es e.text) 0 (and_left a2 (are_texts es) k) in
    let r = holding HasTerm es w h.1 s' in
    absurd (omega (arith, i, z, r.holds, r.term)))
    (λ q. rw q i)))

-- No canonical text is empty.
none_canonical : {C : Type 0} → is_canonical [] ≡ true → C
unfolding compute
none_canonical h = absurd (true-not_false (sym h))

-- A term has no text among entries exactly where none has the term.
in_some : (es : List Entry) (e : Entry) → Each TextRight es → Memᴰ e es → text_in es e.term ≡ [] → ⊥
unfolding text_in
in_some [] e h m q = Memᴰ.not-nil m
in_some (x ∷ es) e h m q =
    by_test (eqb e.term x.term)
    (λ p. none_canonical (rw (rw p at q) at h.0.canonical))
    (λ p. ⊎_elim (λ (i : e ≡ x). eqb-false e.term x.term p (ap (λ (y : Entry). y.term) i)) (λ j. in_some es e h.1 j (rw p at q)) (Memᴰ.cases_cons m))

in_none : (es : List Entry) (w : ℕ) → ((e : Entry) → Memᴰ e es → e.term ≡ w → ⊥) → text_in es w ≡ []
unfolding text_in
in_none [] w h = refl
in_none (x ∷ es) w h =
    by_test (eqb w x.term) (λ p. absurd (h x (Memᴰ.head refl) (sym (eqb-true w x.term p)))) (λ p. rw p (in_none es w (λ e m q. h e (Memᴰ.tail m) q)))

-- ---- the vocabulary

vocabulary_canonical : (n : ℕ) → n < 5 → is_canonical (get_or vocabulary_texts n []) ≡ true
unfolding compute
vocabulary_canonical zero h = refl
vocabulary_canonical (suc zero) h = refl
vocabulary_canonical (suc (suc zero)) h = refl
vocabulary_canonical (suc (suc (suc zero))) h = refl
vocabulary_canonical (suc (suc (suc (suc zero)))) h = refl
vocabulary_canonical (suc (suc (suc (suc (suc n))))) h = absurd (omega (arith, h))

vocabulary_term : (n : ℕ) → n < 5 → vocabulary_of (get_or vocabulary_texts n []) ≡ suc n
unfolding compute
vocabulary_term zero h = refl
vocabulary_term (suc zero) h = refl
vocabulary_term (suc (suc zero)) h = refl
vocabulary_term (suc (suc (suc zero))) h = refl
vocabulary_term (suc (suc (suc (suc zero)))) h = refl
vocabulary_term (suc (suc (suc (suc (suc n))))) h = absurd (omega (arith, h))

vocabulary-range : (w : ℕ) → is_vocabulary w ≡ true → (1 ≤ w) × (w ≤ 5)
unfolding is_vocabulary
vocabulary-range w h = (leb-true 1 w (and_left (leb 1 w) (leb w 5) h), leb-true w 5 (and_right (leb 1 w) (leb w 5) h))

-- ---- the terms and texts of a dictionary

-- What is known of a term that has a text.
pub record TermRight (es : List Entry) (w : ℕ) : Type 0 where
  pub back : term_of es (text_of es w) ≡ w
  pub some : 0 < w
  pub canonical : is_canonical (text_of es w) ≡ true
  pub kind_is : kind_of (text_of es w) ≡ kind w

by_vocabulary : (es : List Entry) (w : ℕ) → is_vocabulary w ≡ true → TermRight es w
unfolding text_of term_of
by_vocabulary es zero v = absurd (let r = vocabulary-range zero v in omega (arith, r.0))
by_vocabulary es (suc n) v =
    let r = vocabulary-range (suc n) v in
    let l : n < 5 = omega (arith, r.1) in
    let m : suc n - 1 ≡ n = omega arith in
    record {
      back = rw (v, m, vocabulary_term n l, eqb-suc-zero n);
      some = omega arith;
      canonical = rw (v, m) (vocabulary_canonical n l);
      kind_is = rw (v, m) (vocabulary-kind n l ∙ omega (arith, l));
    }

module _ (d : List ℕ) (h : is_dictionary d ≡ true) where
  by_entry : (w : ℕ) → is_vocabulary w ≡ false → 0 < length (text_in (entries d) w) → TermRight (entries d) w
  unfolding text_of term_of
  by_entry w v s =
      let es = entries d in
      let F = formed d h in
      let a = numbered_has [] es F.numbered in
      let r = holding TextRight es w (texts_right es F.texts) s in
      let k = holding HasTerm es w a s in
      let n = holding (Numbered es) es w (numbered-entries es F.numbered (numbers_enough es F.numbers)) s in
      let o : vocabulary_of (text_in es w) ≡ 0 = ap vocabulary_of (sym r.text) ∙ r.holds.other in
      record {
        back = rw (v, o) (in_term es w F.texts a s);
        some = omega (arith, k.holds, k.term);
        canonical = rw v (rw r.text at r.holds.canonical);
        kind_is = rw v (ap kind_of (sym n.text) ∙ sym (numbered-kind es n.here n.holds) ∙ ap kind n.term);
      }

  pub term_right : (w : ℕ) → has_text (entries d) w ≡ true → TermRight (entries d) w
  unfolding has_text text_of
  term_right w s =
      by_test (is_vocabulary w) (λ v. by_vocabulary (entries d) w v) (λ v. by_entry w v (ltb-true 0 _ (rw v at s)))

  -- Theorem 2: the term of a term's text is the term,
  pub text_term : (w : ℕ) → has_text (entries d) w ≡ true → term_of (entries d) (text_of (entries d) w) ≡ w
  text_term w s = (term_right w s).back

  -- and the text of a text's term is the text.
  pub term_text : (t : List ℕ) → 0 < term_of (entries d) t → text_of (entries d) (term_of (entries d) t) ≡ t
  term_text t p = let F = formed d h in word_text (entries d) t F.numbered (numbers_enough (entries d) F.numbers) p

  -- A term's text is canonical,
  pub text_canonical : (w : ℕ) → has_text (entries d) w ≡ true → is_canonical (text_of (entries d) w) ≡ true
  text_canonical w s = (term_right w s).canonical

  -- and has the term's kind.
  pub text-kind : (w : ℕ) → has_text (entries d) w ≡ true → kind_of (text_of (entries d) w) ≡ kind w
  text-kind w s = (term_right w s).kind_is

  -- A term has no text exactly where it is not of the vocabulary and no entry has it.
  pub text_none : (w : ℕ) → (text_of (entries d) w ≡ []) ↔ ((is_vocabulary w ≡ false) × ((e : Entry) → Memᴰ e (entries d) → e.term ≡ w → ⊥))
  unfolding text_of
  text_none w = (
    λ q. by_test (is_vocabulary w)
        (λ v. none_canonical (rw q at (by_vocabulary (entries d) w v).canonical))
        (λ v. (v, λ e m i. in_some (entries d) e (texts_right (entries d) (formed d h).texts) m (rw (v, ← i) at q))),
    λ (n : (is_vocabulary w ≡ false) × ((e : Entry) → Memᴰ e (entries d) → e.term ≡ w → ⊥)). rw n.0 (in_none (entries d) w n.1),
  )
