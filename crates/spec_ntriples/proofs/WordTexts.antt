-- A text's term has that text, and its kind (word_text, word_right, at the end). Assumes nothing.
use Prim.Native.Nat.{ℕ, zero, suc, ◌+◌, ◌-◌, ◌*◌, ◌^◌, ◌≤◌, ◌<◌}
use mathlib.Core.Path.{◌≡◌, refl, sym, ap, ◌∙◌, subst}
use mathlib.Core.Bool.{true, false, ◌&&◌, cond}
use mathlib.Core.List.{List, [], ◌∷◌, ◌++◌}
use native.Mathlib.Omega.{arith}
use lib.ListN.{length, get_or}
use lib.Dec.{eqb}
use borrow.Author.Tests.{eqb-true, eqb-false, eq-eqb, ne_eqb, le-leb, lt-leb}
use Rattle.spec.specs.Terms.{kind, number, is_vocabulary}
use Rattle.spec.proofs.Lists.{by_test}
use Rattle.spec.proofs.Ascending.{and_left, and_right}
use Rattle.spec.specs.inside.Each.{Each}
use Rattle.spec_ntriples.specs.Characters.{codes}
use Rattle.spec_ntriples.specs.Texts.{is_same_text}
use Rattle.spec_ntriples.specs.Dictionary.{Entry, vocabulary_texts, place_of, vocabulary_of, term_in, term_of, first_number, next_number, next_term, kind_of, are_numbered}
use Rattle.spec_ntriples.specs.Sights.{text_in, text_of}
use Rattle.spec_ntriples.proofs.Canonical.{same_bytes}
use Rattle.spec.proofs.Each.{each_back}
use Rattle.spec_ntriples.proofs.Numbers.{texts_of_kind, first_positive, each_map, Enough, enough_front, Numbered, numbered-kind, next-number, numbered_split, numbered-entries}

-- ---- the entry of a text

-- Where the entry of a text stands.
record Found (es : List Entry) (t : List ℕ) : Type 0 where
  before : List Entry
  here : Entry
  after : List Entry
  split : es ≡ before ++ (here ∷ after)
  text : here.text ≡ t
  term : here.term ≡ term_in es t

found : (es : List Entry) (t : List ℕ) → 0 < term_in es t → Found es t
unfolding term_in
found [] t h = absurd (omega (arith, h))
found (e ∷ es) t h =
    by_test (is_same_text t e.text)
    (λ p. record { before = []; here = e; after = es; split = refl; text = sym (same_bytes t e.text p); term = rw p })
    (λ p.
    let f = found es t (rw p at h) in
    record { before = e ∷ f.before; here = f.here; after = f.after; split = ap (λ (l : List Entry). e ∷ l) f.split; text = f.text; term = rw p f.term })

-- ---- the text of its term

-- A term that no entry before has.
in_text : (xs ys : List Entry) (e : Entry) → Each (λ (f : Entry). e.term ≡ f.term → ⊥) xs → text_in (xs ++ (e ∷ ys)) e.term ≡ e.text
unfolding text_in
in_text [] ys e h = rw (eq-eqb e.term e.term refl)
in_text (x ∷ xs) ys e h = rw (ne_eqb e.term x.term h.0) (in_text xs ys e h.1)

differs : (xs : List Entry) (e f : Entry) (n : ℕ) → n < 2 ^ 30 → n ≡ first_number (kind_of e.text) + texts_of_kind (kind_of e.text) xs → e.term ≡ kind_of e.text * 2 ^ 30 + n → Numbered xs f → e.term ≡ f.term → ⊥
differs xs e f n s i q F p =
    let k : kind_of f.text ≡ kind_of e.text = omega (arith, s, q, p, F.is, F.small) in
    let m : F.number < first_number (kind_of e.text) + texts_of_kind (kind_of e.text) xs = rw k at F.next in
    omega (arith, s, i, q, p, k, m, F.is)

-- The next term behind numbered entries is none of theirs: the text of an entry's term is the entry's.
pub entry-text : (xs ys : List Entry) (e : Entry) → are_numbered [] (xs ++ (e ∷ ys)) ≡ true → Enough (xs ++ (e ∷ ys)) → text_in (xs ++ (e ∷ ys)) e.term ≡ e.text
unfolding are_numbered
entry-text xs ys e h E =
    let s : (are_numbered [] xs && are_numbered xs (e ∷ ys)) ≡ true = sym (numbered_split [] xs (e ∷ ys)) ∙ h in
    let a = numbered-entries xs (and_left (are_numbered [] xs) (are_numbered xs (e ∷ ys)) s) (enough_front xs (e ∷ ys) E) in
    let b = and_right (are_numbered [] xs) (are_numbered xs (e ∷ ys)) s in
    let q : e.term ≡ next_term (kind_of e.text) xs = eqb-true _ _ (and_left (eqb e.term (next_term (kind_of e.text) xs)) (are_numbered (xs ++ (e ∷ [])) ys) b) in
    let N = (each_back (Numbered (xs ++ (e ∷ ys))) xs (e ∷ ys) (numbered-entries (xs ++ (e ∷ ys)) h E)).0 in
    in_text xs ys e
    (each_map (Numbered xs) (λ (f : Entry). e.term ≡ f.term → ⊥) xs
    (λ f F p. differs xs e f (next_number (kind_of e.text) xs) (omega (arith, q, N.is, N.small)) (next-number (kind_of e.text) xs) q F p) a)

-- ---- the vocabulary

place-text : (t : List ℕ) (us : List (List ℕ)) (n : ℕ) → place_of t us ≡ suc n → get_or us n [] ≡ t
unfolding place_of
place-text t [] n h = absurd (omega (arith, h))
place-text t (u ∷ us) n h =
    by_test (is_same_text t u)
    (λ p. let z : 1 ≡ suc n = rw p at h in let m : n ≡ 0 = omega (arith, z) in rw m (sym (same_bytes t u p)))
    (λ p.
    let g : cond (eqb (place_of t us) 0) 0 (suc (place_of t us)) ≡ suc n = rw p at h in
    by_test (eqb (place_of t us) 0)
    (λ q. let z : 0 ≡ suc n = rw q at g in absurd (omega (arith, z)))
    (λ q. let z : suc (place_of t us) ≡ suc n = rw q at g in further n (omega (arith, z)) (eqb-false (place_of t us) 0 q) (place-text t us)))
  where
    further : (n : ℕ) → place_of t us ≡ n → (place_of t us ≡ 0 → ⊥) → ((m : ℕ) → place_of t us ≡ suc m → get_or us m [] ≡ t) → get_or (u ∷ us) n [] ≡ t
    further zero e k f = absurd (k e)
    further (suc n) e k f = f n e

place_least : (t : List ℕ) (us : List (List ℕ)) → place_of t us ≤ length us
unfolding place_of
place_least t [] = omega arith
place_least t (u ∷ us) =
    by_test (is_same_text t u) (λ p. rw p (omega arith))
    (λ p. by_test (eqb (place_of t us) 0) (λ q. rw (p, q) (omega arith)) (λ q. rw (p, q) (omega (arith, place_least t us))))

pub vocabulary-kind : (n : ℕ) → n < 5 → kind_of (get_or vocabulary_texts n []) ≡ 0
unfolding kind_of codes
vocabulary-kind zero h = refl
vocabulary-kind (suc zero) h = refl
vocabulary-kind (suc (suc zero)) h = refl
vocabulary-kind (suc (suc (suc zero))) h = refl
vocabulary-kind (suc (suc (suc (suc zero)))) h = refl
vocabulary-kind (suc (suc (suc (suc (suc n))))) h = absurd (omega (arith, h))

-- ---- the terms of texts

-- A term has a text's kind, and a number that is not 0.
pub record WordRight (w : ℕ) (t : List ℕ) : Type 0 where
  pub kind_is : kind w ≡ kind_of t
  pub some : 0 < number w

first_uri : first_number 0 ≡ 16
unfolding first_number
first_uri = refl

numbered_right : (es : List Entry) (e : Entry) → Numbered es e → WordRight e.term e.text
numbered_right es e N =
    record { kind_is = numbered-kind es e N; some = omega (arith, N.is, N.small, N.first, first_positive (kind_of e.text)) }

no_vocabulary_term : (es : List Entry) (e : Entry) → Numbered es e → is_vocabulary e.term ≡ false
unfolding is_vocabulary
no_vocabulary_term es e N =
    let k : 5 < e.term = far (kind_of e.text) N.number N.first N.is in
    rw (le-leb 1 e.term (omega (arith, k))) (lt-leb e.term 5 k)
  where
    far : (k n : ℕ) → first_number k ≤ n → e.term ≡ k * 2 ^ 30 + n → 5 < e.term
    far zero n h q = omega (arith, first_uri, h, q)
    far (suc k) n h q = omega (arith, h, q)

module _ (es : List Entry) (t : List ℕ) (h : are_numbered [] es ≡ true) (E : Enough es) where
  -- An entry's.
  entry_right : 0 < term_in es t → WordRight (term_in es t) t
  entry_right p =
      let f = found es t p in
      let N = (each_back (Numbered es) f.before (f.here ∷ f.after) (subst (λ (l : List Entry). Each (Numbered es) l) f.split (numbered-entries es h E))).0 in
      rw (f.term, f.text) at (numbered_right es f.here N)

  entry-word : 0 < term_in es t → text_of es (term_in es t) ≡ t
  unfolding text_of
  entry-word p =
      let f = found es t p in
      let N = (each_back (Numbered es) f.before (f.here ∷ f.after) (subst (λ (l : List Entry). Each (Numbered es) l) f.split (numbered-entries es h E))).0 in
      let v : is_vocabulary (term_in es t) ≡ false = rw f.term at (no_vocabulary_term es f.here N) in
      let x : text_in es f.here.term ≡ f.here.text = subst (λ (l : List Entry). text_in l f.here.term ≡ f.here.text) (sym f.split)
      (entry-text f.before f.after f.here (subst (λ (l : List Entry). are_numbered [] l ≡ true) f.split h) (subst Enough f.split E)) in
      rw v (rw (f.term, f.text) at x)

  -- The vocabulary's.
  vocabulary_right : (n : ℕ) → vocabulary_of t ≡ suc n → WordRight (suc n) t
  vocabulary_right n q =
      let l : suc n ≤ 5 = rw q at (place_least t vocabulary_texts) in
      record {
        kind_is = omega (arith, l, ap kind_of (place-text t vocabulary_texts n q), vocabulary-kind n (omega (arith, l)));
        some = omega (arith, l);
      }

  vocabulary_word : (n : ℕ) → vocabulary_of t ≡ suc n → text_of es (suc n) ≡ t
  unfolding text_of is_vocabulary
  vocabulary_word n q =
      let l : suc n ≤ 5 = rw q at (place_least t vocabulary_texts) in
      let m : suc n - 1 ≡ n = omega arith in
      rw (le-leb 1 (suc n) (omega arith), le-leb (suc n) 5 l, m) (place-text t vocabulary_texts n q)

  by_place : (v : ℕ) → vocabulary_of t ≡ v → eqb v 0 ≡ false → WordRight v t × (text_of es v ≡ t)
  by_place zero q p = absurd (eqb-false 0 0 p refl)
  by_place (suc n) q p = (vocabulary_right n q, vocabulary_word n q)

  -- The term of a text has the text's kind.
  pub word_right : 0 < term_of es t → WordRight (term_of es t) t
  unfolding term_of
  word_right p =
      by_test (eqb (vocabulary_of t) 0) (λ q. rw q (entry_right (rw q at p))) (λ q. rw q (by_place (vocabulary_of t) refl q).0)

  -- Its text is the text.
  pub word_text : 0 < term_of es t → text_of es (term_of es t) ≡ t
  unfolding term_of
  word_text p = by_test (eqb (vocabulary_of t) 0) (λ q. rw q (entry-word (rw q at p))) (λ q. rw q (by_place (vocabulary_of t) refl q).1)
