-- Entries with further texts: those seen first, with the next terms, and what stays true of them. Assumes nothing.
use Prim.Native.Nat.{ℕ, zero, suc, ◌<◌}
use mathlib.Core.Path.{◌≡◌, refl, sym, ap, ◌∙◌}
use mathlib.Core.Bool.{true, false, ◌&&◌, ◌||◌, not, cond}
use mathlib.Core.List.{List, [], ◌∷◌, ◌++◌, map, map-append, append-nil, append_assoc}
use native.Mathlib.Omega.{arith}
use lib.Seq.{append_snoc}
use lib.Dec.{eqb, eqb-suc-zero}
use borrow.Author.Tests.{eqb-true, eqb-false, eq-eqb, ne_eqb}
use Rattle.spec.proofs.Lists.{by_test, true-not_false}
use Rattle.spec.proofs.Ascending.{and_left, and_right}
use Rattle.spec.specs.inside.Each.{Each}
use Rattle.spec_ntriples.specs.Texts.{is_same_text}
use Rattle.spec_ntriples.specs.Dictionary.{Entry, entry, vocabulary_texts, place_of, vocabulary_of, term_in, term_of, first_number, next_number, next_term, kind_of, are_numbered, are_texts}
use Rattle.spec_ntriples.specs.computed.Canonical.{is_canonical}
use Rattle.spec_ntriples.specs.Sights.{is_among, first_sights, known_texts}
use Rattle.spec_ntriples.proofs.Canonical.{same_bytes, same_itself}
use Rattle.spec.proofs.Each.{each_append}

-- No entry has the term 0.
abbrev pub HasTerm : Entry → Type 0
HasTerm e = 0 < e.term

-- ---- known texts

positive : (n : ℕ) → eqb n 0 ≡ false → 0 < n
positive zero h = absurd (eqb-false 0 0 h refl)
positive (suc n) h = omega arith

not_zero : (n : ℕ) → 0 < n → eqb n 0 ≡ false
not_zero n h = ne_eqb n 0 (λ (e : n ≡ 0). omega (arith, h, e))

among-append : (t : List ℕ) (us vs : List (List ℕ)) → is_among t (us ++ vs) ≡ (is_among t us || is_among t vs)
unfolding is_among
among-append t [] vs = refl
among-append t (u ∷ us) vs = by_test (is_same_text t u) (λ p. rw p) (λ p. rw p (among-append t us vs))

-- A text has a place exactly where it is among some.
place_among : (t : List ℕ) (us : List (List ℕ)) → eqb (place_of t us) 0 ≡ not (is_among t us)
unfolding place_of is_among
place_among t [] = refl
place_among t (u ∷ us) =
    by_test (is_same_text t u) (λ p. rw p)
    (λ p. by_test (eqb (place_of t us) 0) (λ q. rw (p, q) (sym q ∙ place_among t us)) (λ q. rw (p, q) (eqb-suc-zero (place_of t us) ∙ sym q ∙ place_among t us)))

term_among : (t : List ℕ) (es : List Entry) → Each HasTerm es → eqb (term_in es t) 0 ≡ not (is_among t (map (λ (e : Entry). e.text) es))
unfolding term_in is_among
term_among t [] h = refl
term_among t (e ∷ es) h = by_test (is_same_text t e.text) (λ p. rw p (not_zero e.term h.0)) (λ p. rw p (term_among t es h.1))

-- A text has no term exactly where it is not known.
pub known_term : (t : List ℕ) (es : List Entry) → Each HasTerm es → eqb (term_of es t) 0 ≡ not (is_among t (known_texts es))
unfolding term_of known_texts
known_term t es h =
    rw (among-append t vocabulary_texts (map (λ (e : Entry). e.text) es))
    (by_test (is_among t vocabulary_texts)
    (λ p. let q : eqb (vocabulary_of t) 0 ≡ false = place_among t vocabulary_texts ∙ ap not p in rw (p, q) q)
    (λ p. let q : eqb (vocabulary_of t) 0 ≡ true = place_among t vocabulary_texts ∙ ap not p in rw (p, q) (term_among t es h)))

-- A text that has a term keeps it where entries are added.
term_in_more : (t : List ℕ) (es fs : List Entry) → 0 < term_in es t → term_in (es ++ fs) t ≡ term_in es t
unfolding term_in
term_in_more t [] fs h = absurd (omega (arith, h))
term_in_more t (e ∷ es) fs h =
    by_test (is_same_text t e.text) (λ p. rw p) (λ p. rw p (term_in_more t es fs (rw p at h)))

pub term_more : (t : List ℕ) (es fs : List Entry) → 0 < term_of es t → term_of (es ++ fs) t ≡ term_of es t
unfolding term_of
term_more t es fs h = by_test (eqb (vocabulary_of t) 0) (λ p. rw p (term_in_more t es fs (rw p at h))) (λ p. rw p)

-- A text that has none has that of the entries added.
pub term_in_added : (t : List ℕ) (es fs : List Entry) → Each HasTerm es → term_in es t ≡ 0 → term_in (es ++ fs) t ≡ term_in fs t
unfolding term_in
term_in_added t [] fs h q = refl
term_in_added t (e ∷ es) fs h q =
    by_test (is_same_text t e.text)
    (λ p. let z : e.term ≡ 0 = rw p at q in absurd (omega (arith, z, h.0)))
    (λ p. rw p (term_in_added t es fs h.1 (rw p at q)))

-- ---- a text added

-- The entry of a text behind some.
abbrev pub next_entry : List Entry → List ℕ → Entry
next_entry es t = entry (next_term (kind_of t) es) t

-- The entries with a text, and with some.
unfoldable pub add_text : List Entry → List ℕ → List Entry
add_text es t = cond (eqb (term_of es t) 0) (es ++ (next_entry es t ∷ [])) es

unfoldable pub add_texts : List Entry → List (List ℕ) → List Entry
add_texts es [] = es
add_texts es (t ∷ ts) = add_texts (add_text es t) ts

-- The entries of texts, each with the next term behind those before it.
unfoldable pub next_entries : List Entry → List (List ℕ) → List Entry
next_entries es [] = []
next_entries es (t ∷ ts) = next_entry es t ∷ next_entries (es ++ (next_entry es t ∷ [])) ts

next_positive : (k : ℕ) (es : List Entry) → 0 < next_term k es
unfolding next_number first_number
next_positive zero es = omega arith
next_positive (suc k) es = omega arith

-- Numbered entries have terms that are not 0.
pub numbered_has : (b es : List Entry) → are_numbered b es ≡ true → Each HasTerm es
unfolding are_numbered
numbered_has b [] h = tt
numbered_has b (e ∷ es) h =
    let k = kind_of e.text in
    let q : e.term ≡ next_term k b = eqb-true _ _ (and_left (eqb e.term (next_term k b)) (are_numbered (b ++ (e ∷ [])) es) h) in
    (omega (arith, q, next_positive k b), numbered_has (b ++ (e ∷ [])) es (and_right (eqb e.term (next_term k b)) (are_numbered (b ++ (e ∷ [])) es) h))

pub next_texts : (es : List Entry) (ts : List (List ℕ)) → map (λ (e : Entry). e.text) (next_entries es ts) ≡ ts
unfolding next_entries
next_texts es [] = refl
next_texts es (t ∷ ts) = ap (λ (l : List (List ℕ)). t ∷ l) (next_texts (es ++ (next_entry es t ∷ [])) ts)

pub next_numbered : (es : List Entry) (ts : List (List ℕ)) → are_numbered es (next_entries es ts) ≡ true
unfolding next_entries are_numbered
next_numbered es [] = refl
next_numbered es (t ∷ ts) = rw (eq-eqb (next_term (kind_of t) es) (next_term (kind_of t) es) refl) (next_numbered (es ++ (next_entry es t ∷ [])) ts)

-- Where a text has a term, nothing is added, and else one entry.
pub text_known : (es : List Entry) (t : List ℕ) → 0 < term_of es t → add_text es t ≡ es
unfolding add_text
text_known es t h = rw (not_zero (term_of es t) h)

text_new : (es : List Entry) (t : List ℕ) → eqb (term_of es t) 0 ≡ true → add_text es t ≡ es ++ (next_entry es t ∷ [])
unfolding add_text
text_new es t h = rw h

pub texts_known : (es : List Entry) (ts : List (List ℕ)) → Each (λ t. 0 < term_of es t) ts → add_texts es ts ≡ es
unfolding add_texts
texts_known es [] h = refl
texts_known es (t ∷ ts) h = rw (text_known es t h.0) (texts_known es ts h.1)

known_more : (es : List Entry) (e : Entry) → known_texts (es ++ (e ∷ [])) ≡ known_texts es ++ (e.text ∷ [])
unfolding known_texts
known_more es e = rw (map-append (λ (e : Entry). e.text) es (e ∷ [])) (sym (append_assoc vocabulary_texts (map (λ (e : Entry). e.text) es) (e.text ∷ [])))

has-next : (es : List Entry) (t : List ℕ) → Each HasTerm es → Each HasTerm (es ++ (next_entry es t ∷ []))
has-next es t h = each_append HasTerm es (next_entry es t ∷ []) h (next_positive (kind_of t) es, tt)

-- The entries with some texts are those with the texts that are seen first.
pub first_sights_lem : (es : List Entry) (ts : List (List ℕ)) → Each HasTerm es → add_texts es ts ≡ es ++ next_entries es (first_sights (known_texts es) ts)
unfolding add_texts first_sights next_entries
first_sights_lem es [] h = sym (append-nil es)
first_sights_lem es (t ∷ ts) h =
    by_test (is_among t (known_texts es))
    (λ p.
    let q : eqb (term_of es t) 0 ≡ false = known_term t es h ∙ ap not p in
    rw (p, text_known es t (positive (term_of es t) q)) (first_sights_lem es ts h))
    (λ p.
    let q : eqb (term_of es t) 0 ≡ true = known_term t es h ∙ ap not p in
    let fs : List Entry = es ++ (next_entry es t ∷ []) in
    rw (p, text_new es t q)
    (first_sights_lem fs ts (has-next es t h)
    ∙ ap (λ (k : List (List ℕ)). fs ++ next_entries fs (first_sights k ts)) (known_more es (next_entry es t))
    ∙ append_snoc es (next_entry es t) (next_entries fs (first_sights (known_texts es ++ (t ∷ [])) ts))))

-- ---- what stays true

-- What has no term is neither in the vocabulary nor in an entry.
no_vocabulary : (es : List Entry) (t : List ℕ) → eqb (term_of es t) 0 ≡ true → eqb (vocabulary_of t) 0 ≡ true
unfolding term_of
no_vocabulary es t h = by_test (eqb (vocabulary_of t) 0) (λ p. p) (λ p. rw p at h)

no_entry_lem : (es : List Entry) (t : List ℕ) → eqb (term_of es t) 0 ≡ true → eqb (term_in es t) 0 ≡ true
unfolding term_of
no_entry_lem es t h = rw (no_vocabulary es t h) at h

new_term : (es : List Entry) (t : List ℕ) → term_in (next_entry es t ∷ []) t ≡ next_term (kind_of t) es
unfolding term_in
new_term es t = rw (same_itself t)

none_same : (t : List ℕ) (e : Entry) → is_same_text t e.text ≡ false → term_in (e ∷ []) t ≡ 0
unfolding term_in
none_same t e h = rw h

not_same : (x : Entry) (es : List Entry) (t : List ℕ) → HasTerm x → eqb (term_in (x ∷ es) t) 0 ≡ true → is_same_text t x.text ≡ false
unfolding term_in
not_same x es t h i =
    by_test (is_same_text t x.text) (λ p. let z : eqb x.term 0 ≡ true = rw p at i in absurd (true-not_false (sym z ∙ not_zero x.term h))) (λ p. p)

has-added : (es : List Entry) (t : List ℕ) → Each HasTerm es → Each HasTerm (add_text es t)
unfolding add_text
has-added es t h = by_test (eqb (term_of es t) 0) (λ p. rw p (has-next es t h)) (λ p. rw p h)

-- Each text added has a term.
add_has : (es : List Entry) (t : List ℕ) → Each HasTerm es → 0 < term_of (add_text es t) t
unfolding term_in term_of
add_has es t h =
    by_test (eqb (term_of es t) 0)
    (λ p.
    let v = no_vocabulary es t p in
    let i : term_in es t ≡ 0 = eqb-true (term_in es t) 0 (no_entry_lem es t p) in
    let q : term_in (es ++ (next_entry es t ∷ [])) t ≡ next_term (kind_of t) es = term_in_added t es (next_entry es t ∷ []) h i ∙ new_term es t in
    rw (text_new es t p, v, q) (next_positive (kind_of t) es))
    (λ p. rw (text_known es t (positive (term_of es t) p)) (positive (term_of es t) p))

pub has_kept : (es : List Entry) (ts : List (List ℕ)) → Each HasTerm es → Each HasTerm (add_texts es ts)
unfolding add_texts
has_kept es [] h = h
has_kept es (t ∷ ts) h = has_kept (add_text es t) ts (has-added es t h)

pub texts_have : (es : List Entry) (ts : List (List ℕ)) → Each HasTerm es → Each (λ (t : List ℕ). 0 < term_of (add_texts es ts) t) ts
unfolding add_texts
texts_have es [] h = tt
texts_have es (t ∷ ts) h =
    let fs = add_text es t in
    let k = has-added es t h in
    let a = add_has es t h in
    (rw (first_sights_lem fs ts k, term_more t fs (next_entries fs (first_sights (known_texts fs) ts)) a) a, texts_have fs ts k)

-- Texts that are canonical, distinct and none of the vocabulary stay so.
texts-next : (es : List Entry) (e : Entry) → Each HasTerm es → are_texts es ≡ true → is_canonical e.text ≡ true → eqb (vocabulary_of e.text) 0 ≡ true → eqb (term_in es e.text) 0 ≡ true → are_texts (es ++ (e ∷ [])) ≡ true
unfolding are_texts term_in
texts-next [] e h a c v i = rw (c, v)
texts-next (x ∷ es) e h a c v i =
    let a0 = is_canonical x.text in
    let a1 = eqb (vocabulary_of x.text) 0 in
    let a2 = eqb (term_in es x.text) 0 in
    let h1 : (a1 && (a2 && are_texts es)) ≡ true = and_right a0 (a1 && (a2 && are_texts es)) a in
    let h2 : (a2 && are_texts es) ≡ true = and_right a1 (a2 && are_texts es) h1 in
    let n = not_same x es e.text h.0 i in
    let m : is_same_text x.text e.text ≡ false = by_test (is_same_text x.text e.text) (λ p. absurd (true-not_false (sym (rw (same_bytes x.text e.text p) (same_itself e.text)) ∙ n))) (λ p. p) in
    let q : term_in (es ++ (e ∷ [])) x.text ≡ 0 = term_in_added x.text es (e ∷ []) h.1 (eqb-true (term_in es x.text) 0 (and_left a2 (are_texts es) h2)) ∙ none_same x.text e m in
    rw (and_left a0 (a1 && (a2 && are_texts es)) a, and_left a1 (a2 && are_texts es) h1, q)
    (texts-next es e h.1 (and_right a2 (are_texts es) h2) c v (rw n at i))

text_kept : (es : List Entry) (t : List ℕ) → Each HasTerm es → are_texts es ≡ true → is_canonical t ≡ true → are_texts (add_text es t) ≡ true
text_kept es t h a c =
    by_test (eqb (term_of es t) 0)
    (λ p. rw (text_new es t p) (texts-next es (next_entry es t) h a c (no_vocabulary es t p) (no_entry_lem es t p)))
    (λ p. rw (text_known es t (positive (term_of es t) p)) a)

pub texts_kept : (es : List Entry) (ts : List (List ℕ)) → Each HasTerm es → are_texts es ≡ true → Each (λ (t : List ℕ). is_canonical t ≡ true) ts → are_texts (add_texts es ts) ≡ true
unfolding add_texts
texts_kept es [] h a c = a
texts_kept es (t ∷ ts) h a c = texts_kept (add_text es t) ts (has-added es t h) (text_kept es t h a c.0) c.1
