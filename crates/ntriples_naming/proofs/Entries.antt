-- Laws of entries with further texts. Assumes nothing.
use Prim.Native.Nat.{ℕ, zero, suc, ◌<◌}
use mathlib.Core.Path.{◌≡◌, refl, sym, ap, ◌∙◌}
use mathlib.Core.List.{List, [], ◌∷◌, ◌++◌, flat_map}
use native.Mathlib.Omega.{arith}
use lib.ListN.{length, get_or}
use lib.Dec.{eqb}
use borrow.Author.Tests.{eq-eqb, ne_eqb}
use Rattle.spec.proofs.Lists.{by_test}
use Rattle.spec.specs.inside.Each.{Each}
use Rattle.spec_ntriples.specs.Texts.{Text, is_same_text, TextTriple}
use Rattle.spec_ntriples.specs.Dictionary.{Entry, entry, vocabulary_of, term_in, term_of, next_term, kind_of}
use Rattle.spec_ntriples.specs.Reading.{with_text, with_texts, with_all}
use Rattle.spec_ntriples.specs.inside.Entries.{Writable}
use Rattle.spec_ntriples.proofs.Canonical.{same_itself}
use Rattle.spec_ntriples.proofs.Numbers.{each_map}
use Rattle.spec_ntriples.proofs.KnownTexts.{HasTerm, term_more, add_text, add_texts, texts_have}
use Rattle.ntriples_terms.specs.inside.Words.{found_word}
use Rattle.ntriples_naming.specs.inside.Progress.{no_text, line_texts, lines_texts, with_each}

-- ---- terms

-- Entries that can be written have terms.
pub have_terms : (es : List Entry) → Each Writable es → Each HasTerm es
have_terms es h = each_map Writable HasTerm es (λ e W. W.some) h

found_in : (ds es : List Entry) (t : List ℕ) → Each HasTerm ds → found_word es t (term_in ds t) ≡ term_in (ds ++ es) t
unfolding found_word term_in
found_in [] es t h = refl
found_in (d ∷ ds) es t h =
    by_test (is_same_text t d.text) (λ p. rw (p, ne_eqb d.term 0 (λ e. omega (arith, e, h.0)))) (λ p. rw p (found_in ds es t h.1))

-- A word that is a text's term among some entries, and then is looked for among others, is its term among all.
pub found_of : (ds es : List Entry) (t : List ℕ) → Each HasTerm ds → found_word es t (term_of ds t) ≡ term_of (ds ++ es) t
unfolding found_word term_of
found_of ds es t h = by_test (eqb (vocabulary_of t) 0) (λ p. rw p (found_in ds es t h)) (λ p. rw (p, p))

pub term_behind : (ds es : List Entry) (t : List ℕ) → Each HasTerm ds → term_of ds t ≡ 0 → term_of (ds ++ es) t ≡ term_in es t
unfolding found_word
term_behind ds es t h e = sym (found_of ds es t h) ∙ rw (eq-eqb (term_of ds t) 0 e)

term_one : (w : ℕ) (t : List ℕ) → term_in (entry w t ∷ []) t ≡ w
unfolding term_in
term_one w t = rw (same_itself t)

-- The term of a text that is added.
pub term-added : (es : List Entry) (w : ℕ) (t : List ℕ) → Each HasTerm es → term_of es t ≡ 0 → term_of (es ++ (entry w t ∷ [])) t ≡ w
term-added es w t h e = term_behind es (entry w t ∷ []) t h e ∙ term_one w t

-- ---- a text added

pub with_known : (es : List Entry) (x : Text) → 0 < term_of es x.bytes → with_text es x ≡ es
unfolding with_text
with_known es x h = rw (ne_eqb (term_of es x.bytes) 0 (λ e. omega (arith, e, h)))

pub with_new : (es : List Entry) (x : Text) → term_of es x.bytes ≡ 0 → with_text es x ≡ es ++ (entry (next_term x.kind es) x.bytes ∷ [])
unfolding with_text
with_new es x h = rw (eq-eqb (term_of es x.bytes) 0 h)

-- A text that is added has a term.
with_has : (es : List Entry) (x : Text) → Each HasTerm es → kind_of x.bytes ≡ x.kind → 0 < term_of (with_text es x) x.bytes
unfolding with_text add_text add_texts
with_has es x h k = rw (← k) (texts_have es (x.bytes ∷ []) h).0

-- A term stays where a text is added.
with_more : (es : List Entry) (x : Text) (t : List ℕ) → 0 < term_of es t → term_of (with_text es x) t ≡ term_of es t
unfolding with_text
with_more es x t h =
    by_test (eqb (term_of es x.bytes) 0)
    (λ p. rw p (term_more t es (entry (next_term x.kind es) x.bytes ∷ []) h))
    (λ p. rw p)

-- The first of some texts that is new can be added before the others.
pub added-first
    : (es : List Entry) (xs : List Text) (j : ℕ) → Each HasTerm es → j < length xs
    → ((i : ℕ) → i < j → 0 < term_of es (get_or xs i no_text).bytes)
    → kind_of (get_or xs j no_text).bytes ≡ (get_or xs j no_text).kind
    → with_each (with_text es (get_or xs j no_text)) xs ≡ with_each es xs
unfolding with_each
added-first es [] j h l k q = absurd (omega (arith, l))
added-first es (x ∷ xs) zero h l k q = ap (λ (fs : List Entry). with_each fs xs) (with_known (with_text es x) x (with_has es x h q))
added-first es (x ∷ xs) (suc j) h l k q =
    let t : Text = get_or xs j no_text in
    let a : 0 < term_of es x.bytes = k 0 (omega arith) in
    let b : 0 < term_of (with_text es t) x.bytes = rw (with_more es t x.bytes a) a in
    rw (with_known es x a, with_known (with_text es t) x b) (added-first es xs j h (omega arith) (λ i m. k (suc i) (omega arith)) q)

-- ---- the texts of lines

pub each-lines : (es : List Entry) (ts : List TextTriple) → with_each es (lines_texts ts) ≡ with_all es ts
unfolding with_each lines_texts line_texts with_all with_texts flat_map
each-lines es [] = refl
each-lines es (t ∷ ts) = each-lines (with_texts es t) ts
