-- Laws of numbered entries: a term has one exactly when its number is in the range of its kind, and where it stands. Assumes nothing.
use Prim.Native.Nat.{ℕ, zero, suc, ◌+◌, ◌-◌, ◌*◌, ◌^◌, ◌≤◌, ◌<◌}
use mathlib.Core.Path.{◌≡◌, refl, sym, ap, ◌∙◌, subst}
use mathlib.Core.Bool.{true, false, ◌&&◌}
use mathlib.Core.List.{List, [], ◌∷◌, ◌++◌}
use native.Mathlib.Nat.{add-suc}
use native.Mathlib.Omega.{arith}
use lib.Dec.{eqb}
use lib.ListN.{length, take, drop}
use lib.Seq.{take_at, drop_at, take-append-add}
use borrow.Author.Tests.{eqb-true}
use Rattle.spec.specs.Terms.{kind, number}
use Rattle.spec.specs.Lists.{select}
use Rattle.spec.proofs.Lists.{by_test, true-not_false}
use Rattle.spec.proofs.Ascending.{and_left, and_right}
use Rattle.spec_ntriples.specs.Dictionary.{Entry, kind_of, vocabulary_of, term_in, first_number, next_number, next_term, are_numbered, are_texts}
use Rattle.spec_ntriples.specs.Sights.{text_in}
use Rattle.spec_ntriples.specs.computed.Canonical.{is_canonical}
use Rattle.spec_ntriples.specs.inside.Compute.{compute}
use Rattle.spec_ntriples.proofs.Numbers.{texts_of_kind, kinds-append, kinds_one, kind_least, Enough, enough-kind, next-number, numbered_split}
use Rattle.spec_ntriples.proofs.WordTexts.{entry-text}
use Rattle.dictionary_numbers.proofs.Numbering.{next-append}

-- ---- lists split at an element

-- At one length two splits are one.
pub same_split : (xs ys vs ws : List Entry) (e d : Entry) → xs ++ (e ∷ ys) ≡ vs ++ (d ∷ ws) → length xs ≡ length vs → (xs ≡ vs) × (e ≡ d)
same_split xs ys vs ws e d s l =
    let a : xs ≡ vs = sym (take_at xs (e ∷ ys) (length vs) l) ∙ ap (λ (m : List Entry). take (length vs) m) s ∙ take_at vs (d ∷ ws) (length vs) refl in
    let b : e ∷ ys ≡ d ∷ ws = sym (drop_at xs (e ∷ ys) (length vs) l) ∙ ap (λ (m : List Entry). drop (length vs) m) s ∙ drop_at vs (d ∷ ws) (length vs) refl in
    (a, cc)

-- A shorter front is the beginning of a longer one.
front_split : (xs ys vs ws : List Entry) (e d : Entry) → xs ++ (e ∷ ys) ≡ vs ++ (d ∷ ws) → (m : ℕ) → length vs ≡ length xs + suc m → vs ≡ xs ++ (e ∷ take m ys)
front_split xs ys vs ws e d s m l =
    sym (take_at vs (d ∷ ws) (length xs + suc m) l) ∙ ap (λ (n : List Entry). take (length xs + suc m) n) (sym s) ∙ take-append-add xs (e ∷ ys) (suc m)

-- ---- the entries of a kind

-- The entry that has a number of a kind.
pub record EntryOf (k n : ℕ) (es : List Entry) : Type 0 where
  pub before : List Entry
  pub here : Entry
  pub after : List Entry
  pub split : es ≡ before ++ (here ∷ after)
  pub kind_is : kind_of here.text ≡ k
  pub next : next_number k before ≡ n

-- With an entry in front of another kind, and of the kind.
entry_other : (k n : ℕ) (e : Entry) (es : List Entry) → eqb (kind_of e.text) k ≡ false → EntryOf k n es → EntryOf k n (e ∷ es)
unfolding next_number select
entry_other k n e es p R =
    record { before = e ∷ R.before; here = R.here; after = R.after; split = ap (λ (l : List Entry). e ∷ l) R.split; kind_is = R.kind_is; next = rw p R.next }

entry_own : (k n : ℕ) (e : Entry) (es : List Entry) → eqb (kind_of e.text) k ≡ true → EntryOf k n es → EntryOf k (suc n) (e ∷ es)
unfolding next_number select
entry_own k n e es p R =
    record { before = e ∷ R.before; here = R.here; after = R.after; split = ap (λ (l : List Entry). e ∷ l) R.split; kind_is = R.kind_is; next = rw p (omega (arith, R.next)) }

-- With one of the kind: it has the first number, and the others those behind theirs.
rank_own : (k j : ℕ) (e : Entry) (es : List Entry) → eqb (kind_of e.text) k ≡ true → ((i : ℕ) → i < texts_of_kind k es → EntryOf k (first_number k + i) es) → j < suc (texts_of_kind k es) → EntryOf k (first_number k + j) (e ∷ es)
unfolding texts_of_kind select
rank_own k zero e es p R h = record { before = []; here = e; after = es; split = refl; kind_is = eqb-true _ _ p; next = next-number k [] }
rank_own k (suc j) e es p R h = rw (add-suc (first_number k) j) (entry_own k (first_number k + j) e es p (R j (omega arith)))

of_rank : (k j : ℕ) (es : List Entry) → j < texts_of_kind k es → EntryOf k (first_number k + j) es
unfolding texts_of_kind select
of_rank k j [] h = absurd (omega arith)
of_rank k j (e ∷ es) h =
    by_test (eqb (kind_of e.text) k) (λ p. rank_own k j e es p (λ i. of_rank k i es) (rw p at h)) (λ p. entry_other k (first_number k + j) e es p (of_rank k j es (rw p at h)))

-- The numbers of a kind are consecutive: there is one for each from the first to the next.
pub entry_of : (k n : ℕ) (es : List Entry) → first_number k ≤ n → n < next_number k es → EntryOf k n es
entry_of k n es a b =
    let e : first_number k + (n - first_number k) ≡ n = omega arith in
    rw e at (of_rank k (n - first_number k) es (omega (arith, next-number k es)))

-- ---- the term of an entry

-- The kind of an entry's term is its text's, and its number the next of that kind behind the entries before it.
pub record Ranked (before : List Entry) (e : Entry) : Type 0 where
  pub kind_is : kind e.term ≡ kind_of e.text
  pub number_is : number e.term ≡ next_number (kind_of e.text) before

next_of_kind : (xs ys : List Entry) (e : Entry) → are_numbered [] (xs ++ (e ∷ ys)) ≡ true → e.term ≡ next_term (kind_of e.text) xs
unfolding are_numbered
next_of_kind xs ys e h =
    let s : (are_numbered [] xs && are_numbered xs (e ∷ ys)) ≡ true = sym (numbered_split [] xs (e ∷ ys)) ∙ h in
    eqb-true _ _ (and_left (eqb e.term (next_term (kind_of e.text) xs)) (are_numbered (xs ++ (e ∷ [])) ys) (and_right (are_numbered [] xs) (are_numbered xs (e ∷ ys)) s))

-- An entry takes a number of its kind.
number_taken : (xs ys : List Entry) (e : Entry) → next_number (kind_of e.text) xs < next_number (kind_of e.text) (xs ++ (e ∷ ys))
number_taken xs ys e =
    let k = kind_of e.text in
    omega (arith, next-append k xs (e ∷ ys), kinds-append k (e ∷ []) ys, kinds_one e)

ranked : (xs ys : List Entry) (e : Entry) → are_numbered [] (xs ++ (e ∷ ys)) ≡ true → Enough (xs ++ (e ∷ ys)) → Ranked xs e
ranked xs ys e h E =
    let k = kind_of e.text in
    let t : e.term ≡ k * 2 ^ 30 + next_number k xs = next_of_kind xs ys e h in
    let l : next_number k xs < 2 ^ 30 = omega (arith, number_taken xs ys e, next-number k (xs ++ (e ∷ ys)), enough-kind k (xs ++ (e ∷ ys)) (kind_least e.text) E) in
    record { kind_is = omega arith; number_is = omega arith }

-- ---- the entry of a term

-- A term has a number of its kind that is taken by entries.
pub record InRange (es : List Entry) (w : ℕ) : Type 0 where
  pub least : kind w ≤ 2
  pub first : first_number (kind w) ≤ number w
  pub taken : number w < next_number (kind w) es

-- Where a term has a text, an entry has the term.
record WithTerm (es : List Entry) (w : ℕ) : Type 0 where
  before : List Entry
  here : Entry
  after : List Entry
  split : es ≡ before ++ (here ∷ after)
  term : here.term ≡ w

with_term_lem : (es : List Entry) (w : ℕ) → 0 < length (text_in es w) → WithTerm es w
unfolding text_in
with_term_lem [] w h = absurd (omega arith)
with_term_lem (e ∷ es) w h =
    by_test (eqb w e.term) (λ q. record { before = []; here = e; after = es; split = refl; term = sym (eqb-true w e.term q) })
    (λ q.
    let t = with_term_lem es w (rw q at h) in
    record { before = e ∷ t.before; here = t.here; after = t.after; split = ap (λ (l : List Entry). e ∷ l) t.split; term = t.term })

-- A canonical text is not empty.
canonical-some : (t : List ℕ) → is_canonical t ≡ true → 0 < length t
unfolding compute
canonical-some [] h = absurd (true-not_false (sym h))
canonical-some (b ∷ t) h = omega arith

texts_canonical : (xs ys : List Entry) (e : Entry) → are_texts (xs ++ (e ∷ ys)) ≡ true → is_canonical e.text ≡ true
unfolding are_texts
texts_canonical [] ys e h = and_left (is_canonical e.text) _ h
texts_canonical (x ∷ xs) ys e h =
    let es : List Entry = xs ++ (e ∷ ys) in
    texts_canonical xs ys e
    (and_right (eqb (term_in es x.text) 0) (are_texts es) (and_right (eqb (vocabulary_of x.text) 0) (eqb (term_in es x.text) 0 && are_texts es) (and_right (is_canonical x.text) _ h)))

module _ (es : List Entry) (N : are_numbered [] es ≡ true) (E : Enough es) where
  pub split_ranked : (xs ys : List Entry) (e : Entry) → es ≡ xs ++ (e ∷ ys) → Ranked xs e
  split_ranked xs ys e s = ranked xs ys e (subst (λ (l : List Entry). are_numbered [] l ≡ true) s N) (subst Enough s E)

  -- The term of an entry has its text.
  pub split_text : (xs ys : List Entry) (e : Entry) → es ≡ xs ++ (e ∷ ys) → text_in es e.term ≡ e.text
  split_text xs ys e s =
      subst (λ (l : List Entry). text_in l e.term ≡ e.text) (sym s) (entry-text xs ys e (subst (λ (l : List Entry). are_numbered [] l ≡ true) s N) (subst Enough s E))

  -- It is in the range of its kind.
  pub split_in_range : (xs ys : List Entry) (e : Entry) → es ≡ xs ++ (e ∷ ys) → InRange es e.term
  split_in_range xs ys e s =
      let r = split_ranked xs ys e s in
      let k = kind_of e.text in
      record {
        least = omega (arith, r.kind_is, kind_least e.text);
        first = rw r.kind_is (omega (arith, r.number_is, next-number k xs));
        taken = rw r.kind_is (omega (arith, r.number_is, number_taken xs ys e, ap (next_number k) s));
      }

  -- Terms of two entries differ.
  pub terms_differ : (xs ys vs ws : List Entry) (e d : Entry) → es ≡ xs ++ (e ∷ ys) → es ≡ vs ++ (d ∷ ws) → length xs < length vs → e.term ≡ d.term → ⊥
  terms_differ xs ys vs ws e d s t l q =
      let a = split_ranked xs ys e s in
      let b = split_ranked vs ws d t in
      let m : ℕ = length vs - length xs - 1 in
      let f : vs ≡ xs ++ (e ∷ take m ys) = front_split xs ys vs ws e d (sym s ∙ t) m (omega arith) in
      let k : kind_of d.text ≡ kind_of e.text = sym b.kind_is ∙ ap (λ (w : ℕ). kind w) (sym q) ∙ a.kind_is in
      let n : number d.term ≡ next_number (kind_of e.text) vs = rw k at b.number_is in
      omega (arith, a.number_is, n, ap (λ (w : ℕ). number w) q, number_taken xs (take m ys) e, ap (next_number (kind_of e.text)) f)

  -- A term that has a text is in the range of its kind.
  pub text_in_range : (w : ℕ) → 0 < length (text_in es w) → InRange es w
  text_in_range w h =
      let t = with_term_lem es w h in
      subst (InRange es) t.term (split_in_range t.before t.after t.here t.split)

  -- The entry with the next number of a term's kind has the term.
  pub next_is_term : (w : ℕ) (xs ys : List Entry) (e : Entry) → es ≡ xs ++ (e ∷ ys) → kind_of e.text ≡ kind w → next_number (kind w) xs ≡ number w → e.term ≡ w
  next_is_term w xs ys e s k q =
      let r = split_ranked xs ys e s in
      let n : number e.term ≡ next_number (kind w) xs = rw k at r.number_is in
      omega (arith, r.kind_is, k, n, q)

  -- A term in the range has a text.
  pub in_range_text : are_texts es ≡ true → (w : ℕ) → InRange es w → 0 < length (text_in es w)
  in_range_text T w R =
      let O = entry_of (kind w) (number w) es R.first R.taken in
      let t : O.here.term ≡ w = next_is_term w O.before O.after O.here O.split O.kind_is O.next in
      let c = canonical-some O.here.text (texts_canonical O.before O.after O.here (subst (λ (l : List Entry). are_texts l ≡ true) O.split T)) in
      omega (arith, ap length (rw t at (split_text O.before O.after O.here O.split)), c)
