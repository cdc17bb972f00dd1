-- Laws of the next numbers of a filled dictionary. Assumes nothing.
use Prim.Native.Nat.{ℕ, zero, suc, ◌+◌, ◌^◌, ◌≤◌, ◌<◌}
use mathlib.Core.Path.{◌≡◌, refl}
use mathlib.Core.Bool.{true, false}
use mathlib.Core.List.{List, [], ◌∷◌, ◌++◌}
use native.Mathlib.Omega.{arith}
use borrow.Author.Tests.{ne_eqb, le-leb}
use Rattle.spec.specs.Lists.{select}
use Rattle.spec.proofs.Lists.{by_test}
use Rattle.spec_ntriples.specs.Dictionary.{Entry, kind_of, first_number, next_number, are_numbers_enough}
use Rattle.spec_ntriples.specs.inside.Entries.{Holds}
use Rattle.spec_ntriples.proofs.Numbers.{texts_of_kind, kinds-append, kinds_one, kind_least, numbers_enough, enough-kind, next-number, first_positive}
use Rattle.dictionary_bytes.specs.declared.Filled.{Filled}
use Rattle.dictionary_bytes.specs.inside.Entries.{FilledBy}
use Rattle.dictionary_numbers.specs.inside.Numbers.{number_of, raised, Counts}

-- ---- by kind

module _ (f : Filled) where
  pub number_uri : (k : ℕ) → k ≡ 0 → f.uris ≡ number_of f k
  unfolding number_of
  number_uri k e = rw e

  pub number_blank : (k : ℕ) → k ≡ 1 → f.blanks ≡ number_of f k
  unfolding number_of
  number_blank k e = rw e

  pub number-literal : (k : ℕ) → (k ≡ 0 → ⊥) → (k ≡ 1 → ⊥) → f.literals ≡ number_of f k
  unfolding number_of
  number-literal zero a b = absurd (a refl)
  number-literal (suc zero) a b = absurd (b refl)
  number-literal (suc (suc k)) a b = refl

  pub raised_uri : (k end : ℕ) → k ≡ 0 → ◌≡◌ {A = Filled} (record { end = end; uris = f.uris + 1; blanks = f.blanks; literals = f.literals }) (raised f k end)
  unfolding raised
  raised_uri k end e = rw e

  pub raised_blank : (k end : ℕ) → k ≡ 1 → ◌≡◌ {A = Filled} (record { end = end; uris = f.uris; blanks = f.blanks + 1; literals = f.literals }) (raised f k end)
  unfolding raised
  raised_blank k end e = rw e

  pub raised-literal : (k end : ℕ) → (k ≡ 0 → ⊥) → (k ≡ 1 → ⊥) → ◌≡◌ {A = Filled} (record { end = end; uris = f.uris; blanks = f.blanks; literals = f.literals + 1 }) (raised f k end)
  unfolding raised
  raised-literal zero end a b = absurd (a refl)
  raised-literal (suc zero) end a b = absurd (b refl)
  raised-literal (suc (suc k)) end a b = refl

  -- The end is the one that is given.
  pub raised_end : (k end : ℕ) → (raised f k end).end ≡ end
  unfolding raised
  raised_end zero end = refl
  raised_end (suc zero) end = refl
  raised_end (suc (suc k)) end = refl

-- ---- the next number with entries more

-- An entry has no text of another kind than its own.
kinds_other : (k : ℕ) (e : Entry) → (kind_of e.text ≡ k → ⊥) → texts_of_kind k (e ∷ []) ≡ 0
unfolding texts_of_kind select
kinds_other k e h = rw (ne_eqb (kind_of e.text) k h)

pub next-append : (k : ℕ) (es fs : List Entry) → next_number k (es ++ fs) ≡ next_number k es + texts_of_kind k fs
next-append k es fs = omega (arith, next-number k (es ++ fs), next-number k es, kinds-append k es fs)

pub next_own : (k : ℕ) (es : List Entry) (e : Entry) → kind_of e.text ≡ k → next_number k (es ++ (e ∷ [])) ≡ next_number k es + 1
next_own k es e q = omega (arith, next-append k es (e ∷ []), rw q at (kinds_one e))

pub next_other : (k : ℕ) (es : List Entry) (e : Entry) → (kind_of e.text ≡ k → ⊥) → next_number k (es ++ (e ∷ [])) ≡ next_number k es
next_other k es e h = omega (arith, next-append k es (e ∷ []), kinds_other k e h)

-- ---- enough numbers

are_enough : (es : List Entry) → next_number 0 es ≤ 2 ^ 30 → next_number 1 es ≤ 2 ^ 30 → next_number 2 es ≤ 2 ^ 30 → are_numbers_enough es ≡ true
unfolding are_numbers_enough
are_enough es a b c = rw (le-leb (next_number 0 es) (2 ^ 30) a, le-leb (next_number 1 es) (2 ^ 30) b, le-leb (next_number 2 es) (2 ^ 30) c)

next_most : (k : ℕ) (es : List Entry) → k ≤ 2 → are_numbers_enough es ≡ true → next_number k es ≤ 2 ^ 30
next_most k es h e = omega (arith, enough-kind k es h (numbers_enough es e), next-number k es)

-- With the entry of a text that has no number left, and any behind it, the numbers are not enough.
pub too_many : (es fs : List Entry) (e : Entry) → next_number (kind_of e.text) es ≡ 2 ^ 30 → are_numbers_enough (es ++ (e ∷ fs)) ≡ false
too_many es fs e q =
    let k = kind_of e.text in
    by_test (are_numbers_enough (es ++ (e ∷ fs)))
    (λ p. absurd (omega (arith, q, next_most k (es ++ (e ∷ fs)) (kind_least e.text) p, next-append k es (e ∷ fs), kinds-append k (e ∷ []) fs, kinds_one e)))
    (λ p. p)

-- ---- the numbers of a filled dictionary

-- No entry yet.
pub counts_none : Counts (record { end = 0; uris = 16; blanks = 1; literals = 1 }) []
unfolding next_number first_number select
counts_none = record { uris = refl; blanks = refl; literals = refl; enough = are_enough [] (omega arith) (omega arith) (omega arith) }

module _ (f : Filled) (es : List Entry) (C : Counts f es) where
  pub counts-number : (k : ℕ) → k ≤ 2 → number_of f k ≡ next_number k es
  unfolding number_of
  counts-number zero h = C.uris
  counts-number (suc zero) h = C.blanks
  counts-number (suc (suc zero)) h = C.literals
  counts-number (suc (suc (suc k))) h = absurd (omega arith)

  pub counts_most : (k : ℕ) → k ≤ 2 → number_of f k ≤ 2 ^ 30
  counts_most k h = omega (arith, counts-number k h, next_most k es h C.enough)

  -- With an entry more.
  pub counts_more : (e : Entry) (end k : ℕ) → kind_of e.text ≡ k → k ≤ 2 → number_of f k < 2 ^ 30 → Counts (raised f k end) (es ++ (e ∷ []))
  unfolding raised number_of
  counts_more e end zero q h l =
      let a = next_own 0 es e q in
      let b = next_other 1 es e (λ r. omega (arith, q, r)) in
      let c = next_other 2 es e (λ r. omega (arith, q, r)) in
      record {
        uris = omega (arith, a, C.uris);
        blanks = omega (arith, b, C.blanks);
        literals = omega (arith, c, C.literals);
        enough = are_enough (es ++ (e ∷ [])) (omega (arith, a, C.uris, l)) (omega (arith, b, next_most 1 es (omega arith) C.enough)) (omega (arith, c, next_most 2 es (omega arith) C.enough));
      }
  counts_more e end (suc zero) q h l =
      let a = next_other 0 es e (λ r. omega (arith, q, r)) in
      let b = next_own 1 es e q in
      let c = next_other 2 es e (λ r. omega (arith, q, r)) in
      record {
        uris = omega (arith, a, C.uris);
        blanks = omega (arith, b, C.blanks);
        literals = omega (arith, c, C.literals);
        enough = are_enough (es ++ (e ∷ [])) (omega (arith, a, next_most 0 es (omega arith) C.enough)) (omega (arith, b, C.blanks, l)) (omega (arith, c, next_most 2 es (omega arith) C.enough));
      }
  counts_more e end (suc (suc zero)) q h l =
      let a = next_other 0 es e (λ r. omega (arith, q, r)) in
      let b = next_other 1 es e (λ r. omega (arith, q, r)) in
      let c = next_own 2 es e q in
      record {
        uris = omega (arith, a, C.uris);
        blanks = omega (arith, b, C.blanks);
        literals = omega (arith, c, C.literals);
        enough = are_enough (es ++ (e ∷ [])) (omega (arith, a, next_most 0 es (omega arith) C.enough)) (omega (arith, b, next_most 1 es (omega arith) C.enough)) (omega (arith, c, C.literals, l));
      }
  counts_more e end (suc (suc (suc k))) q h l = absurd (omega arith)

-- Bytes that hold entries with these numbers are filled by them.
pub counts-filled : (bs : List ℕ) (f : Filled) (es : List Entry) → Holds bs f.end es → Counts f es → FilledBy bs f es
counts-filled bs f es H C = record { holds = H; uris = C.uris; blanks = C.blanks; literals = C.literals; enough = C.enough }

-- ---- the same of a filled dictionary's bytes

module _ (bs : List ℕ) (f : Filled) (es : List Entry) (F : FilledBy bs f es) where
  filled_counts : Counts f es
  filled_counts = record { uris = F.uris; blanks = F.blanks; literals = F.literals; enough = F.enough }

  pub filled-number : (k : ℕ) → k ≤ 2 → number_of f k ≡ next_number k es
  filled-number k h = counts-number f es filled_counts k h

  pub number_most : (k : ℕ) → k ≤ 2 → number_of f k ≤ 2 ^ 30
  number_most k h = counts_most f es filled_counts k h

  pub number_least : (k : ℕ) → k ≤ 2 → 0 < number_of f k
  number_least k h = omega (arith, filled-number k h, next-number k es, first_positive k)

  -- With an entry more.
  pub filled_more : (cs : List ℕ) (end : ℕ) (e : Entry) → Holds cs end (es ++ (e ∷ [])) → (k : ℕ) → kind_of e.text ≡ k → k ≤ 2 → number_of f k < 2 ^ 30 → FilledBy cs (raised f k end) (es ++ (e ∷ []))
  filled_more cs end e H k q h l = counts-filled cs (raised f k end) (es ++ (e ∷ [])) (rw (raised_end f k end) H) (counts_more f es filled_counts e end k q h l)
