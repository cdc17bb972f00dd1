-- Laws of the entry that comes, by what is read of it. Assumes nothing.
use Prim.Native.Nat.{ℕ, ◌+◌, ◌-◌, ◌*◌, ◌^◌, ◌≤◌, ◌<◌}
use mathlib.Core.Path.{◌≡◌, sym, ap, ◌∙◌}
use mathlib.Core.Bool.{true, false, ◌&&◌, not}
use mathlib.Core.List.{List}
use native.Mathlib.Omega.{arith}
use lib.ListN.{length, take, drop}
use lib.Dec.{eqb}
use borrow.Author.Tests.{eqb-true, eqb-false}
use Rattle.spec.proofs.Lists.{by_test}
use Rattle.spec_ntriples.specs.Dictionary.{front_term, vocabulary_of, kind_of, is_dictionary}
use Rattle.spec_ntriples.specs.computed.Canonical.{is_canonical}
use Rattle.spec_ntriples.proofs.Numbers.{kind_least}
use Rattle.dictionary_bytes.specs.inside.Entries.{length_at, text_at, entries_at}
use Rattle.dictionary_bytes.specs.declared.Filled.{Filled}
use Rattle.dictionary_numbers.specs.inside.Numbers.{number_of, raised}
use Rattle.dictionary_numbers.proofs.Numbering.{raised_end, counts_most}
use Rattle.dictionary_step.specs.inside.Filling.{AreBytes, Filling, Comes, IsEntry}
use Rattle.dictionary_step.proofs.EntriesRead.{no_term}
use Rattle.dictionary_step.proofs.Steps.{wrong-text, no_number, wrong-term, right-entry}

-- Whether an entry comes, where there is room for its header.
pub term_comes : (bs : List ℕ) (at term : ℕ) → term ≡ front_term (drop at bs) → at + 12 ≤ length bs → IsEntry bs at (not (eqb term 0))
term_comes bs at term e h =
    by_test (eqb term 0)
    (λ p. rw p (no_term bs at (sym e ∙ eqb-true term 0 p)))
    (λ p. rw p (record { header = h; term = omega (arith, e, eqb-false term 0 p) }))

-- The bytes that are read as the text of the entry at an index, with the length that is read.
abbrev pub read_text : List ℕ → ℕ → ℕ → List ℕ
read_text bs at n = take (at + 12 + n - (at + 12)) (drop (at + 12) bs)

text-read : (bs : List ℕ) (at n : ℕ) → n ≡ length_at bs at → read_text bs at n ≡ text_at bs at
unfolding text_at
text-read bs at n e = let q : at + 12 + n - (at + 12) ≡ n = omega arith in rw (q, e)

module _ (bs : List ℕ) (f : Filled) (F : Filling bs f) (C : Comes bs f.end) (n : ℕ) (q : n ≡ length_at bs f.end) (l : f.end + 12 + n ≤ length bs) where
  abbrev within : f.end + 12 + length_at bs f.end ≤ length bs
  within = omega (arith, q, l)

  abbrev text : List ℕ
  text = read_text bs f.end n

  -- The text is one that no entry may have.
  pub asked-text : (is_canonical text && eqb (vocabulary_of text) 0) ≡ false → is_dictionary bs ≡ false
  asked-text h = wrong-text bs f F C within (rw (text-read bs f.end n q) at h)

  module _ (kind number : ℕ) (k : kind ≡ kind_of text) (m : number ≡ number_of f kind) where
    kind-read : kind ≡ kind_of (text_at bs f.end)
    kind-read = k ∙ ap kind_of (text-read bs f.end n q)

    number_read : number_of f (kind_of (text_at bs f.end)) ≡ number
    number_read = ap (λ (i : ℕ). number_of f i) (sym kind-read) ∙ sym m

    -- The kinds are three, and have 2^30 numbers.
    pub asked-kind : kind ≤ 2
    asked-kind = omega (arith, kind-read, kind_least (text_at bs f.end))

    pub asked-most : number ≤ 2 ^ 30
    asked-most = omega (arith, m, counts_most f (entries_at bs 0 F.count) F.counts kind asked-kind)

    -- The kind has no number left.
    pub asked-number : number ≡ 2 ^ 30 → is_dictionary bs ≡ false
    asked-number h = no_number bs f F C within (number_read ∙ h)

    next-read : kind_of (text_at bs f.end) * 2 ^ 30 + number_of f (kind_of (text_at bs f.end)) ≡ kind * 2 ^ 30 + number
    next-read = rw (number_read, ← kind-read)

    module _ (term : ℕ) (t : term ≡ front_term (drop f.end bs)) where
      -- The term is not the next.
      pub asked-term : (term ≡ kind * 2 ^ 30 + number → ⊥) → is_dictionary bs ≡ false
      asked-term h = wrong-term bs f F C within (λ e. h (t ∙ e ∙ next-read))

      -- The entry is right.
      pub asked-right : AreBytes bs → (is_canonical text && eqb (vocabulary_of text) 0) ≡ true → (number ≡ 2 ^ 30 → ⊥) → term ≡ kind * 2 ^ 30 + number
          → (g : Filled) → g ≡ raised f kind (f.end + 12 + n) → Filling bs g × (f.end < g.end)
      asked-right b h i e g r =
          let R = right-entry bs f F C within b (rw (text-read bs f.end n q) at h) (omega (arith, number_read, asked-most, i)) (sym t ∙ e ∙ sym next-read) in
          (rw (r, kind-read, q) R, rw (r, raised_end f kind (f.end + 12 + n)) (omega arith))

-- Behind an entry fewer bytes are left.
pub walk-less : (bs : List ℕ) (f g : Filled) → Filling bs g × (f.end < g.end) → length bs - g.end < length bs - f.end
walk-less bs f g h = omega (arith, h.1, h.0.within)
