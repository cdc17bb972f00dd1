-- Laws of the terms of a dictionary: an entry has a term exactly where its number is taken. Assumes nothing.
use Prim.Native.Nat.{ℕ, ◌≤◌, ◌<◌}
use mathlib.Core.Path.{◌≡◌, sym, ◌∙◌}
use mathlib.Core.Bool.{true, false, ◌&&◌}
use mathlib.Core.List.{List, []}
use native.Mathlib.Omega.{arith}
use lib.Dec.{ltb}
use lib.ListN.{length}
use borrow.Author.Tests.{ltb-true, ltb-false, lt-ltb}
use Rattle.spec.specs.Terms.{kind, number}
use Rattle.spec.proofs.Lists.{by_test}
use Rattle.spec.proofs.Ascending.{and_left, and_right}
use Rattle.spec_ntriples.specs.Texts.{is_same_text}
use Rattle.spec_ntriples.specs.Dictionary.{dictionary_bytes, entries, first_number, are_numbered, are_numbers_enough, are_texts, is_dictionary}
use Rattle.spec_ntriples.specs.Sights.{text_in}
use Rattle.spec_ntriples.proofs.Numbers.{Enough, numbers_enough}
use Rattle.dictionary_bytes.specs.inside.Entries.{FilledBy}
use Rattle.dictionary_bytes.specs.declared.Filled.{Filled}
use Rattle.dictionary_numbers.specs.inside.Numbers.{number_of}
use Rattle.dictionary_numbers.proofs.Numbering.{filled-number}
use Rattle.dictionary_ranks.specs.inside.Ranks.{HasNumber}
use Rattle.dictionary_ranks.proofs.Ranks.{InRange, text_in_range, in_range_text}

pub dictionary_numbered : (bs : List ℕ) → is_dictionary bs ≡ true → are_numbered [] (entries bs) ≡ true
unfolding is_dictionary
dictionary_numbered bs D =
    and_left (are_numbered [] (entries bs)) (are_numbers_enough (entries bs) && are_texts (entries bs))
    (and_right (is_same_text (dictionary_bytes (length bs) (entries bs)) bs) (are_numbered [] (entries bs) && (are_numbers_enough (entries bs) && are_texts (entries bs))) D)

dictionary_texts : (bs : List ℕ) → is_dictionary bs ≡ true → are_texts (entries bs) ≡ true
unfolding is_dictionary
dictionary_texts bs D =
    let es = entries bs in
    and_right (are_numbers_enough es) (are_texts es)
    (and_right (are_numbered [] es) (are_numbers_enough es && are_texts es) (and_right (is_same_text (dictionary_bytes (length bs) es) bs) (are_numbered [] es && (are_numbers_enough es && are_texts es)) D))

module _ (bs : List ℕ) (f : Filled) (D : is_dictionary bs ≡ true) (F : FilledBy bs f (entries bs)) where
  pub enough : Enough (entries bs)
  enough = numbers_enough (entries bs) F.enough

  -- The numbers that are taken are those in the range of a kind.
  pub range-number : (w : ℕ) → InRange (entries bs) w → HasNumber f w
  range-number w R = record { least = R.least; first = R.first; taken = omega (arith, R.taken, filled-number bs f (entries bs) F (kind w) R.least) }

  pub number-range : (w : ℕ) → HasNumber f w → InRange (entries bs) w
  number-range w H = record { least = H.least; first = H.first; taken = omega (arith, H.taken, filled-number bs f (entries bs) F (kind w) H.least) }

  -- A term has a text exactly where its number is taken.
  pub text-number : (w : ℕ) → 0 < length (text_in (entries bs) w) → HasNumber f w
  text-number w h = range-number w (text_in_range (entries bs) (dictionary_numbered bs D) enough w h)

  pub number-text : (w : ℕ) → HasNumber f w → 0 < length (text_in (entries bs) w)
  number-text w H = in_range_text (entries bs) (dictionary_numbered bs D) enough (dictionary_texts bs D) w (number-range w H)

-- A test of that.
pub is_taken : (f : Filled) (w : ℕ) → HasNumber f w → (bs : List ℕ) → is_dictionary bs ≡ true → FilledBy bs f (entries bs) → true ≡ ltb 0 (length (text_in (entries bs) w))
is_taken f w H bs D F = sym (lt-ltb 0 (length (text_in (entries bs) w)) (number-text bs f D F w H))

pub not_taken : (f : Filled) (w : ℕ) → (HasNumber f w → ⊥) → (bs : List ℕ) → is_dictionary bs ≡ true → FilledBy bs f (entries bs) → false ≡ ltb 0 (length (text_in (entries bs) w))
not_taken f w n bs D F =
    by_test (ltb 0 (length (text_in (entries bs) w))) (λ p. absurd (n (text-number bs f D F w (ltb-true 0 (length (text_in (entries bs) w)) p)))) (λ p. sym p)

pub is_below : (f : Filled) (w n : ℕ) → kind w ≤ 2 → first_number (kind w) ≤ number w → n ≡ number_of f (kind w) → (bs : List ℕ) → is_dictionary bs ≡ true → FilledBy bs f (entries bs) → ltb (number w) n ≡ ltb 0 (length (text_in (entries bs) w))
is_below f w n k a e bs D F =
    by_test (ltb (number w) n)
    (λ p. p ∙ is_taken f w (record { least = k; first = a; taken = omega (arith, e, ltb-true (number w) n p) }) bs D F)
    (λ p. p ∙ not_taken f w (λ H. omega (arith, e, H.taken, ltb-false (number w) n p)) bs D F)
