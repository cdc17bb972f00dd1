-- Laws of the texts of terms: those of the vocabulary, and those of entries. Assumes nothing.
use Prim.Native.Nat.{ℕ, zero, suc, ◌≤◌, ◌<◌}
use mathlib.Core.Path.{◌≡◌, refl, sym, ◌∙◌}
use mathlib.Core.Bool.{true, false}
use mathlib.Core.List.{List}
use native.Mathlib.Omega.{arith}
use borrow.Author.Tests.{leb-true, lt-ltb, ltb-true}
use lib.ListN.{length}
use lib.Dec.{leb, ltb}
use Rattle.spec.specs.Terms.{is_vocabulary}
use Rattle.spec.proofs.Ascending.{and_left, and_right}
use Rattle.spec_ntriples.specs.Characters.{codes}
use Rattle.spec_ntriples.specs.Dictionary.{Entry}
use Rattle.spec_ntriples.specs.Sights.{text_in, text_of}
use Rattle.spec_writing.specs.Writing.{has_text}
use Rattle.ntriples_copy.specs.inside.Vocabulary.{vocabulary_text}

-- The lengths of the five.
pub length_two : (w : ℕ) → 1 ≤ w → w ≤ 2 → 49 ≡ length (vocabulary_text w)
unfolding codes
length_two zero h k = absurd (omega arith)
length_two (suc zero) h k = refl
length_two (suc (suc zero)) h k = refl
length_two (suc (suc (suc w))) h k = absurd (omega arith)

pub length_three : (w : ℕ) → w ≡ 3 → 52 ≡ length (vocabulary_text w)
unfolding codes
length_three w e = rw e

pub length_four : (w : ℕ) → w ≡ 4 → 45 ≡ length (vocabulary_text w)
unfolding codes
length_four w e = rw e

pub length_five : (w : ℕ) → w ≡ 5 → 44 ≡ length (vocabulary_text w)
unfolding codes
length_five w e = rw e

-- None is empty.
pub vocabulary-some : (w : ℕ) → 1 ≤ w → w ≤ 5 → 0 < length (vocabulary_text w)
unfolding codes
vocabulary-some zero h k = absurd (omega arith)
vocabulary-some (suc zero) h k = omega arith
vocabulary-some (suc (suc zero)) h k = omega arith
vocabulary-some (suc (suc (suc zero))) h k = omega arith
vocabulary-some (suc (suc (suc (suc zero)))) h k = omega arith
vocabulary-some (suc (suc (suc (suc (suc zero))))) h k = omega arith
vocabulary-some (suc (suc (suc (suc (suc (suc w)))))) h k = absurd (omega arith)

-- ---- the text of a term

-- A vocabulary URI is one of 1 to 5.
pub vocabulary_bounds : (w : ℕ) → is_vocabulary w ≡ true → (1 ≤ w) × (w ≤ 5)
unfolding is_vocabulary
vocabulary_bounds w e = (leb-true 1 w (and_left (leb 1 w) (leb w 5) e), leb-true w 5 (and_right (leb 1 w) (leb w 5) e))

-- It has its text in every dictionary, and any other term that of its entry.
pub text_vocabulary : (es : List Entry) (w : ℕ) → is_vocabulary w ≡ true → text_of es w ≡ vocabulary_text w
unfolding text_of
text_vocabulary es w e = rw e

pub text-entry : (es : List Entry) (w : ℕ) → is_vocabulary w ≡ false → text_of es w ≡ text_in es w
unfolding text_of
text-entry es w e = rw e

-- ---- whether a term has a text

pub vocabulary_has : (es : List Entry) (w : ℕ) → is_vocabulary w ≡ true → true ≡ has_text es w
unfolding has_text
vocabulary_has es w e =
    let b = vocabulary_bounds w e in
    rw (text_vocabulary es w e) (sym (lt-ltb 0 (length (vocabulary_text w)) (vocabulary-some w b.0 b.1)))

pub entry_has : (es : List Entry) (w : ℕ) → is_vocabulary w ≡ false → ltb 0 (length (text_in es w)) ≡ has_text es w
unfolding has_text
entry_has es w e = rw (text-entry es w e)

-- Where it has one and is not of the vocabulary, an entry has it.
pub has-entry : (es : List Entry) (w : ℕ) → is_vocabulary w ≡ false → has_text es w ≡ true → 0 < length (text_in es w)
has-entry es w e h = ltb-true 0 (length (text_in es w)) (entry_has es w e ∙ h)
