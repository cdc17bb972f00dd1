-- Laws of entries by their byte indices. Assumes nothing.
use Prim.Native.Nat.{ℕ, zero, suc, ◌+◌, ◌-◌, ◌*◌, ◌≤◌, ◌<◌}
use mathlib.Core.Path.{◌≡◌, sym, ap, ◌∙◌}
use mathlib.Core.Bool.{false}
use mathlib.Core.List.{List}
use native.Mathlib.Nat.{add-zero, add-suc}
use native.Mathlib.Omega.{arith}
use lib.ListN.{length, take, drop}
use Rattle.spec_ntriples.specs.Texts.{is_same_text}
use Rattle.dictionary_bytes.specs.inside.Entries.{length_at, text_at, place_at}
use Rattle.dictionary_bytes.proofs.Same.{part_length, lengths_differ}

-- The text of an entry that lies within the bytes is as long as the entry says.
pub text-length : (bs : List ℕ) (at : ℕ) → at + 12 + length_at bs at ≤ length bs → length (text_at bs at) ≡ length_at bs at
unfolding text_at
text-length bs at h = part_length bs (at + 12) (length_at bs at) h

-- An entry whose text has another length.
pub other_length : (bs t : List ℕ) (at from n m : ℕ) → at + 12 + length_at bs at ≤ length bs → from + n ≤ length t → m ≡ length_at bs at → (m ≡ n → ⊥) → is_same_text (text_at bs at) (take n (drop from t)) ≡ false
other_length bs t at from n m h k e q = lengths_differ (text_at bs at) _ (λ l. q (e ∙ sym (text-length bs at h) ∙ l ∙ part_length t from n k))

-- An entry whose text has the same length.
pub same_length : (bs t : List ℕ) (at from n m : ℕ) → m ≡ length_at bs at → m ≡ n → is_same_text (take n (drop (at + 12) bs)) (take n (drop from t)) ≡ is_same_text (text_at bs at) (take n (drop from t))
unfolding text_at
same_length bs t at from n m e k = rw (← e, k)

-- Entries lie one behind the other.
pub places-ascend : (bs : List ℕ) (first i d : ℕ) → place_at bs first i + 12 * d ≤ place_at bs first (i + d)
unfolding place_at
places-ascend bs first i zero = rw (add-zero i) (omega arith)
places-ascend bs first i (suc d) = rw (add-suc i d) (omega (arith, places-ascend bs first i d))

-- An entry before another ends before it.
pub place_before : (bs : List ℕ) (first i k : ℕ) → i < k → place_at bs first i + 12 + length_at bs (place_at bs first i) ≤ place_at bs first k
unfolding place_at
place_before bs first i k h = let e : k ≡ suc i + (k - suc i) = omega arith in omega (arith, places-ascend bs first (suc i) (k - suc i), ap (place_at bs first) e)
