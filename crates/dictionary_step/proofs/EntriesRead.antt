-- Laws of the entries that bytes have, one by one from byte indices on. Assumes nothing.
use Prim.Native.Nat.{ℕ, zero, suc, ◌+◌, ◌-◌, ◌*◌, ◌/◌, ◌%◌, ◌≤◌, ◌<◌}
use mathlib.Core.Path.{◌≡◌, refl, sym, ap, ◌∙◌}
use mathlib.Core.Bool.{Bool, true, false, ◌||◌}
use mathlib.Core.List.{List, [], ◌∷◌, ◌++◌, append-nil}
use native.Mathlib.Omega.{arith}
use lib.ListN.{length, take, drop, length-drop}
use lib.Seq.{take-add, drop-drop, get_or-drop}
use lib.Dec.{eqb, ltb}
use borrow.Author.Tests.{lt-ltb, le-ltb, ne_eqb}
use Rattle.spec.proofs.Lists.{by_test}
use Rattle.spec_ntriples.specs.Dictionary.{Entry, entry, number_bytes, bytes_of_entry, bytes_of_entries, bytes_number, front_term, front_length, entries_at_most, entries}
use Rattle.dictionary_bytes.specs.inside.Entries.{length_at, text_at, place_at, entries_at}
use Rattle.dictionary_bytes.proofs.Same.{part_split, part_length}
use Rattle.dictionary_bytes.proofs.Entry.{text-length}
use Rattle.dictionary_entries.proofs.Standing.{place_behind, entries-append}
use Rattle.dictionary_step.specs.inside.Filling.{AreBytes, entry_at}

-- ---- the entries at the front of bytes

-- Any bound serves that is not below the number of bytes.
entries-bound : (m n : ℕ) (bs : List ℕ) → length bs ≤ m → length bs ≤ n → entries_at_most m bs ≡ entries_at_most n bs
unfolding entries_at_most bytes_number
entries-bound zero zero bs h k = refl
entries-bound zero (suc n) [] h k = refl
entries-bound zero (suc n) (b ∷ bs) h k = absurd (omega arith)
entries-bound (suc m) zero [] h k = refl
entries-bound (suc m) zero (b ∷ bs) h k = absurd (omega arith)
entries-bound (suc m) (suc n) bs h k =
    let l = 12 + front_length bs in
    by_test (eqb (front_term bs) 0 || ltb (length bs) l) (λ p. rw p)
    (λ p. rw p (ap (λ (es : List Entry). entry (front_term bs) (take (front_length bs) (drop 12 bs)) ∷ es) (entries-bound m n (drop l bs) (omega (arith, length-drop l bs)) (omega (arith, length-drop l bs)))))

entries_more : (bs : List ℕ) → entries bs ≡ entries_at_most (suc (length bs)) bs
unfolding entries
entries_more bs = entries-bound (length bs) (suc (length bs)) bs (omega arith) (omega arith)

-- None comes.
front_none : (bs : List ℕ) → (eqb (front_term bs) 0 || ltb (length bs) (12 + front_length bs)) ≡ true → entries bs ≡ []
unfolding entries_at_most
front_none bs p = entries_more bs ∙ rw p

-- One comes, and others behind it.
front-some : (bs : List ℕ) → (eqb (front_term bs) 0 || ltb (length bs) (12 + front_length bs)) ≡ false
    → entries bs ≡ entry (front_term bs) (take (front_length bs) (drop 12 bs)) ∷ entries (drop (12 + front_length bs) bs)
unfolding entries_at_most entries
front-some bs p =
    let l = 12 + front_length bs in
    entries_more bs ∙ rw p (ap (λ (es : List Entry). entry (front_term bs) (take (front_length bs) (drop 12 bs)) ∷ es) (entries-bound (length bs) (length (drop l bs)) (drop l bs) (omega (arith, length-drop l bs)) (omega arith)))

or_right : (a b : Bool) → b ≡ true → (a || b) ≡ true
or_right true b e = refl
or_right false b e = e

-- ---- the entries from a byte index on

module _ (bs : List ℕ) (at : ℕ) where
  -- None comes where the term is 0, or where the entry does not lie within the bytes.
  pub no_term : front_term (drop at bs) ≡ 0 → entries (drop at bs) ≡ []
  no_term e = front_none (drop at bs) (rw e)

  pub no_room : length bs < at + 12 + length_at bs at → entries (drop at bs) ≡ []
  unfolding length_at
  no_room h =
      let n = front_length (drop at bs) in
      front_none (drop at bs) (or_right (eqb (front_term (drop at bs)) 0) _ (lt-ltb (length (drop at bs)) (12 + n) (omega (arith, length-drop at bs))))

  -- Else one comes.
  pub entry_comes : 0 < front_term (drop at bs) → at + 12 + length_at bs at ≤ length bs → entries (drop at bs) ≡ entry_at bs at ∷ entries (drop (at + 12 + length_at bs at) bs)
  unfolding length_at text_at
  entry_comes h k =
      let n = front_length (drop at bs) in
      let e : at + (12 + n) ≡ at + 12 + n = omega arith in
      let p : eqb (front_term (drop at bs)) 0 ≡ false = ne_eqb (front_term (drop at bs)) 0 (λ (q : front_term (drop at bs) ≡ 0). omega (arith, q, h)) in
      let q : ltb (length (drop at bs)) (12 + n) ≡ false = le-ltb (length (drop at bs)) (12 + n) (omega (arith, length-drop at bs)) in
      front-some (drop at bs) (rw (p, q)) ∙ rw (drop-drop 12 at bs, drop-drop (12 + n) at bs, e)

-- The entries from a byte index on with the one behind them.
pub entries_next : (bs : List ℕ) (first k : ℕ) → entries_at bs first (suc k) ≡ entries_at bs first k ++ (entry_at bs (place_at bs first k) ∷ [])
unfolding entries_at place_at
entries_next bs first zero = refl
entries_next bs first (suc k) = rw (place_behind bs first k) (ap (λ (es : List Entry). entry_at bs first ∷ es) (entries_next bs (first + 12 + length_at bs first) k))

-- ---- their bytes

-- Bytes are those of their number.
number_read : (bs : List ℕ) → AreBytes bs → number_bytes (length bs) (bytes_number bs) ≡ bs
unfolding number_bytes bytes_number
number_read [] h = refl
number_read (b ∷ bs) h =
    let e : (b + 256 * bytes_number bs) % 256 ≡ b = omega (arith, h 0) in
    let f : (b + 256 * bytes_number bs) / 256 ≡ bytes_number bs = omega (arith, h 0) in
    rw (e, f) (ap (λ (l : List ℕ). b ∷ l) (number_read bs (λ i. h (suc i))))

take_bytes : (n : ℕ) (bs : List ℕ) → AreBytes bs → AreBytes (take n bs)
take_bytes zero bs h i = omega arith
take_bytes (suc n) [] h i = omega arith
take_bytes (suc n) (b ∷ bs) h zero = h 0
take_bytes (suc n) (b ∷ bs) h (suc i) = take_bytes n bs (λ j. h (suc j)) i

part-read : (bs : List ℕ) (at n : ℕ) → AreBytes bs → at + n ≤ length bs → number_bytes n (bytes_number (take n (drop at bs))) ≡ take n (drop at bs)
part-read bs at n h k =
    let p = take n (drop at bs) in
    ap (λ (m : ℕ). number_bytes m (bytes_number p)) (sym (part_length bs at n k)) ∙ number_read p (take_bytes n (drop at bs) (λ i. rw (get_or-drop at bs i 0) (h (at + i))))

-- The bytes of the entry at a byte index.
module _ (bs : List ℕ) (at : ℕ) (h : AreBytes bs) (k : at + 12 + length_at bs at ≤ length bs) where
  length-read : number_bytes 8 (length_at bs at) ≡ take 8 (drop (at + 4) bs)
  unfolding length_at
  length-read = ap (λ (l : List ℕ). number_bytes 8 (bytes_number (take 8 l))) (drop-drop 4 at bs) ∙ part-read bs (at + 4) 8 h (omega arith)

  entry_split : take (12 + length_at bs at) (drop at bs) ≡ take 4 (drop at bs) ++ (take 8 (drop (at + 4) bs) ++ text_at bs at)
  unfolding text_at
  entry_split =
      let n : ℕ = length_at bs at in
      let a : 12 + n - 4 - 8 ≡ n = omega arith in
      let b : at + 4 + 8 ≡ at + 12 = omega arith in
      part_split bs at 4 (12 + n) (omega arith)
      ∙ ap (λ (l : List ℕ). take 4 (drop at bs) ++ l) (part_split bs (at + 4) 8 (12 + n - 4) (omega arith) ∙ rw (a, b))

  pub entry_read : bytes_of_entry (entry_at bs at) ≡ take (12 + length_at bs at) (drop at bs)
  unfolding bytes_of_entry
  entry_read = rw (text-length bs at k, part-read bs at 4 h (omega arith), length-read) (sym entry_split)

-- The bytes up to the end of the entry behind some.
pub bytes_more : (bs : List ℕ) (at : ℕ) (es : List Entry) → AreBytes bs → at + 12 + length_at bs at ≤ length bs → take at bs ≡ bytes_of_entries es → take (at + 12 + length_at bs at) bs ≡ bytes_of_entries (es ++ (entry_at bs at ∷ []))
unfolding bytes_of_entries
bytes_more bs at es h k e =
    let q : at + 12 + length_at bs at ≡ at + (12 + length_at bs at) = omega arith in
    rw (q, take-add at (12 + length_at bs at) bs, e, ← entry_read bs at h k, entries-append es (entry_at bs at ∷ []), append-nil (bytes_of_entry (entry_at bs at)))
