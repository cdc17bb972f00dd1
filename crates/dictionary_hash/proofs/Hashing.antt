-- Laws of hashes. Assumes nothing.
use Prim.Native.Nat.{ℕ, ◌+◌, ◌≤◌, ◌<◌}
use mathlib.Core.Path.{◌≡◌, refl}
use mathlib.Core.List.{List, [], ◌∷◌, ◌++◌}
use native.Mathlib.Numerals.{add-one}
use lib.ListN.{length, get_or, drop}
use lib.Seq.{drop-cons}
use Rattle.std.proofs.lemmas.List.{drop_all}
use Rattle.dictionary_hash.specs.inside.Hashes.{hash_on, hash_from}

-- A text from index i on: its next byte, and none.
pub hash_more : (bs : List ℕ) (i h : ℕ) → i < length bs → hash_from h (drop i bs) ≡ hash_from (hash_on h (get_or bs i 0)) (drop (i + 1) bs)
unfolding hash_from
hash_more bs i h k = rw (add-one i, drop-cons bs i 0 k)

pub hash_end : (bs : List ℕ) (i h : ℕ) → length bs ≤ i → hash_from h (drop i bs) ≡ h
unfolding hash_from
hash_end bs i h k = rw (drop_all i bs k)

-- One text behind another.
pub hash-append : (h : ℕ) (s t : List ℕ) → hash_from h (s ++ t) ≡ hash_from (hash_from h s) t
unfolding hash_from
hash-append h [] t = refl
hash-append h (b ∷ s) t = hash-append (hash_on h b) s t
