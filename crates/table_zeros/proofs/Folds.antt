-- Folds with no exit: ok is the answer so far. Assumes nothing.
use Prim.Native.Nat.{ℕ, ◌+◌, ◌<◌}
use mathlib.Core.Path.{◌≡◌, refl}
use mathlib.Core.Bool.{Bool, true, false, ◌&&◌}
use mathlib.Core.List.{List}
use lib.ListN.{length, get_or, drop}
use lib.Dec.{eqb}
use Rattle.spec.specs.Lists.{all}
use Rattle.spec.specs.Tables.{are_zero}
use Rattle.spec.proofs.TableAll.{and_assoc, all-next}

pub fold_end : (ok : Bool) {left : Bool} → left ≡ true → (ok && left) ≡ ok
fold_end true e = e
fold_end false e = refl

-- The element at i is e, and b is its answer.
pub all_fold : {A : Type 0} (test : A → Bool) (xs : List A) (ok : Bool) (i : ℕ) {e : A} {b : Bool} → i < length xs → e ≡ get_or xs i e → b ≡ test e
    → (ok && all test (drop i xs)) ≡ ((ok && b) && all test (drop (i + 1) xs))
all_fold test xs ok i {e} h is q = rw (q, all-next test xs i e h, ← is) (and_assoc ok (test e) (all test (drop (i + 1) xs)))

pub zeros_fold : (ok : Bool) (ws : List ℕ) (i : ℕ) → i < length ws → (ok && are_zero (drop i ws)) ≡ ((ok && eqb (get_or ws i 0) 0) && are_zero (drop (i + 1) ws))
unfolding are_zero
zeros_fold ok ws i h = rw (all-next (λ w. eqb w 0) ws i 0 h) (and_assoc ok (eqb (get_or ws i 0) 0) (all (λ w. eqb w 0) (drop (i + 1) ws)))
