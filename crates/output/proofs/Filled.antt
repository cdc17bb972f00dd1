-- Words that hold rows in front and zeros behind: cleared words, and words that `sort` leaves over them. Assumes nothing.
use mathlib.Core.Path.{◌≡◌, refl, sym, ap, ap₂, ◌∙◌}
use mathlib.Core.List.{List, ◌++◌}
use Prim.Native.Nat.{ℕ, zero, suc, ◌-◌, ◌*◌, ◌/◌, ◌≤◌}
use native.Mathlib.Nat.{zero-mul}
use native.Mathlib.Numerals.{unary_clauses}
use native.Mathlib.Omega.{arith}
use lib.Dec.{leb}
use lib.ListN.{length, get_or, take, drop, replicate, length-replicate, get_or-replicate, take-append-drop}
use lib.Seq.{ext_get_or, length-take-le}
use Rattle.rows.specs.inside.Rows.{rows}
use Rattle.spec.specs.Rows.{flat}
use Rattle.rows_zero.specs.inside.Effects.{WordsZeroed}
use Rattle.rows.proofs.HeldWords.{flat_rows}
use Rattle.spec.specs.Outputs.{are_fitting, filled}

-- Words that are set to zero up to their end.
pub all_zero : (i : ℕ) (t s : List ℕ) → WordsZeroed 0 i t s → length s ≡ length t → length s ≤ i → s ≡ replicate (length t) 0
all_zero i t s z l h =
    ext_get_or 0 s (replicate (length t) 0) (l ∙ sym (length-replicate {A = ℕ} (length t) 0))
    (λ w g. z.zeros w (omega arith) (omega arith) ∙ sym (get_or-replicate {A = ℕ} (length t) w 0 0 (omega arith)))

-- An output that was cleared.
pub cleared : (ws : List ℕ) (n : ℕ) → ws ≡ replicate n 0 → ws ≡ replicate (length ws) 0
cleared ws n e = e ∙ ap (λ (k : ℕ). replicate {A = ℕ} k 0) (sym (ap length e ∙ length-replicate {A = ℕ} n 0))

-- Each of some zero words is zero, and so is what is read behind them.
pub get_or_zeros : (n w : ℕ) → get_or (replicate {A = ℕ} n 0) w 0 ≡ 0
get_or_zeros zero w = refl
get_or_zeros (suc n) zero = refl
get_or_zeros (suc n) (suc w) = get_or_zeros n w

-- Zero words without some of them.
pub drop_zeros : (k n : ℕ) → drop k (replicate {A = ℕ} n 0) ≡ replicate (n - k) 0
drop_zeros zero n = simp unary_clauses
drop_zeros (suc k) zero = let z : 0 - suc k ≡ 0 = omega arith in rw z
drop_zeros (suc k) (suc n) = simp unary_clauses (drop_zeros k n)

-- Words whose first r rows are R, and that are zero behind them.
pub rows-filled : (m r len : ℕ) (s : List ℕ) (R : List (List ℕ)) → length s ≡ len → r * m ≤ len → rows m s 0 r ≡ R → drop (r * m) s ≡ drop (r * m) (replicate len 0) → s ≡ filled len R
unfolding filled
rows-filled m r len s R l h e d =
    let q : flat (rows m s 0 r) ≡ take (r * m) (drop (0 * m) s) = flat_rows m 0 r s (omega arith) in
    let o : 0 * m ≡ 0 = zero-mul m in
    let a : take (r * m) s ≡ flat R = sym (q ∙ ap (λ (x : ℕ). take (r * m) (drop x s)) o) ∙ ap flat e in
    let z : length (flat R) ≡ r * m = ap length (sym a) ∙ length-take-le (r * m) s (omega arith) in
    sym (take-append-drop (r * m) s) ∙ ap₂ (λ (x y : List ℕ). x ++ y) a (d ∙ drop_zeros (r * m) len ∙ ap (λ (k : ℕ). replicate (len - k) 0) (sym z))

-- Whether rows fit depends on their number alone.
pub fitting-count : (m len n : ℕ) (R : List (List ℕ)) → length R ≡ n → leb n (len / m) ≡ are_fitting m len R
unfolding are_fitting
fitting-count m len n R e = rw e
