-- Bytes of zeros, and others stored among them. Assumes nothing.
use Prim.Native.Nat.{ℕ, ◌+◌}
use mathlib.Core.Path.{◌≡◌, sym, ap, ◌∙◌}
use mathlib.Core.List.{List, ◌++◌, append_assoc}
use native.Mathlib.Omega.{arith}
use lib.ListN.{length, take, drop, replicate, length-replicate, replicate-append-replicate}
use lib.Seq.{sets, sets-eq, take_at, drop_at}

-- Zeros of a length that stayed.
pub zeros_kept : (m d : List ℕ) → m ≡ replicate (length d) 0 → length m ≡ length d → m ≡ replicate (length m) 0
zeros_kept m d e l = e ∙ ap (λ (n : ℕ). replicate n 0) (sym l)

-- Bytes stored among zeros.
pub sets_zeros : (a b : ℕ) (vs : List ℕ) → sets (replicate (a + (length vs + b)) 0) a vs ≡ replicate a 0 ++ (vs ++ replicate b 0)
sets_zeros a b vs =
    let z : List ℕ = replicate (a + (length vs + b)) 0 in
    let n : length z ≡ a + (length vs + b) = length-replicate {A = ℕ} (a + (length vs + b)) 0 in
    let s : z ≡ replicate a 0 ++ replicate (length vs + b) 0 = sym (replicate-append-replicate {A = ℕ} a (length vs + b) 0) in
    let t : take a z ≡ replicate a 0 = ap (take a) s ∙ take_at (replicate a 0) (replicate (length vs + b) 0) a (length-replicate {A = ℕ} a 0) in
    let k : a + (length vs + b) ≡ (a + length vs) + b = omega arith in
    let r : z ≡ replicate (a + length vs) 0 ++ replicate b 0 = ap (λ (i : ℕ). replicate {A = ℕ} i 0) k ∙ sym (replicate-append-replicate {A = ℕ} (a + length vs) b 0) in
    let d : drop (a + length vs) z ≡ replicate b 0 = ap (drop (a + length vs)) r ∙ drop_at (replicate (a + length vs) 0) (replicate b 0) (a + length vs) (length-replicate {A = ℕ} (a + length vs) 0) in
    sets-eq vs z a (omega (arith, n)) ∙ rw (t, d) (append_assoc (replicate a 0) vs (replicate b 0))
