-- The highest of some numbers. Assumes nothing.
use Prim.Native.Nat.{ℕ, ◌+◌, ◌≤◌, ◌<◌, max}
use mathlib.Core.Path.{◌≡◌, refl}
use mathlib.Core.Bool.{true}
use mathlib.Core.List.{List, [], ◌∷◌}
use native.Mathlib.Numerals.{add-one}
use native.Mathlib.Omega.{arith}
use lib.ListN.{length, get_or, take, drop, drop_of_length-le}
use lib.Seq.{drop-cons, get_or-take, length-take-le}
use lib.Dec.{leb}
use borrow.Author.Tests.{le-leb, leb-true}
use Rattle.spec.proofs.Ascending.{and_left, and_right}
use Rattle.spec.specs.Lists.{all}
use Rattle.delivery_supports.specs.inside.Highest.{highest}

-- Numbers none of which is above a bound are those whose highest is not.
pub within-highest : (b : ℕ) (us : List ℕ) → all (λ (u : ℕ). leb u b) us ≡ true → highest us ≤ b
unfolding all highest
within-highest b [] e = omega arith
within-highest b (u ∷ us) e = omega (arith, leb-true u b (and_left (leb u b) _ e), within-highest b us (and_right (leb u b) _ e))

pub highest-within : (b : ℕ) (us : List ℕ) → highest us ≤ b → all (λ (u : ℕ). leb u b) us ≡ true
unfolding all highest
highest-within b [] h = refl
highest-within b (u ∷ us) h = rw (le-leb u b (omega arith)) (highest-within b us (omega arith))

-- The scan: the highest of what is left, with that of what is passed.
module _ (us : List ℕ) (i h : ℕ) where
  pub highest_more : i < length us → max h (highest (drop i us)) ≡ highest us → max (max h (get_or us i 0)) (highest (drop (i + 1) us)) ≡ highest us
  unfolding highest
  highest_more k e = let f = rw (drop-cons us i 0 k) at e in rw (add-one i) (omega (arith, f))

  pub highest_end : length us ≤ i → max h (highest (drop i us)) ≡ highest us → h ≡ highest us
  unfolding highest
  highest_end k e = let f = rw (drop_of_length-le us k) at e in omega (arith, f)
