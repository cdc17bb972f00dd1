-- The column orders that the formula gives, by computation, and that each has every column once. Assumes nothing.
use Prim.Native.Nat.{ℕ, zero, suc, ◌+◌, ◌≤◌, ◌<◌}
use mathlib.Core.Path.{◌≡◌, refl, sym, ap, ◌∙◌}
use mathlib.Core.Bool.{Bool, true, ◌&&◌}
use mathlib.Core.List.{List, [], ◌∷◌}
use native.Mathlib.Omega.{arith}
use lib.Dec.{eqb}
use lib.ListN.{length, get_or}
use borrow.Author.Tests.{eqb-true}
use Rattle.spec.specs.Lists.{all, select}
use Rattle.spec.specs.Listings.{others, column_order}
use Rattle.spec.proofs.Ascending.{and_left, and_right}
use Rattle.spec.proofs.TableAll.{all_get_d}

-- ---- the six orders

-- A function at so many numbers, from s on.
along : (ℕ → List ℕ) → ℕ → ℕ → List (List ℕ)
along f s zero = []
along f s (suc n) = f s ∷ along f (s + 1) n

-- What it gives at one of them.
along-at : (f : ℕ → List ℕ) (s n k : ℕ) → k < n → get_or (along f s n) k [] ≡ f (s + k)
unfolding along
along-at f s zero k h = absurd (omega arith)
along-at f s (suc n) zero h = ap f (omega arith)
along-at f s (suc n) (suc k) h = along-at f (s + 1) n k (omega arith) ∙ ap f (omega arith)

-- "SPO, SOP, PSO, POS, OSP, OPS": the columns by which document 01 names the orders, 0 subject, 1 property, 2 object.
abbrev pub named_orders : List (List ℕ)
named_orders =
    (0 ∷ 1 ∷ 2 ∷ [])
    ∷ (0 ∷ 2 ∷ 1 ∷ [])
    ∷ (1 ∷ 0 ∷ 2 ∷ [])
    ∷ (1 ∷ 2 ∷ 0 ∷ [])
    ∷ (2 ∷ 0 ∷ 1 ∷ [])
    ∷ (2 ∷ 1 ∷ 0 ∷ [])
    ∷ []

-- The orders 0 to 5.
six_orders : along column_order 0 6 ≡ named_orders
unfolding along column_order others select
six_orders = refl

-- "Each listing is as before": order k is the one that the name at place k spells.
pub orders_as_before : (k : ℕ) → k ≤ 5 → column_order k ≡ get_or named_orders k []
orders_as_before k h = ap column_order (omega arith) ∙ sym (along-at column_order 0 6 k (omega arith)) ∙ ap (λ os. get_or os k []) six_orders

-- ---- each column once

-- How often a column stands in an order.
abbrev pub times_in : ℕ → List ℕ → ℕ
times_in c cs = length (select (eqb c) cs)

-- Whether each of the three columns stands in an order once.
is_whole : List ℕ → Bool
is_whole cs = eqb (times_in 0 cs) 1 && (eqb (times_in 1 cs) 1 && eqb (times_in 2 cs) 1)

-- All six have.
all_whole : all is_whole named_orders ≡ true
unfolding all is_whole select
all_whole = refl

-- Of a whole order, each column stands in it once.
whole_once : (cs : List ℕ) (c : ℕ) → is_whole cs ≡ true → c ≤ 2 → times_in c cs ≡ 1
unfolding is_whole
whole_once cs zero h l = eqb-true _ 1 (and_left _ _ h)
whole_once cs (suc zero) h l = eqb-true _ 1 (and_left _ _ (and_right (eqb (times_in 0 cs) 1) _ h))
whole_once cs (suc (suc zero)) h l = eqb-true _ 1 (and_right (eqb (times_in 1 cs) 1) _ (and_right (eqb (times_in 0 cs) 1) _ h))
whole_once cs (suc (suc (suc c))) h l = absurd (omega arith)

-- No order loses a column or has one twice.
pub column_once : (k c : ℕ) → k ≤ 5 → c ≤ 2 → times_in c (column_order k) ≡ 1
column_once k c h l = rw (orders_as_before k h) (whole_once _ c (all_get_d is_whole named_orders [] all_whole k (omega arith)) l)
