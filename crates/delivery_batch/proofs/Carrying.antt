-- What some facts carry together, and the rows that raising it adds. Assumes nothing.
use Prim.Native.Nat.{◌+◌, ◌≤◌}
use mathlib.Core.Path.{◌≡◌, refl, sym, ap, ◌∙◌}
use mathlib.Core.List.{List, [], ◌∷◌, ◌++◌, flat_map, Memᴰ}
use native.Mathlib.Omega.{arith}
use lib.ListN.{length}
use Rattle.spec.specs.declared.Triple.{Triple}
use Rattle.spec.specs.Order.{insert}
use Rattle.spec.specs.computed.Carried.{ascend, carried}
use Rattle.spec.specs.Saturation.{Kept, raise_all, lower_all, kept_rows}
use Rattle.spec.specs.inside.Counts.{Counts}
use Rattle.spec.proofs.Tests.{order_elim}
use Rattle.spec.proofs.Ascending.{ascend_out}
use Rattle.spec.proofs.Carried.{carried_ascends}
use Rattle.spec.proofs.Kept.{kept_ascends, length-kept_rows}
use Rattle.spec.proofs.Sets.{Distinct}
use Rattle.update_raise.proofs.Missing.{raise-rows}
use Rattle.delivery_batch.specs.inside.Batches.{times, carried_all, missing, insert_all}
use Rattle.delivery_batch.proofs.Times.{times_nil, times-append, times_once, raise_all_same, raise_all-append, lower_all_same, lower_all-append}
use Rattle.delivery_batch.proofs.Members.{insert_all-length}

-- ---- what some facts carry

pub carried_all-cons : (S : List Triple) (t : Triple) (ts : List Triple) (u : Triple) → times u (carried_all S (t ∷ ts)) ≡ times u (carried S t) + times u (carried_all S ts)
unfolding carried_all flat_map
carried_all-cons S t ts u = times-append u (carried S t) (carried_all S ts)

pub carried_all_nil : (S : List Triple) (u : Triple) → times u (carried_all S []) ≡ 0
unfolding carried_all flat_map
carried_all_nil S u = times_nil u

-- Each carries a row at most once.
pub carried_all_few : (S ts : List Triple) (u : Triple) → times u (carried_all S ts) ≤ length ts
carried_all_few S [] u = omega (arith, carried_all_nil S u)
carried_all_few S (t ∷ ts) u = omega (arith, carried_all-cons S t ts u, times_once u (carried S t) (carried_ascends S t), carried_all_few S ts u)

-- A fact more.
pub carried_all-insert : (S : List Triple) (t : Triple) (ts : List Triple) (u : Triple) → ¬ Memᴰ t ts → times u (carried_all S (insert t ts)) ≡ times u (carried S t) + times u (carried_all S ts)
unfolding insert
carried_all-insert S t [] u n = carried_all-cons S t [] u
carried_all-insert S t (v ∷ ts) u n =
    order_elim (λ (r : List Triple). times u (carried_all S r) ≡ times u (carried S t) + times u (carried_all S (v ∷ ts))) t v
    (λ _. carried_all-cons S t (v ∷ ts) u)
    (λ q. absurd (n (Memᴰ.head q)))
    (λ _. omega (arith, carried_all-cons S v (insert t ts) u, carried_all-cons S v ts u, carried_all-insert S t ts u (λ m. n (Memᴰ.tail m))))

-- The order in which facts are taken does not matter, where none stands twice.
pub carried_all-ascend : (S ts : List Triple) (u : Triple) → Distinct ts → times u (carried_all S (ascend ts)) ≡ times u (carried_all S ts)
unfolding ascend
carried_all-ascend S [] u d = refl
carried_all-ascend S (t ∷ ts) u d = omega (arith, carried_all-insert S t (ascend ts) u (λ m. d.0 (ascend_out ts m)), carried_all-cons S t ts u, carried_all-ascend S ts u d.1)

pub raise_all-ascend : (S ts : List Triple) (k : Kept) → Counts k → Distinct ts → raise_all (carried_all S (ascend ts)) k ≡ raise_all (carried_all S ts) k
raise_all-ascend S ts k a d = raise_all_same (carried_all S (ascend ts)) (carried_all S ts) k a (λ u. carried_all-ascend S ts u d)

pub lower_all-ascend : (S ts : List Triple) (k : Kept) → Counts k → Distinct ts → lower_all (carried_all S (ascend ts)) k ≡ lower_all (carried_all S ts) k
lower_all-ascend S ts k a d = lower_all_same (carried_all S (ascend ts)) (carried_all S ts) k a (λ u. carried_all-ascend S ts u d)

-- A fact more raises what it carries first,
pub raise_all-carried : (S : List Triple) (t : Triple) (ts : List Triple) (k : Kept) → Counts k → ¬ Memᴰ t ts → raise_all (carried_all S (insert t ts)) k ≡ raise_all (carried_all S ts) (raise_all (carried S t) k)
raise_all-carried S t ts k a n =
    raise_all_same (carried_all S (insert t ts)) (carried_all S ts ++ carried S t) k a (λ u. omega (arith, carried_all-insert S t ts u n, times-append u (carried_all S ts) (carried S t)))
    ∙ raise_all-append (carried_all S ts) (carried S t) k

-- and so it lowers it.
pub lower_all-carried : (S : List Triple) (t : Triple) (ts : List Triple) (k : Kept) → Counts k → ¬ Memᴰ t ts → lower_all (carried_all S (insert t ts)) k ≡ lower_all (carried_all S ts) (lower_all (carried S t) k)
lower_all-carried S t ts k a n =
    lower_all_same (carried_all S (insert t ts)) (carried_all S ts ++ carried S t) k a (λ u. omega (arith, carried_all-insert S t ts u n, times-append u (carried_all S ts) (carried S t)))
    ∙ lower_all-append (carried_all S ts) (carried S t) k

-- ---- the rows that raising adds

-- Raising rows puts them into the set of rows,
pub raise_all-rows : (ts : List Triple) (k : Kept) → kept_rows (raise_all ts k) ≡ insert_all ts (kept_rows k)
unfolding raise_all insert_all
raise_all-rows [] k = refl
raise_all-rows (t ∷ ts) k = raise-rows t (raise_all ts k) ∙ ap (insert t) (raise_all-rows ts k)

-- so that those enter which are missing, each once.
pub raise_all-missing : (ts : List Triple) (k : Kept) → Counts k → length (raise_all ts k) ≡ length k + length (missing (kept_rows k) ts)
raise_all-missing ts k a =
    let e = sym (length-kept_rows (raise_all ts k)) ∙ ap length (raise_all-rows ts k) ∙ insert_all-length ts (kept_rows k) (kept_ascends k a) in
    omega (arith, e, length-kept_rows k)
