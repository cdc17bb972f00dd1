-- Raising and lowering as sums: a support goes up or down as often as its row stands in the list, so that neither order nor grouping matters.
-- Assumes nothing.
use Prim.Native.Nat.{◌+◌, ◌-◌, ◌≤◌}
use mathlib.Core.Path.{◌≡◌, refl, sym, ◌∙◌}
use mathlib.Core.Logic.{by_cases, ⊎_elim}
use mathlib.Core.List.Memᴰ
use mathlib.Core.List.{List, [], ◌∷◌, ◌++◌, Memᴰ}
use native.Mathlib.Omega.{arith}
use lib.ListN.{length}
use Rattle.spec.specs.declared.Triple.{Triple}
use Rattle.spec.specs.Lists.{select}
use Rattle.spec.specs.inside.Comparison.{equal_triples, Ascending}
use Rattle.spec.specs.Saturation.{Kept, raise_all, lower_all}
use Rattle.spec.specs.inside.Counts.{Counts, lookup}
use Rattle.spec.proofs.Tests.{same_elim}
use Rattle.spec.proofs.Kept.{one, one_yes, one_no, lookup-raise, lookup-lower, kept_ext, kept_shorter}
use Rattle.spec.proofs.Saturation.{raise_all_counts, lower_all_counts}
use Rattle.spec.proofs.Sets.{Distinct, ascending-distinct}
use Rattle.delivery_batch.specs.inside.Batches.{times}

-- ---- how often a row stands in a list

pub times-cons : (u t : Triple) (ts : List Triple) → times u (t ∷ ts) ≡ one u t + times u ts
unfolding times select
times-cons u t ts = same_elim (λ (l : List Triple). length l ≡ one u t + times u ts) u t (λ e. omega (arith, one_yes u t e)) (λ n. omega (arith, one_no u t n))

pub times_nil : (u : Triple) → times u [] ≡ 0
unfolding times select
times_nil u = refl

pub times-append : (u : Triple) (ts us : List Triple) → times u (ts ++ us) ≡ times u ts + times u us
times-append u [] us = omega (arith, times_nil u)
times-append u (t ∷ ts) us = omega (arith, times-cons u t (ts ++ us), times-cons u t ts, times-append u ts us)

-- What does not stand there does so never,
pub times_absent : (u : Triple) (ts : List Triple) → ¬ Memᴰ u ts → times u ts ≡ 0
times_absent u [] n = times_nil u
times_absent u (t ∷ ts) n = omega (arith, times-cons u t ts, one_no u t (λ e. n (Memᴰ.head e)), times_absent u ts (λ m. n (Memᴰ.tail m)))

-- what does, at least once,
pub times-present : (u : Triple) (ts : List Triple) → Memᴰ u ts → 1 ≤ times u ts
times-present u [] m = absurd (Memᴰ.not-nil m)
times-present u (t ∷ ts) m =
    by_cases (equal_triples u t)
    (λ e. omega (arith, times-cons u t ts, one_yes u t e))
    (λ n. omega (arith, times-cons u t ts, times-present u ts (⊎_elim (λ e. absurd (n e)) (λ j. j) (Memᴰ.cases_cons m))))

-- and in a list without repeats at most once.
times-distinct : (u : Triple) (ts : List Triple) → Distinct ts → times u ts ≤ 1
times-distinct u [] d = omega (arith, times_nil u)
times-distinct u (t ∷ ts) d =
    by_cases (equal_triples u t)
    (λ e. omega (arith, times-cons u t ts, one_yes u t e, times_absent u ts (λ m. d.0 (Memᴰ.cast (sym e) m))))
    (λ n. omega (arith, times-cons u t ts, one_no u t n, times-distinct u ts d.1))

pub times_once : (u : Triple) (ts : List Triple) → Ascending ts → times u ts ≤ 1
times_once u ts a = times-distinct u ts (ascending-distinct ts a)

-- ---- raising

-- A support goes up as often as its row is raised.
pub raise_all-times : (ts : List Triple) (k : Kept) (u : Triple) → Counts k → lookup (raise_all ts k) u ≡ times u ts + lookup k u
unfolding raise_all
raise_all-times [] k u a = omega (arith, times_nil u)
raise_all-times (t ∷ ts) k u a = omega (arith, lookup-raise t (raise_all ts k) u (raise_all_counts ts k a), raise_all-times ts k u a, times-cons u t ts)

-- So rows that stand equally often in two lists are raised alike, whatever their order,
pub raise_all_same : (ts us : List Triple) (k : Kept) → Counts k → ((u : Triple) → times u ts ≡ times u us) → raise_all ts k ≡ raise_all us k
raise_all_same ts us k a h =
    kept_ext (raise_all ts k) (raise_all us k) (raise_all_counts ts k a) (raise_all_counts us k a) (λ u. omega (arith, raise_all-times ts k u a, raise_all-times us k u a, h u))

-- and raising more rows leaves no fewer.
pub raise_all_longer : (ts us : List Triple) (k : Kept) → Counts k → ((u : Triple) → times u ts ≤ times u us) → length (raise_all ts k) ≤ length (raise_all us k)
raise_all_longer ts us k a h =
    kept_shorter (raise_all ts k) (raise_all us k) (raise_all_counts ts k a) (raise_all_counts us k a) (λ u. omega (arith, raise_all-times ts k u a, raise_all-times us k u a, h u))

pub raise_all_part : (ts us : List Triple) (k : Kept) → Counts k → length (raise_all ts k) ≤ length (raise_all (ts ++ us) k)
raise_all_part ts us k a = raise_all_longer ts (ts ++ us) k a (λ u. omega (arith, times-append u ts us))

-- One list after the other,
pub raise_all-append : (ts us : List Triple) (k : Kept) → raise_all (ts ++ us) k ≡ raise_all ts (raise_all us k)
unfolding raise_all
raise_all-append [] us k = refl
raise_all-append (t ∷ ts) us k = rw (raise_all-append ts us k) refl

-- and in either order.
pub raise_all_swap : (ts us : List Triple) (k : Kept) → Counts k → raise_all ts (raise_all us k) ≡ raise_all us (raise_all ts k)
raise_all_swap ts us k a =
    sym (raise_all-append ts us k)
    ∙ raise_all_same (ts ++ us) (us ++ ts) k a (λ u. omega (arith, times-append u ts us, times-append u us ts))
    ∙ raise_all-append us ts k

-- ---- lowering

-- A support goes down as often as its row is lowered.
pub lower_all-times : (ts : List Triple) (k : Kept) (u : Triple) → Counts k → lookup (lower_all ts k) u ≡ lookup k u - times u ts
unfolding lower_all
lower_all-times [] k u a = omega (arith, times_nil u)
lower_all-times (t ∷ ts) k u a = omega (arith, lookup-lower t (lower_all ts k) u (lower_all_counts ts k a), lower_all-times ts k u a, times-cons u t ts)

-- So rows that stand equally often in two lists are lowered alike, whatever their order,
pub lower_all_same : (ts us : List Triple) (k : Kept) → Counts k → ((u : Triple) → times u ts ≡ times u us) → lower_all ts k ≡ lower_all us k
lower_all_same ts us k a h =
    kept_ext (lower_all ts k) (lower_all us k) (lower_all_counts ts k a) (lower_all_counts us k a) (λ u. omega (arith, lower_all-times ts k u a, lower_all-times us k u a, h u))

-- and lowering more rows leaves no more.
pub lower_all_shorter : (ts us : List Triple) (k : Kept) → Counts k → ((u : Triple) → times u ts ≤ times u us) → length (lower_all us k) ≤ length (lower_all ts k)
lower_all_shorter ts us k a h =
    kept_shorter (lower_all us k) (lower_all ts k) (lower_all_counts us k a) (lower_all_counts ts k a) (λ u. omega (arith, lower_all-times ts k u a, lower_all-times us k u a, h u))

-- One list after the other,
pub lower_all-append : (ts us : List Triple) (k : Kept) → lower_all (ts ++ us) k ≡ lower_all ts (lower_all us k)
unfolding lower_all
lower_all-append [] us k = refl
lower_all-append (t ∷ ts) us k = rw (lower_all-append ts us k) refl

-- and in either order.
pub lower_all_swap : (ts us : List Triple) (k : Kept) → Counts k → lower_all ts (lower_all us k) ≡ lower_all us (lower_all ts k)
lower_all_swap ts us k a =
    sym (lower_all-append ts us k)
    ∙ lower_all_same (ts ++ us) (us ++ ts) k a (λ u. omega (arith, times-append u ts us, times-append u us ts))
    ∙ lower_all-append us ts k
