-- Rows of one subject and property, put in the order of their objects. Assumes nothing.
use mathlib.Core.Path.{◌≡◌, refl, sym, ap, ◌∙◌}
use mathlib.Core.List.{[], ◌∷◌, ◌++◌}
use mathlib.Core.Logic.{by_cases}
use Prim.Native.Nat.{ℕ, suc, ◌+◌, ◌≤◌, ◌<◌}
use native.Mathlib.Omega.{arith}
use native.Mathlib.Decide.{dec_lt, ℕ_discrete}
use Rattle.spec.specs.declared.Triple.{Triple}
use Rattle.spec.specs.Terms.{triple}
use Rattle.spec.specs.inside.Comparison.{Less, by_subject, by_property, by_object, triple_eq}
use Rattle.spec.specs.Saturation.{Kept}
use Rattle.spec.specs.inside.Counts.{Counts, lookup}
use Rattle.saturate_merge.specs.inside.Output.{Output, put_one, put_all}
use Rattle.saturate_merge.specs.inside.Between.{between}
use Rattle.saturate_merge.proofs.Output.{put_last}
use Rattle.saturate_merge.proofs.Between.{between_none, between-skip, between_more}

pub record ObjectWithin (x q a b : ℕ) (u : Triple) : Type 0 where
  pub is : u ≡ triple x q u.object
  pub low : a ≤ u.object
  pub high : u.object < b

pub from-within : (x q a b : ℕ) (u : Triple) → ¬ Less u (triple x q a) → Less u (triple x q b) → ObjectWithin x q a b u
from-within x q a b u n (by_subject h) = absurd (n (by_subject h))
from-within x q a b u n (by_property e h) = absurd (n (by_property e h))
from-within x q a b u n (by_object e f h) = record { is = triple_eq u (triple x q u.object) e f refl; low = by_cases (dec_lt u.object a) (λ l. absurd (n (by_object e f l))) (λ l. omega arith); high = h }

pub after-within : (x q a b : ℕ) (u : Triple) → Less (triple x q a) u → Less u (triple x q b) → ObjectWithin x q (suc a) b u
after-within x q a b u (by_subject g) (by_subject h) = absurd (omega arith)
after-within x q a b u (by_subject g) (by_property e h) = absurd (omega arith)
after-within x q a b u (by_subject g) (by_object e f h) = absurd (omega arith)
after-within x q a b u (by_property c g) (by_subject h) = absurd (omega arith)
after-within x q a b u (by_property c g) (by_property e h) = absurd (omega arith)
after-within x q a b u (by_property c g) (by_object e f h) = absurd (omega arith)
after-within x q a b u (by_object c d g) (by_subject h) = absurd (omega arith)
after-within x q a b u (by_object c d g) (by_property e h) = absurd (omega arith)
after-within x q a b u (by_object c d g) (by_object e f h) = record { is = triple_eq u (triple x q u.object) e f refl; low = omega arith; high = h }

pub not_less : (x q a b : ℕ) → b ≤ a → ¬ Less (triple x q a) (triple x q b)
not_less x q a b le (by_subject h) = omega arith
not_less x q a b le (by_property e h) = omega arith
not_less x q a b le (by_object e f h) = omega arith

pub record Listing (K : Kept) (x q room : ℕ) (out₀ out : Output) (T : ℕ → ℕ) (m : ℕ) : Type 0 where
  pub done : out ≡ put_all room (between (triple x q 0) (triple x q m) K) out₀
  pub left : (o : ℕ) → m ≤ o → lookup K (triple x q o) ≡ T o

pub listing_start : (K : Kept) (x q room : ℕ) (out : Output) (T : ℕ → ℕ) (m : ℕ) → Counts K → ((o : ℕ) → lookup K (triple x q o) ≡ T o) → ((o : ℕ) → o < m → T o ≡ 0) → Listing K x q room out out T m
unfolding put_all
listing_start K x q room out T m a t low =
    let e : between (triple x q 0) (triple x q m) K ≡ [] =
    between-skip (triple x q 0) (triple x q 0) (triple x q m) K a (not_less x q m 0 (omega arith)) (λ u n l. let w = from-within x q 0 m u n l in rw w.is (t u.object ∙ low u.object w.high)) ∙ between_none (triple x q 0) K in
    record { done = rw e; left = λ o h. t o }

pub listing-put : (K : Kept) (x q room : ℕ) (out₀ out : Output) (T T' : ℕ → ℕ) (m m' c : ℕ) → Counts K → Listing K x q room out₀ out T m → T m ≡ c → 0 < c → m < m' → ((o : ℕ) → m < o → T' o ≡ T o) → ((o : ℕ) → m < o → o < m' → T' o ≡ 0) → Listing K x q room out₀ (put_one room (triple x q m, c) out) T' m'
listing-put K x q room out₀ out T T' m m' c a g here pos up same none =
    let e : between (triple x q 0) (triple x q m') K ≡ between (triple x q 0) (triple x q m) K ++ (triple x q m, c) ∷ [] =
    between_more (triple x q 0) (triple x q m) (triple x q m') c K a
    (not_less x q m 0 (omega arith))
    (by_object refl refl up)
    (λ u k l. let w = after-within x q m m' u k l in rw w.is (g.left u.object (omega (arith, w.low)) ∙ sym (same u.object (omega (arith, w.low))) ∙ none u.object (omega (arith, w.low)) w.high))
    (g.left m (omega arith) ∙ here)
    pos in
    record {
      done = ap (put_one room (triple x q m, c)) g.done ∙ sym (put_last room (between (triple x q 0) (triple x q m) K) (triple x q m, c) out₀) ∙ ap (λ (k : Kept). put_all room k out₀) (sym e);
      left = λ o h. g.left o (omega arith) ∙ sym (same o (omega arith));
    }

pub listing-skip : (K : Kept) (x q room : ℕ) (out₀ out : Output) (T T' : ℕ → ℕ) (m m' : ℕ) → Counts K → Listing K x q room out₀ out T m → T m ≡ 0 → m < m' → ((o : ℕ) → m < o → T' o ≡ T o) → ((o : ℕ) → m < o → o < m' → T' o ≡ 0) → Listing K x q room out₀ out T' m'
listing-skip K x q room out₀ out T T' m m' a g here up same none =
    let e : between (triple x q 0) (triple x q m') K ≡ between (triple x q 0) (triple x q m) K =
    between-skip (triple x q 0) (triple x q m) (triple x q m') K a (not_less x q m' m (omega arith))
    (λ u n l. let w = from-within x q m m' u n l in rw w.is (g.left u.object w.low ∙ zero-at u.object w.low w.high)) in
    record {
      done = g.done ∙ ap (λ (k : Kept). put_all room k out₀) (sym e);
      left = λ o h. g.left o (omega arith) ∙ sym (same o (omega arith));
    }
  where
    zero-at : (o : ℕ) → m ≤ o → o < m' → T o ≡ 0
    zero-at o le lt = by_cases (ℕ_discrete m o) (λ e. ap T (sym e) ∙ here) (λ n. sym (same o (omega arith)) ∙ none o (omega arith) lt)

pub listing_end : (K : Kept) (x q room : ℕ) (out₀ out : Output) (T : ℕ → ℕ) (m : ℕ) → Counts K → Listing K x q room out₀ out T m → ((o : ℕ) → m ≤ o → T o ≡ 0) → out ≡ put_all room (between (triple x q 0) (triple x (q + 1) 0) K) out₀
listing_end K x q room out₀ out T m a g top =
    let e : between (triple x q 0) (triple x (q + 1) 0) K ≡ between (triple x q 0) (triple x q m) K =
    between-skip (triple x q 0) (triple x q m) (triple x (q + 1) 0) K a down none in
    g.done ∙ ap (λ (k : Kept). put_all room k out₀) (sym e)
  where
    down : ¬ Less (triple x (q + 1) 0) (triple x q m)
    down (by_subject h) = omega arith
    down (by_property e h) = omega arith
    down (by_object e f h) = omega arith

    none : (u : Triple) → ¬ Less u (triple x q m) → Less u (triple x (q + 1) 0) → lookup K u ≡ 0
    none u n (by_subject h) = absurd (n (by_subject h))
    none u n (by_object e f h) = absurd (omega arith)
    none u n (by_property e h) = by_cases (dec_lt u.property q) (λ l. absurd (n (by_property e l)))
        (λ l. let f : u.property ≡ q = omega arith in by_cases (dec_lt u.object m) (λ k. absurd (n (by_object e f k)))
        (λ k. rw (triple_eq u (triple x q u.object) e f refl) (g.left u.object (omega arith) ∙ top u.object (omega arith))))
