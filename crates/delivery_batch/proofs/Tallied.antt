-- Entries run in order: a section cut in two, and the tallies of entries that were taken together. Assumes nothing.
use Prim.Native.Nat.{ℕ, zero, suc, ◌+◌, ◌-◌, ◌*◌, ◌≤◌}
use mathlib.Core.Path.{◌≡◌, refl, ap}
use mathlib.Core.Bool.{true, false}
use mathlib.Core.List.{List, [], ◌∷◌, ◌++◌}
use native.Mathlib.Omega.{arith}
use lib.ListN.{length}
use Rattle.spec.specs.declared.Triple.{Triple}
use Rattle.spec.specs.Terms.{is_triple}
use Rattle.spec.specs.Lists.{select}
use Rattle.spec.specs.declared.Answer.{Answer}
use Rattle.spec.specs.declared.Answer.TheVariants.{Applied, Idle, Refused}
use Rattle.spec.specs.declared.Tally.{Tally}
use Rattle.spec.specs.Deliveries.{tally, tallied, run_entries}
use Rattle.spec.specs.computed.Decoded.{entry_at, entries_from}
use Rattle.spec.specs.inside.Pairs.{progress}
use Rattle.spec.proofs.Lists.{select-length}
use Rattle.delivery_batch.specs.inside.Batches.{passing, tally_after}

-- ---- a section cut in two

-- The first part can be run before the second.
pub run-append : {A : Type 0} (u : A → Triple → Answer × A) (es fs : List Triple) (g : A × Tally) → run_entries u (es ++ fs) g ≡ run_entries u fs (run_entries u es g)
unfolding run_entries
run-append u [] fs g = refl
run-append u (e ∷ es) fs g = let r = u g.0 e in run-append u es fs (r.1, tallied r.0 g.1)

-- Its bytes say so.
pub entries-append : (bs : List ℕ) (at m n : ℕ) → entries_from bs at (m + n) ≡ entries_from bs at m ++ entries_from bs (at + m * 12) n
unfolding entries_from
entries-append bs at zero n =
    let e : 0 + n ≡ n = omega arith in
    let f : at + 0 * 12 ≡ at = omega arith in
    rw (e, f)
entries-append bs at (suc m) n =
    let e : suc m + n ≡ suc (m + n) = omega arith in
    let f : at + suc m * 12 ≡ at + 12 + m * 12 = omega arith in
    rw (e, f) (ap (λ (l : List Triple). entry_at bs at ∷ l) (entries-append bs (at + 12) m n))

-- The first entry is run, and then the others.
pub run_first : {A : Type 0} (u : A → Triple → Answer × A) (t : Triple) (es : List Triple) {h h' : A} (a : Answer) (y : Tally) → u h t ≡ (a, h') → run_entries u (t ∷ es) (progress h y) ≡ run_entries u es (progress h' (tallied a y))
unfolding run_entries
run_first {A} u t es a y e = ap (λ (r : Answer × A). run_entries u es (progress r.1 (tallied r.0 y))) e

-- ---- tallies

same-tally : {a b i j r s : ℕ} → a ≡ b → i ≡ j → r ≡ s → tally a i r ≡ tally b j s
same-tally p q v = λ x. tally (p x) (q x) (v x)

-- No entry changes no tally.
pub tally_none : (y : Tally) → tally_after 0 [] y ≡ y
unfolding tally_after select
tally_none y = same-tally {b = y.applied} {j = y.idle} {s = y.refused} (omega arith) (omega arith) (omega arith)

-- An entry in front that is refused,
pub tally_refused : (m n : ℕ) (t : Triple) (es : List Triple) (y : Tally) → is_triple t ≡ false → tally_after n es (tallied (Refused m) y) ≡ tally_after n (t ∷ es) y
unfolding tally_after tallied select
tally_refused m n t es y e = rw e (same-tally refl refl (omega (arith, select-length is_triple es)))

-- one that is idle,
pub tally_idle : (n : ℕ) (t : Triple) (es : List Triple) (y : Tally) → is_triple t ≡ true → n ≤ length (passing es) → tally_after n es (tallied Idle y) ≡ tally_after n (t ∷ es) y
unfolding tally_after tallied select
tally_idle n t es y e h = rw e (same-tally refl (omega arith) (omega arith))

-- and one that is applied.
pub tally_applied : (n : ℕ) (t : Triple) (es : List Triple) (y : Tally) → is_triple t ≡ true → tally_after n es (tallied Applied y) ≡ tally_after (suc n) (t ∷ es) y
unfolding tally_after tallied select
tally_applied n t es y e = rw e (same-tally (omega arith) (omega arith) (omega arith))
