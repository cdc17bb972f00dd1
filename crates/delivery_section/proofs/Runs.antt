-- Entries run in order, as a loop over the bytes of a section runs them. Assumes nothing.
use Prim.Native.Nat.{ℕ, zero, suc, ◌+◌, ◌-◌, ◌*◌, ◌^◌, ◌≤◌, ◌<◌}
use mathlib.Core.Path.{◌≡◌, refl, sym, ap, ◌∙◌}
use mathlib.Core.Bool.{Bool, true}
use mathlib.Core.List.{List, [], ◌∷◌}
use native.Mathlib.Omega.{arith}
use lib.ListN.{length}
use Rattle.spec.specs.declared.Triple.{Triple}
use Rattle.spec.proofs.Ascending.{and_left, and_right}
use Rattle.spec.specs.Tables.{Tables, are_formed}
use Rattle.spec.specs.Lists.{all}
use Rattle.spec.specs.declared.Answer.{Answer}
use Rattle.spec.specs.declared.Answer.TheVariants.{Refused}
use Rattle.spec.specs.declared.Change.TheVariants.{Addition}
use Rattle.spec.specs.Updates.{update}
use Rattle.spec.specs.Deliveries.{tally, tallied, run_entries}
use Rattle.spec.specs.inside.Pairs.{progress}
use Rattle.spec.specs.computed.Decoded.{short, entry_at, entries_from, section_start}
use Rattle.delivery_format.proofs.Whole.{section-within, section_small}
use Rattle.spec.specs.declared.Tally.{Tally}
use Rattle.delivery_tally.specs.inside.Totals.{total}
use Rattle.delivery_tally.proofs.TallyLaws.{tallied-total}
use Rattle.delivery_section.proofs.Formed.{adding_formed}
use Rattle.delivery_section.specs.inside.Running.{section, Next}

-- ---- tallies

-- The tallies add up to the number of entries.
pub run-total : {A : Type 0} (u : A → Triple → Answer × A) (ts : List Triple) (g : A × Tally) → total (run_entries u ts g).1 ≡ length ts + total g.1
unfolding run_entries
run-total u [] g = omega arith
run-total u (t ∷ ts) g = let r = u g.0 t in omega (arith, run-total u ts (r.1, tallied r.0 g.1), tallied-total r.0 g.1)

-- ---- what refuses every entry

-- Where every update is refused and changes nothing, each entry is tallied so.
pub run_refused : {A : Type 0} (u : A → Triple → Answer × A) (h : A) → ((t : Triple) → u h t ≡ (Refused 1, h)) → (ts : List Triple) (y : Tally)
    → run_entries u ts (progress h y) ≡ progress h (tally y.applied y.idle (y.refused + length ts))
unfolding run_entries tallied
run_refused u h r [] y = let e : y.refused + 0 ≡ y.refused = omega arith in rw e refl
run_refused u h r (t ∷ ts) y =
    let e : suc y.refused + length ts ≡ y.refused + suc (length ts) = omega arith in
    rw (r t, run_refused u h r ts (tally y.applied y.idle (suc y.refused)), e) refl

-- ---- what is not well formed

-- Additions change nothing of whether tables are well formed.
pub additions_formed : (ts : List Triple) (g : Tables × Tally) → are_formed (run_entries (update Addition) ts g).0 ≡ are_formed g.0
unfolding run_entries
additions_formed [] g = refl
additions_formed (t ∷ ts) g = let r = update Addition g.0 t in additions_formed ts (r.1, tallied r.0 g.1) ∙ adding_formed g.0 t

-- ---- the entries of a section

pub length-entries : (bs : List ℕ) (at n : ℕ) → length (entries_from bs at n) ≡ n
unfolding entries_from
length-entries bs at zero = refl
length-entries bs at (suc n) = ap suc (length-entries bs (at + 12) n)

-- Of a section's entries those from index at on are left, so many: they lie within the bytes, each passes the test, the tallies have
-- room for them, and run from where the store stands now they end as the whole section does.
pub record Left (u : Tables → Triple → Answer × Tables) (test : Triple → Bool) (bs : List ℕ) (end : Tables × Tally) (T : Tables) (at left : ℕ) (y : Tally) : Type 0 where
  pub inside : at + left * 12 ≤ length bs
  pub tested : all test (entries_from bs at left) ≡ true
  pub room : total y + left < 2 ^ 32
  pub same : run_entries u (entries_from bs at left) (progress T y) ≡ end

-- At first all are left.
pub left_first : (u : Tables → Triple → Answer × Tables) (test : Triple → Bool) (bs : List ℕ) (T : Tables) (k start n : ℕ) (y : Tally) → Next bs k y → all test (section bs k) ≡ true → start ≡ section_start bs k → n ≡ short bs start
    → Left u test bs (run_entries u (section bs k) (progress T y)) T (start + 2) n y
left_first u test bs T k start n y N e q r =
    rw (r, q) (record {
      inside = section-within bs N.whole k N.entries;
      tested = e;
      room = let f = N.few in let l = N.entries in omega (arith, section_small bs N.whole k N.entries);
      same = refl;
    })

-- The next entry passes the test,
pub left_tested : {u : Tables → Triple → Answer × Tables} {test : Triple → Bool} {bs : List ℕ} {end : Tables × Tally} {T : Tables} {at : ℕ} (left : ℕ) {y : Tally} → Left u test bs end T at left y → 0 < left → (t : Triple) → t ≡ entry_at bs at → test t ≡ true
unfolding all entries_from
left_tested zero L h t q = absurd (omega arith)
left_tested {test = test} {bs = bs} {at = at} (suc n) L h t q = ap test q ∙ and_left (test (entry_at bs at)) _ L.tested

-- and once it is run, the others are left.
pub left-next : {u : Tables → Triple → Answer × Tables} {test : Triple → Bool} {bs : List ℕ} {end : Tables × Tally} {T T' : Tables} {at : ℕ} (left : ℕ) {y y' : Tally} → Left u test bs end T at left y → 0 < left
    → (t : Triple) → t ≡ entry_at bs at → (a : Answer) → (a, T') ≡ u T t → y' ≡ tallied a y → Left u test bs end T' (at + 12) (left - 1) y'
unfolding all entries_from run_entries
left-next zero L h t q a e r = absurd (omega arith)
left-next {u} {test} {bs} {end} {T} {T'} {at} (suc n) {y} {y'} L h t q a e r =
    let k : suc n - 1 ≡ n = omega arith in
    let i = L.inside in
    let o = L.room in
    rw (k, r) (record {
      inside = omega arith;
      tested = and_right (test (entry_at bs at)) _ L.tested;
      room = omega (arith, tallied-total a y);
      same = ap (λ (p : Answer × Tables). run_entries u (entries_from bs (at + 12) n) (progress p.1 (tallied p.0 y))) (e ∙ ap (u T) q) ∙ L.same;
    })

-- The same by the index of an entry, of n from index at on: at first entry 0 is the next, and behind entry i comes entry i + 1.
pub at-entry_first : {u : Tables → Triple → Answer × Tables} {test : Triple → Bool} {bs : List ℕ} {end : Tables × Tally} {T : Tables} {at n : ℕ} {y : Tally} → Left u test bs end T at n y → Left u test bs end T (at + 0 * 12) (n - 0) y
at-entry_first {at = at} {n = n} L = let p : at + 0 * 12 ≡ at = omega arith in let q : n - 0 ≡ n = omega arith in rw (p, q) L

pub at-entry-next : {u : Tables → Triple → Answer × Tables} {test : Triple → Bool} {bs : List ℕ} {end : Tables × Tally} {T : Tables} (at n i : ℕ) {y : Tally} → Left u test bs end T (at + i * 12 + 12) (n - i - 1) y → Left u test bs end T (at + (i + 1) * 12) (n - (i + 1)) y
at-entry-next at n i L = let p : at + (i + 1) * 12 ≡ at + i * 12 + 12 = omega arith in let q : n - (i + 1) ≡ n - i - 1 = omega arith in rw (p, q) L

-- None is left.
pub left_none : {u : Tables → Triple → Answer × Tables} {test : Triple → Bool} {bs : List ℕ} {end : Tables × Tally} {T : Tables} {at : ℕ} (left : ℕ) {y : Tally} → Left u test bs end T at left y → left ≤ 0 → progress T y ≡ end
unfolding entries_from run_entries
left_none zero L h = L.same
left_none (suc n) L h = absurd (omega arith)

-- Where every update is refused, all that are left are tallied so.
pub left_refused : {u : Tables → Triple → Answer × Tables} {test : Triple → Bool} {bs : List ℕ} {end : Tables × Tally} {T : Tables} {at : ℕ} (left : ℕ) {y y' : Tally} → Left u test bs end T at left y → ((t : Triple) → u T t ≡ (Refused 1, T))
    → y' ≡ tally y.applied y.idle (y.refused + left) → progress T y' ≡ end
left_refused {u} {bs = bs} {T = T} {at = at} left {y} L r q = rw q (sym (rw (length-entries bs at left) at (run_refused u T r (entries_from bs at left) y)) ∙ L.same)

-- ---- a section that was run

-- The next can be run with the tallies after it.
pub next-section : (u : Tables → Triple → Answer × Tables) {bs : List ℕ} (T : Tables) {T' : Tables} {y y' : Tally} (k : ℕ) → Next bs k y → k + 1 < 4 → progress T' y' ≡ run_entries u (section bs k) (progress T y) → Next bs (k + 1) y'
next-section u {bs} T {T'} {y} {y'} k N h e =
    let sum : total y' ≡ length (section bs k) + total y = ap (λ (g : Tables × Tally). total g.1) e ∙ run-total u (section bs k) (progress T y) in
    let f = N.few in
    record { whole = N.whole; entries = h; few = omega (arith, sum, length-entries bs (section_start bs k + 2) (short bs (section_start bs k)), section_small bs N.whole k N.entries) }
