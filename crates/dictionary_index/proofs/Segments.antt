-- Laws of the index of a segment while its entries are entered. Assumes nothing.
use Prim.Native.Nat.{ℕ, zero, suc, ◌+◌, ◌-◌, ◌≤◌, ◌<◌}
use mathlib.Core.Path.{◌≡◌, refl, ap, ◌∙◌}
use mathlib.Core.Bool.{Bool, true, false, ◌||◌}
use mathlib.Core.List.{List}
use native.Mathlib.Numerals.{add-one}
use native.Mathlib.Omega.{arith}
use lib.Dec.{eqb, ltb}
use lib.ListN.{length}
use borrow.Author.Tests.{eqb-true, ltb-true, ltb-false}
use Rattle.dictionary_bytes.specs.inside.Entries.{length_at, place_at}
use Rattle.dictionary_index.specs.declared.Entered.TheVariants.{New, Known, Full}
use Rattle.dictionary_index.specs.inside.Index.{Index, IndexTo, EnteredAt, AreZero, AreEntries, IsSegment}
use Rattle.dictionary_index.proofs.Indexing.{index_none, entry-within, next_place, first_before}

-- The entries before a byte index are entered.
pub record Segmented (before slots bs : List ℕ) (first last at count : ℕ) : Type 0 where
  pub index : Index slots bs first count
  pub place : at ≡ place_at bs first count
  pub within : at ≤ last
  pub long : length slots ≡ length before

-- No entry is.
pub segment_none : (slots bs : List ℕ) (first last : ℕ) → AreZero slots → AreEntries bs first last → Segmented slots slots bs first last first 0
unfolding place_at
segment_none slots bs first last z T =
    let h : first ≤ last = omega (arith, T.ends, first_before bs first T.count) in
    record { index = index_none slots bs first (omega (arith, T.within)) z; place = refl; within = h; long = refl }

-- The two limits.
pub limit_none : (a b : Bool) → (a || b) ≡ false → (a ≡ false) × (b ≡ false)
limit_none false b e = (refl, e)
limit_none true b e = let z : ◌≡◌ {A = ℕ} 0 1 = cc in absurd (omega arith)

first_entry : (bs : List ℕ) (first at count : ℕ) → at ≡ place_at bs first count → count ≡ 0 → at ≡ first
unfolding place_at
first_entry bs first at count p e = p ∙ ap (place_at bs first) e

pub limit-some : (a b : Bool) (count : ℕ) → (a || b) ≡ true → (a ≡ true → 0 < count) → (b ≡ true → 0 < count) → 0 < count
limit-some true b count e f g = f refl
limit-some false b count e f g = g e

module _ (before slots bs : List ℕ) (first last at count : ℕ) (T : AreEntries bs first last) (X : Segmented before slots bs first last at count) where
  -- The next can be entered.
  pub segment-next : at < last → (eqb count 49152 || ltb 4294967294 (at - first)) ≡ false → IndexTo slots bs first at
  segment-next h e =
      record {
        count = count;
        index = X.index;
        place = X.place;
        within = omega (arith, entry-within bs first last T count at X.place h, T.within);
        near = omega (arith, ltb-false 4294967294 (at - first) (limit_none (eqb count 49152) (ltb 4294967294 (at - first)) e).1);
      }

  module _ (after : List ℕ) (l : length after ≡ length slots) (h : at < last) where
    -- It is entered.
    pub segment-more : EnteredAt slots after bs first count at New → Segmented before after bs first last (at + 12 + length_at bs at) (count + 1)
    segment-more E =
        record {
          index = rw (add-one count) E;
          place = rw (add-one count) (next_place bs first last T count at X.place h);
          within = entry-within bs first last T count at X.place h;
          long = l ∙ X.long;
        }

    -- Its text repeats one.
    pub segment-known : (other : ℕ) → EnteredAt slots after bs first count at (Known other) → IsSegment after bs first last (record { count = count; end = at; repeats = true })
    segment-known other E =
        record {
          index = rw E.0 X.index;
          ends = X.place;
          within = X.within;
          some = λ k. omega (arith, E.1.below);
          repeats = λ e. record { other = other; has = E.1 };
        }

    -- No slot is left for it.
    pub segment-full : 65536 ≤ length before → EnteredAt slots after bs first count at Full → IsSegment after bs first last (record { count = count; end = at; repeats = false })
    segment-full k E =
        record {
          index = rw E.0 X.index;
          ends = X.place;
          within = X.within;
          some = λ j. E.2 (omega (arith, X.long));
          repeats = λ e. let z : ◌≡◌ {A = ℕ} 0 1 = cc in absurd (omega arith);
        }

  -- There is no more.
  pub segment_end : last ≤ at → IsSegment slots bs first last (record { count = count; end = at; repeats = false })
  segment_end h =
      record {
        index = X.index;
        ends = X.place;
        within = X.within;
        some = λ k. some count X.place k;
        repeats = λ e. let z : ◌≡◌ {A = ℕ} 0 1 = cc in absurd (omega arith);
      }
    where
      some : (c : ℕ) → at ≡ place_at bs first c → first < last → 0 < c
      some zero p k = absurd (omega (arith, first_entry bs first at 0 p refl))
      some (suc c) p k = omega arith

  -- It leads to no more.
  pub segment_limit : (eqb count 49152 || ltb 4294967294 (at - first)) ≡ true → IsSegment slots bs first last (record { count = count; end = at; repeats = false })
  segment_limit e =
      record {
        index = X.index;
        ends = X.place;
        within = X.within;
        some = λ k. limit-some (eqb count 49152) (ltb 4294967294 (at - first)) count e (λ q. omega (arith, eqb-true count 49152 q)) (λ q. far count X.place (ltb-true 4294967294 (at - first) q));
        repeats = λ q. let z : ◌≡◌ {A = ℕ} 0 1 = cc in absurd (omega arith);
      }
    where
      far : (c : ℕ) → at ≡ place_at bs first c → 4294967294 < at - first → 0 < c
      far zero p k = absurd (omega (arith, first_entry bs first at 0 p refl))
      far (suc c) p k = omega arith

-- There are no more entries than bytes.
pub count_below : (bs : List ℕ) (first count : ℕ) → count ≤ place_at bs first count
unfolding place_at
count_below bs first zero = omega arith
count_below bs first (suc count) = omega (arith, count_below bs first count)
