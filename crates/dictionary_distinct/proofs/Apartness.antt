-- Laws of entries whose texts differ. Assumes nothing.
use Prim.Native.Nat.{ℕ, zero, suc, ◌+◌, ◌-◌, ◌≤◌, ◌<◌}
use mathlib.Core.Path.{◌≡◌, refl, sym, ap, ◌∙◌}
use mathlib.Core.List.{List}
use native.Mathlib.Nat.{add-zero, add-suc}
use native.Mathlib.Decide.{dec_lt}
use native.Mathlib.Omega.{arith}
use Rattle.dictionary_bytes.specs.inside.Entries.{text_at, place_at}
use Rattle.dictionary_bytes.proofs.Entry.{places-ascend, place_before}
use Rattle.dictionary_index.specs.inside.Index.{AreEntries, IsSegment}
use Rattle.dictionary_index.specs.declared.Segment.{Segment}
use Rattle.dictionary_index.proofs.Indexing.{first_before}
use Rattle.dictionary_repeats.specs.inside.Repeated.{SomeRepeats, NoneRepeats}
use Rattle.dictionary_repeats.proofs.Repeating.{place-less}
use Rattle.dictionary_distinct.specs.inside.Distinct.{Repeat, Differ, ApartTo, Distinct}

-- ---- places

-- An entry counted from another.
pub place_from : (bs : List ℕ) (first k i : ℕ) → place_at bs (place_at bs first k) i ≡ place_at bs first (k + i)
unfolding place_at
place_from bs first k zero = rw (add-zero k)
place_from bs first k (suc i) = rw (add-suc k i, place_from bs first k i)

-- Of two entries the one with the lower number is not behind.
pub place_least : (bs : List ℕ) (first i k : ℕ) → i ≤ k → place_at bs first i ≤ place_at bs first k
place_least bs first i k h = let e : i + (k - i) ≡ k = omega arith in omega (arith, places-ascend bs first i (k - i), ap (place_at bs first) e)

-- The place behind an entry is behind the first.
behind_first : (bs : List ℕ) (first k : ℕ) → 0 < k → first < place_at bs first k
unfolding place_at
behind_first bs first zero h = absurd (omega arith)
behind_first bs first (suc k) h = omega (arith, first_before bs first k)

-- ---- segments

module _ (slots bs : List ℕ) (first last : ℕ) (T : AreEntries bs first last) (h : first < last) (g : Segment) (S : IsSegment slots bs first last g) where
  -- The entries behind a segment.
  pub behind_segment : AreEntries bs g.end last
  behind_segment =
      let c = T.count in
      let l : g.count ≤ c = elim (dec_lt c g.count) [
        | yes m ↦ absurd (omega (arith, place_before bs first c g.count m, S.ends, S.within, T.ends))
        | no m ↦ omega arith
      ] in
      let e : g.count + (c - g.count) ≡ c = omega arith in
      record {
        count = c - g.count;
        ends = rw S.ends (place_from bs first g.count (c - g.count) ∙ ap (place_at bs first) e ∙ T.ends);
        within = T.within;
      }

  -- An entry behind it that has a text of it.
  pub segment_repeats : SomeRepeats bs first g.count g.end last → Repeat bs first last
  segment_repeats R =
      let H = R.repeats.has in
      let e : place_at bs g.end R.number ≡ place_at bs first (g.count + R.number) = ap (λ (a : ℕ). place_at bs a R.number) S.ends ∙ place_from bs first g.count R.number in
      record {
        earlier = H.number;
        later = g.count + R.number;
        before = omega (arith, H.below);
        within = rw e at R.within;
        same = ap (text_at bs) (sym H.place) ∙ H.same ∙ ap (text_at bs) e;
      }

  -- None has.
  pub segment_apart : NoneRepeats bs first g.count g.end last → ApartTo bs first last g.end
  segment_apart N =
      record {
        count = g.count;
        ends = S.ends;
        some = omega (arith, S.ends, behind_first bs first g.count (S.some h));
        within = S.within;
        differ = λ i j l m w e. elim (dec_lt j g.count) [
          | yes n ↦ S.index.distinct i j m n e
          | no n ↦
              let q : g.count + (j - g.count) ≡ j = omega arith in
              let p : place_at bs g.end (j - g.count) ≡ place_at bs first j = ap (λ (a : ℕ). place_at bs a (j - g.count)) S.ends ∙ place_from bs first g.count (j - g.count) ∙ ap (place_at bs first) q in
              N (j - g.count) (omega (arith, p, w)) i l (e ∙ ap (text_at bs) (sym p))
        ];
        behind = behind_segment;
      }

-- Behind a segment fewer bytes are left.
pub apart-less : (bs : List ℕ) (first last end : ℕ) → ApartTo bs first last end → last - end < last - first
apart-less bs first last end A = omega (arith, A.some, A.within)

-- ---- all segments

-- The entries up to an index have other texts than those behind them.
pub record Compared (bs : List ℕ) (last first : ℕ) : Type 0 where
  pub count : ℕ
  pub place : first ≡ place_at bs 0 count
  pub differ : Differ bs 0 last count
  pub behind : AreEntries bs first last

pub compared_none : (bs : List ℕ) (last : ℕ) → AreEntries bs 0 last → Compared bs last 0
unfolding place_at
compared_none bs last T = record { count = 0; place = refl; differ = λ i j l. absurd (omega arith); behind = T }

module _ (bs : List ℕ) (last first : ℕ) (C : Compared bs last first) where
  from_first : (i : ℕ) → place_at bs first i ≡ place_at bs 0 (C.count + i)
  from_first i = ap (λ (a : ℕ). place_at bs a i) C.place ∙ place_from bs 0 C.count i

  -- A text repeats.
  pub compared_repeat : Repeat bs first last → Repeat bs 0 last
  compared_repeat R =
      record {
        earlier = C.count + R.earlier;
        later = C.count + R.later;
        before = omega (arith, R.before);
        within = omega (arith, from_first R.later, R.within);
        same = ap (text_at bs) (sym (from_first R.earlier)) ∙ R.same ∙ ap (text_at bs) (from_first R.later);
      }

  -- A segment more.
  pub compared_more : (end : ℕ) → ApartTo bs first last end → Compared bs last end
  compared_more end A =
      record {
        count = C.count + A.count;
        place = A.ends ∙ from_first A.count;
        differ = λ i j l m w e. elim (dec_lt i C.count) [
          | yes n ↦ C.differ i j n m w e
          | no n ↦
              let p : C.count + (i - C.count) ≡ i = omega arith in
              let q : C.count + (j - C.count) ≡ j = omega arith in
              let P : place_at bs first (i - C.count) ≡ place_at bs 0 i = from_first (i - C.count) ∙ ap (place_at bs 0) p in
              let Q : place_at bs first (j - C.count) ≡ place_at bs 0 j = from_first (j - C.count) ∙ ap (place_at bs 0) q in
              A.differ (i - C.count) (j - C.count) (omega arith) (omega arith) (omega (arith, Q, w)) (ap (text_at bs) P ∙ e ∙ ap (text_at bs) (sym Q))
        ];
        behind = A.behind;
      }

  -- There is no more.
  pub compared_all : last ≤ first → Distinct bs last
  compared_all h i j m w e = C.differ i j (place-less bs 0 i C.count (omega (arith, C.place, w, place_least bs 0 i j (omega arith)))) m w e
