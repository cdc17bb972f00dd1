-- Laws of segments by their entries: the index of a segment, of none, and of the last. Assumes nothing.
use Prim.Native.Nat.{ℕ, zero, suc, ◌+◌, ◌-◌, ◌≤◌}
use mathlib.Core.Path.{◌≡◌, refl, sym, ap, ◌∙◌}
use mathlib.Core.List.{List, [], ◌∷◌, ◌++◌, append-nil}
use native.Mathlib.Decide.{dec_lt}
use native.Mathlib.Omega.{arith}
use lib.ListN.{length, take, drop}
use lib.Seq.{take-length}
use Rattle.spec_ntriples.specs.Dictionary.{Entry, entry, bytes_of_entries, front_term}
use Rattle.spec_ntriples.specs.inside.Entries.{Holds}
use Rattle.dictionary_bytes.specs.declared.Filled.{Filled}
use Rattle.dictionary_bytes.specs.inside.Entries.{length_at, text_at, place_at, entries_at, FilledBy}
use Rattle.dictionary_bytes.proofs.Entry.{places-ascend}
use Rattle.dictionary_entries.proofs.Standing.{entries-count, entries-length}
use Rattle.dictionary_entries.proofs.Held.{held-within, held-entries, held_place, held_last}
use Rattle.dictionary_index.specs.declared.Segment.{Segment}
use Rattle.dictionary_index.specs.inside.Index.{Index, AreZero, IsSegment}
use Rattle.dictionary_index.proofs.Indexing.{index_none}
use Rattle.dictionary_search.specs.inside.IndexOf.{IndexOf}
use Rattle.dictionary_names.specs.inside.Naming.{LastSegment}

-- The index of no entry.
pub index-empty : (slots bs : List ℕ) (first : ℕ) → first ≤ length bs → AreZero slots → IndexOf slots bs first []
unfolding entries_at
index-empty slots bs first h z = record { index = index_none slots bs first h z; same = refl }

-- The index of so many entries from a byte index on.
index-count : (slots bs : List ℕ) (first k : ℕ) (es : List Entry) → Index slots bs first k → entries_at bs first k ≡ es → IndexOf slots bs first es
index-count slots bs first k es X e =
    let n : length es ≡ k = ap length (sym e) ∙ entries-count bs first k in
    record { index = rw n X; same = rw n e }

-- The first of them.
entries_front : (bs : List ℕ) (first c k : ℕ) → c ≤ k → entries_at bs first c ≡ take c (entries_at bs first k)
unfolding entries_at
entries_front bs first zero k h = refl
entries_front bs first (suc c) zero h = absurd (omega arith)
entries_front bs first (suc c) (suc k) h = ap (λ (l : List Entry). entry (front_term (drop first bs)) (text_at bs first) ∷ l) (entries_front bs (first + 12 + length_at bs first) c k (omega arith))

-- A segment of the entries fs, which stand behind ds.
module _ (slots bs : List ℕ) (end first : ℕ) (ds fs : List Entry) (g : Segment) (H : Holds bs end (ds ++ fs)) (p : first ≡ length (bytes_of_entries ds)) (G : IsSegment slots bs first end g) where
  pub segment-count : g.count ≤ length fs
  segment-count =
      elim (dec_lt (length fs) g.count) [
        | yes h ↦
            let e : length fs + (g.count - length fs) ≡ g.count = omega arith in
            absurd (omega (arith, places-ascend bs first (length fs) (g.count - length fs), ap (place_at bs first) e, held_last bs end ds fs H first p, G.ends, G.within))
        | no h ↦ omega arith
      ]

  -- The slots are the index of the first of them, and where the segment ends.
  pub segment_index : IndexOf slots bs first (take g.count fs)
  segment_index =
      index-count slots bs first g.count (take g.count fs) G.index
      (entries_front bs first g.count (length fs) segment-count ∙ ap (λ (es : List Entry). take g.count es) (held-entries bs end ds fs H first p))

  pub segment_ends : g.end ≡ length (bytes_of_entries (ds ++ take g.count fs))
  segment_ends = G.ends ∙ held_place bs end ds fs H first p g.count segment-count ∙ omega (arith, p, entries-length ds (take g.count fs))

  all-counted : g.end ≡ end → g.count ≡ length fs
  all-counted q =
      elim (dec_lt g.count (length fs)) [
        | yes h ↦
            let e : g.count + (length fs - g.count) ≡ length fs = omega arith in
            absurd (omega (arith, places-ascend bs first g.count (length fs - g.count), ap (place_at bs first) e, held_last bs end ds fs H first p, G.ends))
        | no h ↦ omega (arith, segment-count)
      ]

  -- A segment that ends where the entries do is the last.
  pub segment_last : (f : Filled) → FilledBy bs f (ds ++ fs) → g.end ≡ end → LastSegment slots bs first g.count f ds fs
  segment_last f F q =
      let n : g.count ≡ length fs = all-counted q in
      let e : take g.count fs ≡ fs = ap (λ (i : ℕ). take i fs) n ∙ take-length fs in
      record { filled = F; starts = p; counts = n; index = rw e at segment_index }

-- A new segment begins behind all entries.
pub last_begins : (slots bs : List ℕ) (f : Filled) (es : List Entry) → FilledBy bs f es → AreZero slots → LastSegment slots bs f.end 0 f es []
last_begins slots bs f es F z =
    record {
      filled = rw (append-nil es) F;
      starts = F.holds.ends;
      counts = refl;
      index = index-empty slots bs f.end (held-within bs f.end es F.holds) z;
    }
