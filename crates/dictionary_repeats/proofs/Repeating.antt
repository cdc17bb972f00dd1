-- Laws of entries behind a segment, and of those that repeat a text of it. Assumes nothing.
use Prim.Native.Nat.{ℕ, suc, ◌+◌, ◌-◌, ◌≤◌, ◌<◌}
use mathlib.Core.Path.{◌≡◌, refl, ap}
use mathlib.Core.Bool.{true, false}
use mathlib.Core.List.{List}
use native.Mathlib.Decide.{dec_lt}
use native.Mathlib.Omega.{arith}
use Rattle.dictionary_bytes.specs.inside.Entries.{length_at, text_at, place_at}
use Rattle.dictionary_hash.specs.inside.Hashes.{home_of}
use Rattle.dictionary_bytes.proofs.Entry.{places-ascend}
use Rattle.dictionary_index.specs.inside.Index.{Searched, Index, NoEntry, AreEntries}
use Rattle.dictionary_index.specs.declared.Search.TheVariants.{Found, Free, Past}
use Rattle.dictionary_index.proofs.Indexing.{found-entry, free_new, past_new, entry-within, next_place}
use Rattle.dictionary_repeats.specs.inside.Repeated.{IsRepeated, SomeRepeats, NoneRepeats}

-- An entry that lies before another one's place has a lower number.
pub place-less : (bs : List ℕ) (first i k : ℕ) → place_at bs first i < place_at bs first k → i < k
place-less bs first i k h = elim (dec_lt i k) [
  | yes l ↦ l
  | no n ↦ let e : k + (i - k) ≡ i = omega arith in absurd (omega (arith, places-ascend bs first k (i - k), ap (place_at bs first) e))
]

-- ---- one entry

-- What a search for the text of an entry says.
module _ (slots bs : List ℕ) (first k at : ℕ) (X : Index slots bs first k) where
  pub found_repeats : (other : ℕ) → Searched slots bs first (text_at bs at) (home_of (text_at bs at)) (Found other) → IsRepeated bs first k at true
  found_repeats other F = record { other = other; has = found-entry slots bs first k X (text_at bs at) (home_of (text_at bs at)) other F }

  pub free_none : (s : ℕ) → Searched slots bs first (text_at bs at) (home_of (text_at bs at)) (Free s) → IsRepeated bs first k at false
  free_none s F = free_new slots bs first k X (text_at bs at) s F

  pub past_none : Searched slots bs first (text_at bs at) (home_of (text_at bs at)) Past → IsRepeated bs first k at false
  past_none P = past_new slots bs first k X (text_at bs at) P

-- ---- the entries behind a segment

-- The entries from an index up to another are passed, and none of them has the text of an entry of the segment.
pub record Passing (slots bs : List ℕ) (first from at : ℕ) : Type 0 where
  pub count : ℕ
  pub place : at ≡ place_at bs from count
  pub none : (k : ℕ) → Index slots bs first k → (i : ℕ) → i < count → NoEntry bs first k (text_at bs (place_at bs from i))

pub passing_none : (slots bs : List ℕ) (first from : ℕ) → Passing slots bs first from from
unfolding place_at
passing_none slots bs first from = record { count = 0; place = refl; none = λ k X i l. absurd (omega arith) }

module _ (slots bs : List ℕ) (first from last at : ℕ) (P : Passing slots bs first from at) where
  -- All are.
  pub passing-all : last ≤ at → (k : ℕ) → Index slots bs first k → NoneRepeats bs first k from last
  passing-all h k X i l = P.none k X i (place-less bs from i P.count (omega (arith, P.place)))

  module _ (T : AreEntries bs from last) (h : at < last) where
    pub passing-within : at + 12 + length_at bs at ≤ last
    passing-within = entry-within bs from last T P.count at P.place h

    -- The next one is.
    pub passing-more : ((k : ℕ) → Index slots bs first k → IsRepeated bs first k at false) → Passing slots bs first from (at + 12 + length_at bs at)
    passing-more f =
        record {
          count = suc P.count;
          place = next_place bs from last T P.count at P.place h;
          none = λ k X i l. elim (dec_lt i P.count) [
            | yes m ↦ P.none k X i m
            | no m ↦ let e : i ≡ P.count = omega arith in rw (e, ← P.place) (f k X)
          ];
        }

    -- The next one repeats a text.
    pub passing-repeats : (k : ℕ) → IsRepeated bs first k at true → SomeRepeats bs first k from last
    passing-repeats k R = record { number = P.count; within = rw P.place at h; repeats = rw P.place at R }
