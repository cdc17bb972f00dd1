-- Laws of the places while the entries are walked. Assumes nothing.
use Prim.Native.Nat.{ℕ, ◌+◌, ◌%◌, ◌≤◌, ◌<◌}
use mathlib.Core.Path.{◌≡◌, refl, sym, ap, ◌∙◌}
use mathlib.Core.Bool.{true}
use mathlib.Core.List.{List, [], ◌∷◌, ◌++◌}
use native.Mathlib.Omega.{arith}
use lib.Dec.{eqb, ltb}
use lib.ListN.{length, get_or, set, drop, length-append, length-set}
use lib.Seq.{get_or-set_same, get_or-set_other}
use borrow.Author.Tests.{ltb-true, ltb-false, eqb-true, eq-eqb, ne_eqb}
use Rattle.spec.specs.Terms.{kind}
use Rattle.spec.proofs.Lists.{by_test}
use Rattle.spec_ntriples.specs.Dictionary.{Entry, bytes_of_entries, front_term, entries, is_dictionary}
use Rattle.spec_ntriples.proofs.EntryBytes.{length-entries}
use Rattle.dictionary_bytes.specs.inside.Entries.{length_at, FilledBy}
use Rattle.dictionary_bytes.specs.declared.Filled.{Filled}
use Rattle.dictionary_entries.proofs.Standing.{entries-length}
use Rattle.dictionary_ranks.specs.inside.Ranks.{HasNumber, rank_of, stride_of, slot_for}
use Rattle.dictionary_ranks.proofs.Ranks.{same_split, terms_differ, split_in_range}
use Rattle.dictionary_ranks.proofs.Slots.{slot-within}
use Rattle.dictionary_ranks.proofs.Taken.{dictionary_numbered, enough, range-number}
use Rattle.dictionary_places.specs.inside.Places.{IsKept, with_place, ArePlaces}
use Rattle.dictionary_places.proofs.Kept.{slot_own}
use Rattle.dictionary_places.proofs.Standing.{Stands, here_term, here-next, next_split, here-within}

-- ---- one place more

with_long : (f : Filled) (places : List ℕ) (w at : ℕ) → length (with_place f places w at) ≡ length places
unfolding with_place
with_long f places w at = by_test (eqb (rank_of w % stride_of f (kind w)) 0) (λ p. rw p (length-set places (slot_for f w) at)) (λ p. rw p)

with_own : (f : Filled) (places : List ℕ) (w at : ℕ) → slot_for f w < length places → IsKept f w → get_or (with_place f places w at) (slot_for f w) 0 ≡ at
unfolding with_place
with_own f places w at h k = rw (eq-eqb (rank_of w % stride_of f (kind w)) 0 k) (get_or-set_same places (slot_for f w) at 0 h)

with_other : (f : Filled) (places : List ℕ) (w at v : ℕ) → (IsKept f w → slot_for f v ≡ slot_for f w → ⊥) → get_or (with_place f places w at) (slot_for f v) 0 ≡ get_or places (slot_for f v) 0
unfolding with_place
with_other f places w at v n =
    by_test (eqb (rank_of w % stride_of f (kind w)) 0) (λ p. rw p (get_or-set_other places (slot_for f w) (slot_for f v) at 0 (n (eqb-true _ 0 p)))) (λ p. rw p)

-- The place is kept or not, by the term's rank and its kind's stride.
pub place_kept : (f : Filled) (places : List ℕ) (w at r s i : ℕ) → r ≡ rank_of w → s ≡ stride_of f (kind w) → i ≡ slot_for f w → r % s ≡ 0 → set places i at ≡ with_place f places w at
unfolding with_place
place_kept f places w at r s i a b e k = rw (eq-eqb (rank_of w % stride_of f (kind w)) 0 (rw (a, b) at k), e)

pub place_left : (f : Filled) (places : List ℕ) (w at r s : ℕ) → r ≡ rank_of w → s ≡ stride_of f (kind w) → (r % s ≡ 0 → ⊥) → places ≡ with_place f places w at
unfolding with_place
place_left f places w at r s a b k = rw (ne_eqb (rank_of w % stride_of f (kind w)) 0 (rw (a, b) at k))

-- ---- the places of the first entries

-- The places of the entries before a byte index are kept.
pub record Keeping (bs : List ℕ) (f : Filled) (places : List ℕ) (at : ℕ) : Type 0 where
  pub front : List Entry
  pub rest : List Entry
  pub split : entries bs ≡ front ++ rest
  pub place : at ≡ length (bytes_of_entries front)
  pub long : length places ≡ 49152
  pub kept : (xs ys : List Entry) (e : Entry) → entries bs ≡ xs ++ (e ∷ ys) → length xs < length front → IsKept f e.term → get_or places (slot_for f e.term) 0 ≡ length (bytes_of_entries xs)

-- No entry is walked.
pub keeping_none : (bs : List ℕ) (f : Filled) (places : List ℕ) → length places ≡ 49152 → Keeping bs f places 0
unfolding bytes_of_entries
keeping_none bs f places l = record { front = []; rest = entries bs; split = refl; place = refl; long = l; kept = λ xs ys e s h k. absurd (omega arith) }

-- The next entry stands behind those that are walked.
record Comes (bs : List ℕ) (f : Filled) (places : List ℕ) (at : ℕ) (K : Keeping bs f places at) : Type 0 where
  stands : Stands bs at
  behind : stands.before ≡ K.front

module _ (bs : List ℕ) (f : Filled) (D : is_dictionary bs ≡ true) (F : FilledBy bs f (entries bs)) (places : List ℕ) (at : ℕ) (K : Keeping bs f places at) where
  ends : f.end ≡ at + length (bytes_of_entries K.rest)
  ends = omega (arith, F.holds.ends, ap (λ (l : List Entry). length (bytes_of_entries l)) K.split, entries-length K.front K.rest, K.place)

  -- All are walked.
  pub keeping_all : f.end ≤ at → ArePlaces bs f places
  keeping_all h =
      record {
        right = D;
        filled = F;
        long = K.long;
        lead = λ xs ys e s. K.kept xs ys e s (omega (arith, ends, length-entries K.rest, ap length (sym K.split ∙ s), length-append K.front K.rest, length-append xs (e ∷ ys)));
      }

  -- Another comes.
  module _ (h : at < f.end) where
    comes : (rest : List Entry) → entries bs ≡ K.front ++ rest → f.end ≡ at + length (bytes_of_entries rest) → Comes bs f places at K
    unfolding bytes_of_entries
    comes [] s e = absurd (omega (arith, e, h))
    comes (d ∷ rest) s e = record { stands = record { before = K.front; here = d; after = rest; split = s; place = K.place }; behind = refl }

    next : Comes bs f places at K
    next = comes K.rest K.split ends

    -- It lies within the bytes.
    pub keeping-within : at + 12 + length_at bs at ≤ length bs
    keeping-within = here-within bs f.end at F.holds next.stands

    -- Its term has a number that is taken.
    pub keeping-number : (w : ℕ) → w ≡ front_term (drop at bs) → HasNumber f w
    keeping-number w q =
        let S = next.stands in
        rw (q, here_term bs f.end at F.holds S) (range-number bs f D F S.here.term (split_in_range (entries bs) (dictionary_numbered bs D) (enough bs f D F) S.before S.after S.here S.split))

    -- Its place is kept.
    pub keeping-more : (w n : ℕ) → w ≡ front_term (drop at bs) → n ≡ length_at bs at → (after : List ℕ) → after ≡ with_place f places w at → Keeping bs f after (at + 12 + n)
    keeping-more w size u z after a =
        let S = next.stands in
        let t : w ≡ S.here.term = u ∙ here_term bs f.end at F.holds S in
        let n : length S.before ≡ length K.front = ap length next.behind in
        record {
          front = S.before ++ (S.here ∷ []);
          rest = S.after;
          split = next_split bs f.end at F.holds S;
          place = rw z (here-next bs f.end at F.holds S);
          long = ap length a ∙ with_long f places w at ∙ K.long;
          kept = λ xs ys e s l k.
              ap (λ (ps : List ℕ). get_or ps (slot_for f e.term) 0) a ∙
              by_test (ltb (length xs) (length K.front))
              (λ p.
              let o = K.kept xs ys e s (ltb-true (length xs) (length K.front) p) k in
              with_other f places w at e.term
              (λ j q.
              terms_differ (entries bs) (dictionary_numbered bs D) (enough bs f D F) xs ys S.before S.after e S.here s S.split (omega (arith, n, ltb-true (length xs) (length K.front) p))
              (slot_own f e.term w (range-number bs f D F e.term (split_in_range (entries bs) (dictionary_numbered bs D) (enough bs f D F) xs ys e s)) (keeping-number w u) k j q ∙ t))
              ∙ o)
              (λ p.
              let m : length xs ≡ length S.before = omega (arith, n, l, length-append S.before (S.here ∷ []), ltb-false (length xs) (length K.front) p) in
              let q = same_split xs ys S.before S.after e S.here (sym s ∙ S.split) m in
              let v : e.term ≡ w = ap (λ (d : Entry). d.term) q.1 ∙ sym t in
              rw v (with_own f places w at (omega (arith, slot-within f w (keeping-number w u), K.long)) (rw v at k)) ∙ S.place ∙ ap (λ (ds : List Entry). length (bytes_of_entries ds)) (sym q.0));
        }
