-- The index of a segment stays where bytes behind its entries change. Assumes nothing.
use Prim.Native.Nat.{ℕ, zero, suc, ◌+◌, ◌-◌, ◌≤◌, ◌<◌}
use mathlib.Core.Path.{◌≡◌, refl, sym, ap, ap₂, ◌∙◌}
use mathlib.Core.List.{List, [], ◌∷◌}
use native.Mathlib.Nat.{zero-add}
use native.Mathlib.Omega.{arith}
use lib.ListN.{length, get_or, take, drop}
use lib.Seq.{take-nil, take-take, drop-drop, ext_get_or}
use Rattle.spec_ntriples.specs.Dictionary.{Entry, entry, bytes_number, front_term}
use Rattle.dictionary_bytes.specs.inside.Entries.{length_at, text_at, place_at, entries_at}
use Rattle.dictionary_hash.specs.inside.Hashes.{home_of}
use Rattle.dictionary_bytes.proofs.Entry.{place_before}
use Rattle.dictionary_entries.proofs.Standing.{entries-count, entry_at}
use Rattle.dictionary_index.specs.inside.Index.{Reached, Index}
use Rattle.dictionary_search.specs.inside.IndexOf.{IndexOf}

-- ---- bytes that are the same up to an index

drop-take : (at n : ℕ) (l : List ℕ) → drop at (take (at + n) l) ≡ take n (drop at l)
drop-take zero n l = rw (zero-add n)
drop-take (suc at) n [] = rw (take-nil {A = ℕ} (suc at + n), take-nil {A = ℕ} n)
drop-take (suc at) n (x ∷ l) = let e : suc at + n ≡ suc (at + n) = omega arith in rw e (drop-take at n l)

module _ (bs cs : List ℕ) (p : ℕ) (q : take p cs ≡ take p bs) where
  part_same : (at n : ℕ) → at + n ≤ p → take n (drop at cs) ≡ take n (drop at bs)
  part_same at n h =
      let e : take (at + n) cs ≡ take (at + n) bs = sym (take-take (at + n) p cs h) ∙ ap (λ (l : List ℕ). take (at + n) l) q ∙ take-take (at + n) p bs h in
      sym (drop-take at n cs) ∙ ap (λ (l : List ℕ). drop at l) e ∙ drop-take at n bs

  length_same : (at : ℕ) → at + 12 ≤ p → length_at cs at ≡ length_at bs at
  unfolding length_at
  length_same at h = rw (drop-drop 4 at cs, drop-drop 4 at bs) (ap bytes_number (part_same (at + 4) 8 (omega arith)))

  text_same : (at : ℕ) → at + 12 + length_at bs at ≤ p → text_at cs at ≡ text_at bs at
  unfolding text_at
  text_same at h = rw (length_same at (omega arith)) (part_same (at + 12) (length_at bs at) h)

  term_same : (at : ℕ) → at + 4 ≤ p → front_term (drop at cs) ≡ front_term (drop at bs)
  term_same at h = ap bytes_number (part_same at 4 h)

  -- Entries that end by there.
  module _ (first k : ℕ) (h : place_at bs first k ≤ p) where
    place_same : (i : ℕ) → i ≤ k → place_at cs first i ≡ place_at bs first i
    unfolding place_at
    place_same zero l = refl
    place_same (suc i) l = rw (place_same i (omega arith), length_same (place_at bs first i) (omega (arith, place_before bs first i k (omega arith))))

    text-at-same : (i : ℕ) → i < k → text_at cs (place_at cs first i) ≡ text_at bs (place_at bs first i)
    text-at-same i l = rw (place_same i (omega arith)) (text_same (place_at bs first i) (omega (arith, place_before bs first i k l)))

    entry-same : (i : ℕ) (d : Entry) → i < k → get_or (entries_at cs first k) i d ≡ get_or (entries_at bs first k) i d
    entry-same i d l =
        let t : front_term (drop (place_at cs first i) cs) ≡ front_term (drop (place_at bs first i) bs) = rw (place_same i (omega arith)) (term_same (place_at bs first i) (omega (arith, place_before bs first i k l))) in
        entry_at cs first k i d l ∙ ap₂ entry t (text-at-same i l) ∙ sym (entry_at bs first k i d l)

    pub entries-same : entries_at cs first k ≡ entries_at bs first k
    entries-same =
        ext_get_or (entry 0 []) (entries_at cs first k) (entries_at bs first k) (entries-count cs first k ∙ sym (entries-count bs first k))
        (λ i l. entry-same i (entry 0 []) (omega (arith, entries-count cs first k)))

-- ---- the index

-- Entries with the same places and texts have the same index.
module _ (slots bs cs : List ℕ) (first k : ℕ) (P : (i : ℕ) → i ≤ k → place_at cs first i ≡ place_at bs first i) (T : (i : ℕ) → i < k → text_at cs (place_at cs first i) ≡ text_at bs (place_at bs first i)) where
  reached_same : (i : ℕ) → i < k → Reached slots bs first (place_at bs first i) → Reached slots cs first (place_at cs first i)
  reached_same i l R =
      let h : home_of (text_at cs (place_at cs first i)) ≡ home_of (text_at bs (place_at bs first i)) = ap home_of (T i l) in
      record {
        slot = R.slot;
        from = omega (arith, h, R.from);
        within = R.within;
        holds = rw (P i (omega arith)) R.holds;
        taken = λ j m n. R.taken j (omega (arith, h, m)) n;
      }

  index_same : length cs ≡ length bs → Index slots bs first k → Index slots cs first k
  index_same l X =
      record {
        within = omega (arith, P k (omega arith), X.within, l);
        reached = λ i h. reached_same i h (X.reached i h);
        leads = λ s h. record { number = (X.leads s h).number; below = (X.leads s h).below; holds = rw (P (X.leads s h).number (omega (arith, (X.leads s h).below))) (X.leads s h).holds };
        distinct = λ i j h m e. X.distinct i j h m (sym (T i (omega arith)) ∙ e ∙ T j m);
      }

-- The bytes up to the end of the entries are the same, and there are as many.
pub index_stays : (slots bs cs : List ℕ) (first : ℕ) (es : List Entry) → IndexOf slots bs first es → take (place_at bs first (length es)) cs ≡ take (place_at bs first (length es)) bs → length cs ≡ length bs → IndexOf slots cs first es
index_stays slots bs cs first es X q l =
    let p : ℕ = place_at bs first (length es) in
    let P = place_same bs cs p q first (length es) (omega arith) in
    let T = text-at-same bs cs p q first (length es) (omega arith) in
    record {
      index = index_same slots bs cs first (length es) P T l X.index;
      same = entries-same bs cs p q first (length es) (omega arith) ∙ X.same;
    }
