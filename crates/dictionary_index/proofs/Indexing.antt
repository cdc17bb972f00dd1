-- Laws of the index of a segment: what is entered is found, and what is not found is in no entry. Assumes nothing.
use Prim.Native.Nat.{ℕ, zero, suc, ◌+◌, ◌-◌, ◌≤◌, ◌<◌}
use mathlib.Core.Path.{◌≡◌, refl, ap, ◌∙◌}
use mathlib.Core.List.{List}
use native.Mathlib.Decide.{ℕ_discrete, dec_lt}
use native.Mathlib.Omega.{arith}
use lib.ListN.{length, get_or, take, drop, set, length-set}
use lib.Seq.{get_or-set_same, get_or-set_other}
use Rattle.dictionary_bytes.specs.inside.Entries.{length_at, text_at, place_at}
use Rattle.dictionary_hash.specs.inside.Hashes.{hash_from, hash, slot_of, home_of}
use Rattle.dictionary_bytes.proofs.Entry.{places-ascend, place_before}
use Rattle.dictionary_index.specs.inside.Index.{entry_of, LeadWithin, Passed, FoundAt, FreeAt, Reached, Leads, Index, HasEntry, NoEntry, Searched, EnteredAt, AreEntries}
use Rattle.dictionary_index.specs.declared.Search.{Search}
use Rattle.dictionary_index.specs.declared.Search.TheVariants.{Found, Free, Past}
use Rattle.dictionary_index.specs.declared.Entered.TheVariants.{New, Known, Full}

-- ---- what an index says of a search

-- An entry lies behind the segment's first byte.
pub first_before : (bs : List ℕ) (first i : ℕ) → first ≤ place_at bs first i
unfolding place_at
first_before bs first zero = omega arith
first_before bs first (suc i) = omega (arith, first_before bs first i)

module _ (slots bs : List ℕ) (first k : ℕ) (X : Index slots bs first k) where
  -- A word leads to one of the entries.
  pub leads-place : (s : ℕ) (h : 0 < get_or slots s 0) → entry_of first (get_or slots s 0) ≡ place_at bs first (X.leads s h).number
  leads-place s h = omega (arith, (X.leads s h).holds, first_before bs first (X.leads s h).number)

  -- Each word leads within the bytes: what a search asks for.
  pub index-within : LeadWithin slots bs first
  index-within s h = rw (leads-place s h) (omega (arith, X.within, place_before bs first (X.leads s h).number k (X.leads s h).below))

  -- A text that is found is that of one of the entries.
  pub found-entry : (text : List ℕ) (home at : ℕ) → FoundAt slots bs first text home at → HasEntry bs first k text at
  found-entry text home at F =
      record {
        number = (X.leads F.slot F.taken).number;
        below = (X.leads F.slot F.taken).below;
        place = F.leads ∙ leads-place F.slot F.taken;
        same = F.same;
      }

  -- A word that holds an entry's place leads to it.
  holds_entry : (at w : ℕ) → first ≤ at → w ≡ at - first + 1 → entry_of first w ≡ at
  holds_entry at w h e = omega arith

  -- Where the search for a text ends at an empty slot, no entry of the segment has the text.
  pub free_new : (text : List ℕ) (s : ℕ) → FreeAt slots bs first text (home_of text) s → NoEntry bs first k text
  free_new text s A i l e =
      let R : Reached slots bs first (place_at bs first i) = X.reached i l in
      let same : home_of (text_at bs (place_at bs first i)) ≡ home_of text = ap home_of e in
      elim (dec_lt R.slot s) [
        | yes h ↦ (A.passed R.slot (omega (arith, R.from)) h).1 (ap (text_at bs) (holds_entry (place_at bs first i) (get_or slots R.slot 0) (first_before bs first i) R.holds) ∙ e)
        | no h ↦ elim (ℕ_discrete R.slot s) [
          | yes q ↦ omega (arith, R.holds, A.empty, ap (λ (j : ℕ). get_or slots j 0) q)
          | no n ↦ let m : s < R.slot = omega arith in omega (arith, A.empty, R.taken s (omega (arith, A.from)) m)
        ]
      ]

  -- Nor does one where the search runs past the last slot.
  pub past_new : (text : List ℕ) → Passed slots bs first text (home_of text) (length slots) → NoEntry bs first k text
  past_new text P i l e =
      let R : Reached slots bs first (place_at bs first i) = X.reached i l in
      let same : home_of (text_at bs (place_at bs first i)) ≡ home_of text = ap home_of e in
      (P R.slot (omega (arith, R.from)) R.within).1 (ap (text_at bs) (holds_entry (place_at bs first i) (get_or slots R.slot 0) (first_before bs first i) R.holds) ∙ e)

-- ---- entering

-- What a slot holds once an empty one is taken.
still_taken : (slots : List ℕ) (s v j : ℕ) → s < length slots → 0 < v → 0 < get_or slots j 0 → 0 < get_or (set slots s v) j 0
still_taken slots s v j h k l = elim (ℕ_discrete j s) [
  | yes q ↦ rw (q, get_or-set_same slots s v 0 h) k
  | no n ↦ rw (get_or-set_other slots s j v 0 n) l
]

-- An entry put into an empty slot is reached, and so is each that was.
module _ (slots bs : List ℕ) (first s at : ℕ) where
  enter_new : FreeAt slots bs first (text_at bs at) (home_of (text_at bs at)) s → Reached (set slots s (at - first + 1)) bs first at
  enter_new A =
      record {
        slot = s;
        from = A.from;
        within = rw (length-set slots s (at - first + 1)) A.within;
        holds = get_or-set_same slots s (at - first + 1) 0 A.within;
        taken = λ j k l. still_taken slots s (at - first + 1) j A.within (omega arith) (A.passed j k l).0;
      }

  enter_old : get_or slots s 0 ≡ 0 → s < length slots → (o : ℕ) → Reached slots bs first o → Reached (set slots s (at - first + 1)) bs first o
  enter_old e h o R =
      let other : (R.slot ≡ s → ⊥) = λ q. omega (arith, R.holds, ap (λ (i : ℕ). get_or slots i 0) q) in
      record {
        slot = R.slot;
        from = R.from;
        within = rw (length-set slots s (at - first + 1)) R.within;
        holds = get_or-set_other slots s R.slot (at - first + 1) 0 other ∙ R.holds;
        taken = λ j k l. still_taken slots s (at - first + 1) j h (omega arith) (R.taken j k l);
      }

-- The index of a segment with the next entry, which has a text that the others have not.
pub index_more : (slots bs : List ℕ) (first k s : ℕ) → Index slots bs first k → place_at bs first (suc k) ≤ length bs
    → FreeAt slots bs first (text_at bs (place_at bs first k)) (home_of (text_at bs (place_at bs first k))) s
    → Index (set slots s (place_at bs first k - first + 1)) bs first (suc k)
index_more slots bs first k s X h A =
    record {
      within = h;
      reached = λ i l. elim (ℕ_discrete i k) [
        | yes q ↦ rw q (enter_new slots bs first s (place_at bs first k) A)
        | no n ↦ enter_old slots bs first s (place_at bs first k) A.empty A.within (place_at bs first i) (X.reached i (omega arith))
      ];
      leads = λ j l. elim (ℕ_discrete j s) [
        | yes q ↦ record { number = k; below = omega arith; holds = rw q (get_or-set_same slots s (place_at bs first k - first + 1) 0 A.within) }
        | no n ↦
            let e : get_or (set slots s (place_at bs first k - first + 1)) j 0 ≡ get_or slots j 0 = get_or-set_other slots s j (place_at bs first k - first + 1) 0 n in
            let L : Leads bs first k (get_or slots j 0) = X.leads j (rw e at l) in
            record { number = L.number; below = omega (arith, L.below); holds = e ∙ L.holds }
      ];
      distinct = λ i j l m e. elim (ℕ_discrete j k) [
        | yes q ↦ free_new slots bs first k X (text_at bs (place_at bs first k)) s A i (omega arith) (e ∙ ap (λ (o : ℕ). text_at bs (place_at bs first o)) q)
        | no n ↦ X.distinct i j l (omega arith) e
      ];
    }

-- The index of no entry: all words are zero.
pub index_none : (slots bs : List ℕ) (first : ℕ) → first ≤ length bs → ((s : ℕ) → get_or slots s 0 ≡ 0) → Index slots bs first 0
unfolding place_at
index_none slots bs first h z =
    record {
      within = h;
      reached = λ i l. absurd (omega arith);
      leads = λ s l. absurd (omega (arith, z s));
      distinct = λ i j l m. absurd (omega arith);
    }

-- ---- the entry at a byte index, entered

-- A search begins at one of 65,536 slots.
home_below : (text : List ℕ) → home_of text < 65536
unfolding home_of slot_of
home_below text = omega arith

-- Where a search runs past the last of enough slots, the index has an entry.
pub past-some : (slots bs : List ℕ) (first : ℕ) (text : List ℕ) → Passed slots bs first text (home_of text) (length slots) → (k : ℕ) → Index slots bs first k → 65536 ≤ length slots → 0 < k
past-some slots bs first text P zero X h = let l = X.leads (home_of text) (P (home_of text) (omega arith) (omega (arith, home_below text))).0 in absurd (omega (arith, l.below))
past-some slots bs first text P (suc k) X h = omega arith

-- A search for the bytes of an entry's text from the slot of their hash is the search for its text.
pub search-entry : (slots bs : List ℕ) (first at n h home : ℕ) (r q : Search) → r ≡ q → n ≡ length_at bs at → h ≡ hash_from 0 (take n (drop (at + 12) bs)) → home ≡ slot_of h
    → Searched slots bs first (take n (drop (at + 12) bs)) home r → Searched slots bs first (text_at bs at) (home_of (text_at bs at)) q
unfolding text_at home_of hash
search-entry slots bs first at n h home r q i e f g S = rw (← e, ← f, ← g, ← i) S

-- What the outcome of that search says, behind k entries of the segment.
module _ (slots bs : List ℕ) (first k at : ℕ) (X : Index slots bs first k) (p : at ≡ place_at bs first k) where
  pub enter_known : (other : ℕ) → Searched slots bs first (text_at bs at) (home_of (text_at bs at)) (Found other) → EnteredAt slots slots bs first k at (Known other)
  enter_known other F = (refl, found-entry slots bs first k X (text_at bs at) (home_of (text_at bs at)) other F)

  pub enter_full : Searched slots bs first (text_at bs at) (home_of (text_at bs at)) Past → EnteredAt slots slots bs first k at Full
  enter_full P = (refl, past_new slots bs first k X (text_at bs at) P, past-some slots bs first (text_at bs at) P k X)

  pub enter_free : (s : ℕ) → at + 12 + length_at bs at ≤ length bs → Searched slots bs first (text_at bs at) (home_of (text_at bs at)) (Free s) → EnteredAt slots (set slots s (at - first + 1)) bs first k at New
  unfolding place_at
  enter_free s h A = rw p (index_more slots bs first k s X (rw p at h) (rw p at A))

-- ---- segments

-- The place of an entry of some is before their end, and the entry ends by there.
module _ (bs : List ℕ) (first last : ℕ) (T : AreEntries bs first last) (k at : ℕ) (p : at ≡ place_at bs first k) (h : at < last) where
  pub entry-within : at + 12 + length_at bs at ≤ last
  entry-within =
      elim (dec_lt k T.count) [
        | yes l ↦ let q = place_before bs first k T.count l in rw p (omega (arith, T.ends, q))
        | no n ↦ let l : T.count + (k - T.count) ≡ k = omega arith in absurd (omega (arith, T.ends, places-ascend bs first T.count (k - T.count), ap (place_at bs first) l))
      ]

  pub next_place : at + 12 + length_at bs at ≡ place_at bs first (suc k)
  unfolding place_at
  next_place = rw p
