-- The pass that raises rows, over the words of both tables: what holds at each turn, and a turn of each kind. Assumes nothing.
use Prim.Native.Nat.{ℕ, zero, suc, ◌+◌, ◌-◌, ◌*◌, ◌≤◌, ◌<◌}
use mathlib.Core.Path.{◌≡◌, refl, sym, ap, ◌∙◌, subst}
use mathlib.Core.List.{List, [], ◌∷◌, ◌++◌}
use native.Mathlib.Numerals.{add-one}
use native.Mathlib.Omega.{arith}
use lib.ListN.{length, get_or, take, drop, set, length-set, length-drop, length-append, take-append-drop, drop_of_length-le}
use lib.Seq.{take-suc, split_at, take_all, take-take, get_or-take, drop_at, length-take-le, take-set-le, set_split}
use Rattle.spec.specs.declared.Triple.{Triple}
use Rattle.spec.specs.Terms.{triple}
use Rattle.spec.specs.inside.Comparison.{Less, Ascending}
use Rattle.std.specs.declared.cmp.Ordering.{Ordering}
use Rattle.std.specs.declared.cmp.Ordering.TheVariants.{Equal, Greater}
use Rattle.spec.specs.Tables.{count, triple_from, row_at, first_rows, rows, kept_of}
use Rattle.spec.proofs.TableRows.{length-first_rows, get_or-first_rows, first_rows-snoc, length-rows}
use Rattle.spec.specs.Saturation.{Kept, raise_all, kept_rows}
use Rattle.table_change.specs.inside.Words.{Entered}
use Rattle.update_kept.specs.inside.Entries.{entries, Room, Holding}
use Rattle.update_kept.proofs.Entries.{no_entry, length-entries, get_or-entries, kept_rows-entries, kept_of-entries, take-entries, length-put_row, entries-put, room-put, room-rows, room_supports, kept_room}
use Rattle.update_kept.proofs.Less.{AllLess}
use Rattle.update_raise.specs.inside.Raising.{Raisable}
use Rattle.update_raise.proofs.Raise.{all-less_weaken, all-less-snoc, before-less, Rising, rising_start, rising_higher, rising_equal, rising-lower, rising_room, rising_end, LastSays}

-- ---- the first rows of a list of rows

-- Fewer rows are the first of more.
take-first_rows : (j c : ℕ) (rs : List ℕ) → j ≤ c → take j (first_rows c rs) ≡ first_rows j rs
unfolding first_rows
take-first_rows zero c rs h = refl
take-first_rows (suc j) zero rs h = absurd (omega arith)
take-first_rows (suc j) (suc c) rs h = ap (λ (l : List Triple). triple_from rs 0 ∷ l) (take-first_rows j c (drop 3 rs) (omega arith))

-- In ascending rows those before row j are less.
pub first_rows-less : (j c : ℕ) (rs : List ℕ) → j < c → Ascending (first_rows c rs) → AllLess (first_rows j rs) (triple_from rs (j * 3))
first_rows-less j c rs h a =
    let e : first_rows c rs ≡ first_rows j rs ++ (triple_from rs (j * 3) ∷ drop (suc j) (first_rows c rs)) =
    split_at (first_rows c rs) j (triple 0 0 0) (rw length-first_rows h)
    ∙ (λ z. take-first_rows j c rs (omega arith) z ++ (get_or-first_rows c rs j (triple 0 0 0) h z ∷ drop (suc j) (first_rows c rs))) in
    before-less (first_rows j rs) (triple_from rs (j * 3)) (drop (suc j) (first_rows c rs)) (subst Ascending e a)

-- ---- kept facts before one

-- The rows of two parts.
kept_rows-append : (k d : Kept) → kept_rows (k ++ d) ≡ kept_rows k ++ kept_rows d
kept_rows-append [] d = refl
kept_rows-append (e ∷ k) d = ap (λ (l : List Triple). e.0 ∷ l) (kept_rows-append k d)

-- In kept facts whose rows ascend, those before a place are less.
pub kept_less : (k : Kept) (i : ℕ) → i < length k → Ascending (kept_rows k) → AllLess (kept_rows (take i k)) (get_or k i no_entry).0
kept_less k i h a =
    let e = ap kept_rows (split_at k i no_entry h) ∙ kept_rows-append (take i k) (get_or k i no_entry ∷ drop (suc i) k) in
    before-less (kept_rows (take i k)) (get_or k i no_entry).0 (kept_rows (drop (suc i) k)) (subst Ascending e a)

-- ---- the pass

module _ (ws₀ us₀ rs : List ℕ) (c missing : ℕ) where
  -- The kept facts at entry.
  abbrev K : Kept
  K = kept_of ws₀ us₀

  -- How many rows there will be.
  abbrev m : ℕ
  m = length (rows ws₀) + missing

  -- The kept facts at exit.
  abbrev M : Kept
  M = raise_all (first_rows c rs) (kept_of ws₀ us₀)

  -- At each turn: the first i kept facts stand as they were, the first j rows are still to be raised in them, and what stands from
  -- place k on is as it will be.
  pub record Pass (ws us : List ℕ) (i j k : ℕ) : Type 0 where
    pub room : Room m ws us
    pub same-words : length ws ≡ length ws₀
    pub same_places : length us ≡ length us₀
    pub i-le : i ≤ length (rows ws₀)
    pub j_le : j ≤ c
    pub i-le-k : i ≤ k
    pub k-le : k ≤ m
    pub low : take i (entries m ws us) ≡ take i K
    pub rising : Rising M (first_rows j rs) (take i K) (drop k (entries m ws us))

  module _ (A : Raisable ws₀ us₀ rs c missing) where
    -- The kept facts at entry are as many as the rows, and ascend.
    long : length K ≡ length (rows ws₀)
    long = rw (kept_of-entries ws₀ us₀ (length (rows ws₀)) refl) (length-entries (length (rows ws₀)) ws₀ us₀ A.tables.places)

    rows-of-K : kept_rows K ≡ rows ws₀
    unfolding rows
    rows-of-K = rw (kept_of-entries ws₀ us₀ (length (rows ws₀)) refl) (kept_rows-entries (length (rows ws₀)) ws₀ us₀ A.tables.places ∙ rw (length-rows ws₀) refl)

    asc : Ascending (kept_rows K)
    asc = rw rows-of-K A.tables.ascends

    -- At the start no row is raised.
    pub pass-start : Pass ws₀ us₀ (length (rows ws₀)) c m
    pass-start = record {
      room = kept_room A.tables m (omega arith) A.words A.places;
      same-words = refl;
      same_places = refl;
      i-le = omega arith;
      j_le = omega arith;
      i-le-k = omega arith;
      k-le = omega arith;
      low = take-entries (length (rows ws₀)) m ws₀ us₀ (omega arith) A.places ∙ sym (kept_of-entries ws₀ us₀ (length (rows ws₀)) refl) ∙ sym (take_all (length (rows ws₀)) K (omega (arith, long)));
      rising = rw (take_all (length (rows ws₀)) K (omega (arith, long)), drop_of_length-le (entries m ws₀ us₀) {i = m} (omega (arith, length-entries m ws₀ us₀ A.places))) (rising_start (first_rows c rs) K);
    }

    module _ {ws us : List ℕ} {i j k : ℕ} (P : Pass ws us i j k) where
      -- There are m entries, and so many are done.
      size : length (entries m ws us) ≡ m
      size = length-entries m ws us P.room.places

      left : length (drop k (entries m ws us)) ≡ m - k
      left = rw (length-drop, size) refl

      -- What stands before place i is what stood there.
      entry_is : (p : ℕ) → p < i → get_or K p no_entry ≡ (row_at ws p, get_or us p 0)
      entry_is p h =
          sym (get_or-take i K p no_entry h) ∙ ap (λ (l : Kept). get_or l p no_entry) (sym P.low) ∙ get_or-take i (entries m ws us) p no_entry h
          ∙ get_or-entries m ws us P.room.places p (let a = P.i-le-k in let b = P.k-le in omega arith)

      -- Each row before it is less.
      before-less-kept : (p : ℕ) → p < i → AllLess (kept_rows (take p K)) (row_at ws p)
      before-less-kept p h = rw (entry_is p h) at (kept_less K p (let a = P.i-le in omega (arith, long)) asc)

      -- What is left has room before what is done and one entry more.
      turn_room : (i' : ℕ) (ts : List Triple) (e : Triple × ℕ) → i' ≤ i → Rising M ts (take i' K) (e ∷ drop k (entries m ws us)) → i' < k
      turn_room i' ts e h R =
          let a : length (take i' K) ≡ i' = length-take-le i' K (let b = P.i-le in omega (arith, long)) in
          let b = P.k-le in
          let d = A.counted in
          omega (arith, rising_room R, left)

      -- A turn that writes an entry before what is done.
      turn : {ws' us' : List ℕ} (i' j' : ℕ) (x : Triple) (s : ℕ) → i' ≤ i → j' ≤ j → Rising M (first_rows j' rs) (take i' K) ((x, s) ∷ drop k (entries m ws us)) → Entered (k - 1) x s ws us ws' us' → Pass ws' us' i' j' (k - 1)
      turn {ws'} {us'} i' j' x s h l R N =
          let r : i' < k = turn_room i' (first_rows j' rs) (x, s) h R in
          let b = P.k-le in
          let at : k - 1 < m = omega arith in
          let E : Kept = entries m ws us in
          let put : entries m ws' us' ≡ set E (k - 1) (x, s) = rw (N.row, N.support) (entries-put m (k - 1) x s ws us at P.room.places P.room.words) in
          let q : suc (k - 1) ≡ k = omega arith in
          let split : set E (k - 1) (x, s) ≡ take (k - 1) E ++ ((x, s) ∷ drop k E) = rw q at (set_split E (k - 1) (x, s) (rw size at)) in
          let front : length (take (k - 1) E) ≡ k - 1 = length-take-le (k - 1) E (omega (arith, size)) in
          record {
            room = rw (N.row, N.support) (room-put (k - 1) x s P.room at);
            same-words = rw (N.row, length-put_row) P.same-words;
            same_places = rw (N.support, length-set) P.same_places;
            i-le = let a = P.i-le in omega arith;
            j_le = let a = P.j_le in omega arith;
            i-le-k = omega arith;
            k-le = omega arith;
            low = rw put (take-set-le i' E (k - 1) (x, s) (omega arith) ∙ sym (take-take i' i E h) ∙ ap (take i') P.low ∙ take-take i' i K h);
            rising = rw (put, split, drop_at (take (k - 1) E) ((x, s) ∷ drop k E) (k - 1) front) R;
          }

    -- The last kept fact is higher than the last row.
    pub pass-higher : {ws us ws' us' : List ℕ} (i j k : ℕ) (P : Pass ws us i j k) → 0 < j → LastSays Greater i ws (triple_from rs ((j - 1) * 3))
        → Entered (k - 1) (row_at ws (i - 1)) (get_or us (i - 1) 0) ws us ws' us' → Pass ws' us' (i - 1) j (k - 1)
    pass-higher zero j k P h l N = absurd (omega (arith, l.0))
    pass-higher (suc i) zero k P h l N = absurd (omega arith)
    pass-higher {ws} {us} (suc i) (suc j) k P h l N =
        let q : suc i - 1 ≡ i = omega arith in
        let r : suc j - 1 ≡ j = omega arith in
        let e : Triple × ℕ = (row_at ws i, get_or us i 0) in
        let x : Triple = triple_from rs (j * 3) in
        let lt : Less x (row_at ws i) = rw (q, r) at l.1 in
        let jc : j < c = let a = P.j_le in omega arith in
        let below : AllLess (first_rows (suc j) rs) (row_at ws i) =
        rw (first_rows-snoc j rs) (all-less-snoc (first_rows j rs) x (all-less_weaken (first_rows j rs) lt (first_rows-less j c rs jc A.raised_ascend)) lt) in
        let t : take (suc i) K ≡ take i K ++ (e ∷ []) = take-suc K i no_entry (let a = P.i-le in omega (arith, long)) ∙ ap (λ (d : Triple × ℕ). take i K ++ (d ∷ [])) (entry_is P i (omega arith)) in
        rw q (turn P i (suc j) (row_at ws i) (get_or us i 0) (omega arith) (omega arith) (rising_higher (take i K) e (rw t at P.rising) below) (rw q at N))

    -- The last kept fact is the last row.
    pub pass-equal : {ws us ws' us' : List ℕ} (i j k : ℕ) (P : Pass ws us i j k) → 0 < j → LastSays Equal i ws (triple_from rs ((j - 1) * 3))
        → Entered (k - 1) (triple_from rs ((j - 1) * 3)) (get_or us (i - 1) 0 + 1) ws us ws' us' → Pass ws' us' (i - 1) (j - 1) (k - 1)
    pass-equal zero j k P h l N = absurd (omega (arith, l.0))
    pass-equal (suc i) zero k P h l N = absurd (omega arith)
    pass-equal {ws} {us} (suc i) (suc j) k P h l N =
        let q : suc i - 1 ≡ i = omega arith in
        let r : suc j - 1 ≡ j = omega arith in
        let n : ℕ = get_or us i 0 in
        let x : Triple = triple_from rs (j * 3) in
        let is : row_at ws i ≡ x = rw (q, r) at l.1 in
        let jc : j < c = let a = P.j_le in omega arith in
        let t : take (suc i) K ≡ take i K ++ ((x, n) ∷ []) = take-suc K i no_entry (let a = P.i-le in omega (arith, long)) ∙ ap (λ (d : Triple × ℕ). take i K ++ (d ∷ [])) (entry_is P i (omega arith) ∙ ap (λ (u : Triple). (u, n)) is) in
        let below : AllLess (kept_rows (take i K)) x = rw is at (before-less-kept P i (omega arith)) in
        let one : get_or us i 0 + 1 ≡ suc n = add-one n in
        rw (q, r)
        (turn P i j x (suc n) (omega arith) (omega arith)
        (rising_equal (first_rows j rs) x (take i K) n (rw (t, first_rows-snoc j rs) at P.rising) below (first_rows-less j c rs jc A.raised_ascend)) (rw (q, r, one) at N))

    -- The last row enters before what is done,
    rising-enters : {ws us : List ℕ} (i j k : ℕ) (P : Pass ws us i (suc j) k) → LastSays Ordering.Less i ws (triple_from rs (j * 3)) → Rising M (first_rows j rs) (take i K) ((triple_from rs (j * 3), 1) ∷ drop k (entries m ws us))
    rising-enters {ws} i j k P l =
        let x : Triple = triple_from rs (j * 3) in
        let jc : j < c = let a = P.j_le in omega arith in
        rising-lower (first_rows j rs) x (take i K) (rw (first_rows-snoc j rs) at P.rising) (below i P l) (first_rows-less j c rs jc A.raised_ascend)
      where
        below : {ws us : List ℕ} {j k : ℕ} {x : Triple} (i : ℕ) (P : Pass ws us i j k) → LastSays Ordering.Less i ws x → AllLess (kept_rows (take i K)) x
        below zero P l = tt
        below {ws} {us} {x = x} (suc i) P l =
            let q : suc i - 1 ≡ i = omega arith in
            let lt : Less (row_at ws i) x = rw q at (l (omega arith)) in
            let t : take (suc i) K ≡ take i K ++ ((row_at ws i, get_or us i 0) ∷ []) = take-suc K i no_entry (let a = P.i-le in omega (arith, long)) ∙ ap (λ (d : Triple × ℕ). take i K ++ (d ∷ [])) (entry_is P i (omega arith)) in
            rw (t, kept_rows-append) (all-less-snoc (kept_rows (take i K)) (row_at ws i) (all-less_weaken (kept_rows (take i K)) lt (before-less-kept P i (omega arith))) lt)

    -- for which there is room, where every kept fact left is lower.
    pub pass-lower-room : {ws us : List ℕ} (i j k : ℕ) (P : Pass ws us i j k) → 0 < j → LastSays Ordering.Less i ws (triple_from rs ((j - 1) * 3)) → i < k
    pass-lower-room i zero k P h l = absurd (omega arith)
    pass-lower-room i (suc j) k P h l =
        let r : suc j - 1 ≡ j = omega arith in
        turn_room P i (first_rows j rs) (triple_from rs (j * 3), 1) (omega arith) (rising-enters i j k P (rw r at l))

    pub pass-lower : {ws us ws' us' : List ℕ} (i j k : ℕ) (P : Pass ws us i j k) → 0 < j → LastSays Ordering.Less i ws (triple_from rs ((j - 1) * 3))
        → Entered (k - 1) (triple_from rs ((j - 1) * 3)) 1 ws us ws' us' → Pass ws' us' i (j - 1) (k - 1)
    pass-lower i zero k P h l N = absurd (omega arith)
    pass-lower i (suc j) k P h l N =
        let r : suc j - 1 ≡ j = omega arith in
        rw r (turn P i j (triple_from rs (j * 3)) 1 (omega arith) (omega arith) (rising-enters i j k P (rw r at l)) (rw r at N))

    -- No row is left: the tables hold the kept facts raised, once their count is written.
    pub pass_end : {ws us : List ℕ} (i k : ℕ) → Pass ws us i 0 k → Holding M ws₀ us₀ (set ws 0 m) us
    unfolding first_rows
    pass_end {ws} {us} i k P =
        let E : Kept = entries m ws us in
        let e : take i K ++ drop k E ≡ M = rising_end P.rising in
        let a : length (take i K) ≡ i = length-take-le i K (let b = P.i-le in omega (arith, long)) in
        let b : length (take i K) + length (drop k E) ≡ length M = sym (length-append (take i K) (drop k E)) ∙ ap length e in
        let d : i ≡ k = let f = P.k-le in let g = P.i-le-k in let h = A.counted in omega (arith, left P) in
        let is : E ≡ M = sym (take-append-drop k E) ∙ rw (← d) (rw P.low (rw (← d) at e)) in
        record {
          row_words = rw (← P.same-words, ← is) (room-rows P.room);
          support_places = rw (← P.same_places, ← is) (room_supports P.room);
        }

    -- ---- the same, as the code has it

    pub code-start : Pass ws₀ us₀ (count ws₀) c (count ws₀ + missing)
    code-start = rw A.tables.laid.counted pass-start

    pub code-higher : {ws us ws' us' : List ℕ} {i j k : ℕ} {x row : Triple} (P : Pass ws us i j k) → 0 < j → x ≡ triple_from rs ((j - 1) * 3) → LastSays Greater i ws x → row ≡ row_at ws (i - 1)
        → Entered (k - 1) row (get_or us (i - 1) 0) ws us ws' us' → Pass ws' us' (i - 1) j (k - 1)
    code-higher {i = i} {j} {k} P h e l r N = pass-higher i j k P h (rw e at l) (rw r at N)

    pub code-equal : {ws us ws' us' : List ℕ} {i j k : ℕ} {x : Triple} (P : Pass ws us i j k) → 0 < j → x ≡ triple_from rs ((j - 1) * 3) → LastSays Equal i ws x
        → Entered (k - 1) x (get_or us (i - 1) 0 + 1) ws us ws' us' → Pass ws' us' (i - 1) (j - 1) (k - 1)
    code-equal {i = i} {j} {k} P h e l N = pass-equal i j k P h (rw e at l) (rw e at N)

    pub code-room : {ws us : List ℕ} {i j k : ℕ} {x : Triple} (P : Pass ws us i j k) → 0 < j → x ≡ triple_from rs ((j - 1) * 3) → LastSays Ordering.Less i ws x → i < k
    code-room {i = i} {j} {k} P h e l = pass-lower-room i j k P h (rw e at l)

    pub code-lower : {ws us ws' us' : List ℕ} {i j k : ℕ} {x : Triple} (P : Pass ws us i j k) → 0 < j → x ≡ triple_from rs ((j - 1) * 3) → LastSays Ordering.Less i ws x
        → Entered (k - 1) x 1 ws us ws' us' → Pass ws' us' i (j - 1) (k - 1)
    code-lower {i = i} {j} {k} P h e l N = pass-lower i j k P h (rw e at l) (rw e at N)

    -- A support that is raised fits.
    pub code_fits : {ws us : List ℕ} {i j k : ℕ} (P : Pass ws us i j k) → 0 < i → get_or us (i - 1) 0 < 65535
    unfolding kept_of
    code_fits {ws} {us} {i} P h =
        let l : i - 1 < i = omega arith in
        let q : i - 1 < length (rows ws₀) = let a = P.i-le in omega arith in
        let e : ◌≡◌ {A = Triple × ℕ} (row_at ws₀ (i - 1), get_or us₀ (i - 1) 0) (row_at ws (i - 1), get_or us (i - 1) 0) =
        sym (get_or-entries (length (rows ws₀)) ws₀ us₀ A.tables.places (i - 1) q) ∙ ap (λ (d : Kept). get_or d (i - 1) no_entry) (sym (kept_of-entries ws₀ us₀ (length (rows ws₀)) refl)) ∙ entry_is P (i - 1) l in
        rw (ap (λ (d : Triple × ℕ). d.1) e) at (A.below_most (i - 1) q)

    pub code-end : {ws us : List ℕ} {i j k : ℕ} → Pass ws us i j k → j ≤ 0 → Holding M ws₀ us₀ (set ws 0 (count ws₀ + missing)) us
    code-end {i = i} {j} {k} P h = let e : j ≡ 0 = omega arith in rw A.tables.laid.counted (pass_end i k (rw e at P))
