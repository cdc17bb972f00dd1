-- The pass that lowers rows and closes up what goes, over the words of both tables: what holds at each turn, and a turn of each kind.
-- Assumes nothing.
use Prim.Native.Nat.{ℕ, zero, suc, ◌+◌, ◌-◌, ◌*◌, ◌≤◌, ◌<◌}
use mathlib.Core.Path.{◌≡◌, refl, sym, ap, ◌∙◌, subst}
use mathlib.Core.List.{List, [], ◌∷◌, ◌++◌, append_assoc, append-nil}
use native.Mathlib.Numerals.{add-one}
use native.Mathlib.Omega.{arith}
use lib.ListN.{length, get_or, take, drop, set, length-set, take-append-drop, drop_of_length-le}
use lib.Seq.{drop-cons, drop-drop, take-suc-set, drop-set-lt, set-get_or}
use Rattle.spec.specs.declared.Triple.{Triple}
use Rattle.spec.specs.Terms.{triple}
use Rattle.spec.specs.inside.Comparison.{Less, Above, Ascending}
use Rattle.spec.specs.Tables.{count, triple_from, row_at, first_rows, rows, kept_of}
use Rattle.spec.proofs.TableRows.{length-first_rows, get_or-first_rows, length-rows}
use Rattle.spec.specs.Saturation.{Kept, lower_all, kept_rows}
use Rattle.table_change.specs.inside.Words.{Entered}
use Rattle.update_kept.specs.inside.Entries.{entries, Room, Holding}
use Rattle.update_kept.proofs.Entries.{no_entry, length-entries, get_or-entries, kept_rows-entries, kept_of-entries, take-entries, length-put_row, count-put_row, entries-put, room-put, room-rows, room_supports, kept_room}
use Rattle.update_kept.proofs.Less.{AllLess, ascending-drop}
use Rattle.update_lower.specs.inside.Lowering.{Lowerable, Passed, Gapped, Cleared}
use Rattle.update_lower.proofs.Lower.{lower_all_past, lower_all_before, lower_all_nil, lower_all-missing, lower_all_stays, lower_all_goes}

-- ---- an entry written before a place

module _ {n : ℕ} {ws us : List ℕ} (R : Room n ws us) where
  -- There are n entries.
  size : length (entries n ws us) ≡ n
  size = length-entries n ws us R.places

  -- What stands from place i on begins with entry i.
  pub next-entry : (i : ℕ) → i < n → drop i (entries n ws us) ≡ (row_at ws i, get_or us i 0) ∷ drop (i + 1) (entries n ws us)
  next-entry i h =
      rw (add-one i) (drop-cons (entries n ws us) i no_entry (rw size h) ∙ ap (λ (e : Triple × ℕ). e ∷ drop (suc i) (entries n ws us)) (get_or-entries n ws us R.places i h))

  module _ {ws' us' : List ℕ} {k : ℕ} {x : Triple} {s : ℕ} (N : Entered k x s ws us ws' us') (h : k < n) where
    -- The entries after the write,
    pub put_entries : entries n ws' us' ≡ set (entries n ws us) k (x, s)
    put_entries = rw (N.row, N.support) (entries-put n k x s ws us h R.places R.words)

    -- up to the place,
    pub put_front : take (k + 1) (entries n ws' us') ≡ take k (entries n ws us) ++ ((x, s) ∷ [])
    put_front = rw (put_entries, add-one k) (take-suc-set (entries n ws us) k (x, s) (rw size h))

    -- and behind it.
    pub put_back : (i : ℕ) → k ≤ i → drop (i + 1) (entries n ws' us') ≡ drop (i + 1) (entries n ws us)
    put_back i l = rw put_entries (drop-set-lt (i + 1) (entries n ws us) k (x, s) (omega arith))

    -- The room, the lengths and the count stay.
    pub put-room : Room n ws' us'
    put-room = rw (N.row, N.support) (room-put k x s R h)

    pub put-words : length ws' ≡ length ws
    put-words = rw N.row (length-put_row k x ws)

    pub put_places : length us' ≡ length us
    put_places = rw N.support (length-set us k s)

    pub put_count : count ws' ≡ count ws
    put_count = rw N.row (count-put_row k x ws)

-- ---- the rest is moved

-- Nothing is moved yet.
pub gap_start : (n i k : ℕ) (ws us : List ℕ) → Room n ws us → k ≤ i → i ≤ n → Gapped (take k (entries n ws us) ++ drop i (entries n ws us)) n i k ws us ws us
gap_start n i k ws us R h l = record { room = R; same-words = refl; same_places = refl; same_count = refl; write_le = h; read_le = l; is = refl }

-- One row is moved.
pub gap_move : {m : Kept} {n i k : ℕ} {ws₀ us₀ ws us ws' us' : List ℕ} {row : Triple} → Gapped m n i k ws₀ us₀ ws us → i < n → row ≡ row_at ws i → Entered k row (get_or us i 0) ws us ws' us'
    → Gapped m n (i + 1) (k + 1) ws₀ us₀ ws' us'
gap_move {m} {n} {i} {k} {ws₀} {us₀} {ws} {us} {ws'} {us'} G h e N =
    let w = G.write_le in
    let N' : Entered k (row_at ws i) (get_or us i 0) ws us ws' us' = rw e at N in
    let l : k < n = omega arith in
    let E : Kept = entries n ws us in
    record {
      room = put-room G.room N' l;
      same-words = put-words G.room N' l ∙ G.same-words;
      same_places = put_places G.room N' l ∙ G.same_places;
      same_count = put_count G.room N' l ∙ G.same_count;
      write_le = omega arith;
      read_le = omega arith;
      is = rw (put_front G.room N' l, put_back G.room N' l i w, append_assoc (take k E) ((row_at ws i, get_or us i 0) ∷ []) (drop (i + 1) E), ← next-entry G.room i h) G.is;
    }

-- ---- parts of ascending rows

-- The rows of the kept facts from place i on.
kept_rows-drop : (i : ℕ) (k : Kept) → kept_rows (drop i k) ≡ drop i (kept_rows k)
kept_rows-drop zero k = refl
kept_rows-drop (suc i) [] = refl
kept_rows-drop (suc i) (e ∷ k) = kept_rows-drop i k

-- Each row before place i is less.
all-less_of : (k : Kept) (i : ℕ) (t : Triple) → ((p : ℕ) → p < i → Less (get_or k p no_entry).0 t) → i ≤ length k → AllLess (kept_rows (take i k)) t
all-less_of k zero t h l = tt
all-less_of [] (suc i) t h l = absurd (omega arith)
all-less_of (e ∷ k) (suc i) t h l = (h 0 (omega arith), all-less_of k i t (λ p q. h (suc p) (omega arith)) (omega arith))

-- ---- the pass

module _ (ws₀ us₀ rs : List ℕ) (c : ℕ) where
  -- The kept facts at entry,
  abbrev K : Kept
  K = kept_of ws₀ us₀

  -- how many there are,
  abbrev n : ℕ
  n = length (rows ws₀)

  -- and the kept facts at exit.
  abbrev M : Kept
  M = lower_all (first_rows c rs) (kept_of ws₀ us₀)

  -- At each turn: the kept facts before place k are as they will be, and the rows from row j on are still to be lowered in those from
  -- place i on, which stand as they were.
  pub record Lowering (ws us : List ℕ) (i j k : ℕ) : Type 0 where
    pub room : Room n ws us
    pub same-words : length ws ≡ length ws₀
    pub same_places : length us ≡ length us₀
    pub same_count : count ws ≡ count ws₀
    pub k-le : k ≤ i
    pub i-le : i ≤ n
    pub j_le : j ≤ c
    pub high : drop i (entries n ws us) ≡ drop i K
    pub whole : take k (entries n ws us) ++ lower_all (drop j (first_rows c rs)) (drop i (entries n ws us)) ≡ M

  module _ (A : Lowerable ws₀ us₀ rs c) where
    -- The entries at entry, with their room and order.
    is-K : kept_of ws₀ us₀ ≡ entries n ws₀ us₀
    is-K = kept_of-entries ws₀ us₀ n refl

    room₀ : Room n ws₀ us₀
    room₀ = kept_room A.tables n (omega arith) A.tables.laid.fits A.tables.places

    asc : Ascending (kept_rows K)
    unfolding rows
    asc = rw (is-K, kept_rows-entries n ws₀ us₀ A.tables.places, length-rows ws₀) A.tables.ascends

    -- The rows from row j on.
    rows_from : (j : ℕ) → j < c → drop j (first_rows c rs) ≡ triple_from rs (j * 3) ∷ drop (j + 1) (first_rows c rs)
    rows_from j h = rw (add-one j) (drop-cons (first_rows c rs) j (triple 0 0 0) (rw length-first_rows h) ∙ ap (λ (t : Triple). t ∷ drop (suc j) (first_rows c rs)) (get_or-first_rows c rs j (triple 0 0 0) h))

    -- They ascend.
    rows_above : (j : ℕ) → j < c → Above (triple_from rs (j * 3)) (drop (j + 1) (first_rows c rs))
    rows_above j h = subst Ascending (rows_from j h) (ascending-drop j (first_rows c rs) A.lowered_ascend)

    -- Kept facts before the place of the first row stay as they are.
    pub lowering-start : (i : ℕ) → Passed i ws₀ rs → Lowering ws₀ us₀ i 0 i
    unfolding lower_all
    lowering-start i P = record {
      room = room₀;
      same-words = refl;
      same_places = refl;
      same_count = refl;
      k-le = omega arith;
      i-le = P.within;
      j_le = omega arith;
      high = rw (← is-K) refl;
      whole = rw (← is-K) (begun (first_rows c rs) refl);
    }
      where
        long : length K ≡ n
        long = rw is-K (length-entries n ws₀ us₀ A.tables.places)

        begun : (ts : List Triple) → first_rows c rs ≡ ts → take i K ++ lower_all (first_rows c rs) (drop i K) ≡ M
        begun [] e = rw e (take-append-drop i K)
        begun (t ∷ ts) e =
            let cl : length (first_rows c rs) ≡ suc (length ts) = ap length e in
            let pos : 0 < c = omega (arith, length-first_rows c rs) in
            let first : triple_from rs 0 ≡ t = sym (get_or-first_rows c rs 0 t pos) ∙ ap (λ (l : List Triple). get_or l 0 t) e in
            let below : AllLess (kept_rows (take i K)) t =
            all-less_of K i t (λ p q. rw (is-K, get_or-entries n ws₀ us₀ A.tables.places p (let w = P.within in omega arith), ← first) (P.below p q)) (let w = P.within in omega (arith, long)) in
            let above : Above t ts = subst Ascending e A.lowered_ascend in
            rw e (sym (lower_all_before t ts (take i K) (drop i K) below above) ∙ ap (lower_all (t ∷ ts)) (take-append-drop i K))

    module _ {ws us : List ℕ} {i j k : ℕ} (L : Lowering ws us i j k) where
      -- The rest ascends.
      rest-above : i < n → Above (row_at ws i) (kept_rows (drop (i + 1) (entries n ws us)))
      rest-above h = subst Ascending (ap kept_rows (next-entry L.room i h)) (rw (L.high, kept_rows-drop) (ascending-drop i (kept_rows K) asc))

      -- What stands behind place i stands as it did.
      next-high : (ws' us' : List ℕ) → drop (i + 1) (entries n ws' us') ≡ drop (i + 1) (entries n ws us) → drop (i + 1) (entries n ws' us') ≡ drop (i + 1) K
      next-high ws' us' e = e ∙ sym (drop-drop 1 i (entries n ws us)) ∙ ap (drop 1) L.high ∙ drop-drop 1 i K

      -- The kept fact is lower than the row: it stays as it is.
      pub lowering-lower : {ws' us' : List ℕ} {x row : Triple} → i < n → j < c → x ≡ triple_from rs (j * 3) → Less (row_at ws i) x → row ≡ row_at ws i
          → Entered k row (get_or us i 0) ws us ws' us' → Lowering ws' us' (i + 1) j (k + 1)
      lowering-lower {ws'} {us'} {x} h l e q r N =
          let N' : Entered k (row_at ws i) (get_or us i 0) ws us ws' us' = rw r at N in
          let w = L.k-le in
          let kn : k < n = omega arith in
          let d : Triple × ℕ = (row_at ws i, get_or us i 0) in
          let E : Kept = entries n ws us in
          let ts : List Triple = drop j (first_rows c rs) in
          let above : Above (row_at ws i) ts = rw (rows_from j l) (rw e at q, rows_above j l) in
          record {
            room = put-room L.room N' kn;
            same-words = put-words L.room N' kn ∙ L.same-words;
            same_places = put_places L.room N' kn ∙ L.same_places;
            same_count = put_count L.room N' kn ∙ L.same_count;
            k-le = omega arith;
            i-le = omega arith;
            j_le = L.j_le;
            high = next-high ws' us' (put_back L.room N' kn i w);
            whole = rw (put_front L.room N' kn, put_back L.room N' kn i w)
                (append_assoc (take k E) (d ∷ []) (lower_all ts (drop (i + 1) E))
                ∙ ap (λ (t : Kept). take k E ++ t) (sym (lower_all_past ts d (drop (i + 1) E) above) ∙ ap (lower_all ts) (sym (next-entry L.room i h))) ∙ L.whole);
          }

      -- It is higher: the row is missing.
      pub lowering-higher : {x : Triple} → i < n → j < c → x ≡ triple_from rs (j * 3) → Less x (row_at ws i) → Lowering ws us i (j + 1) k
      lowering-higher {x} h l e q =
          let E : Kept = entries n ws us in
          let t : Triple = triple_from rs (j * 3) in
          let above : Above t (kept_rows (drop i E)) = rw (next-entry L.room i h) (rw e at q, rest-above h) in
          record {
            room = L.room;
            same-words = L.same-words;
            same_places = L.same_places;
            same_count = L.same_count;
            k-le = L.k-le;
            i-le = L.i-le;
            j_le = omega arith;
            high = L.high;
            whole = ap (λ (r : Kept). take k E ++ r) (sym (lower_all-missing t (drop (j + 1) (first_rows c rs)) (drop i E) above) ∙ ap (λ (ts : List Triple). lower_all ts (drop i E)) (sym (rows_from j l))) ∙ L.whole;
          }

      -- It is the row.
      first_is : {x : Triple} → i < n → row_at ws i ≡ x → drop i (entries n ws us) ≡ (x, get_or us i 0) ∷ drop (i + 1) (entries n ws us)
      first_is h q = next-entry L.room i h ∙ ap (λ (t : Triple). (t, get_or us i 0) ∷ drop (i + 1) (entries n ws us)) q

      -- It has a support left,
      pub lowering-stays : {ws' us' : List ℕ} {x : Triple} → i < n → j < c → x ≡ triple_from rs (j * 3) → row_at ws i ≡ x → 1 < get_or us i 0
          → Entered k x (get_or us i 0 - 1) ws us ws' us' → Lowering ws' us' (i + 1) (j + 1) (k + 1)
      lowering-stays {ws'} {us'} {x} h l e q s N =
          let t : Triple = triple_from rs (j * 3) in
          let N' : Entered k t (get_or us i 0 - 1) ws us ws' us' = rw e at N in
          let w = L.k-le in
          let kn : k < n = omega arith in
          let E : Kept = entries n ws us in
          let ts : List Triple = drop (j + 1) (first_rows c rs) in
          record {
            room = put-room L.room N' kn;
            same-words = put-words L.room N' kn ∙ L.same-words;
            same_places = put_places L.room N' kn ∙ L.same_places;
            same_count = put_count L.room N' kn ∙ L.same_count;
            k-le = omega arith;
            i-le = omega arith;
            j_le = omega arith;
            high = next-high ws' us' (put_back L.room N' kn i w);
            whole = rw (put_front L.room N' kn, put_back L.room N' kn i w)
                (append_assoc (take k E) ((t, get_or us i 0 - 1) ∷ []) (lower_all ts (drop (i + 1) E))
                ∙ ap (λ (r : Kept). take k E ++ r) (sym (lower_all_stays t ts (get_or us i 0) (drop (i + 1) E) (rows_above j l) s) ∙ sym (λ z. lower_all (rows_from j l z) (first_is h (q ∙ e) z))) ∙ L.whole);
          }

      -- or none, and goes.
      pub lowering-goes : {x : Triple} → i < n → j < c → x ≡ triple_from rs (j * 3) → row_at ws i ≡ x → get_or us i 0 ≤ 1 → Lowering ws us (i + 1) (j + 1) k
      lowering-goes {x} h l e q s =
          let t : Triple = triple_from rs (j * 3) in
          let w = L.k-le in
          let E : Kept = entries n ws us in
          let ts : List Triple = drop (j + 1) (first_rows c rs) in
          record {
            room = L.room;
            same-words = L.same-words;
            same_places = L.same_places;
            same_count = L.same_count;
            k-le = omega arith;
            i-le = omega arith;
            j_le = omega arith;
            high = next-high ws us refl;
            whole = ap (λ (r : Kept). take k E ++ r) (sym (lower_all_goes t ts (get_or us i 0) (drop (i + 1) E) (rows_above j l) s) ∙ sym (λ z. lower_all (rows_from j l z) (first_is h (q ∙ e) z))) ∙ L.whole;
          }

      -- No row is left,
      pub lowering-done : c ≤ j → Gapped M n i k ws₀ us₀ ws us
      unfolding lower_all
      lowering-done h =
          let none : drop j (first_rows c rs) ≡ [] = drop_of_length-le (first_rows c rs) {i = j} (omega (arith, length-first_rows c rs)) in
          record {
            room = L.room;
            same-words = L.same-words;
            same_places = L.same_places;
            same_count = L.same_count;
            write_le = L.k-le;
            read_le = L.i-le;
            is = rw none at L.whole;
          }

      -- or no kept fact.
      pub lowering-out : n ≤ i → Gapped M n i k ws₀ us₀ ws us
      lowering-out h =
          let E : Kept = entries n ws us in
          let none : drop i E ≡ [] = drop_of_length-le E {i = i} (omega (arith, length-entries n ws us L.room.places)) in
          record {
            room = L.room;
            same-words = L.same-words;
            same_places = L.same_places;
            same_count = L.same_count;
            write_le = L.k-le;
            read_le = L.i-le;
            is = rw none (sym (ap (λ (r : Kept). take k E ++ r) (ap (lower_all (drop j (first_rows c rs))) none ∙ lower_all_nil (drop j (first_rows c rs)))) ∙ L.whole);
          }

-- ---- what the tables hold in the end

-- Nothing was removed.
pub gap_none : {m : Kept} {n i k : ℕ} {ws₀ us₀ ws us : List ℕ} → Gapped m n i k ws₀ us₀ ws us → i ≡ k → count ws₀ ≡ n → Holding m ws₀ us₀ ws us
gap_none {m} {n} {i} {k} {ws₀} {us₀} {ws} {us} G e h =
    let E : Kept = entries n ws us in
    let is : E ≡ m = sym (take-append-drop k E) ∙ rw e at G.is in
    let c : count ws ≡ n = G.same_count ∙ h in
    record {
      row_words = rw (← G.same-words, ← is) (sym (set-get_or ws 0 0) ∙ rw c (room-rows G.room));
      support_places = rw (← G.same_places, ← is) (room_supports G.room);
    }

-- What is left was moved up to the gap, and the places behind it cleared.
pub gap-closed : {m : Kept} {n k : ℕ} {ws₀ us₀ ws us ws' us' : List ℕ} → Gapped m n n k ws₀ us₀ ws us → Cleared k ws us ws' us' → Holding m ws₀ us₀ (set ws' 0 k) us'
gap-closed {m} {n} {k} {ws₀} {us₀} {ws} {us} {ws'} {us'} G C =
    let E : Kept = entries n ws us in
    let none : drop n E ≡ [] = drop_of_length-le E {i = n} (omega (arith, length-entries n ws us G.room.places)) in
    let is : entries k ws' us' ≡ m = C.same_entries ∙ sym (take-entries k n ws us G.write_le G.room.places) ∙ sym (append-nil (take k E)) ∙ rw none at G.is in
    record {
      row_words = rw (← G.same-words, ← C.same-words, ← is) (room-rows C.room);
      support_places = rw (← G.same_places, ← C.same_places, ← is) (room_supports C.room);
    }

-- Every row is moved.
pub gap_end : {m : Kept} {n i k : ℕ} {ws₀ us₀ ws us : List ℕ} → Gapped m n i k ws₀ us₀ ws us → n ≤ i → Gapped m n n k ws₀ us₀ ws us
gap_end {m} {n} {i} {k} {ws₀} {us₀} {ws} {us} G h = let e : i ≡ n = let l = G.read_le in omega arith in subst (λ (p : ℕ). Gapped m n p k ws₀ us₀ ws us) e G

-- The places are those that the count gives.
pub gap-count : {m : Kept} {n i k : ℕ} {ws₀ us₀ ws us : List ℕ} → Gapped m n i k ws₀ us₀ ws us → count ws₀ ≡ n → Gapped m (count ws₀) i k ws₀ us₀ ws us
gap-count {m} {n} {i} {k} {ws₀} {us₀} {ws} {us} G e = subst (λ (p : ℕ). Gapped m p i k ws₀ us₀ ws us) (sym e) G

-- What is moved of tables with a gap holds what they held.
pub gap_trans : {m : Kept} {n i j k l : ℕ} {ws₀ us₀ ws us ws' us' : List ℕ} → Gapped m n i k ws₀ us₀ ws us → Gapped (take k (entries n ws us) ++ drop i (entries n ws us)) n j l ws us ws' us' → Gapped m n j l ws₀ us₀ ws' us'
gap_trans G H = record {
  room = H.room;
  same-words = H.same-words ∙ G.same-words;
  same_places = H.same_places ∙ G.same_places;
  same_count = H.same_count ∙ G.same_count;
  write_le = H.write_le;
  read_le = H.read_le;
  is = H.is ∙ G.is;
}
