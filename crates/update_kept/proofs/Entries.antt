-- Laws of kept facts in the words of their tables, place by place. Assumes nothing.
use Prim.Native.Nat.{ℕ, zero, suc, ◌+◌, ◌*◌, ◌≤◌, ◌<◌, ◌-◌}
use mathlib.Core.Path.{◌≡◌, refl, sym, ap, ◌∙◌, subst}
use mathlib.Core.Logic.{◌≢◌, by_cases}
use mathlib.Core.List.{List, [], ◌∷◌, ◌++◌, zip, zip_with, map}
use native.Mathlib.Decide.{ℕ_discrete}
use native.Mathlib.Numerals.{add-one}
use native.Mathlib.Omega.{arith}
use lib.ListN.{length, get_or, take, drop, set, length-set, length-map, take-append-drop, replicate}
use lib.Seq.{get_or-set_same, get_or-set_other, get_or-take, ext_get_or, drop-set-lt, length-take-le, drop_at, drop-drop}
use mathlib.Core.Bool.{true}
use Rattle.spec.specs.declared.Triple.{Triple}
use Rattle.spec.specs.Terms.{triple}
use Rattle.spec.specs.Order.{is_ascending}
use Rattle.spec.proofs.Ascending.{is_ascending_iff}
use Rattle.spec.specs.Tables.{count, row_at, first_rows, rows, flatten, layout, kept_of}
use Rattle.spec.specs.Lists.{padded}
use Rattle.spec.proofs.TableRows.{length-first_rows, first_rows-rows, get_or-row_at, flatten-first_rows, length-flatten, length-rows}
use Rattle.spec.specs.Saturation.{kept_rows, kept_supports}
use Rattle.table_change.specs.inside.Words.{put_row}
use Rattle.update_kept.specs.inside.Entries.{entries, Room, KeptTables, Sought}

-- ---- zip

module _ {A B : Type 0} where
  -- Two lists side by side: how many pairs,
  length-zip : (xs : List A) (ys : List B) → length xs ≤ length ys → length (zip xs ys) ≡ length xs
  unfolding zip zip_with
  length-zip [] ys h = refl
  length-zip (x ∷ xs) [] h = absurd (omega arith)
  length-zip (x ∷ xs) (y ∷ ys) h = ap suc (length-zip xs ys (omega arith))

  -- each pair,
  get_d_zip : (xs : List A) (ys : List B) (i : ℕ) (a : A) (b : B) → i < length xs → length xs ≤ length ys → get_or (zip xs ys) i (a, b) ≡ (get_or xs i a, get_or ys i b)
  unfolding zip zip_with
  get_d_zip [] ys i a b h k = absurd (omega arith)
  get_d_zip (x ∷ xs) [] i a b h k = absurd (omega arith)
  get_d_zip (x ∷ xs) (y ∷ ys) zero a b h k = refl
  get_d_zip (x ∷ xs) (y ∷ ys) (suc i) a b h k = get_d_zip xs ys i a b (omega arith) (omega arith)

  -- the first list,
  firsts-zip : (xs : List A) (ys : List B) → length xs ≤ length ys → map (λ (e : A × B). e.0) (zip xs ys) ≡ xs
  unfolding zip zip_with
  firsts-zip [] ys h = refl
  firsts-zip (x ∷ xs) [] h = absurd (omega arith)
  firsts-zip (x ∷ xs) (y ∷ ys) h = ap (λ (l : List A). x ∷ l) (firsts-zip xs ys (omega arith))

  -- and as much of the second.
  seconds-zip : (xs : List A) (ys : List B) → length xs ≤ length ys → map (λ (e : A × B). e.1) (zip xs ys) ≡ take (length xs) ys
  unfolding zip zip_with
  seconds-zip [] ys h = refl
  seconds-zip (x ∷ xs) [] h = absurd (omega arith)
  seconds-zip (x ∷ xs) (y ∷ ys) h = ap (λ (l : List B). y ∷ l) (seconds-zip xs ys (omega arith))

-- ---- entries

-- No row with no support: what stands past the end.
abbrev pub no_entry : Triple × ℕ
no_entry = (triple 0 0 0, 0)

module _ (n : ℕ) (ws us : List ℕ) (h : n ≤ length us) where
  -- There are n entries.
  few : length (first_rows n (drop 1 ws)) ≤ length us
  few = rw length-first_rows h

  pub length-entries : length (entries n ws us) ≡ n
  unfolding entries
  length-entries = length-zip (first_rows n (drop 1 ws)) us few ∙ length-first_rows n (drop 1 ws)

  -- Entry i is row i with support i.
  pub get_or-entries : (i : ℕ) → i < n → get_or (entries n ws us) i no_entry ≡ (row_at ws i, get_or us i 0)
  unfolding entries
  get_or-entries i k = rw (← get_or-row_at ws n i (triple 0 0 0) k) (get_d_zip (first_rows n (drop 1 ws)) us i (triple 0 0 0) 0 (rw length-first_rows k) few)

  -- Their rows and their supports.
  pub kept_rows-entries : kept_rows (entries n ws us) ≡ first_rows n (drop 1 ws)
  unfolding entries
  kept_rows-entries = firsts-zip (first_rows n (drop 1 ws)) us few

  pub kept_supports-entries : kept_supports (entries n ws us) ≡ take n us
  unfolding entries
  kept_supports-entries = rw (length-first_rows n (drop 1 ws)) at (seconds-zip (first_rows n (drop 1 ws)) us few)

-- The entries of the rows counted are the kept facts.
pub kept_of-entries : (ws us : List ℕ) (n : ℕ) → length (rows ws) ≡ n → kept_of ws us ≡ entries n ws us
unfolding kept_of entries
kept_of-entries ws us n e = rw (← first_rows-rows ws n e)

-- Fewer places hold the first entries.
pub take-entries : (i n : ℕ) (ws us : List ℕ) → i ≤ n → n ≤ length us → take i (entries n ws us) ≡ entries i ws us
take-entries i n ws us h k =
    let a : length (take i (entries n ws us)) ≡ i = length-take-le i (entries n ws us) (rw (length-entries n ws us k) h) in
    let b : length (entries i ws us) ≡ i = length-entries i ws us (omega arith) in
    ext_get_or no_entry (take i (entries n ws us)) (entries i ws us) (a ∙ sym b)
    (λ p q.
    let l : p < i = rw a at q in
    get_or-take i (entries n ws us) p no_entry l ∙ get_or-entries n ws us k p (omega arith) ∙ sym (get_or-entries i ws us (omega arith) p l))

-- ---- a row written

-- The length stays.
pub length-put_row : (i : ℕ) (x : Triple) (ws : List ℕ) → length (put_row i x ws) ≡ length ws
unfolding put_row
length-put_row i x ws = simp length-set

-- A word outside the row stays.
put_other : (ws : List ℕ) (a p q r b : ℕ) → b ≢ a → b ≢ a + 1 → b ≢ a + 2 → get_or (set (set (set ws a p) (a + 1) q) (a + 2) r) b 0 ≡ get_or ws b 0
put_other ws a p q r b h k l =
    get_or-set_other (set (set ws a p) (a + 1) q) (a + 2) b r 0 l ∙ get_or-set_other (set ws a p) (a + 1) b q 0 k ∙ get_or-set_other ws a b p 0 h

-- So does any other row.
pub row_at_other : (i j : ℕ) (x : Triple) (ws : List ℕ) → j ≢ i → row_at (put_row i x ws) j ≡ row_at ws j
unfolding row_at put_row
row_at_other i j x ws n =
    let e₀ = put_other ws (i * 3 + 1) x.subject x.property x.object (j * 3 + 1) (λ q. n (omega arith)) (λ q. omega arith) (λ q. omega arith) in
    let e₁ = put_other ws (i * 3 + 1) x.subject x.property x.object (j * 3 + 1 + 1) (λ q. omega arith) (λ q. n (omega arith)) (λ q. omega arith) in
    let e₂ = put_other ws (i * 3 + 1) x.subject x.property x.object (j * 3 + 1 + 2) (λ q. omega arith) (λ q. omega arith) (λ q. n (omega arith)) in
    λ z. triple (e₀ z) (e₁ z) (e₂ z)

-- The row is the one written.
pub row_at_same : (i : ℕ) (x : Triple) (ws : List ℕ) → i * 3 + 3 < length ws → row_at (put_row i x ws) i ≡ x
unfolding row_at put_row
row_at_same i x ws h =
    let a : ℕ = i * 3 + 1 in
    let w₁ : List ℕ = set ws a x.subject in
    let w₂ : List ℕ = set w₁ (a + 1) x.property in
    let e₀ : get_or (set w₂ (a + 2) x.object) a 0 ≡ x.subject =
    get_or-set_other w₂ (a + 2) a x.object 0 (λ q. omega arith) ∙ get_or-set_other w₁ (a + 1) a x.property 0 (λ q. omega arith) ∙ get_or-set_same ws a x.subject 0 (omega arith) in
    let e₁ : get_or (set w₂ (a + 2) x.object) (a + 1) 0 ≡ x.property =
    get_or-set_other w₂ (a + 2) (a + 1) x.object 0 (λ q. omega arith) ∙ get_or-set_same w₁ (a + 1) x.property 0 (simp length-set (omega arith)) in
    let e₂ : get_or (set w₂ (a + 2) x.object) (a + 2) 0 ≡ x.object =
    get_or-set_same w₂ (a + 2) x.object 0 (simp length-set (omega arith)) in
    λ z. triple (e₀ z) (e₁ z) (e₂ z)

-- The words behind the row stay.
pub drop-put_row : (i n : ℕ) (x : Triple) (ws : List ℕ) → i < n → drop (n * 3 + 1) (put_row i x ws) ≡ drop (n * 3 + 1) ws
unfolding put_row
drop-put_row i n x ws h =
    drop-set-lt (n * 3 + 1) (set (set ws (i * 3 + 1) x.subject) (i * 3 + 1 + 1) x.property) (i * 3 + 1 + 2) x.object (omega arith)
    ∙ drop-set-lt (n * 3 + 1) (set ws (i * 3 + 1) x.subject) (i * 3 + 1 + 1) x.property (omega arith)
    ∙ drop-set-lt (n * 3 + 1) ws (i * 3 + 1) x.subject (omega arith)

-- So does the count.
pub count-put_row : (i : ℕ) (x : Triple) (ws : List ℕ) → count (put_row i x ws) ≡ count ws
unfolding put_row
count-put_row i x ws = put_other ws (i * 3 + 1) x.subject x.property x.object 0 (λ q. omega arith) (λ q. omega arith) (λ q. omega arith)

-- A row and its support written are an entry set.
pub entries-put : (n i : ℕ) (x : Triple) (s : ℕ) (ws us : List ℕ) → i < n → n ≤ length us → n * 3 < length ws
    → entries n (put_row i x ws) (set us i s) ≡ set (entries n ws us) i (x, s)
entries-put n i x s ws us h k l =
    let k' : n ≤ length (set us i s) = rw length-set k in
    let a : length (entries n (put_row i x ws) (set us i s)) ≡ n = length-entries n (put_row i x ws) (set us i s) k' in
    let b : length (set (entries n ws us) i (x, s)) ≡ n = length-set (entries n ws us) i (x, s) ∙ length-entries n ws us k in
    ext_get_or no_entry (entries n (put_row i x ws) (set us i s)) (set (entries n ws us) i (x, s)) (a ∙ sym b)
    (λ j q.
    let m : j < n = rw a at q in
    let e = get_or-entries n (put_row i x ws) (set us i s) k' j m in
    by_cases (ℕ_discrete j i)
    (λ p. rw p (rw p at e ∙ (λ z. (row_at_same i x ws (omega arith) z, get_or-set_same us i s 0 (omega arith) z)) ∙ sym (get_or-set_same (entries n ws us) i (x, s) no_entry (rw (length-entries n ws us k) h))))
    (λ p. e ∙ (λ z. (row_at_other i j x ws p z, get_or-set_other us i j s 0 p z)) ∙ sym (get_or-entries n ws us k j m) ∙ sym (get_or-set_other (entries n ws us) i j (x, s) no_entry p)))

-- ---- room

-- An entry written leaves the room.
pub room-put : {n : ℕ} {ws us : List ℕ} (i : ℕ) (x : Triple) (s : ℕ) → Room n ws us → i < n → Room n (put_row i x ws) (set us i s)
room-put {n} {ws} {us} i x s R h = record {
  words = rw length-put_row R.words;
  places = rw length-set R.places;
  zero-words = rw length-put_row (drop-put_row i n x ws h ∙ R.zero-words);
  zero_places = rw length-set (drop-set-lt n us i s h ∙ R.zero_places);
}

-- The words of a table in its parts: the count, the rows of its first n places, and what stands behind.
pub words_split : (n : ℕ) (ws us : List ℕ) → n * 3 < length ws → n ≤ length us → ws ≡ count ws ∷ (flatten (kept_rows (entries n ws us)) ++ drop (n * 3 + 1) ws)
words_split n [] us h k = absurd (omega arith)
words_split n (w ∷ ws) us h k = rw (kept_rows-entries n (w ∷ ws) us k, flatten-first_rows n ws (omega arith), add-one (n * 3)) (ap (λ (l : List ℕ). w ∷ l) (sym (take-append-drop (n * 3) ws)))

-- With its count written, a table is the layout of the rows of its places,
pub room-rows : {n : ℕ} {ws us : List ℕ} → Room n ws us → set ws 0 n ≡ layout (length ws) (kept_rows (entries n ws us))
unfolding layout
room-rows {n} {ws} {us} R =
    let e : length (kept_rows (entries n ws us)) ≡ n = length-map (entries n ws us) (λ (d : Triple × ℕ). d.0) ∙ length-entries n ws us R.places in
    rw (e, ← R.zero-words) (ap (λ (l : List ℕ). set l 0 n) (words_split n ws us R.words R.places))

-- and the other the layout of their supports.
pub room_supports : {n : ℕ} {ws us : List ℕ} → Room n ws us → us ≡ padded (length us) (kept_supports (entries n ws us))
room_supports {n} {ws} {us} R =
    let e : kept_supports (entries n ws us) ≡ take n us = kept_supports-entries n ws us R.places in
    let l : length (take n us) ≡ n = length-take-le n us R.places in
    rw (e, l, ← R.zero_places) (sym (take-append-drop n us))

-- ---- room in tables of kept facts

-- Zeros from a place on are zeros from any later place on.
replicate-drop : (m n : ℕ) → drop m (replicate {A = ℕ} n 0) ≡ replicate (n - m) 0
replicate-drop zero n = let e : n - 0 ≡ n = omega arith in rw e refl
replicate-drop (suc m) zero = let e : 0 - suc m ≡ 0 = omega arith in rw e refl
replicate-drop (suc m) (suc n) = let e : suc n - suc m ≡ n - m = omega arith in rw e (replicate-drop m n)

zeros_behind : (l : List ℕ) (n m : ℕ) → n ≤ m → drop n l ≡ replicate (length l - n) 0 → drop m l ≡ replicate (length l - m) 0
zeros_behind l n m h e =
    let q : n + (m - n) ≡ m = omega arith in
    let r : length l - n - (m - n) ≡ length l - m = omega arith in
    subst (λ (p : ℕ). drop p l ≡ replicate (length l - m) 0) q (sym (drop-drop (m - n) n l) ∙ ap (drop (m - n)) e ∙ replicate-drop (m - n) (length l - n) ∙ rw r refl)

-- Behind the rows of a table stand zeros,
laid_zeros : (ws : List ℕ) → ws ≡ layout (length ws) (rows ws) → drop (length (rows ws) * 3 + 1) ws ≡ replicate (length ws - (length (rows ws) * 3 + 1)) 0
unfolding layout
laid_zeros ws e =
    ap (drop (length (rows ws) * 3 + 1)) e
    ∙ drop_at (length (rows ws) ∷ flatten (rows ws)) (replicate (length ws - (length (rows ws) * 3 + 1)) 0) (length (rows ws) * 3 + 1) (omega (arith, length-flatten (rows ws)))

-- so that there is room for more.
pub kept_room : {ws us : List ℕ} → KeptTables ws us → (m : ℕ) → length (rows ws) ≤ m → m * 3 < length ws → m ≤ length us → Room m ws us
kept_room {ws} {us} T m h k l = record {
  words = k;
  places = l;
  zero-words = zeros_behind ws (length (rows ws) * 3 + 1) (m * 3 + 1) (omega arith) (laid_zeros ws T.laid.is_layout);
  zero_places = zeros_behind us (length (rows ws)) m h T.zero_places;
}

-- ---- rows that are looked for

-- What `find` asks of the rows.
pub sought_ready : {ws rs : List ℕ} {c : ℕ} → Sought ws rs c → is_ascending (first_rows (count ws) (drop 1 ws)) ≡ true
sought_ready {ws} S = rw (first_rows-rows ws (count ws) (length-rows ws)) ((is_ascending_iff (rows ws)).1 S.ascends)
