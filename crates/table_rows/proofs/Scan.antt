-- The scan of a table's rows, row by row. Assumes nothing.
use Prim.Native.Nat.{ℕ, zero, suc, ◌+◌, ◌-◌, ◌≤◌, ◌<◌}
use mathlib.Core.Path.{◌≡◌, refl, sym, ◌∙◌}
use mathlib.Core.Bool.{Bool, true, false, ◌&&◌, ◌||◌}
use mathlib.Core.List.{List, [], ◌∷◌}
use native.Mathlib.Omega.{arith}
use lib.ListN.{length, get_or, drop}
use lib.Dec.{ltb, eqb}
use borrow.Author.Tests.{lt-ltb, le-ltb, eq-eqb, ne_eqb}
use Rattle.spec.specs.declared.Triple.{Triple}
use Rattle.spec.specs.Terms.{triple}
use Rattle.spec.specs.Order.{is_less, is_ascending}
use Rattle.spec.specs.inside.Comparison.{Less, by_subject, by_property, by_object, Trichotomy, less, same, more, compare_triples}
use Rattle.spec.proofs.Tests.{less-is_less, more-is_less, same-is_less}
use Rattle.spec.specs.Tables.{row_at, first_rows}
use Rattle.spec.specs.Lists.{all}
use Rattle.spec.proofs.TableRows.{length-first_rows, get_or-row_at}
use Rattle.spec.proofs.TableAll.{and_false, and_assoc, all-next, all_end}
use Rattle.table_rows.specs.inside.Rows.{are_rows_from}

-- ---- a turn, over a list of rows

asc_step : (ts : List Triple) (i : ℕ) (d : Triple) → suc i < length ts → is_ascending (drop i ts) ≡ (is_less (get_or ts i d) (get_or ts (suc i) d) && is_ascending (drop (suc i) ts))
unfolding is_ascending
asc_step [] i d h = absurd (omega arith)
asc_step (t ∷ []) i d h = absurd (omega arith)
asc_step (t ∷ u ∷ ts) zero d h = refl
asc_step (t ∷ u ∷ ts) (suc i) d h = asc_step (u ∷ ts) i d (omega arith)

asc_end : (ts : List Triple) (i : ℕ) → length ts ≤ suc i → is_ascending (drop i ts) ≡ true
unfolding is_ascending
asc_end [] zero h = refl
asc_end [] (suc i) h = refl
asc_end (t ∷ []) zero h = refl
asc_end (t ∷ u ∷ ts) zero h = absurd (omega arith)
asc_end (t ∷ ts) (suc i) h = asc_end ts i (omega arith)

and_move : (a b c : Bool) → (a && (b && c)) ≡ (b && (a && c))
and_move true b c = refl
and_move false b c = sym (and_false b)

module _ (test : Triple → Bool) (ws : List ℕ) (n : ℕ) where
  abbrev ascend : ℕ → Bool
  ascend i = is_ascending (drop i (first_rows n (drop 1 ws)))

  abbrev pass : ℕ → Bool
  pass i = all test (drop i (first_rows n (drop 1 ws)))

  pass-next : (i : ℕ) → i < n → pass i ≡ (test (row_at ws i) && pass (i + 1))
  pass-next i h = rw (get_or-row_at ws n i (triple 0 0 0) h) at (all-next test (first_rows n (drop 1 ws)) i (triple 0 0 0) (rw length-first_rows h))

  ascend-next : (j : ℕ) → suc j < n → ascend j ≡ (is_less (row_at ws j) (row_at ws (suc j)) && ascend (suc j))
  ascend-next j h =
      rw (get_or-row_at ws n j (triple 0 0 0) (omega arith), get_or-row_at ws n (suc j) (triple 0 0 0) h) at
      (asc_step (first_rows n (drop 1 ws)) j (triple 0 0 0) (rw length-first_rows h))

  -- One row more, and the end.
  pub next_row : (i : ℕ) → 0 < i → i < n → are_rows_from test ws n i ≡ ((test (row_at ws i) && is_less (row_at ws (i - 1)) (row_at ws i)) && are_rows_from test ws n (i + 1))
  unfolding are_rows_from
  next_row zero p h = absurd (omega arith)
  next_row (suc j) p h =
      let a : suc j - 1 ≡ j = omega arith in
      let b : suc j + 1 - 1 ≡ suc j = omega arith in
      let t = test (row_at ws (suc j)) in
      let l = is_less (row_at ws j) (row_at ws (suc j)) in
      rw (pass-next (suc j) h, a, b, ascend-next j h, ← and_assoc t l (ascend (suc j) && pass (suc j + 1)), and_assoc l (ascend (suc j)) (pass (suc j + 1))) (and_move (l && ascend (suc j)) t (pass (suc j + 1)))

  pub no_row : (i : ℕ) → n ≤ i → are_rows_from test ws n i ≡ true
  unfolding are_rows_from
  no_row i h =
      rw (asc_end (first_rows n (drop 1 ws)) (i - 1) (rw length-first_rows (omega arith)), all_end test (first_rows n (drop 1 ws)) i (rw length-first_rows h))

  -- What a scan that stops at a row finds there.
  pub refused : (i : ℕ) → i < n → test (row_at ws i) ≡ false → are_rows_from test ws n i ≡ false
  unfolding are_rows_from
  refused i h e = rw (pass-next i h, e) (and_false (ascend (i - 1)))

  pub passed : (i : ℕ) → i ≡ 0 → i < n → test (row_at ws i) ≡ true → are_rows_from test ws n i ≡ are_rows_from test ws n (i + 1)
  unfolding are_rows_from
  passed i z h e =
      let a : i - 1 ≡ i + 1 - 1 = omega arith in
      rw (pass-next i h, e, a)

  pub ascended : (i : ℕ) → 0 < i → i < n → test (row_at ws i) ≡ true → is_less (row_at ws (i - 1)) (row_at ws i) ≡ true → are_rows_from test ws n i ≡ are_rows_from test ws n (i + 1)
  ascended i p h e l = rw (next_row i p h, e, l)

  pub not_ascended : (i : ℕ) → 0 < i → i < n → is_less (row_at ws (i - 1)) (row_at ws i) ≡ false → are_rows_from test ws n i ≡ false
  not_ascended i p h l = rw (next_row i p h, l, and_false (test (row_at ws i)))

-- The rows from a on, in two parts: those up to b, k in number, and those from b on.
in_parts : (test : Triple → Bool) (ws : List ℕ) (k a b n : ℕ) → 0 < a → a + k ≡ b → b ≤ n → are_rows_from test ws n a ≡ (are_rows_from test ws b a && are_rows_from test ws n b)
in_parts test ws zero a b n p e h =
    let q : a ≡ b = omega arith in
    rw (q, no_row test ws b b (omega arith))
in_parts test ws (suc k) a b n p e h =
    rw (next_row test ws n a p (omega arith), next_row test ws b a p (omega arith), in_parts test ws k (a + 1) b n (omega arith) (omega arith) h)
    (and_assoc (test (row_at ws a) && is_less (row_at ws (a - 1)) (row_at ws a)) (are_rows_from test ws b (a + 1)) (are_rows_from test ws n b))

-- The first part's answer is known.
pub first_part_lem : (test : Triple → Bool) (ws : List ℕ) (k a n : ℕ) {r x : Bool} → 0 < a → a + k ≤ n → r ≡ are_rows_from test ws (a + k) a → r ≡ x → are_rows_from test ws n a ≡ (x && are_rows_from test ws n (a + k))
first_part_lem test ws k a n p h e q = rw (← q, e) (in_parts test ws k a (a + k) n p refl h)

-- ok is the answer so far: row i passes and is above the row before it, as two rows that were read say.
pub row_fold : (ok : Bool) (test : Triple → Bool) (ws : List ℕ) (n i : ℕ) {x y : Triple} {passes less : Bool} → x ≡ row_at ws i → passes ≡ test x → y ≡ row_at ws (i - 1) → less ≡ is_less y x → 0 < i → i < n
    → (ok && are_rows_from test ws n i) ≡ ((ok && (passes && less)) && are_rows_from test ws n (i + 1))
row_fold ok test ws n i a b c d p h =
    rw (b, d, a, c, next_row test ws n i p h) (and_assoc ok (test (row_at ws i) && is_less (row_at ws (i - 1)) (row_at ws i)) (are_rows_from test ws n (i + 1)))

-- ---- two rows

abbrev tested : Triple → Triple → Bool
tested x y = ltb x.subject y.subject || (eqb x.subject y.subject && (ltb x.property y.property || (eqb x.property y.property && ltb x.object y.object)))

tested-less : (x y : Triple) → Less x y → tested x y ≡ true
tested-less x y (by_subject h) = rw (lt-ltb x.subject y.subject h)
tested-less x y (by_property e h) = rw (le-ltb x.subject y.subject (omega arith), eq-eqb x.subject y.subject e, lt-ltb x.property y.property h)
tested-less x y (by_object e k h) = rw (le-ltb x.subject y.subject (omega arith), eq-eqb x.subject y.subject e, le-ltb x.property y.property (omega arith), eq-eqb x.property y.property k, lt-ltb x.object y.object h)

tested_more : (x y : Triple) → Less y x → tested x y ≡ false
tested_more x y (by_subject h) = rw (le-ltb x.subject y.subject (omega arith), ne_eqb x.subject y.subject (λ e. omega arith))
tested_more x y (by_property e h) = rw (le-ltb x.subject y.subject (omega arith), eq-eqb x.subject y.subject (sym e), le-ltb x.property y.property (omega arith), ne_eqb x.property y.property (λ q. omega arith))
tested_more x y (by_object e k h) = rw (le-ltb x.subject y.subject (omega arith), eq-eqb x.subject y.subject (sym e), le-ltb x.property y.property (omega arith), eq-eqb x.property y.property (sym k), le-ltb x.object y.object (omega arith))

tested_same : (x : Triple) → tested x x ≡ false
tested_same x = rw (le-ltb x.subject x.subject (omega arith), eq-eqb x.subject x.subject refl, le-ltb x.property x.property (omega arith), eq-eqb x.property x.property refl, le-ltb x.object x.object (omega arith))

pub tested-is_less : (x y : Triple) → tested x y ≡ is_less x y
tested-is_less x y = by (compare_triples x y)
  where
    by : Trichotomy x y → tested x y ≡ is_less x y
    by (less l) = tested-less x y l ∙ sym (less-is_less l)
    by (same e) = rw e (tested_same y) ∙ sym (same-is_less e)
    by (more l) = tested_more x y l ∙ sym (more-is_less l)

or_right : (b : Bool) → b ≡ (b || false)
or_right true = refl
or_right false = refl

-- Word by word: the first that differ decide.
pub before_subject : (x y : Triple) → ¬ (x.subject ≡ y.subject) → ltb x.subject y.subject ≡ is_less x y
before_subject x y n = or_right (ltb x.subject y.subject) ∙ (rw (ne_eqb x.subject y.subject n) at (tested-is_less x y))

pub before_property : (x y : Triple) → x.subject ≡ y.subject → ¬ (x.property ≡ y.property) → ltb x.property y.property ≡ is_less x y
before_property x y e n =
    or_right (ltb x.property y.property) ∙ (rw (le-ltb x.subject y.subject (omega arith), eq-eqb x.subject y.subject e, ne_eqb x.property y.property n) at (tested-is_less x y))

pub before_object : (x y : Triple) → x.subject ≡ y.subject → x.property ≡ y.property → ltb x.object y.object ≡ is_less x y
before_object x y e f = rw (le-ltb x.subject y.subject (omega arith), eq-eqb x.subject y.subject e, le-ltb x.property y.property (omega arith), eq-eqb x.property y.property f) at (tested-is_less x y)
