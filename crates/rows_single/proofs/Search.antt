-- Rows of a table by their index, and a binary search among ascending rows. Assumes nothing.
use Prim.Native.Nat.{ℕ, zero, suc, ◌+◌, ◌-◌, ◌*◌, ◌≤◌, ◌<◌}
use mathlib.Core.Path.{◌≡◌, sym, ap, ◌∙◌, subst}
use mathlib.Core.Bool.{Bool, true, false, not}
use mathlib.Core.Logic.{⊎_elim}
use mathlib.Core.List.Memᴰ
use mathlib.Core.List.{List, Memᴰ}
use native.Mathlib.Omega.{arith}
use lib.ListN.{get_or}
use borrow.Author.Tests.{not-true, not-false}
use Rattle.spec.specs.Rows.{less}
use Rattle.spec.specs.inside.Sorting.{AscendingRows as Ascending}
use Rattle.rows.specs.inside.Rows.{row, row_at, tabulate, rows}
use Rattle.spec.proofs.RowOrder.{never, less_irrefl, less_tri, less_trans}
use Rattle.spec.proofs.OrderedRows.{above-member}
use Rattle.rows.proofs.RowWords.{row_ext}
use Rattle.rows.proofs.Tables.{eq_or}
use Rattle.spec.proofs.Lists.{le_or}
use Rattle.rows_single.specs.inside.Effects.{Found}

-- Where a row stands among the n rows f s, f (s + 1), and so on.
pub record Stands (f : ℕ → List ℕ) (x : List ℕ) (s n : ℕ) : Type 0 where
  pub index : ℕ
  pub low : s ≤ index
  pub high : index < s + n
  pub is : x ≡ f index

-- A member of a table stands somewhere in it.
pub member_stands : (f : ℕ → List ℕ) (x : List ℕ) (s n : ℕ) → Memᴰ x (tabulate f s n) → Stands f x s n
unfolding tabulate
member_stands f x s zero m = absurd (Memᴰ.not-nil m)
member_stands f x s (suc n) m =
    ⊎_elim (λ e. record { index = s; low = omega arith; high = omega arith; is = e })
    (λ k. let w : Stands f x (s + 1) n = member_stands f x (s + 1) n k in record { index = w.index; low = omega arith; high = omega arith; is = w.is }) (Memᴰ.cases_cons m)

-- What stands in a table is a member.
pub at_member : (f : ℕ → List ℕ) (s n i : ℕ) → s ≤ i → i < s + n → Memᴰ (f i) (tabulate f s n)
unfolding tabulate
at_member f s zero i a b = absurd (omega arith)
at_member f s (suc n) i a b =
    ⊎_elim (λ (e : i ≡ s). Memᴰ.head (ap f e)) (λ (e : i ≡ s → ⊥). Memᴰ.tail (at_member f (s + 1) n i (omega arith) (omega arith))) (eq_or i s)

-- Of two rows of an ascending table the first is below the second.
pub ascending-at : (f : ℕ → List ℕ) (s n : ℕ) → Ascending (tabulate f s n) → (i j : ℕ) → s ≤ i → i < j → j < s + n → less (f i) (f j) ≡ true
unfolding tabulate
ascending-at f s zero a i j h k l = absurd (omega arith)
ascending-at f s (suc n) a i j h k l =
    ⊎_elim (λ (e : i ≡ s). rw e (above-member (f s) (f j) (tabulate f (s + 1) n) a.0 (at_member f (s + 1) n j (omega arith) (omega arith))))
    (λ (e : i ≡ s → ⊥). ascending-at f (s + 1) n a.1 i j (omega arith) k (omega arith)) (eq_or i s)

-- The loop of `is_among`: the row before row lo is below x, and row hi is not.
pub record SearchLoop (f : ℕ → List ℕ) (n : ℕ) (x : List ℕ) (lo hi : ℕ) : Type 0 where
  pub low : lo ≤ hi
  pub high : hi ≤ n
  pub below : 0 < lo → less (f (lo - 1)) x ≡ true
  pub not_below : hi < n → less (f hi) x ≡ false

pub search_begin : (f : ℕ → List ℕ) (n : ℕ) (x : List ℕ) → SearchLoop f n x 0 n
search_begin f n x = record { low = omega arith; high = omega arith; below = λ l. absurd (omega arith); not_below = λ l. absurd (omega arith) }

module _ (f : ℕ → List ℕ) (n : ℕ) (x : List ℕ) (lo hi mid : ℕ) (p : SearchLoop f n x lo hi) (a : lo ≤ mid) (b : mid < hi) where
  pub search_up : less (f mid) x ≡ true → SearchLoop f n x (mid + 1) hi
  search_up h = record { low = omega arith; high = p.high; below = λ l. let e : mid + 1 - 1 ≡ mid = omega arith in rw e h; not_below = p.not_below }

  pub search_down : less (f mid) x ≡ false → SearchLoop f n x lo mid
  search_down h = record { low = a; high = omega (arith, p.high); below = p.below; not_below = λ l. h }

-- A row that is below x is not x.
not_itself : (x y : List ℕ) → less y x ≡ true → x ≡ y → ⊥
not_itself x y h e = never (sym h ∙ ap (less y) e ∙ less_irrefl y)

-- Where the rows ascend, each row before row lo is below x.
below_all : (f : ℕ → List ℕ) (n : ℕ) (x : List ℕ) (lo hi i : ℕ) → SearchLoop f n x lo hi → Ascending (tabulate f 0 n) → i < lo → less (f i) x ≡ true
below_all f n x lo hi i p s l =
    let b : less (f (lo - 1)) x ≡ true = p.below (omega arith) in
    ⊎_elim (λ (e : i ≡ lo - 1). rw e b)
    (λ (e : i ≡ lo - 1 → ⊥). less_trans (f i) (f (lo - 1)) x (ascending-at f 0 n s i (lo - 1) (omega arith) (omega arith) (omega (arith, p.low, p.high))) b) (eq_or i (lo - 1))

module _ (m n lo hi : ℕ) (t x : List ℕ) (p : SearchLoop (row_at m t) n x lo hi) where
  -- All rows are below x.
  pub search_past : lo ≡ n → Found m n t x false
  search_past e = record {
    present = λ h. absurd (never (sym h));
    absent = λ h s k.
        let w : Stands (row_at m t) x 0 n = member_stands (row_at m t) x 0 n k in
        not_itself x (row_at m t w.index) (below_all (row_at m t) n x lo hi w.index p s (omega (arith, w.high))) w.is;
  }

  -- Row lo is the first one that is not below x.
  pub search_end : hi ≤ lo → (lo ≡ n → ⊥) → (b : Bool) → b ≡ less x (row_at m t lo) → Found m n t x (not b)
  search_end l d b q =
      let e : hi ≡ lo = omega (arith, p.low) in
      let g : less (row_at m t lo) x ≡ false = ap (λ (k : ℕ). less (row_at m t k) x) (sym e) ∙ p.not_below (omega (arith, p.high)) in
      record {
        present = λ h. Memᴰ.cast (less_tri x (row_at m t lo) (sym q ∙ not-true b h) g) (at_member (row_at m t) 0 n lo (omega arith) (omega (arith, p.high)));
        absent = λ h s k.
            let w : Stands (row_at m t) x 0 n = member_stands (row_at m t) x 0 n k in
            let a : less x (row_at m t lo) ≡ true = sym q ∙ not-false b h in
            ⊎_elim
            (λ (u : lo ≤ w.index). ⊎_elim
            (λ (v : w.index ≡ lo). not_itself (row_at m t lo) x a (sym (w.is ∙ ap (row_at m t) v)))
            (λ (v : w.index ≡ lo → ⊥). not_itself (row_at m t w.index) x
            (less_trans x (row_at m t lo) (row_at m t w.index) a (ascending-at (row_at m t) 0 n s lo w.index (omega arith) (omega arith) w.high)) (sym w.is))
            (eq_or w.index lo))
            (λ (u : w.index < lo). not_itself x (row_at m t w.index) (below_all (row_at m t) n x lo hi w.index p s u) w.is)
            (le_or lo w.index);
      }

-- The words from word p on are the first words of u, up to the end of the row.
pub same_row : (m p k : ℕ) (t u : List ℕ) → m ≤ k → ((w : ℕ) → w < k → get_or t (p + w) 0 ≡ get_or u w 0) → row m p t ≡ row m 0 u
same_row m p k t u l h = row_ext m p 0 u t (λ w q. let e : 0 + w ≡ w = omega arith in rw e (h w (omega arith)))

-- The last row is among the rows.
pub last-member : (m n : ℕ) (t x : List ℕ) → 0 < n → row m ((n - 1) * m) t ≡ x → Memᴰ x (rows m t 0 n)
last-member m n t x pos e = subst (λ (y : List ℕ). Memᴰ y (rows m t 0 n)) e (at_member (row_at m t) 0 n (n - 1) (omega arith) (omega arith))
