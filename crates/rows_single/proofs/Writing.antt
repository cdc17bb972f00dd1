-- A row written word by word. Assumes nothing.
use Prim.Native.Nat.{ℕ, ◌+◌, ◌*◌, ◌≤◌, ◌<◌}
use mathlib.Core.Path.{◌≡◌, ◌∙◌}
use mathlib.Core.Logic.{⊎_elim}
use mathlib.Core.List.{List}
use native.Mathlib.Omega.{arith}
use lib.ListN.{length, get_or, set}
use lib.Seq.{get_or-set_same, get_or-set_other}
use Rattle.rows.specs.inside.Rows.{row}
use Rattle.rows.proofs.RowWords.{row_ext}
use Rattle.rows.proofs.Tables.{eq_or}
use Rattle.rows_single.specs.inside.Effects.{RowWritten}

-- The loop of `write_row`: the words from word p on are the first k words of u, and the others are as they were.
pub record WriteLoop (p k : ℕ) (u t s : List ℕ) : Type 0 where
  pub here : (w : ℕ) → w < k → get_or s (p + w) 0 ≡ get_or u w 0
  pub before : (w : ℕ) → w < p → get_or s w 0 ≡ get_or t w 0
  pub after : (w : ℕ) → p + k ≤ w → get_or s w 0 ≡ get_or t w 0

pub write_more : (p k : ℕ) (u t s : List ℕ) → WriteLoop p k u t s → p + k < length s → WriteLoop p (k + 1) u t (set s (p + k) (get_or u k 0))
write_more p k u t s h fits = record {
  here = λ w l. ⊎_elim (λ (e : w ≡ k). rw e (get_or-set_same s (p + k) (get_or u k 0) 0 fits))
      (λ (e : w ≡ k → ⊥). get_or-set_other s (p + k) (p + w) (get_or u k 0) 0 (λ d. e (omega arith)) ∙ h.here w (omega arith)) (eq_or w k);
  before = λ w l. get_or-set_other s (p + k) w (get_or u k 0) 0 (λ d. omega arith) ∙ h.before w l;
  after = λ w l. get_or-set_other s (p + k) w (get_or u k 0) 0 (λ d. omega arith) ∙ h.after w (omega arith);
}

pub write-all : (m n k : ℕ) (u t s : List ℕ) → WriteLoop (n * m) k u t s → m ≤ k → k ≤ m → RowWritten m n (row m 0 u) t s
write-all m n k u t s h a b = record {
  here = row_ext m (n * m) 0 u s (λ w l. let e : 0 + w ≡ w = omega arith in rw e (h.here w (omega arith)));
  before = h.before;
  after = λ w l. h.after w (omega arith);
}
