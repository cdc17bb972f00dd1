-- Columns of a triple, and rows written column by column. Assumes nothing.
use Prim.Native.Nat.{ℕ, zero, suc, ◌+◌, ◌*◌, ◌≤◌}
use mathlib.Core.Path.{◌≡◌, refl, ◌∙◌}
use mathlib.Core.List.{List, [], ◌∷◌, map}
use mathlib.Core.Logic.{⊎_elim}
use native.Mathlib.Omega.{arith}
use lib.ListN.{length, get_or, set, length-set}
use lib.Seq.{get_or-set_same, get_or-set_other}
use Rattle.spec.specs.declared.Triple.{Triple}
use Rattle.spec.specs.Tables as table
use Rattle.rows.specs.inside.Rows.{row}
use Rattle.rows.proofs.RowWords.{row_ext}
use Rattle.rows.proofs.Tables.{eq_or}
use Rattle.spec.specs.Listings.{column}
use Rattle.listing_rows.specs.inside.Written.{RowWritten, RowsWritten}

-- The third column.
pub column_last : (t : Triple) (c : ℕ) → (c ≡ 0 → ⊥) → (c ≡ 1 → ⊥) → t.object ≡ column t c
column_last t zero h k = absurd (h refl)
column_last t (suc zero) h k = absurd (k refl)
column_last t (suc (suc c)) h k = refl

-- Three columns of a triple.
pub three_columns : (t : Triple) (cs : List ℕ) → length cs ≡ 3 → map (column t) cs ≡ column t (get_or cs 0 0) ∷ column t (get_or cs 1 0) ∷ column t (get_or cs 2 0) ∷ []
three_columns t [] h = absurd (omega arith)
three_columns t (a ∷ []) h = absurd (omega arith)
three_columns t (a ∷ b ∷ []) h = absurd (omega arith)
three_columns t (a ∷ b ∷ c ∷ []) h = refl
three_columns t (a ∷ b ∷ c ∷ d ∷ cs) h = absurd (omega arith)

-- The words after three stores.
abbrev stored : (at x y z : ℕ) → List ℕ → List ℕ
stored at x y z t = set (set (set t at x) (at + 1) y) (at + 2) z

module _ (at x y z : ℕ) (t : List ℕ) where
  -- The other words are as they were.
  stored_other : (w : ℕ) → (w ≡ at → ⊥) → (w ≡ at + 1 → ⊥) → (w ≡ at + 2 → ⊥) → get_or (stored at x y z t) w 0 ≡ get_or t w 0
  stored_other w f g h =
      get_or-set_other (set (set t at x) (at + 1) y) (at + 2) w z 0 h ∙ get_or-set_other (set t at x) (at + 1) w y 0 g ∙ get_or-set_other t at w x 0 f

  -- The three words are a row.
  stored_row : at + 3 ≤ length t → row 3 at (stored at x y z t) ≡ x ∷ y ∷ z ∷ []
  unfolding row
  stored_row h =
      let t₁ : List ℕ = set t at x in
      let t₂ : List ℕ = set t₁ (at + 1) y in
      let e : at + 1 + 1 ≡ at + 2 = omega arith in
      let a : get_or (set t₂ (at + 2) z) at 0 ≡ x =
      get_or-set_other t₂ (at + 2) at z 0 (λ e. omega arith) ∙ get_or-set_other t₁ (at + 1) at y 0 (λ e. omega arith) ∙ get_or-set_same t at x 0 (omega arith) in
      let b : get_or (set t₂ (at + 2) z) (at + 1) 0 ≡ y =
      get_or-set_other t₂ (at + 2) (at + 1) z 0 (λ e. omega arith) ∙ get_or-set_same t₁ (at + 1) y 0 (simp length-set (omega arith)) in
      let c : get_or (set t₂ (at + 2) z) (at + 1 + 1) 0 ≡ z = rw e (get_or-set_same t₂ (at + 2) z 0 (simp length-set (omega arith))) in
      rw (a, b, c)

-- Three columns of a triple, stored one after the other, are a row.
pub row_written : (t : Triple) (cs : List ℕ) (i x y z : ℕ) (out : List ℕ) → length cs ≡ 3 → i * 3 + 3 ≤ length out
    → x ≡ column t (get_or cs 0 0) → y ≡ column t (get_or cs 1 0) → z ≡ column t (get_or cs 2 0) → RowWritten i (map (column t) cs) out (stored (i * 3) x y z out)
row_written t cs i x y z out l h p q r = record {
  here = stored_row (i * 3) x y z out h ∙ rw (three_columns t cs l, p, q, r) refl;
  before = λ w k. stored_other (i * 3) x y z out w (λ e. omega arith) (λ e. omega arith) (λ e. omega arith);
  after = λ w k. stored_other (i * 3) x y z out w (λ e. omega arith) (λ e. omega arith) (λ e. omega arith);
}

-- ---- the loop over the rows

-- One row more is written.
pub more-written : (cs : List ℕ) (i : ℕ) (r : Triple) (ws t s u : List ℕ) → RowsWritten cs i ws t s → r ≡ table.row_at ws i → RowWritten i (map (column r) cs) s u → RowsWritten cs (i + 1) ws t u
more-written cs i r ws t s u R q W = record {
  each = λ j h. ⊎_elim
      (λ (e : j ≡ i). rw (e, ← q) W.here)
      (λ (k : j ≡ i → ⊥). row_ext 3 (j * 3) (j * 3) s u (λ w g. W.before (j * 3 + w) (omega arith)) ∙ R.each j (omega arith))
      (eq_or j i);
  after = λ w h. W.after w (omega arith) ∙ R.after w (omega arith);
}
