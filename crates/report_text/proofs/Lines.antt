-- Laws of the lines of kept rows, written one behind the other. Assumes nothing.
use Prim.Native.Nat.{ℕ, ◌+◌, ◌*◌, ◌≤◌, ◌<◌}
use mathlib.Core.Path.{◌≡◌, refl, sym, ap, ◌∙◌}
use mathlib.Core.List.{List, [], ◌∷◌, ◌++◌, append-nil, append_assoc}
use native.Mathlib.Numerals.{add-one}
use lib.ListN.{length, get_or, take}
use lib.Seq.{take-suc, take_all}
use Rattle.spec.specs.declared.Triple.{Triple}
use Rattle.spec.specs.Terms.{triple}
use Rattle.spec.specs.Tables.{count, row_at, kept_of}
use Rattle.spec.proofs.TableRows.{length-rows}
use Rattle.spec.specs.Saturation.{Kept}
use Rattle.update_kept.proofs.Entries.{no_entry, length-entries, get_or-entries, kept_of-entries}
use Rattle.spec.specs.declared.Delivered.{Delivered}
use Rattle.report_text.specs.Text.{labelled, rows_word, newline, result_line, rows_line, row_line, row_lines, report_text}
use Rattle.report_text.specs.inside.Appended.{Appended}
use Rattle.report_text.proofs.Appending.{both_appended, text_appended}

-- The lines of one row more.
lines_snoc : (k : Kept) (e : Triple × ℕ) → row_lines (k ++ (e ∷ [])) ≡ row_lines k ++ row_line e
unfolding row_lines
lines_snoc [] e = append-nil (row_line e)
lines_snoc (f ∷ k) e = ap (λ (l : List ℕ). row_line f ++ l) (lines_snoc k e) ∙ sym (append_assoc (row_line f) (row_lines k) (row_line e))

module _ (K U : List ℕ) (places : count K ≤ length U) where
  -- There are as many kept facts as are counted.
  pub length_kept : length (kept_of K U) ≡ count K
  length_kept = rw (kept_of-entries K U (count K) (length-rows K)) (length-entries (count K) K U places)

  -- Kept fact i is row i with support i.
  get_d_kept : (i : ℕ) → i < count K → get_or (kept_of K U) i no_entry ≡ (row_at K i, get_or U i 0)
  get_d_kept i h = rw (kept_of-entries K U (count K) (length-rows K)) (get_or-entries (count K) K U places i h)

  -- The line of row i behind those of the rows before it.
  pub rows_more : (i : ℕ) {out out' out'' : List ℕ} {at mid end : ℕ} → i < count K
      → Appended (row_lines (take i (kept_of K U))) at out out' mid
      → Appended (row_line (triple (get_or K (i * 3 + 1) 0) (get_or K (i * 3 + 1 + 1) 0) (get_or K (i * 3 + 1 + 2) 0), get_or U i 0)) mid out' out'' end
      → Appended (row_lines (take (i + 1) (kept_of K U))) at out out'' end
  unfolding row_at
  rows_more i h A B =
      text_appended
      (sym (lines_snoc (take i (kept_of K U)) (row_at K i, get_or U i 0))
      ∙ rw (add-one i) (ap row_lines (ap (λ (e : Triple × ℕ). take i (kept_of K U) ++ (e ∷ [])) (sym (get_d_kept i h)) ∙ sym (take-suc (kept_of K U) i no_entry (rw length_kept h)))))
      (both_appended A B)

  -- The lines of all rows.
  pub rows_whole : (i : ℕ) {out out' : List ℕ} {at end : ℕ} → count K ≤ i → Appended (row_lines (take i (kept_of K U))) at out out' end
      → Appended (row_lines (kept_of K U)) at out out' end
  rows_whole i h A = text_appended (ap row_lines (take_all i (kept_of K U) (rw length_kept h))) A

-- Before the first row there is no line.
pub rows_none : (k : Kept) → [] ≡ row_lines (take 0 k)
unfolding row_lines
rows_none k = refl

-- ---- the report

-- The line of the result, that of the number of rows, and those of the rows.
pub report-lines : (d : Delivered) (K U : List ℕ) {out out' out'' out''' : List ℕ} {mid mid' end : ℕ} → count K ≤ length U
    → Appended (result_line d) 0 out out' mid → Appended (labelled rows_word (count K) newline) mid out' out'' mid' → Appended (row_lines (kept_of K U)) mid' out'' out''' end
    → Appended (report_text d (kept_of K U)) 0 out out''' end
unfolding report_text rows_line
report-lines d K U h A B C = text_appended (rw (length_kept K U h) refl) (both_appended A (both_appended B C))
