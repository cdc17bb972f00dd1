-- An output filled with sorted rows. Assumes nothing.
use Prim.Native.Nat.{ℕ, ◌*◌, ◌≤◌}
use mathlib.Core.Path.{◌≡◌, sym, ap, ◌∙◌}
use mathlib.Core.List.{List}
use lib.ListN.{length, drop, replicate, length-replicate}
use Rattle.spec.specs.Tables.{count, rows}
use Rattle.spec.proofs.TableRows.{length-rows}
use Rattle.spec.specs.inside.Sorting.{sort}
use Rattle.rows.specs.inside.Rows as sort
use Rattle.rows.specs.inside.Effects.{SortedRows}
use Rattle.rows.proofs.RowWords.{drop_ext}
use Rattle.spec.specs.Outputs.{filled}
use Rattle.output.proofs.Filled.{rows-filled}
use Rattle.spec.specs.Listings.{column_order, listing_rows}
use Rattle.listing_rows.specs.inside.Written.{RowsWritten}
use Rattle.listing_rows.specs.inside.Asked.{Listable}
use Rattle.listing_rows.proofs.Arranged.{listing_sorted, written-rows}

-- Rows written over a cleared output and sorted fill it.
pub sorted-filled : {order len : ℕ} {cs ws t s u : List ℕ} → Listable ws → order ≤ 5 → count ws * 3 ≤ len → t ≡ replicate len 0 → length s ≡ len → length u ≡ length s
    → cs ≡ column_order order → RowsWritten cs (count ws) ws t s → SortedRows 3 (count ws) s u → u ≡ filled len (listing_rows order (rows ws))
sorted-filled {order} {len} {cs} {ws} {t} {s} {u} L o h z ls lu q W S =
    let r : sort.rows 3 u 0 (count ws) ≡ listing_rows order (rows ws) =
    S.sorted ∙ ap sort (written-rows order (count ws) ws t s (length-rows ws) (rw q at W)) ∙ listing_sorted order (rows ws) o L.ascends in
    let d : drop (count ws * 3) u ≡ drop (count ws * 3) (replicate len 0) =
    S.after ∙ drop_ext (count ws * 3) t s (ls ∙ sym (ap length z ∙ length-replicate {A = ℕ} len 0)) W.after ∙ ap (drop (count ws * 3)) z in
    rows-filled 3 (count ws) len u (listing_rows order (rows ws)) (lu ∙ ls) h r d
