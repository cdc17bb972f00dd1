-- What a search among the rows of a table found. Assumes nothing.
use Prim.Native.Nat.{ℕ}
use mathlib.Core.Path.{◌≡◌, sym, ◌∙◌}
use mathlib.Core.List.{List}
use lib.ListN.{drop}
use Rattle.std.specs.Prelude.{Result}
use Rattle.spec.specs.declared.Triple.{Triple}
use Rattle.spec.specs.Tables.{count, first_rows, rows}
use Rattle.spec.proofs.TableRows.{length-rows, first_rows-rows}
use Rattle.table_find.specs.inside.Search.{place}

-- The search among so many first rows is one among all rows.
pub found-place : (F : List ℕ) (t : Triple) (r f : Result ℕ ℕ) → r ≡ f → r ≡ place t (first_rows (count F) (drop 1 F)) → place t (rows F) ≡ f
found-place F t r f e q = rw (← first_rows-rows F (count F) (length-rows F)) (sym q ∙ e)
