-- Kept facts of a well-formed store. Assumes nothing.
use Prim.Native.Nat.{ℕ, ◌-◌, ◌≤◌}
use mathlib.Core.Path.{◌≡◌, refl, sym, ap, ◌∙◌}
use mathlib.Core.List.{List, ◌++◌}
use native.Mathlib.Omega.{arith}
use lib.ListN.{length, take, drop, replicate}
use lib.Seq.{drop_at, length-take-le}
use Rattle.spec.specs.Tables.{count, rows, tables, capacities_of, kept_of}
use Rattle.spec.specs.inside.Laid.{FormedStore}
use Rattle.spec.proofs.TableRows.{length-rows}
use Rattle.spec.specs.Saturation.{kept_rows}
use Rattle.update_kept.specs.inside.Entries.{KeptTables}
use Rattle.update_kept.proofs.Entries.{length-entries, kept_rows-entries, kept_of-entries}

module _ {S F K U : List ℕ} (W : FormedStore S F K U) where
  -- What the functions on kept facts ask.
  pub kept_tables : KeptTables K U
  kept_tables =
      let e : count K ≡ length (rows K) = sym (length-rows K) in
      let n : ℕ = length (rows K) in
      let within : n ≤ length U = rw e at W.supports.within in
      let l : length (take n U) ≡ n = length-take-le n U within in
      let is : U ≡ take n U ++ replicate (length U - length (take n U)) 0 = rw e at W.supports.is_layout in
      record {
        laid = W.kept.laid;
        ascends = W.kept.ascends;
        places = within;
        zero_places = ap (drop n) is ∙ drop_at (take n U) (replicate (length U - length (take n U)) 0) n l ∙ rw l refl;
      }

  -- The rows of the kept facts are the rows of the table.
  pub kept_rows_kept_of : kept_rows (kept_of K U) ≡ rows K
  unfolding rows
  kept_rows_kept_of = rw (kept_of-entries K U (count K) (length-rows K)) (kept_rows-entries (count K) K U W.supports.within)

  -- So are they in number,
  pub length_kept_of : length (kept_of K U) ≡ length (rows K)
  length_kept_of = rw (kept_of-entries K U (length (rows K)) refl) (length-entries (length (rows K)) K U kept_tables.places)

  -- and they fit.
  pub kept_within : length (kept_of K U) ≤ (capacities_of (tables S F K U)).kept
  kept_within = let a = W.kept.within in let b = kept_tables.places in omega (arith, length_kept_of)
