-- A well-formed store is four well-formed tables, and an empty store is one. Assumes nothing.
use Prim.Native.Nat.{ℕ, zero, suc, ◌-◌, ◌<◌}
use mathlib.Core.Path.{◌≡◌, refl}
use mathlib.Core.Bool.{Bool, true}
use mathlib.Core.List.{List, []}
use native.Mathlib.Nat.{sub-zero}
use native.Mathlib.Omega.{arith}
use lib.ListN.{replicate}
use Rattle.spec.specs.declared.Triple.{Triple}
use Rattle.spec.specs.Terms.{is_allowed_statement, is_allowed_fact}
use Rattle.spec.proofs.Ascending.{and_left, and_right}
use Rattle.spec.specs.Tables.{most_statements, most_facts, most_kept, count, layout, flatten, is_table, is_statement_table, is_fact_table, is_kept_table, is_support_table, tables, are_formed}
use Rattle.spec.specs.Lists.{all}
use Rattle.spec.specs.inside.Laid.{FormedStore}
use Rattle.spec.proofs.TableFormed.{is_table_well_formed, well_formed-is_table, layout-is_table}
use Rattle.table.proofs.Supports.{supports_of_lem, supports_is, supports-padded}

pub is_store_formed : (S F K U : List ℕ) → are_formed (tables S F K U) ≡ true → FormedStore S F K U
unfolding are_formed
is_store_formed S F K U e =
    let f = and_right (is_statement_table S) _ e in
    let k = and_right (is_fact_table F) _ f in
    record {
      statements = is_table_well_formed is_allowed_statement most_statements S (and_left _ _ e);
      facts = is_table_well_formed is_allowed_fact most_facts F (and_left _ _ f);
      kept = is_table_well_formed is_allowed_fact most_kept K (and_left _ _ k);
      supports = supports_of_lem (count F) (count K) U (and_right (is_kept_table K) _ k);
    }

pub formed_is_store : {S F K U : List ℕ} → FormedStore S F K U → are_formed (tables S F K U) ≡ true
unfolding are_formed
formed_is_store {S} {F} {K} {U} R = rw (well_formed-is_table R.statements, well_formed-is_table R.facts, well_formed-is_table R.kept) (supports_is R.supports)

-- A table of zeros, of one word or more, holds no row.
pub layout-empty : (len : ℕ) → 0 < len → layout len [] ≡ replicate len 0
unfolding layout flatten
layout-empty zero h = absurd (omega arith)
layout-empty (suc n) h = let e : suc n - 1 ≡ n = omega arith in rw e

pub empty-is_table : (allowed : Triple → Bool) (most len : ℕ) → 0 < len → is_table allowed most (replicate len 0) ≡ true
unfolding all
empty-is_table allowed most len h = rw (← layout-empty len h) (layout-is_table allowed most len [] (omega arith) (omega arith) tt refl)

pub empty_supports : (facts len : ℕ) → is_support_table facts 0 (replicate len 0) ≡ true
unfolding all
empty_supports facts len = rw sub-zero at (supports-padded facts len 0 [] refl (omega arith) refl)

pub empty-count : (len : ℕ) → count (replicate len 0) ≡ 0
empty-count zero = refl
empty-count (suc n) = refl

-- "An empty store is well formed, its counts 0."
pub empty_is_store : (s f k u : ℕ) → 0 < s → 0 < f → 0 < k → are_formed (tables (replicate s 0) (replicate f 0) (replicate k 0) (replicate u 0)) ≡ true
unfolding are_formed
empty_is_store s f k u h i j =
    rw (empty-is_table is_allowed_statement most_statements s h, empty-is_table is_allowed_fact most_facts f i, empty-is_table is_allowed_fact most_kept k j, empty-count f, empty-count k) (empty_supports 0 u)
