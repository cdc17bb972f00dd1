-- A well-formed table is the layout of its rows, which ascend, are allowed and are within the capacity, and back. Assumes nothing.
use Prim.Native.Nat.{ℕ, suc, ◌+◌, ◌-◌, ◌*◌, ◌/◌, ◌^◌, ◌≤◌, ◌<◌}
use mathlib.Core.Path.{◌≡◌}
use mathlib.Core.Bool.{Bool, true}
use mathlib.Core.List.{List, [], ◌∷◌, ◌++◌}
use native.Mathlib.Omega.{arith}
use lib.ListN.{length, drop, replicate, length-append, length-replicate, length-drop, take-append-drop}
use lib.Seq.{drop_at}
use lib.Dec.{leb}
use borrow.Author.Tests.{leb-true, le-leb}
use Rattle.spec.specs.declared.Triple.{Triple}
use Rattle.spec.specs.Order.{is_ascending}
use Rattle.spec.specs.inside.Comparison.{Ascending}
use Rattle.spec.proofs.Ascending.{and_left, and_right, is_ascending_iff}
use Rattle.spec.specs.Tables.{capacity, first_rows, rows, flatten, layout, are_zero, is_table}
use Rattle.spec.specs.Lists.{all}
use Rattle.spec.specs.inside.Laid.{Spare, WellFormed}
use Rattle.spec.proofs.TableRows.{length-first_rows, flatten-first_rows, first_rows-flatten, first_rows-rows, length-flatten, laid}
use Rattle.spec.proofs.TableAll.{replicate_of, are_zero-replicate}

-- ---- capacity

-- A count within the capacity has room for its rows.
pub capacity_fits : (most : ℕ) (ws : List ℕ) (n : ℕ) → 0 < length ws → n ≤ capacity most ws → n * 3 < length ws
unfolding capacity
capacity_fits most ws n h k = omega arith

pub capacity_most : (most : ℕ) (ws : List ℕ) → capacity most ws ≤ most
unfolding capacity
capacity_most most ws = omega arith

pub within-capacity : (most : ℕ) (ws : List ℕ) (n : ℕ) → n ≤ most → n * 3 < length ws → n ≤ capacity most ws
unfolding capacity
within-capacity most ws n h k = omega arith

-- The capacity as the code works it out.
pub capacity_none : (most : ℕ) (ws : List ℕ) → length ws ≡ 0 → 0 ≡ capacity most ws
unfolding capacity
capacity_none most ws e = omega arith

pub capacity_room : (most : ℕ) (ws : List ℕ) → (length ws - 1) / 3 < most → (length ws - 1) / 3 ≡ capacity most ws
unfolding capacity
capacity_room most ws h = omega arith

pub capacity_limit : (most : ℕ) (ws : List ℕ) → most ≤ (length ws - 1) / 3 → most ≡ capacity most ws
unfolding capacity
capacity_limit most ws h = omega arith

-- ---- the whole test

pub some_word : (allowed : Triple → Bool) (most : ℕ) (ws : List ℕ) → is_table allowed most ws ≡ true → 0 < length ws
unfolding is_table
some_word allowed most [] e = absurd (let z : ◌≡◌ {A = ℕ} 0 1 = cc in omega arith)
some_word allowed most (n ∷ ws) e = omega arith

pub is_table_well_formed : (allowed : Triple → Bool) (most : ℕ) (ws : List ℕ) → is_table allowed most ws ≡ true → WellFormed allowed most ws
unfolding is_table rows layout
is_table_well_formed allowed most [] e = absurd (let z : ◌≡◌ {A = ℕ} 0 1 = cc in omega arith)
is_table_well_formed allowed most (n ∷ ws) e =
    let q = and_right (leb n (capacity most (n ∷ ws))) _ e in
    let r = and_right (is_ascending (first_rows n ws)) _ q in
    let few : n ≤ capacity most (n ∷ ws) = leb-true n (capacity most (n ∷ ws)) (and_left _ _ e) in
    let fits : n * 3 < suc (length ws) = capacity_fits most (n ∷ ws) n (omega arith) few in
    let rest : are_zero (drop (n * 3) ws) ≡ true = and_right (all allowed (first_rows n ws)) _ r in
    let long : length (first_rows n ws) ≡ n = length-first_rows n ws in
    let size : length (drop (n * 3) ws) ≡ suc (length ws) - (n * 3 + 1) = simp length-drop (omega arith) in
    record {
      laid = laid (n ∷ ws) (simp (long, flatten-first_rows n ws (omega arith), ← replicate_of (drop (n * 3) ws) _ rest size, take-append-drop));
      ascends = (is_ascending_iff (first_rows n ws)).0 (and_left _ _ q);
      each_allowed = and_left _ _ r;
      within = rw long few;
    }

-- A well-formed table is the layout of its rows.
pub layout-rows : (allowed : Triple → Bool) (most : ℕ) (ws : List ℕ) → is_table allowed most ws ≡ true → ws ≡ layout (length ws) (rows ws)
layout-rows allowed most ws e = (is_table_well_formed allowed most ws e).laid.is_layout

-- Ascending, allowed rows within the limit, laid out with room for them, are a table.
pub layout-is_table : (allowed : Triple → Bool) (most len : ℕ) (ts : List Triple) → length ts * 3 < len → length ts ≤ most → Ascending ts → all allowed ts ≡ true
    → is_table allowed most (layout len ts) ≡ true
unfolding is_table layout
layout-is_table allowed most len ts h k a e =
    let z : List ℕ = replicate (len - (length ts * 3 + 1)) 0 in
    let ws : List ℕ = length ts ∷ (flatten ts ++ z) in
    let room : length ts * 3 < length ws = simp (length-append, length-replicate, length-flatten) (omega arith) in
    let asc : is_ascending ts ≡ true = (is_ascending_iff ts).1 a in
    simp (le-leb (length ts) (capacity most ws) (within-capacity most ws (length ts) k room), first_rows-flatten ts z, asc, e, drop_at (flatten ts) z (length ts * 3) (length-flatten ts), are_zero-replicate)

-- Words laid out with ascending, allowed rows within the limit.
pub well_formed_of : (allowed : Triple → Bool) (most : ℕ) (ws : List ℕ) (len : ℕ) (ts : List Triple) → ws ≡ layout len ts → length ts * 3 < len → length ts ≤ most → Ascending ts → all allowed ts ≡ true
    → WellFormed allowed most ws
well_formed_of allowed most ws len ts e h k a q = is_table_well_formed allowed most ws (rw e (layout-is_table allowed most len ts h k a q))

pub well_formed-is_table : {allowed : Triple → Bool} {most : ℕ} {ws : List ℕ} → WellFormed allowed most ws → is_table allowed most ws ≡ true
well_formed-is_table {allowed} {most} {ws} W =
    let few : length (rows ws) ≤ most = omega (arith, W.within, capacity_most most ws) in
    rw W.laid.is_layout (layout-is_table allowed most (length ws) (rows ws) W.laid.fits few W.ascends W.each_allowed)

-- What `find` asks of the rows.
pub ready : {allowed : Triple → Bool} {most : ℕ} {ws : List ℕ} → WellFormed allowed most ws → (n : ℕ) → length (rows ws) ≡ n → is_ascending (first_rows n (drop 1 ws)) ≡ true
ready {ws = ws} W n e = rw (first_rows-rows ws n e) ((is_ascending_iff (rows ws)).1 W.ascends)

-- A well-formed table below its capacity has room for one row more.
pub spare : {allowed : Triple → Bool} {most : ℕ} {ws : List ℕ} → WellFormed allowed most ws → most < 2 ^ 32 → length (rows ws) < capacity most ws → Spare ws
spare {most = most} {ws = ws} W h k = record {
  laid = W.laid;
  room = omega (arith, capacity_fits most ws (length (rows ws) + 1) (omega (arith, W.laid.fits)) (omega arith));
  countable = omega (arith, capacity_most most ws);
}
