-- The reply of a listing: what each way through it leaves is what the definition says. Assumes nothing.
use Rattle.std.specs.Prelude.{Ok, Err}
use Prim.Native.Nat.{ℕ, ◌*◌, ◌/◌, ◌≤◌, ◌<◌}
use mathlib.Core.Path.{◌≡◌, sym, ◌∙◌}
use mathlib.Core.Bool.{Bool, true, false}
use mathlib.Core.List.{List}
use native.Mathlib.Omega.{arith}
use lib.ListN.{length, replicate}
use borrow.Author.Tests.{leb-true, le-leb, lt-leb}
use Rattle.spec.specs.declared.Triple.{Triple}
use Rattle.spec.specs.Refusals.{first_refusal}
use Rattle.spec.specs.Tables.{count, rows}
use Rattle.spec.specs.inside.Laid.{WellFormed}
use Rattle.spec.proofs.TableRows.{length-rows}
use Rattle.spec.specs.Outputs.{are_fitting, filled, replied, give}
use Rattle.spec.specs.Listings.{listing_rows, listing}
use Rattle.listing_rows.specs.inside.Asked.{Listable}
use Rattle.listing_rows.proofs.Arranged.{listing-length}

-- The rows of a well-formed table can be listed.
pub listable : {allowed : Triple → Bool} {most : ℕ} {ws : List ℕ} → WellFormed allowed most ws → Listable ws
listable W = record { laid = W.laid; ascends = W.ascends }

-- The first word is the number of rows, and they have room.
pub table_room : {ws : List ℕ} → Listable ws → count ws * 3 < length ws
table_room L = omega (arith, L.laid.counted, L.laid.fits)

-- A listing has as many rows as the first word says.
pub listing-count : {ws : List ℕ} {order : ℕ} → Listable ws → order ≤ 5 → length (listing_rows order (rows ws)) ≡ count ws
listing-count {ws} {order} L o = listing-length order (rows ws) o L.ascends ∙ length-rows ws

-- Whether as many rows as the first word says fit is whether the listing's rows fit.
pub listing_fits : {ws : List ℕ} {order : ℕ} {fit : Bool} (len : ℕ) → Listable ws → order ≤ 5 → ((R : List (List ℕ)) → length R ≡ count ws → fit ≡ are_fitting 3 len R)
    → are_fitting 3 len (listing_rows order (rows ws)) ≡ fit
listing_fits {ws} {order} len L o f = sym (f (listing_rows order (rows ws)) (listing-count L o))

-- Rows that fit have room.
pub output_room : {ws : List ℕ} {order : ℕ} (len : ℕ) → Listable ws → order ≤ 5 → are_fitting 3 len (listing_rows order (rows ws)) ≡ true → count ws * 3 ≤ len
unfolding are_fitting
output_room {ws} {order} len L o h = omega (arith, leb-true (length (listing_rows order (rows ws))) (len / 3) h, listing-count L o)

-- Refused by 1: the table is not well formed.
pub refuses_table : (formed : Bool) (order len : ℕ) (ws s : List ℕ) → formed ≡ false → s ≡ replicate len 0 → replied (Err 1) s ≡ listing formed order ws len
unfolding listing first_refusal give
refuses_table formed order len ws s f e = rw (f, e)

-- Refused by 12: there is no such order.
pub refuses_order : (formed : Bool) (order len : ℕ) (ws s : List ℕ) → formed ≡ true → 5 < order → s ≡ replicate len 0 → replied (Err 12) s ≡ listing formed order ws len
unfolding listing first_refusal give
refuses_order formed order len ws s f o e = rw (f, e, lt-leb order 5 o)

-- Refused by 8: the rows do not fit.
pub refuses_room : (formed : Bool) (order len : ℕ) (ws s : List ℕ) → formed ≡ true → order ≤ 5 → are_fitting 3 len (listing_rows order (rows ws)) ≡ false → s ≡ replicate len 0
    → replied (Err 8) s ≡ listing formed order ws len
unfolding listing first_refusal give
refuses_room formed order len ws s f o h e = rw (f, e, le-leb order 5 o, h)

-- The rows are given, with their number.
pub gives-rows : (formed : Bool) (order len n : ℕ) (ws s : List ℕ) → formed ≡ true → order ≤ 5 → are_fitting 3 len (listing_rows order (rows ws)) ≡ true
    → length (listing_rows order (rows ws)) ≡ n → s ≡ filled len (listing_rows order (rows ws)) → replied (Ok n) s ≡ listing formed order ws len
unfolding listing first_refusal give
gives-rows formed order len n ws s f o h c e = rw (f, e, le-leb order 5 o, h, ← c)
