-- `list_rows` asks questions 1, 12 and 8 over a cleared output, and fills it where each is answered by yes.
use mathlib.Core.Path.{◌∙◌}
use Rattle.listing.proofs.Replies.{listing-count, listing_fits, output_room, refuses_table, refuses_order, refuses_room, gives-rows}
use Rattle.listing.proofs.list_rows.Goals as goal

pub returns-then-not-formed : goal.returns-then-not-formed
returns-then-not-formed c = refuses_table _ _ _ _ _ c.if-not-formed.true c.clear.ensures

pub returns-then-order-gt-LAST_ORDER : goal.returns-then-order-gt-LAST_ORDER
returns-then-order-gt-LAST_ORDER c = refuses_order _ _ _ _ _ c.if-not-formed.false c.if-order-gt-LAST_ORDER.true c.clear.ensures

pub returns-then-not-are_fitting : goal.returns-then-not-are_fitting
returns-then-not-are_fitting c = let formed = c.if-not-formed.false in
    let fits = listing_fits _ (c.requires formed) c.if-order-gt-LAST_ORDER.false c.are_fitting.ensures ∙ c.if-not-are_fitting.true in
    refuses_room _ _ _ _ _ formed c.if-order-gt-LAST_ORDER.false (rw c.clear.auto.out at fits) c.clear.ensures

pub fill_rows-requires : goal.fill_rows-requires
fill_rows-requires c = let L = c.requires c.if-not-formed.false in
    let fits = listing_fits _ L c.if-order-gt-LAST_ORDER.false c.are_fitting.ensures ∙ c.if-not-are_fitting.false in
    record { listable = L; order_bound = c.if-order-gt-LAST_ORDER.false; table_in_bounds = output_room _ L c.if-order-gt-LAST_ORDER.false fits; out_value = rw c.clear.auto.out c.clear.ensures }

pub returns : goal.returns
returns c = let formed = c.if-not-formed.false in
    let L = c.requires formed in
    let fits = listing_fits _ L c.if-order-gt-LAST_ORDER.false c.are_fitting.ensures ∙ c.if-not-are_fitting.false in
    gives-rows _ _ _ _ _ _ formed c.if-order-gt-LAST_ORDER.false (rw c.clear.auto.out at fits) (listing-count L c.if-order-gt-LAST_ORDER.false) (rw c.clear.auto.out at c.fill_rows.ensures)
