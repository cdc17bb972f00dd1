-- Listings of a table in the six column orders (document 01, "Questions and their rewriting"; document 02, slip 2). Definitions only.
use Rattle.std.specs.Prelude.{ℕ, zero, suc, ◌/◌, ◌%◌, Bool, not, cond, List, [], ◌∷◌, map, reverse, leb, eqb}
use Rattle.spec.specs.declared.Triple.{Triple}
use Rattle.spec.specs.Lists.{select}
use Rattle.spec.specs.Refusals.{first_refusal}
use Rattle.spec.specs.Tables.{rows}
use Rattle.spec.specs.Rows.{ordered}
use Rattle.spec.specs.Outputs.{are_fitting, Replied, give}

-- The columns of a row, 0 subject, 1 property and 2 object, without one: the other two, ascending.
unfoldable pub others : ℕ → List ℕ
others c = select (λ d. not (eqb d c)) (0 ∷ 1 ∷ 2 ∷ [])

-- "Order k puts column k / 2 (rounded down) first, and the other two ascending when k is even, else descending."
unfoldable pub column_order : ℕ → List ℕ
column_order k = k / 2 ∷ cond (eqb (k % 2) 0) (others (k / 2)) (reverse (others (k / 2)))

-- A column of a triple.
abbrev pub column : Triple → ℕ → ℕ
column t zero = t.subject
column t (suc zero) = t.property
column t (suc (suc c)) = t.object

-- A row's words put in a column order.
unfoldable pub arranged : ℕ → Triple → List ℕ
arranged order t = map (column t) (column_order order)

-- "A listing of a table has its rows' words put in that order and sorted ascending." The rows of a table are distinct.
unfoldable pub listing_rows : ℕ → List Triple → List (List ℕ)
listing_rows order ts = ordered (map (arranged order) ts)

-- The questions of a listing, in their order: 1, 12, 8.
abbrev pub listing_checks : Bool → ℕ → List ℕ → ℕ → List (ℕ × Bool)
listing_checks formed order ws len =
    (1, formed)
    ∷ (12, leb order 5)
    ∷ (8, are_fitting 3 len (listing_rows order (rows ws)))
    ∷ []

-- A listing of a table's words, which are formed or not, into an output of len words.
unfoldable pub listing : Bool → ℕ → List ℕ → ℕ → Replied
listing formed order ws len = give (first_refusal (listing_checks formed order ws len)) (listing_rows order (rows ws)) len
