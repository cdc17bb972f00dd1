-- A store of document 01's form carried over into lent tables of the new form (document 02, slip 5). Definitions only.
use Rattle.std.specs.Prelude.{ℕ, ◌+◌, ◌*◌, Bool, ◌&&◌, cond, List, [], ◌∷◌, take, replicate, leb, eqb}
use Rattle.spec.specs.Terms.{is_allowed_statement, is_allowed_fact}
use Rattle.spec.specs.Lists.{padded}
use Rattle.spec.specs.Refusals.{first_refusal}
use Rattle.spec.specs.Tables.{most_statements, count, rows, layout, is_table, is_support_table, Tables, tables}
use Rattle.old_store.specs.declared.Lengths.{Lengths}

-- The limits of "the old form" are document 01's: "65,535 facts, 262,143 kept facts". That of the statements stays.
abbrev pub old_facts : ℕ
old_facts = 65535

-- The limit of its kept facts.
abbrev pub old_kept : ℕ
old_kept = 262143

-- "1 for the old tables": whether four tables are well formed together as a store of the old form.
unfoldable pub is_old_store : Tables → Bool
is_old_store T =
    is_table is_allowed_statement most_statements T.statements
    && (is_table is_allowed_fact old_facts T.facts
    && (is_table is_allowed_fact old_kept T.kept
    && is_support_table (count T.facts) (count T.kept) T.supports))

-- "Lent tables of the new" by how many words they have, and how many support places.
abbrev pub lengths : ℕ → ℕ → ℕ → ℕ → Lengths
lengths s f k u = record { statements = s; facts = f; kept = k; supports = u }

-- "Space in the new, count words included": whether n rows and their count fit so many words.
abbrev pub has_room : ℕ → ℕ → Bool
has_room n words = leb (n * 3 + 1) words

-- "Carrying over meets 1 for the old tables, then 4 and 5 for space in the new": 4 for statements and facts, 5 for kept facts and their supports.
abbrev pub carrying_checks : Tables → Lengths → List (ℕ × Bool)
carrying_checks T L =
    (1, is_old_store T)
    ∷ (4, has_room (count T.statements) L.statements && has_room (count T.facts) L.facts)
    ∷ (5, has_room (count T.kept) L.kept && leb (count T.kept) L.supports)
    ∷ []

-- "Rows unchanged, each support the same number", then zeros to the end.
unfoldable pub carried_tables : Tables → Lengths → Tables
carried_tables T L =
    tables
    (layout L.statements (rows T.statements))
    (layout L.facts (rows T.facts))
    (layout L.kept (rows T.kept))
    (padded L.supports (take (count T.kept) T.supports))

-- "The new tables zero."
unfoldable pub zero_tables : Lengths → Tables
zero_tables L = tables (replicate L.statements 0) (replicate L.facts 0) (replicate L.kept 0) (replicate L.supports 0)

-- A number with tables.
abbrev pub carried : ℕ → Tables → ℕ × Tables
carried n T = (n, T)

-- "A store of the old form is carried over into lent tables of the new": 0 with the tables that hold it, or the number of the first "no" with
-- zeros.
unfoldable pub carry_over : Tables → Lengths → ℕ × Tables
carry_over T L = let n = first_refusal (carrying_checks T L) in carried n (cond (eqb n 0) (carried_tables T L) (zero_tables L))
