-- Worked examples of carrying over, by computation, and stores above the old limits. Assumes nothing.
use Prim.Native.Nat.{◌<◌}
use mathlib.Core.Path.{◌≡◌, refl}
use mathlib.Core.List.{[], ◌∷◌}
use native.Mathlib.Omega.{arith}
use lib.ListN.{replicate}
use Rattle.spec.specs.Terms.{is_uri, is_blank, is_literal, is_vocabulary, is_triple, is_statement, are_sides_allowed, is_allowed_statement, is_allowed_fact}
use Rattle.spec.specs.Lists.{all}
use Rattle.spec.specs.Rows.{less}
use Rattle.spec.specs.Order.{is_ascending}
use Rattle.spec.specs.Refusals.{first_refusal}
use Rattle.spec.specs.Tables.{capacity, count, first_rows, rows, flatten, layout, are_zero, is_table, is_support_table, Tables, tables}
use Rattle.spec.proofs.Lists.{by_test}
use Rattle.old_store.specs.declared.Lengths.{Lengths}
use Rattle.old_store.specs.CarryingOver.{is_old_store, lengths, carried_tables, zero_tables, carried, carry_over}
use Rattle.old_store.specs.CarryingPromises.{CarryingRefusedBy}
use Rattle.old_store.proofs.Carrying.{old_counts, carrying_refused}

-- Where `worked` unfolds, carrying over computes on closed terms.
unfoldable worked : Unit {0}
unfolding is_uri is_blank is_literal is_vocabulary is_triple is_statement are_sides_allowed is_allowed_statement is_allowed_fact all less is_ascending first_refusal capacity first_rows rows flatten layout are_zero is_table is_support_table is_old_store carried_tables zero_tables carry_over
worked = tt

-- ---- an empty store

-- All counts 0, in a word each, and no support place.
abbrev empty : Tables
empty = tables (0 ∷ []) (0 ∷ []) (0 ∷ []) []

-- A new table of statements with no word has no space for its count: 4, and every word is zero.
pub no_word_refused : carry_over empty (lengths 0 2 3 1) ≡ carried 4 (tables [] (0 ∷ 0 ∷ []) (0 ∷ 0 ∷ 0 ∷ []) (0 ∷ []))
unfolding worked
no_word_refused = refl

-- New kept facts with no word: 5.
pub no_kept-word_refused : carry_over empty (lengths 1 2 0 1) ≡ carried 5 (tables (0 ∷ []) (0 ∷ 0 ∷ []) [] (0 ∷ []))
unfolding worked
no_kept-word_refused = refl

-- One word each is enough.
pub one_word_enough : carry_over empty (lengths 1 1 1 0) ≡ carried 0 empty
unfolding worked
one_word_enough = refl

-- ---- a store with rows

-- A statement; two facts, kept with supports 2 and 1, which need not be those that follow; and room behind them.
abbrev drinks : Tables
drinks = tables (1 ∷ 16 ∷ 2 ∷ 17 ∷ []) (2 ∷ 32 ∷ 19 ∷ 33 ∷ 40 ∷ 19 ∷ 41 ∷ 0 ∷ []) (2 ∷ 32 ∷ 19 ∷ 33 ∷ 40 ∷ 19 ∷ 41 ∷ 0 ∷ 0 ∷ []) (2 ∷ 1 ∷ 0 ∷ [])

-- Into longer and shorter tables: the rows and supports, and zeros behind them.
pub drinks-carried
    : carry_over drinks (lengths 6 7 7 2)
    ≡ carried 0 (tables (1 ∷ 16 ∷ 2 ∷ 17 ∷ 0 ∷ 0 ∷ []) (2 ∷ 32 ∷ 19 ∷ 33 ∷ 40 ∷ 19 ∷ 41 ∷ []) (2 ∷ 32 ∷ 19 ∷ 33 ∷ 40 ∷ 19 ∷ 41 ∷ []) (2 ∷ 1 ∷ []))
unfolding worked
drinks-carried = refl

pub drinks-longer
    : carry_over drinks (lengths 4 7 8 4)
    ≡ carried 0 (tables (1 ∷ 16 ∷ 2 ∷ 17 ∷ []) (2 ∷ 32 ∷ 19 ∷ 33 ∷ 40 ∷ 19 ∷ 41 ∷ []) (2 ∷ 32 ∷ 19 ∷ 33 ∷ 40 ∷ 19 ∷ 41 ∷ 0 ∷ []) (2 ∷ 1 ∷ 0 ∷ 0 ∷ []))
unfolding worked
drinks-longer = refl

-- Statements one word short: 4. Facts and kept facts one word short: 4.
pub statements-short : carry_over drinks (lengths 3 7 7 2) ≡ carried 4 (tables (replicate 3 0) (replicate 7 0) (replicate 7 0) (replicate 2 0))
unfolding worked
statements-short = refl

pub facts_and_kept-short : carry_over drinks (lengths 4 6 6 2) ≡ carried 4 (tables (replicate 4 0) (replicate 6 0) (replicate 6 0) (replicate 2 0))
unfolding worked
facts_and_kept-short = refl

-- Only kept facts one word short, or only supports one place short: 5, and statements and facts are zero, too.
pub kept-short : carry_over drinks (lengths 4 7 6 2) ≡ carried 5 (tables (replicate 4 0) (replicate 7 0) (replicate 6 0) (replicate 2 0))
unfolding worked
kept-short = refl

pub supports-short : carry_over drinks (lengths 4 7 7 1) ≡ carried 5 (tables (replicate 4 0) (replicate 7 0) (replicate 7 0) (replicate 1 0))
unfolding worked
supports-short = refl

-- A support of 0 under a row, and new tables too small: 1.
pub no-support-first
    : carry_over (tables (0 ∷ []) (1 ∷ 32 ∷ 19 ∷ 33 ∷ []) (1 ∷ 32 ∷ 19 ∷ 33 ∷ []) (0 ∷ [])) (lengths 0 1 0 0) ≡ carried 1 (tables [] (0 ∷ []) [] [])
unfolding worked
no-support-first = refl

-- ---- the old limits

-- More than 65,535 facts, as 65,536 whose rows are right, are refused by 1, whatever the new tables are.
pub more_facts : (T : Tables) (L : Lengths) → 65535 < count T.facts → (carry_over T L).0 ≡ 1
more_facts T L h =
    by_test (is_old_store T)
    (λ e. absurd (omega (arith, (old_counts T e).1)))
    (λ e. ((carrying_refused T L 1).1 (CarryingRefusedBy.no_store refl e)).1)

-- So are more than 262,143 kept facts,
pub more_kept : (T : Tables) (L : Lengths) → 262143 < count T.kept → (carry_over T L).0 ≡ 1
more_kept T L h =
    by_test (is_old_store T)
    (λ e. absurd (omega (arith, (old_counts T e).2)))
    (λ e. ((carrying_refused T L 1).1 (CarryingRefusedBy.no_store refl e)).1)

-- and more than 512 statements.
pub more_statements : (T : Tables) (L : Lengths) → 512 < count T.statements → (carry_over T L).0 ≡ 1
more_statements T L h =
    by_test (is_old_store T)
    (λ e. absurd (omega (arith, (old_counts T e).0)))
    (λ e. ((carrying_refused T L 1).1 (CarryingRefusedBy.no_store refl e)).1)
