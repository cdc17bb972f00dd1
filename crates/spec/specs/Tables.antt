-- Row tables in lent words, and the four tables of a store (document 01, "Tables"). Definitions only.
use Rattle.std.specs.Prelude.{ℕ, zero, suc, ◌+◌, ◌-◌, ◌*◌, ◌/◌, min, Bool, false, ◌&&◌, length, get_or, take, drop, replicate, leb, eqb}
use mathlib.Core.List.{List, [], ◌∷◌, ◌++◌, zip}
use Rattle.spec.specs.declared.Triple.{Triple}
use Rattle.spec.specs.Terms.{triple, is_allowed_statement, is_allowed_fact}
use Rattle.spec.specs.Lists.{all, padded}
use Rattle.spec.specs.Order.{is_ascending}
use Rattle.spec.specs.Saturation.{Kept, kept_rows, kept_supports}

-- "At most 512 statements, 65,535 facts, 262,143 kept facts."
abbrev pub most_statements : ℕ
most_statements = 512

-- The limit of the facts.
abbrev pub most_facts : ℕ
most_facts = 65535

-- The limit of the kept facts.
abbrev pub most_kept : ℕ
most_kept = 262143

-- "Capacities: (words - 1) / 3 rows rounded down", at most the table's limit.
unfoldable pub capacity : ℕ → List ℕ → ℕ
capacity most ws = min most ((length ws - 1) / 3)

-- The row count: the first word.
abbrev pub count : List ℕ → ℕ
count ws = get_or ws 0 0

-- The triple whose three words begin at index k.
abbrev pub triple_from : List ℕ → ℕ → Triple
triple_from ws k = triple (get_or ws k 0) (get_or ws (k + 1) 0) (get_or ws (k + 2) 0)

-- Row i of a table.
unfoldable pub row_at : List ℕ → ℕ → Triple
row_at ws i = triple_from ws (i * 3 + 1)

-- The first n rows of words that begin with a row.
unfoldable pub first_rows : ℕ → List ℕ → List Triple
first_rows zero ws = []
first_rows (suc n) ws = triple_from ws 0 ∷ first_rows n (drop 3 ws)

-- "A row count, then rows of three words": the rows of a table.
unfoldable pub rows : List ℕ → List Triple
rows ws = first_rows (count ws) (drop 1 ws)

-- The words of rows.
unfoldable pub flatten : List Triple → List ℕ
flatten [] = []
flatten (t ∷ ts) = t.subject ∷ t.property ∷ t.object ∷ flatten ts

-- "A row count, then rows of three words, then zeros to the end": the table of len words that holds ts.
unfoldable pub layout : ℕ → List Triple → List ℕ
layout len ts = length ts ∷ (flatten ts ++ replicate (len - (length ts * 3 + 1)) 0)

-- Whether all words are zero.
unfoldable pub are_zero : List ℕ → Bool
are_zero ws = all (λ w. eqb w 0) ws

-- Whether words are a table with at most most rows, each allowed in it. "A table of rows with no word" is none, nor is one with
-- "a count above its capacity or a row that is no triple allowed in it".
unfoldable pub is_table : (Triple → Bool) → ℕ → List ℕ → Bool
is_table allowed most [] = false
is_table allowed most (n ∷ ws) =
    leb n (capacity most (n ∷ ws)) && (is_ascending (first_rows n ws) && (all allowed (first_rows n ws) && are_zero (drop (n * 3) ws)))

-- Whether words are a well-formed table of statements.
abbrev pub is_statement_table : List ℕ → Bool
is_statement_table ws = is_table is_allowed_statement most_statements ws

-- Whether words are a well-formed table of facts.
abbrev pub is_fact_table : List ℕ → Bool
is_fact_table ws = is_table is_allowed_fact most_facts ws

-- Whether words are a well-formed table of kept facts, supports aside.
abbrev pub is_kept_table : List ℕ → Bool
is_kept_table ws = is_table is_allowed_fact most_kept ws

-- A support "lies between 1 and the number of facts".
abbrev pub is_support : ℕ → ℕ → Bool
is_support facts u = leb 1 u && leb u facts

-- "Supports are a lent table of 16-bit numbers, one for each kept row in order, then zeros": with as many facts, and n kept rows.
unfoldable pub is_support_table : ℕ → ℕ → List ℕ → Bool
is_support_table facts n us = leb n (length us) && (all (is_support facts) (take n us) && are_zero (drop n us))

-- "An update or delivery is lent all four tables": their words.
pub record Tables : Type 0 where
  pub statements : List ℕ
  pub facts : List ℕ
  pub kept : List ℕ
  pub supports : List ℕ

-- Four tables by their words.
abbrev pub tables : List ℕ → List ℕ → List ℕ → List ℕ → Tables
tables S F K U = record { statements = S; facts = F; kept = K; supports = U }

-- Question 1 for an update or a delivery: "are the store tables lent well formed?"
unfoldable pub are_formed : Tables → Bool
are_formed T =
    is_statement_table T.statements
    && (is_fact_table T.facts
    && (is_kept_table T.kept
    && is_support_table (count T.facts) (count T.kept) T.supports))

-- "And the tables' capacities."
pub record Capacities : Type 0 where
  pub statements : ℕ
  pub facts : ℕ
  pub kept : ℕ

-- The capacities of tables: "(words - 1) / 3 rows rounded down, at most 512 statements, 65,535 facts, 262,143 kept facts, and no more
-- kept facts than there are support places".
abbrev pub capacities_of : Tables → Capacities
capacities_of T =
    record {
      statements = capacity most_statements T.statements;
      facts = capacity most_facts T.facts;
      kept = min (capacity most_kept T.kept) (length T.supports);
    }

-- What the ledger holds, and what a store holds explicitly: "two sets, statements and facts", each as its ascending list.
pub record Ledger : Type 0 where
  pub statements : List Triple
  pub facts : List Triple

-- A ledger by its sets.
abbrev pub ledger : List Triple → List Triple → Ledger
ledger S F = record { statements = S; facts = F }

-- What tables hold: explicit statements and facts, and kept facts with their supports.
pub record Contents : Type 0 where
  pub explicit : Ledger
  pub kept : Kept

-- Contents by their parts.
abbrev pub contents : Ledger → Kept → Contents
contents L k = record { explicit = L; kept = k }

-- Kept facts with their supports, from the words of both tables.
unfoldable pub kept_of : List ℕ → List ℕ → Kept
kept_of K U = zip (rows K) U

-- What tables hold.
unfoldable pub contents_of : Tables → Contents
contents_of T = contents (ledger (rows T.statements) (rows T.facts)) (kept_of T.kept T.supports)

-- Contents put into tables of the same lengths: "a row count, then rows, then zeros to the end".
unfoldable pub put : Contents → Tables → Tables
put c T =
    tables
    (layout (length T.statements) c.explicit.statements)
    (layout (length T.facts) c.explicit.facts)
    (layout (length T.kept) (kept_rows c.kept))
    (padded (length T.supports) (kept_supports c.kept))
