-- Demand 3 (document 01, "The ledger"): one claim about a list of calls. Definitions only.
use Rattle.std.specs.Prelude.{ℕ, ◌*◌, ◌<◌, ◌≤◌, ◌≡◌, Bool, true, false, ◌↔◌, length, replicate, leb, Ok, Err}
use mathlib.Core.List.{List, [], ◌∷◌, ◌++◌, Memᴰ}
use Rattle.spec.specs.declared.Triple.{Triple}
use Rattle.spec.specs.Order.{is_ascending, ListOf}
use Rattle.spec.specs.Refusals.{first_refusal, triple_checks}
use Rattle.spec.specs.Tables.{layout, Tables, tables, capacities_of, Ledger}
use Rattle.spec.specs.Lists.{padded}
use Rattle.spec.specs.Rules.{Follows, FollowsAsFact, Carries}
use Rattle.spec.specs.Outputs.{Replied, replied, filled}
use Rattle.spec.specs.declared.Change.{Change}
use Rattle.spec.specs.Updates.{applying, update}
use Rattle.spec.specs.Deliveries.{deliver}
use Rattle.spec.specs.Questions.{head_count, atoms, head, is_question, is_head_bound, IsAnswer, ask_kept, ask_rewritten}
use Rattle.spec.specs.Ledger.{Call, empty, is_fitting, Run, Entries, calls, ledger_entries}
use Rattle.spec.specs.Rows.{ordered}

-- ---- the two runs

-- The store's entries, by the definitions that their contracts cite.
abbrev pub store_entries : Entries Tables
store_entries = record { updates = update; delivers = deliver }

-- "It starts at an empty store": tables of s, f and k words and u support places, all zero.
abbrev pub empty_store : ℕ → ℕ → ℕ → ℕ → Tables
empty_store s f k u = tables (replicate s 0) (replicate f 0) (replicate k 0) (replicate u 0)

-- What a list of calls gives and leaves in an empty store.
abbrev pub store_run : ℕ → ℕ → ℕ → ℕ → List Call → Run Tables
store_run s f k u cs = calls store_entries cs (empty_store s f k u)

-- What it gives and leaves in the ledger.
abbrev pub ledger_run : ℕ → ℕ → ℕ → ℕ → List Call → Run Ledger
ledger_run s f k u cs = calls (ledger_entries (capacities_of (empty_store s f k u))) cs empty

-- ---- the lists that the claim speaks of

-- "The ledger's triples": the graph of its statements and facts.
abbrev pub graph_of : Ledger → List Triple
graph_of L = L.statements ++ L.facts

-- "Each support the number of its facts that carry the row": of some rows, and of their supports.
pub data Supported (S F : List Triple) : List Triple → List ℕ → Type 0 where
  none : Supported S F [] []
  row : {t : Triple} {fs K : List Triple} {U : List ℕ} → ListOf (λ f. Memᴰ f F × Carries S f t) fs → Supported S F K U → Supported S F (t ∷ K) (length fs ∷ U)

-- "5 whether the facts after it, with all that follow, fit the kept capacity": the answer, for a ledger after an update.
pub record FitsBy (capacity : ℕ) (L : Ledger) (answer : Bool) : Type 0 where
  pub kept : List Triple
  pub follow : ListOf (FollowsAsFact (graph_of L)) kept
  pub decided : answer ≡ leb (length kept) capacity

-- ---- questions

-- R are the rows of a question among the triples of a graph, distinct and ascending: they are their own ordered set.
pub record RowsOf (G : Triple → Type 0) (q : List ℕ) (R : List (List ℕ)) : Type 0 where
  pub ascend : ordered R ≡ R
  pub exactly : (row : List ℕ) → Memᴰ row R ↔ IsAnswer G (atoms q) (head q) row

-- What a question q gets among the triples of a graph, into an output of len words: "both refuse it by 6 or 7 alike; otherwise each gives all
-- of demand 2's rows, with their count, or 8 exactly when these do not fit its output whole". A refusal "leaves its whole output zero".
pub data Replies (G : Triple → Type 0) (q : List ℕ) (len : ℕ) : Replied → Type 0 where
  refused_6 : is_question q ≡ false → Replies G q len (replied (Err 6) (replicate len 0))
  refused_7 : is_question q ≡ true → is_head_bound q ≡ false → Replies G q len (replied (Err 7) (replicate len 0))
  given : {R : List (List ℕ)} → is_question q ≡ true → is_head_bound q ≡ true → RowsOf G q R → length R * head_count q ≤ len
      → Replies G q len (replied (Ok (length R)) (filled len R))
  refused_8 : {R : List (List ℕ)} → is_question q ≡ true → is_head_bound q ≡ true → RowsOf G q R → len < length R * head_count q
      → Replies G q len (replied (Err 8) (replicate len 0))

-- ---- the claim

-- A run over tables of s, f and k words and u support places is what the ledger's run says.
pub record Demand3 (s f k u : ℕ) (L : Run Ledger) (T : Run Tables) : Type 0 where
  -- "Every call has given the ledger's answer";
  pub answers : T.given ≡ L.given
  -- its sets are ascending lists, each triple once;
  pub statements_ascend : is_ascending L.after.statements ≡ true
  pub facts_ascend : is_ascending L.after.facts ≡ true
  -- "kept facts its facts with all that follow,
  pub kept : List Triple
  pub kept_follow : ListOf (FollowsAsFact (graph_of L.after)) kept
  -- each support the number of its facts that carry the row.
  pub supports : List ℕ
  pub supports_count : Supported L.after.statements L.after.facts kept supports
  -- Order and zeros being as under Tables, this fixes every word."
  pub words : T.after ≡ tables (layout s L.after.statements) (layout f L.after.facts) (layout k kept) (padded u supports)
  -- Any update that 2 and 3 pass is then asked 5 on what follows after it, whether it is refused or not.
  pub fits : (d : Change) (t : Triple) → first_refusal (triple_checks t) ≡ 0
      → FitsBy (capacities_of (empty_store s f k u)).kept (applying d t L.after) (is_fitting (capacities_of (empty_store s f k u)) (applying d t L.after))
  -- "Any question is then put by both ways, into outputs apart from the store."
  pub kept_way : (q : List ℕ) (len : ℕ) → Replies (Follows (graph_of L.after)) q len (ask_kept T.after.statements T.after.kept q len)
  pub rewritten_way : (q : List ℕ) (len : ℕ) → Replies (Follows (graph_of L.after)) q len (ask_rewritten T.after.statements T.after.facts q len)
