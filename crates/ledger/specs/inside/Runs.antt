-- A run of encoded calls: what it can be made over, and the claim about it. Definitions only.
use Rattle.std.specs.Prelude.{ℕ, ◌*◌, ◌/◌, ◌≤◌, ◌<◌, ◌≡◌, List, ◌++◌, length, drop}
use Rattle.spec.specs.Tables.{Tables}
use Rattle.spec.specs.Ledger.{Given, run}
use Rattle.spec.specs.Demand3.{ledger_run, Demand3}
use Rattle.ledger_call.specs.inside.Calls.{encoded, reply_words}

-- Tables and replies that a list of calls can be run over: each table of rows has a word, and the replies five words for each call.
pub record Runnable (T : Tables) (ws replies : List ℕ) : Type 0 where
  pub statement_words : 0 < length T.statements
  pub fact-words : 0 < length T.facts
  pub kept_words : 0 < length T.kept
  pub reply_words : length ws / 4 * 5 ≤ length replies

-- A run of encoded calls over what was lent as tables of s, f, k and u words: the replies begin with what the calls gave, the words behind them
-- being as they were, and demand 3 holds of it.
pub record Ran (s f k u : ℕ) (ws bytes replies : List ℕ) (T : Tables) (replies' : List ℕ) : Type 0 where
  pub gave : List Given
  pub written : replies' ≡ reply_words gave ++ drop (length (reply_words gave)) replies
  pub claim : Demand3 s f k u (ledger_run s f k u (encoded ws bytes)) (run gave T)
