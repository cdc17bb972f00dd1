-- Encoded calls, run from cleared tables. Assumes nothing.
use Prim.Native.Nat.{ℕ, ◌/◌, ◌≤◌}
use mathlib.Core.Path.{◌≡◌, ◌∙◌}
use mathlib.Core.List.{List, ◌++◌}
use native.Mathlib.Omega.{arith}
use lib.ListN.{length, drop, replicate}
use lib.Seq.{sets}
use Rattle.spec.specs.Tables.{Tables, tables}
use Rattle.spec.specs.Ledger.{calls}
use Rattle.spec.specs.Demand3.{store_entries, empty_store, store_run}
use Rattle.ledger_call.specs.inside.Calls.{encoded, reply_words}
use Rattle.ledger.specs.inside.Runs.{Runnable, Ran}
use Rattle.ledger.proofs.History.{history}
use Rattle.ledger_calls.proofs.Running.{sets_front, replies-length}

-- Of all calls run from cleared tables demand 3 holds.
pub ran : (T₀ : Tables) (words bytes replies replies' S F K U : List ℕ) (T : Tables) → Runnable T₀ words replies
    → S ≡ replicate (length T₀.statements) 0 → F ≡ replicate (length T₀.facts) 0 → K ≡ replicate (length T₀.kept) 0 → U ≡ replicate (length T₀.supports) 0
    → T ≡ (calls store_entries (encoded words bytes) (tables S F K U)).after
    → replies' ≡ sets replies 0 (reply_words (calls store_entries (encoded words bytes) (tables S F K U)).given)
    → Ran (length T₀.statements) (length T₀.facts) (length T₀.kept) (length T₀.supports) words bytes replies T replies'
ran T₀ words bytes replies replies' S F K U T R a b c d e g =
    let s : ℕ = length T₀.statements in
    let f : ℕ = length T₀.facts in
    let k : ℕ = length T₀.kept in
    let u : ℕ = length T₀.supports in
    let D = history s f k u R.statement_words R.fact-words R.kept_words (encoded words bytes) in
    let few : length (reply_words (store_run s f k u (encoded words bytes)).given) ≤ length replies = omega (arith, R.reply_words, replies-length words bytes 0 (length words / 4) (empty_store s f k u)) in
    let w : replies' ≡ reply_words (store_run s f k u (encoded words bytes)).given ++ drop (length (reply_words (store_run s f k u (encoded words bytes)).given)) replies = (rw (a, b, c, d) at g) ∙ sets_front (reply_words (store_run s f k u (encoded words bytes)).given) replies few in
    let left : T ≡ (store_run s f k u (encoded words bytes)).after = rw (a, b, c, d) at e in
    record {
      gave = (store_run s f k u (encoded words bytes)).given;
      written = w;
      claim = rw left D;
    }
