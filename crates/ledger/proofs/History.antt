-- Demand 3: over every list of calls from an empty store, the store gives and holds what the ledger does. Assumes nothing.
use Prim.Native.Nat.{ℕ, ◌<◌}
use mathlib.Core.Path.{◌≡◌, refl, sym, ap, ◌∙◌, subst}
use mathlib.Core.Bool.{true}
use mathlib.Core.Logic.{◌↔◌}
use mathlib.Core.List.{List, Memᴰ}
use lib.ListN.{length, length-replicate}
use Rattle.spec.specs.declared.Triple.{Triple}
use Rattle.spec.specs.Tables.{rows, layout, Tables, tables, capacities_of, Ledger, Contents, contents_of}
use Rattle.spec.specs.Lists.{padded}
use Rattle.spec.specs.inside.Laid.{FormedStore}
use Rattle.spec.proofs.TableFormed.{well_formed-is_table}
use Rattle.table.proofs.Store.{is_store_formed}
use Rattle.spec.specs.Rules.{Follows}
use Rattle.spec.specs.Saturation.{kept_rows, kept_supports}
use Rattle.spec.specs.computed.Saturated.{saturation}
use Rattle.spec.proofs.Ascending.{is_ascending_iff}
use Rattle.spec.proofs.Entailment.{allowed_no_vocabulary}
use Rattle.spec.proofs.Follows.{follows_iff}
use Rattle.update_kept.proofs.Formed.{kept_rows_kept_of}
use Rattle.store.proofs.Fitting.{formed_fitting, supports_are}
use Rattle.store.proofs.Laws.{Saturated, empty_sound, empty-contents}
use Rattle.spec.specs.Questions.{rewritten_graph, ask, ask_kept, ask_rewritten}
use Rattle.spec.proofs.AnswerLaws.{rewritten-graph, kept_rewritten}
use Rattle.spec.specs.Ledger.{Call, empty, ledger_entries}
use Rattle.spec.specs.Demand3.{store_entries, empty_store, store_run, ledger_run, graph_of, Replies, Demand3}
use Rattle.ledger.proofs.Alike.{RunsAlike, calls-alike}
use Rattle.ledger.proofs.Agreement.{Agrees, entries_agree}
use Rattle.spec.proofs.LedgerSets.{Allowed, rows_follow, rows_supported, fits_by, applying_allowed}
use Rattle.spec.proofs.Replying.{asked_replies}

-- ---- the runs

-- An empty store agrees with the empty ledger,
empty_agrees : (s f k u : ℕ) → 0 < s → 0 < f → 0 < k → Agrees s f k u (empty_store s f k u) empty
empty_agrees s f k u h i j = record {
  sound = empty_sound s f k u h i j;
  statement_words = length-replicate s 0;
  fact-words = length-replicate f 0;
  kept_words = length-replicate k 0;
  places = length-replicate u 0;
  is = ap (λ (c : Contents). c.explicit) (sym (empty-contents s f k u h i j));
}

-- and so every list of calls gives the same in both, and leaves them agreeing.
pub runs_alike : (s f k u : ℕ) → 0 < s → 0 < f → 0 < k → (cs : List Call) → RunsAlike (Agrees s f k u) (store_run s f k u cs) (ledger_run s f k u cs)
runs_alike s f k u h i j cs = calls-alike (Agrees s f k u) store_entries (ledger_entries (capacities_of (empty_store s f k u))) (entries_agree s f k u) cs (empty_store s f k u) empty (empty_agrees s f k u h i j)

-- ---- the words

module _ {S F K U : List ℕ} (W : FormedStore S F K U) (e : Saturated (contents_of (tables S F K U))) where
  -- The kept facts of well-formed tables that are grown are laid out as the saturation's rows,
  kept_laid : K ≡ layout (length K) (kept_rows (saturation (rows S) (rows F)))
  unfolding contents_of
  kept_laid = W.kept.laid.is_layout ∙ ap (layout (length K)) (sym (kept_rows_kept_of W) ∙ ap kept_rows e)

  -- and the supports as its supports.
  supports_laid : U ≡ padded (length U) (kept_supports (saturation (rows S) (rows F)))
  unfolding contents_of
  supports_laid = W.supports.is_layout ∙ ap (padded (length U)) (sym (supports_are W) ∙ ap kept_supports e)

-- Tables by their parts.
tables_eq : {S S' F F' K K' U U' : List ℕ} → S ≡ S' → F ≡ F' → K ≡ K' → U ≡ U' → tables S F K U ≡ tables S' F' K' U'
tables_eq a b c d = λ i. tables (a i) (b i) (c i) (d i)

-- The words of a ledger, by the saturation that is worked out afresh.
unfoldable pub laid_out : ℕ → ℕ → ℕ → ℕ → Ledger → Tables
laid_out s f k u L =
    let K = saturation L.statements L.facts in
    tables (layout s L.statements) (layout f L.facts) (layout k (kept_rows K)) (padded u (kept_supports K))

-- Every word of tables that agree with a ledger is the ledger's.
words_laid : (s f k u : ℕ) (T : Tables) (L : Ledger) → Agrees s f k u T L → T ≡ laid_out s f k u L
unfolding laid_out contents_of
words_laid s f k u T L A =
    let W = is_store_formed T.statements T.facts T.kept T.supports A.sound.formed in
    rw (A.is, ← A.statement_words, ← A.fact-words, ← A.kept_words, ← A.places)
    (tables_eq W.statements.laid.is_layout W.facts.laid.is_layout (kept_laid W A.sound.saturated) (supports_laid W A.sound.saturated))

-- Every word that a list of calls leaves is the ledger's.
pub run-words : (s f k u : ℕ) → 0 < s → 0 < f → 0 < k → (cs : List Call) → (store_run s f k u cs).after ≡ laid_out s f k u (ledger_run s f k u cs).after
run-words s f k u h i j cs = words_laid s f k u (store_run s f k u cs).after (ledger_run s f k u cs).after (runs_alike s f k u h i j cs).leaves

-- ---- the sets

-- The sets of a ledger that agrees with tables ascend and hold allowed rows alone.
agrees_allowed : {s f k u : ℕ} (T : Tables) (L : Ledger) → Agrees s f k u T L → Allowed L
agrees_allowed T L A = rw A.is (formed_fitting T A.sound.formed).sets

-- ---- the questions

-- The triples of the rewritten way are those that follow from the ledger's triples.
graph_follows : {L : Ledger} → Allowed L → (t : Triple) → Memᴰ t (rewritten_graph L.statements L.facts) ↔ Follows (graph_of L) t
graph_follows {L} A t =
    let g = rewritten-graph L.statements L.facts t (allowed_no_vocabulary L.statements A.statements_allowed) in
    let f = follows_iff A.statements_allowed A.facts_allowed t in
    (λ m. f.1 (g.0 m), λ h. g.1 (f.0 h))

module _ {s f k u : ℕ} {T : Tables} {L : Ledger} (A : Agrees s f k u T L) where
  -- The rewritten way asks among these triples,
  rewritten_asks : (q : List ℕ) (len : ℕ) → ask_rewritten T.statements T.facts q len ≡ ask true (rewritten_graph L.statements L.facts) q len
  unfolding ask_rewritten contents_of
  rewritten_asks q len =
      let W = is_store_formed T.statements T.facts T.kept T.supports A.sound.formed in
      rw (A.is, well_formed-is_table W.statements, well_formed-is_table W.facts) refl

  -- and so does the kept way.
  kept_asks : (q : List ℕ) (len : ℕ) → ask_kept T.statements T.kept q len ≡ ask true (rewritten_graph L.statements L.facts) q len
  unfolding contents_of
  kept_asks q len =
      let W = is_store_formed T.statements T.facts T.kept T.supports A.sound.formed in
      kept_rewritten T.statements T.kept T.facts q len (well_formed-is_table W.statements) (well_formed-is_table W.kept) (well_formed-is_table W.facts) (sym (kept_rows_kept_of W) ∙ ap kept_rows A.sound.saturated)
      ∙ rewritten_asks q len

  -- What is asked among them gets the reply that the claim words.
  asks_replies : (q : List ℕ) (len : ℕ) → Replies (Follows (graph_of L)) q len (ask true (rewritten_graph L.statements L.facts) q len)
  asks_replies = asked_replies (rewritten_graph L.statements L.facts) (Follows (graph_of L)) (graph_follows (agrees_allowed T L A))

-- ---- demand 3

-- Over every list of calls from an empty store, the run is what the ledger's run says.
pub history : (s f k u : ℕ) → 0 < s → 0 < f → 0 < k → (cs : List Call) → Demand3 s f k u (ledger_run s f k u cs) (store_run s f k u cs)
unfolding laid_out
history s f k u h i j cs =
    let R = runs_alike s f k u h i j cs in
    let L = (ledger_run s f k u cs).after in
    let A = agrees_allowed (store_run s f k u cs).after L R.leaves in
    record {
      answers = R.gives;
      statements_ascend = (is_ascending_iff L.statements).1 A.statements_ascend;
      facts_ascend = (is_ascending_iff L.facts).1 A.facts_ascend;
      kept = kept_rows (saturation L.statements L.facts);
      kept_follow = rows_follow A;
      supports = kept_supports (saturation L.statements L.facts);
      supports_count = rows_supported A;
      words = run-words s f k u h i j cs;
      fits = λ d t e. fits_by (applying_allowed d t L A e) (capacities_of (empty_store s f k u));
      kept_way = λ q len. subst (Replies (Follows (graph_of L)) q len) (sym (kept_asks R.leaves q len)) (asks_replies R.leaves q len);
      rewritten_way = λ q len. subst (Replies (Follows (graph_of L)) q len) (sym (rewritten_asks R.leaves q len)) (asks_replies R.leaves q len);
    }
