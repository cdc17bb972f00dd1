-- Encoded calls, as the code runs them: replies written one after the other, and each turn of the loop. Assumes nothing.
use Prim.Native.Nat.{ℕ, zero, suc, ◌+◌, ◌-◌, ◌*◌, ◌/◌, ◌≤◌, ◌<◌}
use mathlib.Core.Path.{◌≡◌, refl, ap, ◌∙◌}
use mathlib.Core.List.{List, [], ◌∷◌, ◌++◌}
use native.Mathlib.Omega.{arith}
use lib.ListN.{length, get_or, drop, set, length-append}
use lib.Seq.{sets, length-sets, sets-eq}
use Rattle.spec.specs.Tables.{Tables}
use Rattle.spec.specs.Ledger.{Given, answered, resulted, call, calls}
use Rattle.spec.specs.Demand3.{store_entries}
use Rattle.ledger_call.specs.inside.Calls.{call_of, calls_from, encoded, given_words, reply_words, worded_call}

-- ---- replies

-- Five words stored one after the other.
pub five_stored : (ws l : List ℕ) (at : ℕ) → length ws ≡ 5
    → set (set (set (set (set l at (get_or ws 0 0)) (at + 1) (get_or ws 1 0)) (at + 2) (get_or ws 2 0)) (at + 3) (get_or ws 3 0)) (at + 4) (get_or ws 4 0) ≡ sets l at ws
five_stored [] l at h = absurd (omega arith)
five_stored (a ∷ []) l at h = absurd (omega arith)
five_stored (a ∷ b ∷ []) l at h = absurd (omega arith)
five_stored (a ∷ b ∷ c ∷ []) l at h = absurd (omega arith)
five_stored (a ∷ b ∷ c ∷ d ∷ []) l at h = absurd (omega arith)
five_stored (a ∷ b ∷ c ∷ d ∷ e ∷ []) l at h =
    let p : at + 1 ≡ suc at = omega arith in
    let q : at + 2 ≡ suc (suc at) = omega arith in
    let r : at + 3 ≡ suc (suc (suc at)) = omega arith in
    let s : at + 4 ≡ suc (suc (suc (suc at))) = omega arith in
    rw (p, q, r, s) refl
five_stored (a ∷ b ∷ c ∷ d ∷ e ∷ x ∷ ws) l at h = absurd (omega arith)

-- What a call gives is five words.
given-length : (g : Given) → length (given_words g) ≡ 5
unfolding given_words
given-length (answered a) = refl
given-length (resulted d) = refl

-- Words stored after others.
sets-append : (vs ws l : List ℕ) (i : ℕ) → sets (sets l i vs) (i + length vs) ws ≡ sets l i (vs ++ ws)
sets-append [] ws l i = let e : i + 0 ≡ i = omega arith in rw e refl
sets-append (a ∷ vs) ws l i = let e : i + suc (length vs) ≡ suc i + length vs = omega arith in rw e (sets-append vs ws (set l i a) (suc i))

-- Words stored from the start on, with what is behind them.
pub sets_front : (vs l : List ℕ) → length vs ≤ length l → sets l 0 vs ≡ vs ++ drop (length vs) l
sets_front vs l h = let e : 0 + length vs ≡ length vs = omega arith in sets-eq vs l 0 (omega arith) ∙ rw e refl

-- Each call gives five words.
pub replies-length : (words bytes : List ℕ) (at n : ℕ) (T : Tables) → length (reply_words (calls store_entries (calls_from words bytes at n) T).given) ≡ n * 5
unfolding calls calls_from reply_words
replies-length words bytes at zero T = refl
replies-length words bytes at (suc n) T =
    let g = call store_entries T (call_of bytes (get_or words at 0) (get_or words (at + 1) 0) (get_or words (at + 2) 0) (get_or words (at + 3) 0)) in
    length-append (given_words g.0) (reply_words (calls store_entries (calls_from words bytes (at + 4) n) g.1).given) ∙ omega (arith, given-length g.0, replies-length words bytes (at + 4) n g.1)

-- ---- the loop

-- What holds before each turn: left calls are still to be run, their words begin at index at, and their replies at index to; run from the
-- tables as they are, they leave and give what all the calls leave and give from the tables at the start.
pub record Going (words bytes replies₀ : List ℕ) (T₀ : Tables) (left at to : ℕ) (replies : List ℕ) (T : Tables) : Type 0 where
  pub within : at + left * 4 ≤ length words
  pub room : to + left * 5 ≤ length replies
  pub leaves : (calls store_entries (calls_from words bytes at left) T).after ≡ (calls store_entries (encoded words bytes) T₀).after
  pub gives : sets replies to (reply_words (calls store_entries (calls_from words bytes at left) T).given) ≡ sets replies₀ 0 (reply_words (calls store_entries (encoded words bytes) T₀).given)

-- It holds at the start,
pub going_start : (words bytes replies : List ℕ) (T : Tables) → length words / 4 * 5 ≤ length replies → Going words bytes replies T (length words / 4) 0 0 replies T
going_start words bytes replies T h = record { within = omega arith; room = omega arith; leaves = refl; gives = refl }

module _ {words bytes replies₀ : List ℕ} {T₀ : Tables} where
  -- after each turn,
  turn : {m at to : ℕ} {replies reply : List ℕ} {T T' : Tables} → Going words bytes replies₀ T₀ (suc m) at to replies T
      → (reply, T') ≡ worded_call T (call_of bytes (get_or words at 0) (get_or words (at + 1) 0) (get_or words (at + 2) 0) (get_or words (at + 3) 0))
      → Going words bytes replies₀ T₀ m (at + 4) (to + 5) (sets replies to reply) T'
  unfolding worded_call calls_from calls reply_words
  turn {m} {at} {to} {replies} {reply} {T} {T'} G e =
      let g = call store_entries T (call_of bytes (get_or words at 0) (get_or words (at + 1) 0) (get_or words (at + 2) 0) (get_or words (at + 3) 0)) in
      let w : reply ≡ given_words g.0 = ap (λ (p : List ℕ × Tables). p.0) e in
      let t : T' ≡ g.1 = ap (λ (p : List ℕ × Tables). p.1) e in
      let n : length (given_words g.0) ≡ 5 = given-length g.0 in
      let a : sets (sets replies to (given_words g.0)) (to + 5) (reply_words (calls store_entries (calls_from words bytes (at + 4) m) g.1).given) ≡ sets replies to (given_words g.0 ++ reply_words (calls store_entries (calls_from words bytes (at + 4) m) g.1).given) =
      rw n at (sets-append (given_words g.0) (reply_words (calls store_entries (calls_from words bytes (at + 4) m) g.1).given) replies to) in
      rw (w, t)
      (record {
        within = omega (arith, G.within);
        room = rw (length-sets replies to (given_words g.0)) (omega (arith, G.room));
        leaves = G.leaves;
        gives = a ∙ G.gives;
      })

  pub going_more : (left : ℕ) {at to : ℕ} {replies replies' reply : List ℕ} {T T' : Tables} → Going words bytes replies₀ T₀ left at to replies T → 0 < left
      → (reply, T') ≡ worded_call T (call_of bytes (get_or words at 0) (get_or words (at + 1) 0) (get_or words (at + 2) 0) (get_or words (at + 3) 0))
      → replies' ≡ sets replies to reply → Going words bytes replies₀ T₀ (left - 1) (at + 4) (to + 5) replies' T'
  going_more zero G h e f = absurd (omega arith)
  going_more (suc m) G h e f = let p : suc m - 1 ≡ m = omega arith in rw (f, p) (turn G e)

  -- counted by the calls that have been run, of n,
  pub call-next : (n i : ℕ) {replies replies' reply : List ℕ} {T T' : Tables} → Going words bytes replies₀ T₀ (n - i) (i * 4) (i * 5) replies T → i < n
      → (reply, T') ≡ worded_call T (call_of bytes (get_or words (i * 4) 0) (get_or words (i * 4 + 1) 0) (get_or words (i * 4 + 2) 0) (get_or words (i * 4 + 3) 0))
      → replies' ≡ sets replies (i * 5) reply → Going words bytes replies₀ T₀ (n - (i + 1)) ((i + 1) * 4) ((i + 1) * 5) replies' T'
  call-next n i G h e f =
      let p : n - (i + 1) ≡ n - i - 1 = omega arith in
      let q : (i + 1) * 4 ≡ i * 4 + 4 = omega arith in
      let r : (i + 1) * 5 ≡ i * 5 + 5 = omega arith in
      rw (p, q, r) (going_more (n - i) G (omega arith) e f)

  -- and at the end all calls have been run.
  pub going_end : (left : ℕ) {at to : ℕ} {replies : List ℕ} {T : Tables} → Going words bytes replies₀ T₀ left at to replies T → left ≤ 0
      → (T ≡ (calls store_entries (encoded words bytes) T₀).after) × (replies ≡ sets replies₀ 0 (reply_words (calls store_entries (encoded words bytes) T₀).given))
  unfolding calls_from calls reply_words
  going_end zero G h = (G.leaves, G.gives)
  going_end (suc m) G h = absurd (omega arith)
