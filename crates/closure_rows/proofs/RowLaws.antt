-- Rows of bits, a word at a time. Assumes nothing.
use mathlib.Core.Path.{◌≡◌, sym, ap, ◌∙◌}
use mathlib.Core.List.{List}
use mathlib.Core.Logic.{inl, inr, ⊎_elim, by_cases}
use Prim.Native.Nat.{ℕ, ◌+◌, ◌*◌, ◌/◌, ◌%◌, ◌^◌, ◌≤◌, ◌<◌}
use native.Mathlib.Omega.{arith}
use native.Mathlib.Decide.{dec_lt}
use lib.ListN.{get_or}
use lib.Bits.{bit_or}
use Rattle.query_keys.specs.inside.Bits.{bit_of}
use Rattle.query_keys.proofs.BitLaws.{bit_or_lem, shifted_bit}
use Rattle.saturate_schema.specs.inside.Squares.{Joined}
use Rattle.closure_words.specs.inside.Layout.{bit_at}
use Rattle.closure_rows.specs.inside.Rows.{row_bit, AloneIn, GainedIn}

-- ---- the word of a column

-- The word of column c has its bit alone.
pub alone_here : (c w : ℕ) → c / 32 ≡ w → AloneIn c w ((1 * 2 ^ (c % 32)) % 2 ^ 32)
alone_here c w e k l = let b = shifted_bit (c % 32) k (omega arith) in (λ h. omega (arith, b.0 h), λ h. b.1 (omega arith))

-- ---- the word of what is gained

-- There is a row of the end.
pub gained-row : (ws : List ℕ) (go m so w x : ℕ) → go < m → AloneIn so w x → GainedIn (bit_at ws) go m so w (bit_or (get_or ws (514 + go * 16 + w) 0) x)
gained-row ws go m so w x l a k lk =
    let b = bit_or_lem (get_or ws (514 + go * 16 + w) 0) x k in
    let d : (w * 32 + k) / 32 ≡ w = omega arith in
    let r : (w * 32 + k) % 32 ≡ k = omega arith in
    let e : bit_at ws go (w * 32 + k) ≡ bit_of (get_or ws (514 + go * 16 + w) 0) k = ap (λ (n : ℕ). bit_of (get_or ws (514 + go * 16 + n) 0) ((w * 32 + k) % 32)) d ∙ ap (bit_of (get_or ws (514 + go * 16 + w) 0)) r in (
      λ h. ⊎_elim (λ z. inr (l, e ∙ z)) (λ z. inl ((a k lk).0 z)) (b.0 h),
      λ z. b.1 (⊎_elim (λ q. inr ((a k lk).1 q)) (λ q. inl (sym e ∙ q.1)) z),
    )

-- ---- a row united

-- The first k words of row a are united with those of gain; the other words are as before.
pub record Uniting (ws₀ ws gain : List ℕ) (a k : ℕ) : Type 0 where
  pub done : (w : ℕ) → w < k → get_or ws (514 + a * 16 + w) 0 ≡ bit_or (get_or ws₀ (514 + a * 16 + w) 0) (get_or gain w 0)
  pub before : (p : ℕ) → p < 514 + a * 16 → get_or ws p 0 ≡ get_or ws₀ p 0
  pub after : (p : ℕ) → 514 + a * 16 + k ≤ p → get_or ws p 0 ≡ get_or ws₀ p 0

-- All words are.
pub uniting_end : (ws₀ ws gain : List ℕ) (a k : ℕ) → Uniting ws₀ ws gain a k → k ≡ 16 → Joined (bit_at ws₀) (bit_at ws) (row_bit gain) a 512
uniting_end ws₀ ws gain a k g e =
    record {
      here = λ c l. rw (g.done (c / 32) (omega arith)) (bit_or_lem (get_or ws₀ (514 + a * 16 + c / 32) 0) (get_or gain (c / 32) 0) (c % 32));
      other = λ i c l n. ap (λ (x : ℕ). bit_of x (c % 32)) (by_cases (dec_lt i a) (λ h. g.before (514 + i * 16 + c / 32) (omega arith)) (λ h. g.after (514 + i * 16 + c / 32) (omega arith)));
    }
