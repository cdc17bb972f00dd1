-- The two passes: the rows counted without room, and then written. Assumes nothing.
use mathlib.Core.Path.{◌≡◌, refl, sym, ap, ap₂, ◌∙◌}
use mathlib.Core.Bool.{true, false}
use mathlib.Core.List.{List, [], ◌∷◌, ◌++◌, append-nil}
use mathlib.Core.Logic.{by_cases}
use Prim.Native.Nat.{ℕ, suc, ◌+◌, ◌-◌, ◌*◌, ◌^◌, ◌≤◌, ◌<◌}
use native.Mathlib.Omega.{arith}
use native.Mathlib.Decide.{dec_lt}
use lib.ListN.{length, set, take, drop, replicate, length-append, length-drop, drop_of_length-le}
use lib.Seq.{take_at}
use borrow.Author.Tests.{le-leb, lt-leb}
use Rattle.rows_zero.specs.inside.Effects.{WordsZeroed}
use Rattle.rows_zero.proofs.Zeroed.{zeroed_is}
use Rattle.spec.specs.Tables.{flatten, layout}
use Rattle.spec.specs.Lists.{padded}
use Rattle.spec.proofs.TableRows.{length-flatten}
use Rattle.spec.specs.Saturation.{Kept, kept_rows, kept_supports}
use Rattle.saturate_merge.specs.inside.Output.{Output, output, put_all}
use Rattle.saturate_merge.proofs.Whole.{count-all, put_fits}
use Rattle.saturate_write.specs.inside.Written.{result_of, written, zero_from}

-- ---- words set to 0 up to their end

-- The words from index a on were set to 0.
pub zeroed_from : (a : ℕ) (t s : List ℕ) → a ≤ length t → length s ≡ length t → WordsZeroed a (length t) t s → s ≡ zero_from a t
unfolding zero_from
zeroed_from a t s h q z =
    zeroed_is a (length t) t s h (omega arith) q z
    ∙ ap (λ (l : List ℕ). take a t ++ (replicate (length t - a) 0 ++ l)) (drop_of_length-le t {i = length t} (omega arith)) ∙ ap (λ (l : List ℕ). take a t ++ l) (append-nil (replicate (length t - a) 0))

-- ---- the words of a whole list

length-rows : (K : Kept) → length (kept_rows K) ≡ length K
length-rows [] = refl
length-rows (e ∷ K) = ap suc (length-rows K)

length_supports : (K : Kept) → length (kept_supports K) ≡ length K
length_supports [] = refl
length_supports (e ∷ K) = ap suc (length_supports K)

-- Its supports, and zeros after them.
supports_laid : (K : Kept) (us : List ℕ) → length K ≤ length us → zero_from (length K) (kept_supports K ++ drop (length K) us) ≡ padded (length us) (kept_supports K)
unfolding zero_from
supports_laid K us l =
    let e : length (kept_supports K ++ drop (length K) us) - length K ≡ length us - length (kept_supports K) = simp (length-append, length-drop) (omega (arith, length_supports K)) in
    rw e (ap (λ (t : List ℕ). t ++ replicate (length us - length (kept_supports K)) 0) (take_at (kept_supports K) (drop (length K) us) (length K) (length_supports K)))

-- The count, its rows, and zeros after them.
words_laid : (K : Kept) (w n : ℕ) (ws : List ℕ) → n ≡ length K → length K * 3 ≤ length ws → zero_from (n * 3 + 1) (set (w ∷ (flatten (kept_rows K) ++ drop (length K * 3) ws)) 0 n) ≡ layout (suc (length ws)) (kept_rows K)
unfolding zero_from layout
words_laid K w n ws q l =
    let f : length (flatten (kept_rows K)) ≡ length K * 3 = length-flatten (kept_rows K) ∙ ap (λ (z : ℕ). z * 3) (length-rows K) in
    let a : n * 3 + 1 ≡ suc (length (flatten (kept_rows K))) = omega arith in
    let b : suc (length (flatten (kept_rows K) ++ drop (length K * 3) ws)) - (n * 3 + 1) ≡ suc (length ws) - (length (kept_rows K) * 3 + 1) = simp (length-append, length-drop) (omega (arith, length-rows K)) in
    let c : n ≡ length (kept_rows K) = q ∙ sym (length-rows K) in
    rw (b, a, c) (ap (λ (t : List ℕ). length (kept_rows K) ∷ (t ++ replicate (suc (length ws) - (length (kept_rows K) * 3 + 1)) 0)) (take_at (flatten (kept_rows K)) (drop (length K * 3) ws) (length (flatten (kept_rows K))) refl))

-- ---- the answers

-- The first pass counts, and writes nothing.
pub record Counted (K : Kept) (room : ℕ) (ws us ws' us' : List ℕ) (k : ℕ) : Type 0 where
  pub same-words : ws' ≡ ws
  pub same_supports : us' ≡ us
  pub over : room < k → room < length K
  pub fits : k ≤ room → length K ≤ room

pub first_pass : (K : Kept) (room : ℕ) (ws us ws' us' : List ℕ) (k : ℕ) → room < 2 ^ 32 → output ws' us' k ≡ put_all 0 K (output ws us 0) → Counted K room ws us ws' us' k
first_pass K room ws us ws' us' k l e =
    let c = count-all K ws us room k ws' us' l e in
    record { same-words = c.0; same_supports = c.1; over = λ h. by_cases (dec_lt room (length K)) (λ z. z) (λ z. absurd (omega (arith, c.3 (omega arith)))); fits = c.2 }

-- Too many: the words are as they were.
pub written-not : (K : Kept) (room : ℕ) (ws us ws' us' : List ℕ) (k : ℕ) → Counted K room ws us ws' us' k → room < k → result_of false ws' us' ≡ written K room ws us
unfolding written
written-not K room ws us ws' us' k c l = rw (lt-leb (length K) room (c.over l)) (ap₂ (λ (x y : List ℕ). result_of false x y) c.same-words c.same_supports)

-- The second pass writes them all.
pub record Put (K : Kept) (ws us ws' us' : List ℕ) (n : ℕ) : Type 0 where
  pub count : n ≡ length K
  pub kept : zero_from (n * 3 + 1) (set ws' 0 n) ≡ layout (length ws) (kept_rows K)
  pub supports : zero_from n us' ≡ padded (length us) (kept_supports K)

pub second_pass : (K : Kept) (room : ℕ) (ws us ws' us' : List ℕ) (n : ℕ) → room < 2 ^ 32 → length K ≤ room → room * 3 < length ws → room ≤ length us → output ws' us' n ≡ put_all room K (output ws us 0) → Put K ws us ws' us' n
second_pass K room [] us ws' us' n l f h u e = absurd (omega arith)
second_pass K room (w ∷ ws) us ws' us' n l f h u e =
    let q : output ws' us' n ≡ output (w ∷ (flatten (kept_rows K) ++ drop (length K * 3) ws)) (kept_supports K ++ drop (length K) us) (0 + length K) = e ∙ put_fits K (w ∷ []) [] ws us 0 room refl refl (omega arith) (omega arith) (omega arith) (omega arith) in
    let c : n ≡ length K = ap (λ (o : Output). o.count) q ∙ (omega arith) in
    let qs : us' ≡ kept_supports K ++ drop (length K) us = ap (λ (o : Output). o.supports) q in
    let qw : ws' ≡ w ∷ (flatten (kept_rows K) ++ drop (length K * 3) ws) = ap (λ (o : Output). o.words) q in
    record {
      count = c;
      kept = rw qw (words_laid K w n ws c (omega arith));
      supports = rw (qs, c) (supports_laid K us (omega arith));
    }

pub written_all : (K : Kept) (room : ℕ) (ws us ws' us' ws'' us'' : List ℕ) (n : ℕ) → length K ≤ room → Put K ws us ws' us' n → ws'' ≡ zero_from (n * 3 + 1) (set ws' 0 n) → us'' ≡ zero_from n us' → result_of true ws'' us'' ≡ written K room ws us
unfolding written
written_all K room ws us ws' us' ws'' us'' n l p ew eu = rw (le-leb (length K) room l) (ap₂ (λ (x y : List ℕ). result_of true x y) (ew ∙ p.kept) (eu ∙ p.supports))

-- Where the first pass found room, the second has all rows.
pub both_passes : (K : Kept) (room : ℕ) (ws us ws₁ us₁ ws₂ us₂ : List ℕ) (k n : ℕ) → room < 2 ^ 32 → room * 3 < length ws → room ≤ length us → output ws₁ us₁ k ≡ put_all 0 K (output ws us 0) → k ≤ room → output ws₂ us₂ n ≡ put_all room K (output ws₁ us₁ 0) → (length K ≤ room) × Put K ws us ws₂ us₂ n
both_passes K room ws us ws₁ us₁ ws₂ us₂ k n l h u e₁ f e₂ =
    let c = first_pass K room ws us ws₁ us₁ k l e₁ in
    let z : length K ≤ room = c.fits f in
    (z, second_pass K room ws us ws₂ us₂ n l z h u (e₂ ∙ ap₂ (λ (x y : List ℕ). put_all room K (output x y 0)) c.same-words c.same_supports))

-- So the rows that it put fit.
pub rows_fit : (K : Kept) (room : ℕ) (ws us ws₁ us₁ ws₂ us₂ : List ℕ) (k n : ℕ) → room < 2 ^ 32 → room * 3 < length ws → room ≤ length us → output ws₁ us₁ k ≡ put_all 0 K (output ws us 0) → k ≤ room → output ws₂ us₂ n ≡ put_all room K (output ws₁ us₁ 0) → n ≤ room
rows_fit K room ws us ws₁ us₁ ws₂ us₂ k n l h u e₁ f e₂ = let z = both_passes K room ws us ws₁ us₁ ws₂ us₂ k n l h u e₁ f e₂ in omega (arith, z.0, z.1.count)
