-- The search for an end, and the next subject. Assumes nothing.
use mathlib.Core.Path.{◌≡◌}
use mathlib.Core.List.{List}
use mathlib.Core.Logic.{by_cases}
use Prim.Native.Nat.{ℕ, ◌+◌, ◌^◌, ◌≤◌, ◌<◌}
use native.Mathlib.Omega.{arith}
use native.Mathlib.Decide.{ℕ_discrete}
use borrow.Author.Tests.{lt-ltb, le-ltb}
use Rattle.saturate_schema.specs.inside.Compiled.{subject_at}
use Rattle.saturate_index.specs.inside.Index.{object_of}
use Rattle.saturate_next.specs.inside.Run.{EndOf, subject_from, thing_from}

-- ---- the search for an end

pub all_more : (key : ℕ → ℕ) (x i e : ℕ) → ((y : ℕ) → i ≤ y → y < e → key y ≡ x) → key e ≡ x → (y : ℕ) → i ≤ y → y < e + 1 → key y ≡ x
all_more key x i e g h y l u = by_cases (ℕ_discrete y e) (λ q. rw q h) (λ n. g y l (omega arith))

pub end_here : (key : ℕ → ℕ) (n x i e : ℕ) → i ≤ e → e < n → ((y : ℕ) → i ≤ y → y < e → key y ≡ x) → ¬ (key e ≡ x) → EndOf key n x i e
end_here key n x i e l u g h = record { low = l; high = omega arith; all = g; next = λ _. h }

pub end_last : (key : ℕ → ℕ) (n x i e : ℕ) → i ≤ e → e ≡ n → ((y : ℕ) → i ≤ y → y < e → key y ≡ x) → EndOf key n x i e
end_last key n x i e l q g = record { low = l; high = omega arith; all = g; next = λ h. absurd (omega arith) }

-- ---- the next subject

pub subject-some : (f : List ℕ) (n i : ℕ) → i < n → subject_from f n i ≡ subject_at f i
unfolding subject_from
subject-some f n i l = rw (lt-ltb i n l)

pub subject_none : (f : List ℕ) (n i : ℕ) → n ≤ i → subject_from f n i ≡ 2 ^ 32
unfolding subject_from
subject_none f n i l = rw (le-ltb i n l)

pub thing-some : (f ix : List ℕ) (n j : ℕ) → j < n → object_of f ix j < 2 ^ 31 → thing_from f ix n j ≡ object_of f ix j
unfolding thing_from
thing-some f ix n j l h = rw (lt-ltb j n l, lt-ltb (object_of f ix j) (2 ^ 31) h)

pub thing-literal : (f ix : List ℕ) (n j : ℕ) → j < n → 2 ^ 31 ≤ object_of f ix j → thing_from f ix n j ≡ 2 ^ 32
unfolding thing_from
thing-literal f ix n j l h = rw (lt-ltb j n l, le-ltb (object_of f ix j) (2 ^ 31) h)

pub thing_none : (f ix : List ℕ) (n j : ℕ) → n ≤ j → thing_from f ix n j ≡ 2 ^ 32
unfolding thing_from
thing_none f ix n j l = rw (le-ltb j n l)
