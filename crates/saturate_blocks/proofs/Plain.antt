-- Laws of facts put as they are, and of the search for the first whose property is not below one. Assumes nothing.
use mathlib.Core.Path.{◌≡◌, ap}
use mathlib.Core.List.{List, [], ◌∷◌}
use mathlib.Core.Logic.{by_cases}
use Prim.Native.Nat.{ℕ, zero, suc, ◌+◌, ◌-◌, ◌≤◌, ◌<◌}
use native.Mathlib.Omega.{arith}
use native.Mathlib.Decide.{ℕ_discrete}
use Rattle.spec.specs.declared.Triple.{Triple}
use Rattle.spec.specs.Tables.{row_at}
use Rattle.saturate_schema.specs.inside.Compiled.{property_at}
use Rattle.saturate_merge.specs.inside.Output.{Output, put_one, put_all}
use Rattle.saturate_blocks.specs.inside.Blocks.{OneSubject}
use Rattle.saturate_blocks.specs.inside.Plain.{ones, Split}

-- ---- where the properties reach w

climb_to : (f : List ℕ) (i e : ℕ) → OneSubject f i e → (a k : ℕ) → i ≤ a → a + k < e → property_at f a ≤ property_at f (a + k)
climb_to f i e g a zero l u = let q : a + 0 ≡ a = omega arith in rw q (omega arith)
climb_to f i e g a (suc k) l u = let q : a + suc k ≡ a + k + 1 = omega arith in rw q (omega (arith, climb_to f i e g a k l (omega arith), g.climb (a + k) (omega arith) (omega arith)))

-- The search stops at a property that is not below w,
pub split_here : (f : List ℕ) (q z e w : ℕ) → OneSubject f q e → q ≤ z → z < e → ((y : ℕ) → q ≤ y → y < z → property_at f y < w) → w ≤ property_at f z → Split f q z e w
split_here f q z e w g l u b h =
    record {
      low = l;
      high = omega arith;
      before = b;
      after = λ y a k. let r : z + (y - z) ≡ y = omega arith in omega (arith, rw r at (climb_to f q e g z (y - z) l (omega arith)));
    }

-- or at the end.
pub split_end : (f : List ℕ) (q z e w : ℕ) → q ≤ z → z ≡ e → ((y : ℕ) → q ≤ y → y < z → property_at f y < w) → Split f q z e w
split_end f q z e w l r b = record { low = l; high = omega arith; before = b; after = λ y a k. absurd (omega arith) }

pub below_more : (f : List ℕ) (q z w : ℕ) → ((y : ℕ) → q ≤ y → y < z → property_at f y < w) → property_at f z < w → (y : ℕ) → q ≤ y → y < z + 1 → property_at f y < w
below_more f q z w b h y l u = by_cases (ℕ_discrete y z) (λ e. rw e h) (λ n. b y l (omega arith))

-- ---- facts as rows

pub ones_none : (f : List ℕ) (a b : ℕ) → b ≤ a → ones f a (b - a) ≡ []
unfolding ones
ones_none f a b l = let e : b - a ≡ 0 = omega arith in rw e

pub ones-some : (f : List ℕ) (a b : ℕ) → a < b → ones f a (b - a) ≡ (row_at f a, 1) ∷ ones f (a + 1) (b - (a + 1))
unfolding ones
ones-some f a b l = let e : b - a ≡ suc (b - (a + 1)) = omega arith in rw e

-- One more is put.
pub ones-put : (f : List ℕ) (room a b : ℕ) (t : Triple) (out out' : Output) → a < b → t ≡ row_at f a → out' ≡ put_one room (t, 1) out → put_all room (ones f (a + 1) (b - (a + 1))) out' ≡ put_all room (ones f a (b - a)) out
unfolding put_all
ones-put f room a b t out out' l et e = rw (ones-some f a b l, ← et) (ap (put_all room (ones f (a + 1) (b - (a + 1)))) e)

pub ones_done : (f : List ℕ) (room a b : ℕ) (out : Output) → b ≤ a → put_all room (ones f a (b - a)) out ≡ out
unfolding put_all
ones_done f room a b out l = rw (ones_none f a b l)
