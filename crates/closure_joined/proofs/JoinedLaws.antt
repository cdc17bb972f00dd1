-- The terms of a statement's bits are gathered. Assumes nothing.
use mathlib.Core.Path.{◌≡◌, sym, ◌∙◌}
use mathlib.Core.List.{List}
use mathlib.Core.Logic.{by_cases}
use Prim.Native.Nat.{ℕ, ◌+◌, ◌≤◌, ◌<◌}
use native.Mathlib.Omega.{arith}
use native.Mathlib.Decide.{ℕ_discrete, dec_lt}
use lib.ListN.{length, get_or, set}
use lib.Seq.{get_or-set_same, get_or-set_other}
use Rattle.closure_words.specs.inside.Layout.{term_at, bit_at, first_column, end_column, Shaped}
use Rattle.closure_words.specs.inside.Closure.{IsStated, IsClosure}
use Rattle.closure_joined.specs.inside.Joined.{Among, Rising, NextColumn, AllJoined}
use Rattle.closure_words.proofs.Lookup.{leads_of, bit_of_lem}

-- The word x is the term of a column from first to before c, and before last, whose bit is 1.
pub record Source (ws : List ℕ) (i first last c x : ℕ) : Type 0 where
  pub column : ℕ
  pub from : first ≤ column
  pub within : column < last
  pub below : column < c
  pub joined : bit_at ws i column ≡ 1
  pub term : term_at ws column ≡ x

-- The first n words of out are the terms of the columns from first to before last whose bits are 1, as far as c.
pub record Gathering (ws : List ℕ) (i first last c : ℕ) (out : List ℕ) (n : ℕ) : Type 0 where
  pub few : first + n ≤ c
  pub sources : (a : ℕ) → a < n → Source ws i first last c (get_or out a 0)
  pub all : (d : ℕ) → first ≤ d → d < c → bit_at ws i d ≡ 1 → Among out n (term_at ws d)
  pub rising : Rising out n

pub gathering_start : (ws : List ℕ) (i first last c : ℕ) (out : List ℕ) → c ≡ first → Gathering ws i first last c out 0
gathering_start ws i first last c out e = record { few = omega arith; sources = λ a l. absurd (omega arith); all = λ d f l. absurd (omega arith); rising = λ a b l h. absurd (omega arith) }

module _ (ws : List ℕ) (i k c r : ℕ) (out : List ℕ) (n : ℕ) (g : Gathering ws i (first_column ws k) (end_column ws k) c out n) (x : NextColumn ws i c r) where
  -- A source is one of more columns too.
  later : (y : ℕ) → Source ws i (first_column ws k) (end_column ws k) c y → Source ws i (first_column ws k) (end_column ws k) r y
  later y s = record { column = s.column; from = s.from; within = s.within; below = omega (arith, s.below, x.above); joined = s.joined; term = s.term }

  -- A column before the next with a bit is the column itself or before it.
  before-next : (d : ℕ) → d < r → bit_at ws i d ≡ 1 → ¬ (d ≡ c) → d < c
  before-next d l q m = by_cases (dec_lt d c) (λ h. h) (λ h. absurd (x.none d (omega arith) l q))

  -- The bit of the column is not 1,
  pub gathering_past : ¬ (bit_at ws i c ≡ 1) → Gathering ws i (first_column ws k) (end_column ws k) r out n
  gathering_past z =
      record {
        few = omega (arith, g.few, x.above);
        sources = λ a l. later (get_or out a 0) (g.sources a l);
        all = λ d f l q. by_cases (ℕ_discrete d c) (λ e. absurd (z (rw e at q))) (λ m. g.all d f (before-next d l q m) q);
        rising = g.rising;
      }

  -- or it is.
  pub gathering_more : Shaped ws → c < end_column ws k → n < length out → bit_at ws i c ≡ 1 → Gathering ws i (first_column ws k) (end_column ws k) r (set out n (term_at ws c)) (n + 1)
  gathering_more s l o q =
      record {
        few = omega (arith, g.few, x.above);
        sources = λ a h. by_cases (ℕ_discrete a n)
            (λ e. record { column = c; from = omega (arith, g.few); within = l; below = x.above; joined = q; term = sym (at a e) })
            (λ m. rw (other a m) (later (get_or out a 0) (g.sources a (omega arith))));
        all = λ d f h z. by_cases (ℕ_discrete d c)
            (λ e. record { place = n; below = omega arith; is = rw e same })
            (λ m. let y = g.all d f (before-next d h z m) z in record { place = y.place; below = omega (arith, y.below); is = other y.place (λ e. omega (arith, y.below)) ∙ y.is });
        rising = λ a b h j. by_cases (ℕ_discrete b n)
            (λ e. let y = g.sources a (omega arith) in omega (arith, at b e, other a (λ u. omega arith), y.term, s.rising k y.column c y.from y.below l))
            (λ m. omega (arith, other a (λ u. omega arith), other b m, g.rising a b h (omega arith)));
      }
    where
      same : get_or (set out n (term_at ws c)) n 0 ≡ term_at ws c
      same = get_or-set_same out n (term_at ws c) 0 o

      at : (a : ℕ) → a ≡ n → get_or (set out n (term_at ws c)) a 0 ≡ term_at ws c
      at a e = rw e same

      other : (a : ℕ) → ¬ (a ≡ n) → get_or (set out n (term_at ws c)) a 0 ≡ get_or out a 0
      other a m = get_or-set_other out n a (term_at ws c) 0 m

-- All columns of the property were gone through.
pub gathered : (st ws : List ℕ) (i k c : ℕ) (out : List ℕ) (n : ℕ) → IsClosure st ws → IsStated st i k → Gathering ws i (first_column ws k) (end_column ws k) c out n → end_column ws k ≤ c → c ≤ 512 → AllJoined st i out n
gathered st ws i k c out n h s g e l =
    record {
      few = omega (arith, g.few);
      rising = g.rising;
      exactly = λ b. (
        λ a. let o = g.sources a.place a.below in leads_of st ws i k h s o.column b o.within (o.term ∙ a.is) o.joined,
        λ p.
            let o = h.all i k b s p in
            let a = g.all o.column o.of_property.from (omega (arith, o.of_property.below)) (bit_of_lem st ws i k h s o.column b o.of_property o.term p) in
            record { place = a.place; below = a.below; is = a.is ∙ o.term },
      );
    }
