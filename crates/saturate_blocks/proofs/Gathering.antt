-- Laws of the blocks of facts whose property leads to a column. Assumes nothing.
use mathlib.Core.Path.{◌≡◌, refl, sym, ap, ◌∙◌}
use mathlib.Core.Bool.{Bool, true, false, cond}
use mathlib.Core.List.{List, ◌∷◌}
use mathlib.Core.Logic.{by_cases}
use Prim.Native.Nat.{ℕ, zero, suc, ◌+◌, ◌-◌, ◌*◌, ◌^◌, ◌≤◌, ◌<◌}
use native.Mathlib.Omega.{arith}
use native.Mathlib.Decide.{ℕ_discrete, dec_lt}
use native.Mathlib.Numerals.{add-one}
use lib.ListN.{length, get_or, set, length-set}
use lib.Seq.{get_or-set_same, get_or-set_other}
use lib.Dec.{ltb, eqb}
use borrow.Author.Tests.{lt-ltb, le-ltb, eq-eqb, ne_eqb}
use Rattle.spec.proofs.Lists.{true-not_false}
use Rattle.saturate_merge.specs.inside.Streams.{objects, streams, often, tally, Rising, Over, AllRising}
use Rattle.saturate_merge.proofs.Streams.{streams-set}
use Rattle.saturate_schema.specs.inside.Nodes.{property_node, subject_node}
use Rattle.saturate_schema.specs.inside.Compiled.{property_at, object_at, node_bit}
use Rattle.saturate_blocks.specs.inside.Sums.{sum_from}
use Rattle.saturate_blocks.specs.inside.Blocks.{led_at, OneSubject, Block, starts_below, Gathered}
use Rattle.saturate_blocks.proofs.Ranges.{from_join, from_zero}
use Rattle.saturate_counts.proofs.NodeBits.{node_starts}

-- ---- the test of a bit

-- It is true of 1,
pub leads_yes : (b : ℕ) → eqb b 1 ≡ true → b ≡ 1
leads_yes b e = by_cases (ℕ_discrete b 1) (λ q. q) (λ n. absurd (true-not_false (sym e ∙ ne_eqb b 1 n)))

-- and false of 0 alone.
pub leads_no : (b : ℕ) → b ≤ 1 → eqb b 1 ≡ false → b ≡ 0
leads_no b l e = by_cases (ℕ_discrete b 1) (λ q. absurd (true-not_false (sym (eq-eqb b 1 q) ∙ e))) (λ n. omega arith)

-- ---- statements that start below a node

bit_mono : (a u v : ℕ) → u ≤ v → cond (ltb a u) 1 0 ≤ cond (ltb a v) 1 0
bit_mono a u v le = by_cases (dec_lt a u) (λ h. let k : a < v = omega arith in rw (lt-ltb a u h, lt-ltb a v k) (omega arith)) (λ h. let k : u ≤ a = omega arith in rw (le-ltb a u k) (omega arith))

starts_mono : (st : List ℕ) (m u v : ℕ) → u ≤ v → starts_below st m u ≤ starts_below st m v
unfolding starts_below
starts_mono st zero u v le = omega arith
starts_mono st (suc m) u v le = omega (arith, bit_mono (subject_node st m) u v le, starts_mono st m u v le)

starts_strict : (st : List ℕ) (m u v i : ℕ) → i < m → subject_node st i ≡ u → u < v → starts_below st m u + 1 ≤ starts_below st m v
unfolding starts_below
starts_strict st zero u v i l e lt = absurd (omega arith)
starts_strict st (suc m) u v i l e lt =
    by_cases (ℕ_discrete i m)
    (λ q. let a : subject_node st m ≡ u = ap (subject_node st) (sym q) ∙ e in let b : u ≤ subject_node st m = omega arith in let c : subject_node st m < v = omega arith in rw (le-ltb (subject_node st m) u b, lt-ltb (subject_node st m) v c) (omega (arith, starts_mono st m u v (omega arith))))
    (λ n. omega (arith, bit_mono (subject_node st m) u v (omega arith), starts_strict st m u v i (omega arith) e lt))

starts_few : (st : List ℕ) (m v : ℕ) → starts_below st m v ≤ m
unfolding starts_below
starts_few st zero v = omega arith
starts_few st (suc m) v = by_cases (dec_lt (subject_node st m) v) (λ h. rw (lt-ltb (subject_node st m) v h) (omega (arith, starts_few st m v))) (λ h. let k : v ≤ subject_node st m = omega arith in rw (le-ltb (subject_node st m) v k) (omega (arith, starts_few st m v)))

-- ---- sums over a block

block_led : (st : List ℕ) (m : ℕ) (d f : List ℕ) (o c p y n : ℕ) → ((k : ℕ) → y ≤ k → k < y + n → property_at f k ≡ p) → node_bit st m d (property_node p) c ≡ 1 → sum_from (led_at st m d f o c) y n ≡ often o (objects f y n)
unfolding sum_from led_at often objects
block_led st m d f o c p y zero g h = refl
block_led st m d f o c p y (suc n) g h = rw (g y (omega arith) (omega arith), h, block_led st m d f o c p (y + 1) n (λ k l u. g k (omega arith) (omega arith)) h)

cond_zero : (b : Bool) (z : ℕ) → z ≡ 0 → cond b z 0 ≡ 0
cond_zero true z e = e
cond_zero false z e = refl

pub led_zero : (st : List ℕ) (m : ℕ) (d f : List ℕ) (o c y : ℕ) → node_bit st m d (property_node (property_at f y)) c ≡ 0 → led_at st m d f o c y ≡ 0
unfolding led_at
led_zero st m d f o c y e = cond_zero (eqb (object_at f y) o) (node_bit st m d (property_node (property_at f y)) c) e

block-not : (st : List ℕ) (m : ℕ) (d f : List ℕ) (o c p y n : ℕ) → ((k : ℕ) → y ≤ k → k < y + n → property_at f k ≡ p) → node_bit st m d (property_node p) c ≡ 0 → sum_from (led_at st m d f o c) y n ≡ 0
block-not st m d f o c p y n g h = from_zero (led_at st m d f o c) y n (λ k l u. led_zero st m d f o c k (rw (g k l u) h))

-- ---- a block more

tally-cons : (o : ℕ) (l : List ℕ) (ls : List (List ℕ)) → tally o (l ∷ ls) ≡ often o l + tally o ls
unfolding tally
tally-cons o l ls = refl

-- A block put at the end.
pub streams-push : (f ends : List ℕ) (k a z : ℕ) → k * 2 + 1 < length ends → streams f (set (set ends (k * 2) a) (k * 2 + 1) z) (k + 1) ≡ objects f a (z - a) ∷ streams f ends k
unfolding streams
streams-push f ends k a z l =
    let one : ¬ (k * 2 ≡ k * 2 + 1) = λ e. omega arith in
    let long : k * 2 + 1 < length (set ends (k * 2) a) = omega (arith, length-set ends (k * 2) a) in
    rw (add-one k, get_or-set_other (set ends (k * 2) a) (k * 2 + 1) (k * 2) z 0 one, get_or-set_same ends (k * 2) a 0 (omega arith), get_or-set_same (set ends (k * 2) a) (k * 2 + 1) z 0 long, streams-set f (set ends (k * 2) a) k (k * 2 + 1) z (omega arith), streams-set f ends k (k * 2) a (omega arith))

module _ (st : List ℕ) (m : ℕ) (d : List ℕ) (c : ℕ) (f ends₀ ends : List ℕ) (k₀ k i y e z p : ℕ) (g : Gathered st m d c f ends₀ ends k₀ k i y e) (w : Block f y z e p) where
  sum_on : (o : ℕ) → sum_from (led_at st m d f o c) i (z - i) ≡ sum_from (led_at st m d f o c) i (y - i) + sum_from (led_at st m d f o c) y (z - y)
  sum_on o = from_join (led_at st m d f o c) i y z g.low (omega (arith, w.grows))

  few_here : k ≤ k₀ + starts_below st m (property_node p)
  few_here = let here : property_at f y ≡ p = w.all y (omega arith) w.grows in rw (← here) (g.fewer (omega (arith, w.grows, w.ends)))

  gather_room : node_bit st m d (property_node p) c ≡ 1 → k < k₀ + m
  gather_room h =
      let l = node_starts st m d (property_node p) c h in
      omega (arith, few_here, starts_strict st m (p + 2 ^ 32) (p + 2 ^ 32 + 1) l.number l.below l.node (omega arith), starts_few st m (p + 2 ^ 32 + 1))

  pub gather_yes : node_bit st m d (property_node p) c ≡ 1 → e * 3 < length f → k * 2 + 1 < length ends → Rising (objects f y (z - y)) → Gathered st m d c f ends₀ (set (set ends (k * 2) y) (k * 2 + 1) z) k₀ (k + 1) i z e
  gather_yes h fit long rs =
      let l = node_starts st m d (property_node p) c h in
      record {
        low = omega (arith, g.low, w.grows);
        high = w.ends;
        same_ends = length-set (set ends (k * 2) y) (k * 2 + 1) z ∙ (length-set ends (k * 2) y ∙ g.same_ends);
        few = omega (arith, gather_room h);
        fewer = λ h. omega (arith, few_here, starts_strict st m (p + 2 ^ 32) (property_at f z + 2 ^ 32) l.number l.below l.node (omega (arith, w.next h)));
        fits = λ x h. by_cases (ℕ_discrete x k)
            (λ q. let l : k * 2 + 1 < length (set ends (k * 2) y) = omega (arith, length-set ends (k * 2) y) in rw (q, get_or-set_same (set ends (k * 2) y) (k * 2 + 1) z 0 l) (omega (arith, w.ends)))
            (λ n. rw (get_or-set_other (set ends (k * 2) y) (k * 2 + 1) (x * 2 + 1) z 0 (λ e. n (omega arith)), get_or-set_other ends (k * 2) (x * 2 + 1) y 0 (λ e. omega arith)) (g.fits x (omega arith)));
        rising = rw (streams-push f ends k y z long) (rs, g.rising);
        sums = λ o. rw (streams-push f ends k y z long) (pushed o);
      }
    where
      pushed : (o : ℕ) → tally o (objects f y (z - y) ∷ streams f ends k) ≡ tally o (streams f ends₀ k₀) + sum_from (led_at st m d f o c) i (z - i)
      pushed o = omega (arith, tally-cons o (objects f y (z - y)) (streams f ends k), g.sums o, sum_on o, block_led st m d f o c p y (z - y) (λ x h u. w.all x h (omega (arith, w.grows))) h)

  pub gather_no : node_bit st m d (property_node p) c ≡ 0 → Gathered st m d c f ends₀ ends k₀ k i z e
  gather_no n =
      record {
        low = omega (arith, g.low, w.grows);
        high = w.ends;
        same_ends = g.same_ends;
        few = g.few;
        fewer = λ h. omega (arith, few_here, starts_mono st m (p + 2 ^ 32) (property_at f z + 2 ^ 32) (omega (arith, w.next h)));
        fits = g.fits;
        rising = g.rising;
        sums = λ o. omega (arith, g.sums o, sum_on o, block-not st m d f o c p y (z - y) (λ x h u. w.all x h (omega (arith, w.grows))) n);
      }

-- Where the test of its bit is true, the streams have room for the block.
pub gather_long : (st : List ℕ) (m : ℕ) (d : List ℕ) (c : ℕ) (f ends₀ ends : List ℕ) (k₀ k i y e z p : ℕ) {b : Bool} {r : ℕ} → Gathered st m d c f ends₀ ends k₀ k i y e → Block f y z e p → r ≡ p → b ≡ eqb (node_bit st m d (property_node r) c) 1 → b ≡ true → (k₀ + m) * 2 ≤ length ends₀ → k * 2 + 1 < length ends
gather_long st m d c f ends₀ ends k₀ k i y e z p g w q t h le =
    omega (arith, gather_room st m d c f ends₀ ends k₀ k i y e z p g w (leads_yes _ (rw q at (sym t ∙ h))), g.same_ends, le)

pub gather_start : (st : List ℕ) (m : ℕ) (d : List ℕ) (c : ℕ) (f ends : List ℕ) (k i e : ℕ) → i ≤ e → AllRising (streams f ends k) → ((z : ℕ) → z < k → get_or ends (z * 2 + 1) 0 * 3 < length f) → Gathered st m d c f ends ends k k i i e
unfolding sum_from
gather_start st m d c f ends k i e le r fit =
    let q : i - i ≡ 0 = omega arith in
    record { low = omega arith; high = le; same_ends = refl; few = omega arith; fewer = λ h. omega arith; fits = fit; rising = r; sums = λ o. rw q (omega arith) }

-- ---- the objects of a block rise

pub facts_from : (f : List ℕ) (i j e : ℕ) → i ≤ j → OneSubject f i e → OneSubject f j e
facts_from f i j e le g = record { climb = λ y h l. g.climb y (omega arith) l; rise = λ y h l q. g.rise y (omega arith) l q; small = λ y h l. g.small y (omega arith) l }

over_block : (f : List ℕ) (i e p a n : ℕ) → OneSubject f i e → i ≤ a → a + n < e → ((k : ℕ) → a ≤ k → k ≤ a + n → property_at f k ≡ p) → Over (object_at f a) (objects f (a + 1) n)
unfolding objects
over_block f i e p a zero g le lt all = tt
over_block f i e p a (suc n) g le lt all =
    (g.rise a le (omega arith) (all a (omega arith) (omega arith) ∙ sym (all (a + 1) (omega arith) (omega arith))), g.small (a + 1) (omega arith) (omega arith), over_block f i e p (a + 1) n g (omega arith) (omega arith) (λ k h l. all k (omega arith) (omega arith)))

-- The rows a .. z, of one property, where there are any.
pub rows_rising : (f : List ℕ) (i e a z p : ℕ) → OneSubject f i e → i ≤ a → z ≤ e → ((k : ℕ) → a ≤ k → k < z → property_at f k ≡ p) → Rising (objects f a (z - a))
unfolding objects
rows_rising f i e a z p g le ze all =
    by_cases (dec_lt a z)
    (λ l. let q : z - a ≡ suc (z - (a + 1)) = omega arith in rw q (g.small a le (omega arith), over_block f i e p a (z - (a + 1)) g le (omega arith) (λ k h u. all k h (omega arith))))
    (λ n. let q : z - a ≡ 0 = omega arith in rw q tt)

-- ---- where a block ends

pub record SameProperty (f : List ℕ) (a z : ℕ) : Type 0 where
  pub grows : a < z
  pub all : (k : ℕ) → a ≤ k → k < z → property_at f k ≡ property_at f a

pub same_start : (f : List ℕ) (a : ℕ) → SameProperty f a (a + 1)
same_start f a = record { grows = omega arith; all = λ k h l. let q : k ≡ a = omega arith in rw q }

pub same_more : (f : List ℕ) (a z : ℕ) → SameProperty f a z → property_at f z ≡ property_at f a → SameProperty f a (z + 1)
same_more f a z g e = record { grows = omega (arith, g.grows); all = λ k h l. by_cases (ℕ_discrete k z) (λ q. rw q e) (λ n. g.all k h (omega arith)) }

pub block_here : (f : List ℕ) (a z e : ℕ) → OneSubject f a e → SameProperty f a z → z < e → ¬ (property_at f z ≡ property_at f a) → Block f a z e (property_at f a)
block_here f a z e g s lt n =
    let q : z - 1 + 1 ≡ z = omega (arith, s.grows) in
    let u : property_at f (z - 1) ≤ property_at f z = rw q at (g.climb (z - 1) (omega (arith, s.grows)) (omega arith)) in
    let v : property_at f (z - 1) ≡ property_at f a = s.all (z - 1) (omega (arith, s.grows)) (omega (arith, s.grows)) in
    record { grows = s.grows; ends = omega arith; all = s.all; next = λ _. omega arith }

pub block_last : (f : List ℕ) (a z e : ℕ) → SameProperty f a z → z ≡ e → Block f a z e (property_at f a)
block_last f a z e s q = record { grows = s.grows; ends = omega arith; all = s.all; next = λ h. absurd (omega arith) }
