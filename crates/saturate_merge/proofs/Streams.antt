-- Laws of streams of objects. Assumes nothing.
use mathlib.Core.Path.{◌≡◌, refl, sym, ap, ap₂, ◌∙◌}
use mathlib.Core.Bool.{Bool, true, false, cond}
use mathlib.Core.List.{List, [], ◌∷◌}
use mathlib.Core.Logic.{by_cases}
use Prim.Native.Nat.{ℕ, zero, suc, ◌+◌, ◌-◌, ◌*◌, ◌^◌, ◌≤◌, ◌<◌, min}
use native.Mathlib.Omega.{arith}
use native.Mathlib.Decide.{ℕ_discrete, dec_lt}
use native.Mathlib.Numerals.{add-one}
use lib.ListN.{length, get_or, set}
use lib.Seq.{get_or-set_same, get_or-set_other}
use lib.Dec.{eqb}
use borrow.Author.Tests.{lt-ltb, le-ltb, eq-eqb, ne_eqb}
use Rattle.saturate_merge.specs.inside.Streams.{objects, stream, streams, front_of, lesser_of, least_of, strip, strips, hit, hits, often, tally, Over, Rising, AllRising}

unfoldable pub remaining : List (List ℕ) → ℕ
remaining [] = 0
remaining (l ∷ ls) = length l + remaining ls

-- ---- one list

pub over_absent : (o a : ℕ) (l : List ℕ) → Over a l → o ≤ a → often o l ≡ 0
unfolding often
over_absent o a [] h le = refl
over_absent o a (b ∷ l) h le = let n : (b ≡ o → ⊥) = λ e. omega (arith, h.0) in rw (ne_eqb b o n) (omega (arith, over_absent o b l h.2 (omega (arith, h.0))))

pub over_rising : (a : ℕ) (l : List ℕ) → Over a l → Rising l
over_rising a [] h = tt
over_rising a (b ∷ l) h = (h.1, h.2)

pub front_absent : (o : ℕ) (l : List ℕ) → Rising l → o < front_of l → often o l ≡ 0
unfolding often front_of
front_absent o [] h le = refl
front_absent o (b ∷ l) h le = let n : (b ≡ o → ⊥) = λ e. omega arith in rw (ne_eqb b o n) (omega (arith, over_absent o b l h.1 (omega arith)))

-- at the least front_of and below it, what stands in the list is the front_of
front-often : (o : ℕ) (l : List ℕ) → Rising l → o ≤ front_of l → often o l ≡ hit o l
unfolding often front_of hit
front-often o [] h le = refl
front-often o (b ∷ l) h le = omega (arith, over_absent o b l h.1 le)

strip-often : (m o : ℕ) (l : List ℕ) → m < o → often o (strip m l) ≡ often o l
unfolding often strip
strip-often m o [] lt = refl
strip-often m o (b ∷ l) lt =
    by_cases (ℕ_discrete b m)
    (λ e. let n : (b ≡ o → ⊥) = λ q. omega arith in rw (eq-eqb b m e, ne_eqb b o n) (omega arith))
    (λ n. rw (ne_eqb b m n))

strip_rising : (m : ℕ) (l : List ℕ) → Rising l → Rising (strip m l)
unfolding strip
strip_rising m [] h = tt
strip_rising m (b ∷ l) h = by_cases (ℕ_discrete b m) (λ e. rw (eq-eqb b m e) (over_rising b l h.1)) (λ n. rw (ne_eqb b m n) h)

strip-length : (m : ℕ) (l : List ℕ) → length (strip m l) + hit m l ≡ length l
unfolding strip hit
strip-length m [] = refl
strip-length m (b ∷ l) = by_cases (ℕ_discrete b m) (λ e. rw (eq-eqb b m e) (omega arith)) (λ n. rw (ne_eqb b m n) (omega arith))

-- ---- all lists

pub lesser_left : (a b : ℕ) → lesser_of a b ≤ a
lesser_left a b = by_cases (dec_lt a b) (λ h. rw (lt-ltb a b h) (omega arith)) (λ h. let k : b ≤ a = omega arith in rw (le-ltb a b k) k)

pub lesser_right : (a b : ℕ) → lesser_of a b ≤ b
lesser_right a b = by_cases (dec_lt a b) (λ h. rw (lt-ltb a b h) (omega arith)) (λ h. let k : b ≤ a = omega arith in rw (le-ltb a b k) (omega arith))

-- what the code calls min
pub lesser-min : (a b : ℕ) → min a b ≡ lesser_of a b
lesser-min a b = by_cases (dec_lt a b) (λ h. rw (lt-ltb a b h) (omega arith)) (λ h. let k : b ≤ a = omega arith in rw (le-ltb a b k) (omega arith))

pub least_small : (ls : List (List ℕ)) → least_of ls ≤ 2 ^ 32
unfolding least_of
least_small [] = omega arith
least_small (l ∷ ls) = omega (arith, lesser_right (front_of l) (least_of ls), least_small ls)

pub tally_below : (o : ℕ) (ls : List (List ℕ)) → AllRising ls → o < least_of ls → tally o ls ≡ 0
unfolding tally least_of
tally_below o [] h lt = refl
tally_below o (l ∷ ls) h lt = omega (arith, front_absent o l h.0 (omega (arith, lesser_left (front_of l) (least_of ls))), tally_below o ls h.1 (omega (arith, lesser_right (front_of l) (least_of ls))))

tally_upto : (o : ℕ) (ls : List (List ℕ)) → AllRising ls → o ≤ least_of ls → tally o ls ≡ hits o ls
unfolding tally least_of hits
tally_upto o [] h le = refl
tally_upto o (l ∷ ls) h le = omega (arith, front-often o l h.0 (omega (arith, lesser_left (front_of l) (least_of ls))), tally_upto o ls h.1 (omega (arith, lesser_right (front_of l) (least_of ls))))

pub tally_least : (ls : List (List ℕ)) → AllRising ls → tally (least_of ls) ls ≡ hits (least_of ls) ls
tally_least ls h = tally_upto (least_of ls) ls h (omega arith)

front-hit : (l : List ℕ) → front_of l < 2 ^ 32 → hit (front_of l) l ≡ 1
unfolding front_of hit
front-hit [] h = absurd (omega arith)
front-hit (b ∷ l) h = rw (eq-eqb b b refl)

pub hits_least : (ls : List (List ℕ)) → least_of ls < 2 ^ 32 → 0 < hits (least_of ls) ls
unfolding least_of hits
hits_least [] h = absurd (omega arith)
hits_least (l ∷ ls) h =
    by_cases (dec_lt (front_of l) (least_of ls))
    (λ lt. let m : least_of (l ∷ ls) ≡ front_of l = ap (λ (b : Bool). cond b (front_of l) (least_of ls)) (lt-ltb (front_of l) (least_of ls) lt) in
    let e : hit (least_of (l ∷ ls)) l ≡ 1 = ap (λ (x : ℕ). hit x l) m ∙ front-hit l (omega (arith, least_small ls)) in
    omega (arith, e))
    (λ n. let k : least_of ls ≤ front_of l = omega arith in
    let m : least_of (l ∷ ls) ≡ least_of ls = ap (λ (b : Bool). cond b (front_of l) (least_of ls)) (le-ltb (front_of l) (least_of ls) k) in
    let p : 0 < hits (least_of ls) ls = hits_least ls (omega (arith, m)) in
    let e : hits (least_of (l ∷ ls)) ls ≡ hits (least_of ls) ls = ap (λ (x : ℕ). hits x ls) m in
    omega (arith, e, p))

pub tally-strips : (m o : ℕ) (ls : List (List ℕ)) → m < o → tally o (strips m ls) ≡ tally o ls
unfolding tally strips
tally-strips m o [] lt = refl
tally-strips m o (l ∷ ls) lt = omega (arith, strip-often m o l lt, tally-strips m o ls lt)

pub rising-strips : (m : ℕ) (ls : List (List ℕ)) → AllRising ls → AllRising (strips m ls)
unfolding strips
rising-strips m [] h = tt
rising-strips m (l ∷ ls) h = (strip_rising m l h.0, rising-strips m ls h.1)

pub remaining-strips : (m : ℕ) (ls : List (List ℕ)) → remaining (strips m ls) + hits m ls ≡ remaining ls
unfolding remaining strips hits
remaining-strips m [] = refl
remaining-strips m (l ∷ ls) = omega (arith, strip-length m l, remaining-strips m ls)

strip_front : (m : ℕ) (l : List ℕ) → Rising l → m ≤ front_of l → m < 2 ^ 32 → m < front_of (strip m l)
unfolding strip front_of
strip_front m [] h le lt = lt
strip_front m (b ∷ l) h le lt = by_cases (ℕ_discrete b m) (λ e. rw (eq-eqb b m e) (next l h.1)) (λ n. rw (ne_eqb b m n) (omega arith))
  where
    next : (j : List ℕ) → Over b j → m < front_of j
    next [] k = lt
    next (a ∷ j) k = omega (arith, k.0)

pub lesser_lt : (m a b : ℕ) → m < a → m < b → m < lesser_of a b
lesser_lt m a b h k = by_cases (dec_lt a b) (λ l. rw (lt-ltb a b l) h) (λ n. let l : b ≤ a = omega arith in rw (le-ltb a b l) k)

pub least-strips : (m : ℕ) (ls : List (List ℕ)) → AllRising ls → m ≤ least_of ls → m < 2 ^ 32 → m < least_of (strips m ls)
unfolding least_of strips
least-strips m [] h le lt = lt
least-strips m (l ∷ ls) h le lt =
    lesser_lt m (front_of (strip m l)) (least_of (strips m ls))
    (strip_front m l h.0 (omega (arith, lesser_left (front_of l) (least_of ls))) lt)
    (least-strips m ls h.1 (omega (arith, lesser_right (front_of l) (least_of ls))) lt)

-- after a step what is left stands above it
pub often_above : (o a : ℕ) (l : List ℕ) → Rising l → 2 ^ 32 ≤ o → often o l ≡ 0
unfolding often
often_above o a [] h le = refl
often_above o a (b ∷ l) h le = let n : (b ≡ o → ⊥) = λ e. omega (arith, h.0) in rw (ne_eqb b o n) (omega (arith, often_above o a l (over_rising b l h.1) le))

pub tally_above : (o : ℕ) (ls : List (List ℕ)) → AllRising ls → 2 ^ 32 ≤ o → tally o ls ≡ 0
unfolding tally
tally_above o [] h le = refl
tally_above o (l ∷ ls) h le = omega (arith, often_above o 0 l h.0 le, tally_above o ls h.1 le)

-- at most one hit for each stream
hit_one : (o : ℕ) (l : List ℕ) → hit o l ≤ 1
unfolding hit
hit_one o [] = omega arith
hit_one o (a ∷ l) = by_cases (ℕ_discrete a o) (λ e. rw (eq-eqb a o e) (omega arith)) (λ n. rw (ne_eqb a o n) (omega arith))

pub hits_few : (f ends : List ℕ) (o k : ℕ) → hits o (streams f ends k) ≤ k
unfolding hits streams
hits_few f ends o zero = omega arith
hits_few f ends o (suc k) = omega (arith, hit_one o (stream f ends k), hits_few f ends o k)

-- ---- the streams of the code

-- What is set behind them leaves the first k streams as they are.
pub streams-set : (f ends : List ℕ) (k z v : ℕ) → k * 2 ≤ z → streams f (set ends z v) k ≡ streams f ends k
unfolding streams
streams-set f ends zero z v h = refl
streams-set f ends (suc k) z v h =
    rw (get_or-set_other ends z (k * 2) v 0 (λ e. omega arith), get_or-set_other ends z (k * 2 + 1) v 0 (λ e. omega arith), streams-set f ends k z v (omega arith))

pub objects_none : (f : List ℕ) (a b : ℕ) → b ≤ a → objects f a (b - a) ≡ []
unfolding objects
objects_none f a b h = let e : b - a ≡ 0 = omega arith in rw e

pub objects-some : (f : List ℕ) (a b : ℕ) → a < b → objects f a (b - a) ≡ get_or f (a * 3 + 3) 0 ∷ objects f (a + 1) (b - (a + 1))
unfolding objects
objects-some f a b h = let e : b - a ≡ suc (b - (a + 1)) = omega arith in rw e

pub front_none : (f : List ℕ) (a b : ℕ) → b ≤ a → front_of (objects f a (b - a)) ≡ 2 ^ 32
unfolding front_of
front_none f a b h = rw (objects_none f a b h)

pub front-some : (f : List ℕ) (a b : ℕ) → a < b → front_of (objects f a (b - a)) ≡ get_or f (a * 3 + 3) 0
unfolding front_of
front-some f a b h = rw (objects-some f a b h)

-- a stream is stepped where its front is o
pub step-hit : (f : List ℕ) (a b o : ℕ) → o < 2 ^ 32 → front_of (objects f a (b - a)) ≡ o → (hit o (objects f a (b - a)) ≡ 1) × (objects f (a + 1) (b - (a + 1)) ≡ strip o (objects f a (b - a))) × (a < b)
unfolding hit strip
step-hit f a b o lt e =
    by_cases (dec_lt a b)
    (λ h. let q : eqb (get_or f (a * 3 + 3) 0) o ≡ true = eq-eqb (get_or f (a * 3 + 3) 0) o (sym (front-some f a b h) ∙ e) in rw (objects-some f a b h, q) (refl, refl, h))
    (λ h. absurd (omega (arith, front_none f a b (omega arith))))

pub step_miss : (f : List ℕ) (a b o : ℕ) → (front_of (objects f a (b - a)) ≡ o → ⊥) → (hit o (objects f a (b - a)) ≡ 0) × (objects f a (b - a) ≡ strip o (objects f a (b - a)))
unfolding hit strip
step_miss f a b o n =
    by_cases (dec_lt a b)
    (λ h. let q : eqb (get_or f (a * 3 + 3) 0) o ≡ false = ne_eqb (get_or f (a * 3 + 3) 0) o (λ e. n (front-some f a b h ∙ e)) in rw (objects-some f a b h, q) (refl, refl))
    (λ h. rw (objects_none f a b (omega arith)) (refl, refl))

-- the loop over the streams: those below y are stepped
pub record Stepping (f ends₀ ends : List ℕ) (o k c y : ℕ) : Type 0 where
  pub le : y ≤ k
  pub ahead : (z : ℕ) → y ≤ z → get_or ends (z * 2) 0 ≡ get_or ends₀ (z * 2) 0
  pub same_ends : (z : ℕ) → get_or ends (z * 2 + 1) 0 ≡ get_or ends₀ (z * 2 + 1) 0
  pub stepped : streams f ends y ≡ strips o (streams f ends₀ y)
  pub counted : c ≡ hits o (streams f ends₀ y)

pub stepping_start : (f ends : List ℕ) (o k : ℕ) → Stepping f ends ends o k 0 0
unfolding streams strips hits
stepping_start f ends o k = record { le = omega arith; ahead = λ z h. refl; same_ends = λ z. refl; stepped = refl; counted = refl }

-- The stream at y is as it was.
ahead_same : {f ends₀ ends : List ℕ} {o k c y : ℕ} → Stepping f ends₀ ends o k c y → stream f ends y ≡ stream f ends₀ y
ahead_same {f} {ends₀} {ends} {o} {k} {c} {y} g = rw (g.ahead y (omega arith), g.same_ends y)

pub stepping-hit : (f ends₀ ends : List ℕ) (o k c y : ℕ) → Stepping f ends₀ ends o k c y → y < k → y * 2 < length ends → o < 2 ^ 32 → front_of (stream f ends y) ≡ o → Stepping f ends₀ (set ends (y * 2) (get_or ends (y * 2) 0 + 1)) o k (c + 1) (y + 1)
unfolding streams strips hits
stepping-hit f ends₀ ends o k c y g lt il ol e =
    let a : ℕ = get_or ends (y * 2) 0 in
    let s = step-hit f a (get_or ends (y * 2 + 1) 0) o ol e in
    record {
      le = omega arith;
      ahead = λ z h. get_or-set_other ends (y * 2) (z * 2) (a + 1) 0 (λ w. omega arith) ∙ g.ahead z (omega arith);
      same_ends = λ z. get_or-set_other ends (y * 2) (z * 2 + 1) (a + 1) 0 (λ w. omega arith) ∙ g.same_ends z;
      stepped = rw (add-one y, get_or-set_same ends (y * 2) (a + 1) 0 il, get_or-set_other ends (y * 2) (y * 2 + 1) (a + 1) 0 (λ w. omega arith), streams-set f ends y (y * 2) (a + 1) (omega arith), s.1, g.stepped)
          (ap (λ (l : List ℕ). strip o l ∷ strips o (streams f ends₀ y)) (ahead_same g));
      counted = rw (add-one y, ← ahead_same g) (omega (arith, s.0, g.counted));
    }

pub stepping_miss : (f ends₀ ends : List ℕ) (o k c y : ℕ) → Stepping f ends₀ ends o k c y → y < k → (front_of (stream f ends y) ≡ o → ⊥) → Stepping f ends₀ ends o k c (y + 1)
unfolding streams strips hits
stepping_miss f ends₀ ends o k c y g lt n =
    let s = step_miss f (get_or ends (y * 2) 0) (get_or ends (y * 2 + 1) 0) o n in
    record {
      le = omega arith;
      ahead = λ z h. g.ahead z (omega arith);
      same_ends = g.same_ends;
      stepped = rw (add-one y) (ap₂ ◌∷◌ (s.1 ∙ ap (strip o) (ahead_same g)) g.stepped);
      counted = rw (add-one y, ← ahead_same g) (omega (arith, s.0, g.counted));
    }

-- the loop that looks for the least
pub least_more : (f ends : List ℕ) (y : ℕ) → least_of (streams f ends (y + 1)) ≡ lesser_of (front_of (stream f ends y)) (least_of (streams f ends y))
unfolding streams least_of
least_more f ends y = rw (add-one y)

pub least_none : (f ends : List ℕ) → least_of (streams f ends 0) ≡ 2 ^ 32
unfolding streams least_of
least_none f ends = refl

pub stepping_small : {f ends₀ ends : List ℕ} {o k c y : ℕ} → Stepping f ends₀ ends o k c y → c ≤ y
stepping_small {f} {ends₀} {ends} {o} {k} {c} {y} g = omega (arith, g.counted, hits_few f ends₀ o y)
