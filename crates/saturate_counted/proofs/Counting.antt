-- Explicit objects and counted keys, merged into rows of one subject and property. Assumes nothing.
use mathlib.Core.Path.{◌≡◌, refl, sym, ap, ◌∙◌}
use mathlib.Core.Bool.{cond}
use mathlib.Core.List.{List, [], ◌∷◌}
use mathlib.Core.Logic.{by_cases}
use Prim.Native.Nat.{ℕ, suc, ◌+◌, ◌-◌, ◌*◌, ◌^◌, ◌≤◌, ◌<◌}
use native.Mathlib.Omega.{arith}
use native.Mathlib.Decide.{dec_lt}
use lib.ListN.{get_or}
use lib.Dec.{eqb}
use borrow.Author.Tests.{lt-ltb, le-ltb, eq-eqb, ne_eqb}
use Rattle.spec.specs.Terms.{triple}
use Rattle.spec.specs.Saturation.{Kept}
use Rattle.spec.specs.inside.Counts.{Counts}
use Rattle.saturate_merge.specs.inside.Output.{Output, put_one, put_all}
use Rattle.saturate_merge.specs.inside.Between.{between}
use Rattle.saturate_merge.specs.inside.Streams.{objects, front_of, lesser_of, often, Over, Rising}
use Rattle.saturate_counted.specs.inside.Counted.{Counted, keys_with_counts, counted, count_of, first_key, KeysOver, KeysRising, total, key_at, Totalled}
use Rattle.saturate_merge.proofs.Streams.{objects-some, objects_none, over_absent, over_rising, front_absent, often_above, lesser_left, lesser_right, lesser_lt}
use Rattle.saturate_merge.proofs.Listing.{Listing, listing_start, listing-put, listing-skip, listing_end}

abbrev pub least : List ℕ → Counted → ℕ
least l ws = lesser_of (front_of l) (first_key ws)

pub counted_none : (keys counts : List ℕ) (r end : ℕ) → end ≤ r → counted keys counts r end ≡ []
unfolding keys_with_counts
counted_none keys counts r end h = let e : end - r ≡ 0 = omega arith in rw e

pub counted-some : (keys counts : List ℕ) (r end : ℕ) → r < end → counted keys counts r end ≡ (get_or keys r 0, get_or counts r 0) ∷ counted keys counts (r + 1) end
unfolding keys_with_counts
counted-some keys counts r end h = let e : end - r ≡ suc (end - (r + 1)) = omega arith in rw e

keys_over_absent : (o a : ℕ) (ws : Counted) → KeysOver a ws → o ≤ a → count_of o ws ≡ 0
unfolding count_of
keys_over_absent o a [] h le = refl
keys_over_absent o a (w ∷ ws) h le = let n : (w.0 ≡ o → ⊥) = λ e. omega (arith, h.0) in rw (ne_eqb w.0 o n) (omega (arith, keys_over_absent o w.0 ws h.2 (omega (arith, h.0))))

keys_over_rising : (a : ℕ) (ws : Counted) → KeysOver a ws → KeysRising ws
keys_over_rising a [] h = tt
keys_over_rising a (w ∷ ws) h = (h.1, h.2)

keys_over_front : (a : ℕ) (ws : Counted) → a < 2 ^ 32 → KeysOver a ws → a < first_key ws
unfolding first_key
keys_over_front a [] l h = l
keys_over_front a (w ∷ ws) l h = h.0

over_front : (a : ℕ) (l : List ℕ) → a < 2 ^ 32 → Over a l → a < front_of l
unfolding front_of
over_front a [] l h = l
over_front a (b ∷ j) l h = h.0

first_key_absent : (o : ℕ) (ws : Counted) → KeysRising ws → o < first_key ws → count_of o ws ≡ 0
unfolding count_of first_key
first_key_absent o [] h le = refl
first_key_absent o (w ∷ ws) h le = let n : (w.0 ≡ o → ⊥) = λ e. omega arith in rw (ne_eqb w.0 o n) (omega (arith, keys_over_absent o w.0 ws h.1 (omega arith)))

count_of_above : (o : ℕ) (ws : Counted) → KeysRising ws → 2 ^ 32 ≤ o → count_of o ws ≡ 0
unfolding count_of
count_of_above o [] h le = refl
count_of_above o (w ∷ ws) h le = let n : (w.0 ≡ o → ⊥) = λ e. omega (arith, h.0) in rw (ne_eqb w.0 o n) (omega (arith, count_of_above o ws (keys_over_rising w.0 ws h.1) le))

-- ==== the turns

pub record Counting (x p room : ℕ) (l₀ : List ℕ) (ws₀ : Counted) (out₀ out : Output) (l : List ℕ) (ws : Counted) : Type 0 where
  pub rising : Rising l
  pub keys_rising : KeysRising ws
  pub small : (o : ℕ) → total l ws o < 2 ^ 16
  pub rows : (K : Kept) → Counts K → Totalled K x p l₀ ws₀ → Listing K x p room out₀ out (total l ws) (least l ws)

total_below : (l : List ℕ) (ws : Counted) (o : ℕ) → Rising l → KeysRising ws → o < least l ws → total l ws o ≡ 0
unfolding total
total_below l ws o r rw' lt = omega (arith, front_absent o l r (omega (arith, lesser_left (front_of l) (first_key ws))), first_key_absent o ws rw' (omega (arith, lesser_right (front_of l) (first_key ws))))

total_above : (l : List ℕ) (ws : Counted) (o : ℕ) → Rising l → KeysRising ws → 2 ^ 32 ≤ o → total l ws o ≡ 0
unfolding total
total_above l ws o r rw' le = omega (arith, often_above o 0 l r le, count_of_above o ws rw' le)

pub counting_start : (x p room : ℕ) (l : List ℕ) (ws : Counted) (out : Output) → Rising l → KeysRising ws → ((o : ℕ) → total l ws o < 2 ^ 16) → Counting x p room l ws out out l ws
counting_start x p room l ws out r rw' s = record { rising = r; keys_rising = rw'; small = s; rows = λ K a t. listing_start K x p room out (total l ws) (least l ws) a t (λ o lt. total_below l ws o r rw' lt) }

left_here : (b : ℕ) (l : List ℕ) (ws : Counted) → Rising (b ∷ l) → KeysRising ws → b < first_key ws → total (b ∷ l) ws b ≡ 1
unfolding total often
left_here b l ws r s lt = rw (eq-eqb b b refl) (omega (arith, over_absent b b l r.1 (omega arith), first_key_absent b ws s lt))

left_same : (b : ℕ) (l : List ℕ) (ws : Counted) (o : ℕ) → b < o → total l ws o ≡ total (b ∷ l) ws o
unfolding total often
left_same b l ws o h = let n : (b ≡ o → ⊥) = λ q. omega arith in rw (ne_eqb b o n) (omega arith)

left_less : (b : ℕ) (l : List ℕ) (ws : Counted) (o : ℕ) → total l ws o ≤ total (b ∷ l) ws o
unfolding total often
left_less b l ws o = omega arith

right_here : (w : ℕ × ℕ) (l : List ℕ) (ws : Counted) → Rising l → KeysRising (w ∷ ws) → w.0 < front_of l → total l (w ∷ ws) w.0 ≡ w.1
unfolding total count_of
right_here w l ws r s lt = rw (eq-eqb w.0 w.0 refl) (omega (arith, front_absent w.0 l r lt, keys_over_absent w.0 w.0 ws s.1 (omega arith)))

right_same : (w : ℕ × ℕ) (l : List ℕ) (ws : Counted) (o : ℕ) → w.0 < o → total l ws o ≡ total l (w ∷ ws) o
unfolding total count_of
right_same w l ws o h = let n : (w.0 ≡ o → ⊥) = λ q. omega arith in rw (ne_eqb w.0 o n) (omega arith)

right-less : (w : ℕ × ℕ) (l : List ℕ) (ws : Counted) (o : ℕ) → total l ws o ≤ total l (w ∷ ws) o
unfolding total count_of
right-less w l ws o = omega arith

both_here : (b : ℕ) (w : ℕ × ℕ) (l : List ℕ) (ws : Counted) → Rising (b ∷ l) → KeysRising (w ∷ ws) → b ≡ w.0 → total (b ∷ l) (w ∷ ws) b ≡ w.1 + 1
unfolding total often count_of
both_here b w l ws r s e = rw (eq-eqb b b refl, eq-eqb w.0 b (sym e)) (omega (arith, over_absent b b l r.1 (omega arith), keys_over_absent b w.0 ws s.1 (omega arith)))

-- only an explicit object
pub counting_left : (x p room : ℕ) (l₀ : List ℕ) (ws₀ : Counted) (out₀ out out' : Output) (b : ℕ) (l : List ℕ) (ws : Counted) → Counting x p room l₀ ws₀ out₀ out (b ∷ l) ws → b < first_key ws → out' ≡ put_one room (triple x p b, 1) out → Counting x p room l₀ ws₀ out₀ out' l ws
unfolding front_of
counting_left x p room l₀ ws₀ out₀ out out' b l ws g lt e =
    record {
      rising = over_rising b l g.rising.1;
      keys_rising = g.keys_rising;
      small = λ o. omega (arith, g.small o, left_less b l ws o);
      rows = λ K a t. rw e (listing-put K x p room out₀ out (total (b ∷ l) ws) (total l ws) b (least l ws) 1 a (rw (lt-ltb b (first_key ws) lt) at (g.rows K a t)) (left_here b l ws g.rising g.keys_rising lt) (omega arith)
          (lesser_lt b (front_of l) (first_key ws) (over_front b l g.rising.0 g.rising.1) lt) (left_same b l ws)
          (λ o _ h. total_below l ws o (over_rising b l g.rising.1) g.keys_rising h));
    }

-- only a keys, which was counted
pub counting_right : (x p room : ℕ) (l₀ : List ℕ) (ws₀ : Counted) (out₀ out out' : Output) (l : List ℕ) (w : ℕ × ℕ) (ws : Counted) → Counting x p room l₀ ws₀ out₀ out l (w ∷ ws) → w.0 < front_of l → 0 < w.1 → out' ≡ put_one room (triple x p w.0, w.1) out → Counting x p room l₀ ws₀ out₀ out' l ws
unfolding first_key
counting_right x p room l₀ ws₀ out₀ out out' l w ws g lt pos e =
    let k : w.0 ≤ front_of l = omega arith in
    record {
      rising = g.rising;
      keys_rising = keys_over_rising w.0 ws g.keys_rising.1;
      small = λ o. omega (arith, g.small o, right-less w l ws o);
      rows = λ K a t. rw e (listing-put K x p room out₀ out (total l (w ∷ ws)) (total l ws) w.0 (least l ws) w.1 a (rw (le-ltb (front_of l) w.0 k) at (g.rows K a t)) (right_here w l ws g.rising g.keys_rising lt) pos
          (lesser_lt w.0 (front_of l) (first_key ws) lt (keys_over_front w.0 ws g.keys_rising.0 g.keys_rising.1)) (right_same w l ws)
          (λ o _ h. total_below l ws o g.rising (keys_over_rising w.0 ws g.keys_rising.1) h));
    }

-- a keys that was not counted
pub counting_pass : (x p room : ℕ) (l₀ : List ℕ) (ws₀ : Counted) (out₀ out : Output) (l : List ℕ) (w : ℕ × ℕ) (ws : Counted) → Counting x p room l₀ ws₀ out₀ out l (w ∷ ws) → w.0 < front_of l → w.1 ≡ 0 → Counting x p room l₀ ws₀ out₀ out l ws
unfolding first_key
counting_pass x p room l₀ ws₀ out₀ out l w ws g lt none =
    let k : w.0 ≤ front_of l = omega arith in
    record {
      rising = g.rising;
      keys_rising = keys_over_rising w.0 ws g.keys_rising.1;
      small = λ o. omega (arith, g.small o, right-less w l ws o);
      rows = λ K a t. listing-skip K x p room out₀ out (total l (w ∷ ws)) (total l ws) w.0 (least l ws) a (rw (le-ltb (front_of l) w.0 k) at (g.rows K a t)) (right_here w l ws g.rising g.keys_rising lt ∙ none)
          (lesser_lt w.0 (front_of l) (first_key ws) lt (keys_over_front w.0 ws g.keys_rising.0 g.keys_rising.1)) (right_same w l ws)
          (λ o _ h. total_below l ws o g.rising (keys_over_rising w.0 ws g.keys_rising.1) h);
    }

-- an explicit object that is a keys
pub counting_both : (x p room : ℕ) (l₀ : List ℕ) (ws₀ : Counted) (out₀ out out' : Output) (b : ℕ) (l : List ℕ) (w : ℕ × ℕ) (ws : Counted) → Counting x p room l₀ ws₀ out₀ out (b ∷ l) (w ∷ ws) → b ≡ w.0 → out' ≡ put_one room (triple x p b, w.1 + 1) out → Counting x p room l₀ ws₀ out₀ out' l ws
unfolding first_key front_of
counting_both x p room l₀ ws₀ out₀ out out' b l w ws g q e =
    let k : w.0 ≤ b = omega arith in
    record {
      rising = over_rising b l g.rising.1;
      keys_rising = keys_over_rising w.0 ws g.keys_rising.1;
      small = λ o. omega (arith, g.small o, right-less w l ws o, left_less b l (w ∷ ws) o);
      rows = λ K a t. rw (e, q) (listing-put K x p room out₀ out (total (b ∷ l) (w ∷ ws)) (total l ws) w.0 (least l ws) (w.1 + 1) a (rw (le-ltb b w.0 k) at (g.rows K a t)) (ap (total (b ∷ l) (w ∷ ws)) (sym q) ∙ both_here b w l ws g.rising g.keys_rising q) (omega arith)
          (lesser_lt w.0 (front_of l) (first_key ws) (rw q at (over_front b l g.rising.0 g.rising.1)) (keys_over_front w.0 ws g.keys_rising.0 g.keys_rising.1))
          (λ o h. right_same w l ws o h ∙ left_same b l (w ∷ ws) o (omega arith))
          (λ o _ h. total_below l ws o (over_rising b l g.rising.1) (keys_over_rising w.0 ws g.keys_rising.1) h));
    }

pub counting_end : (x p room : ℕ) (l₀ : List ℕ) (ws₀ : Counted) (out₀ out : Output) → Counting x p room l₀ ws₀ out₀ out [] [] → (K : Kept) → Counts K → Totalled K x p l₀ ws₀ → out ≡ put_all room (between (triple x p 0) (triple x (p + 1) 0) K) out₀
unfolding front_of first_key
counting_end x p room l₀ ws₀ out₀ out g K a t = listing_end K x p room out₀ out (total [] []) (2 ^ 32) a (g.rows K a t) (λ o h. total_above [] [] o tt tt h)

-- a keys's triple has its count, and one more if it is explicit
pub small_right : (x p room : ℕ) (l₀ : List ℕ) (ws₀ : Counted) (out₀ out : Output) (l : List ℕ) (w : ℕ × ℕ) (ws : Counted) → Counting x p room l₀ ws₀ out₀ out l (w ∷ ws) → w.1 < 2 ^ 16
unfolding total count_of
small_right x p room l₀ ws₀ out₀ out l w ws g = let h : often w.0 l + (cond (eqb w.0 w.0) w.1 0 + count_of w.0 ws) < 2 ^ 16 = g.small w.0 in omega (arith, rw (eq-eqb w.0 w.0 refl) at h)

pub small_both : (x p room : ℕ) (l₀ : List ℕ) (ws₀ : Counted) (out₀ out : Output) (b : ℕ) (l : List ℕ) (w : ℕ × ℕ) (ws : Counted) → Counting x p room l₀ ws₀ out₀ out (b ∷ l) (w ∷ ws) → b ≡ w.0 → w.1 + 1 < 2 ^ 16
small_both x p room l₀ ws₀ out₀ out b l w ws g q = omega (arith, both_here b w l ws g.rising g.keys_rising q, g.small b)

pub key_at_is : (keys counts : List ℕ) (r end : ℕ) → key_at keys r end ≡ first_key (counted keys counts r end)
unfolding key_at first_key
key_at_is keys counts r end = by_cases (dec_lt r end) (λ h. rw (lt-ltb r end h, counted-some keys counts r end h)) (λ h. let k : end ≤ r = omega arith in rw (le-ltb r end k, counted_none keys counts r end k))

pub key_at_low : (keys : List ℕ) (r end : ℕ) → key_at keys r end < 2 ^ 32 → r < end
unfolding key_at
key_at_low keys r end h = by_cases (dec_lt r end) (λ l. l) (λ n. let k : end ≤ r = omega arith in absurd (omega (arith, rw (le-ltb r end k) at h)))

pub key_at-at : (keys : List ℕ) (r end : ℕ) → r < end → key_at keys r end ≡ get_or keys r 0
unfolding key_at
key_at-at keys r end h = rw (lt-ltb r end h)

-- A key that is not past an object is none from the end on.
pub key_low : (keys : List ℕ) (r end o k : ℕ) → k ≡ key_at keys r end → k ≤ o → o < 2 ^ 32 → r < end
key_low keys r end o k e le lt = key_at_low keys r end (omega arith)

-- ==== the code's places

module _ (x p room : ℕ) (f keys counts : List ℕ) (e end : ℕ) (l₀ : List ℕ) (ws₀ : Counted) (out₀ : Output) where
  abbrev pub At : Output → ℕ → ℕ → Type 0
  At out q r = Counting x p room l₀ ws₀ out₀ out (objects f q (e - q)) (counted keys counts r end)

  pub at_left : (out out' : Output) (q r b : ℕ) → At out q r → q < e → b ≡ get_or f (q * 3 + 3) 0 → b < key_at keys r end → out' ≡ put_one room (triple x p b, 1) out → At out' (q + 1) r
  at_left out out' q r b g lt eb h es =
      counting_left x p room l₀ ws₀ out₀ out out' b (objects f (q + 1) (e - (q + 1))) (counted keys counts r end) (rw eb (rw (objects-some f q e lt) at g)) (rw (key_at_is keys counts r end) at h) es

  pub at_right : (out out' : Output) (q r b : ℕ) → At out q r → r < end → b ≡ get_or keys r 0 → b < front_of (objects f q (e - q)) → 0 < get_or counts r 0 → out' ≡ put_one room (triple x p b, get_or counts r 0) out → At out' q (r + 1)
  at_right out out' q r b g lt eb h pos es =
      counting_right x p room l₀ ws₀ out₀ out out' (objects f q (e - q)) (b, get_or counts r 0) (counted keys counts (r + 1) end) (rw eb (rw (counted-some keys counts r end lt) at g)) h pos es

  pub at_pass : (out : Output) (q r b : ℕ) → At out q r → r < end → b ≡ get_or keys r 0 → b < front_of (objects f q (e - q)) → get_or counts r 0 ≡ 0 → At out q (r + 1)
  at_pass out q r b g lt eb h none =
      counting_pass x p room l₀ ws₀ out₀ out (objects f q (e - q)) (b, get_or counts r 0) (counted keys counts (r + 1) end) (rw eb (rw (counted-some keys counts r end lt) at g)) h none

  pub at_both : (out out' : Output) (q r b : ℕ) → At out q r → q < e → r < end → b ≡ get_or f (q * 3 + 3) 0 → b ≡ get_or keys r 0 → out' ≡ put_one room (triple x p b, get_or counts r 0 + 1) out → At out' (q + 1) (r + 1)
  at_both out out' q r b g lt lt' eb ek es =
      counting_both x p room l₀ ws₀ out₀ out out' b (objects f (q + 1) (e - (q + 1))) (get_or keys r 0, get_or counts r 0) (counted keys counts (r + 1) end) (rw eb (rw (objects-some f q e lt, counted-some keys counts r end lt') at g)) ek es

  pub at_small : (out : Output) (q r : ℕ) → At out q r → r < end → get_or counts r 0 < 2 ^ 16
  at_small out q r g lt = small_right x p room l₀ ws₀ out₀ out (objects f q (e - q)) (get_or keys r 0, get_or counts r 0) (counted keys counts (r + 1) end) (rw (counted-some keys counts r end lt) at g)

  pub at_small_both : (out : Output) (q r : ℕ) → At out q r → q < e → r < end → get_or f (q * 3 + 3) 0 ≡ get_or keys r 0 → get_or counts r 0 + 1 < 2 ^ 16
  at_small_both out q r g lt lt' k = small_both x p room l₀ ws₀ out₀ out (get_or f (q * 3 + 3) 0) (objects f (q + 1) (e - (q + 1))) (get_or keys r 0, get_or counts r 0) (counted keys counts (r + 1) end) (rw (objects-some f q e lt, counted-some keys counts r end lt') at g) k

  pub at_keys : (out : Output) (q r : ℕ) → At out q r → r < end → get_or keys r 0 < 2 ^ 32
  at_keys out q r g lt = let h = rw (counted-some keys counts r end lt) at g.keys_rising in h.0

  pub at_end : (out : Output) (q r : ℕ) → At out q r → e ≤ q → end ≤ r → (K : Kept) → Counts K → Totalled K x p l₀ ws₀ → out ≡ put_all room (between (triple x p 0) (triple x (p + 1) 0) K) out₀
  at_end out q r g le le' = counting_end x p room l₀ ws₀ out₀ out (rw (objects_none f q e le, counted_none keys counts r end le') at g)
