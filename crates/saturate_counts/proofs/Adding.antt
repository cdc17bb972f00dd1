-- Laws of bits added to the counts of the columns. Assumes nothing.
use mathlib.Core.Path.{◌≡◌, refl, sym, ◌∙◌}
use mathlib.Core.Bool.{Bool, true, false, cond}
use mathlib.Core.List.{List}
use mathlib.Core.Logic.{by_cases}
use Prim.Native.Nat.{ℕ, ◌+◌, ◌-◌, ◌≤◌, ◌<◌, zero, suc}
use native.Mathlib.Omega.{arith}
use native.Mathlib.Decide.{ℕ_discrete, dec_lt}
use lib.ListN.{length, get_or, set, take, drop, length-set}
use Rattle.std.proofs.lemmas.List.{get_or-take, get_or-drop, length-take-le, length-drop}
use lib.Seq.{get_or-set_same, get_or-set_other}
use lib.Dec.{ltb}
use borrow.Author.Tests.{lt-ltb, le-ltb, eq-eqb, ne_eqb}
use Rattle.saturate_schema.specs.inside.Nodes.{property_node, subject_node, Found}
use Rattle.saturate_schema.specs.inside.Squares.{at}
use Rattle.saturate_schema.specs.inside.Compiled.{subject_at, property_at, object_at, node_bit, start_node, either, own_bit, subject_adds, object_adds}
use Rattle.saturate_schema.proofs.Sums.{sum_more, sum-range, sum_at_is}
use Rattle.saturate_schema.specs.inside.Sums.{sum_to}
use Rattle.saturate_schema.proofs.Counted.{subject_adds_lem, subject_adds-not, object_adds-not, object_adds_here}
use Rattle.saturate_index.specs.inside.Index.{object_of, Once}
use Rattle.saturate_counts.specs.inside.Prepared.{Square}
use Rattle.saturate_counts.specs.inside.Counting.{Added, either_at, other_bit, Summed}
use Rattle.saturate_counts.proofs.NodeBits.{node_found, node_none, node_bit_lem}
use Rattle.saturate_counts.specs.inside.Supported.{Range, CountsOf}

-- ---- one row

pub added_none : (counts : List ℕ) (bit : ℕ → ℕ) → Added counts counts bit 0
added_none counts bit = record { same = refl; below = λ c l. absurd (omega arith); above = λ c l. refl }

pub added_more : (counts₀ counts : List ℕ) (bit : ℕ → ℕ) (k v : ℕ) → Added counts₀ counts bit k → k < length counts₀ → v ≡ bit k → Added counts₀ (set counts k (get_or counts k 0 + v)) bit (k + 1)
added_more counts₀ counts bit k v g l' e' =
    let l : k < length counts = omega (arith, g.same) in
    rw e' record {
      same = length-set counts k (get_or counts k 0 + bit k) ∙ g.same;
      below = λ c h. by_cases (ℕ_discrete c k)
          (λ e. rw (e, get_or-set_same counts k (get_or counts k 0 + bit k) 0 l) (omega (arith, g.above k (omega arith))))
          (λ n. get_or-set_other counts k c (get_or counts k 0 + bit k) 0 n ∙ g.below c (omega arith));
      above = λ c h. get_or-set_other counts k c (get_or counts k 0 + bit k) 0 (λ e. omega arith) ∙ g.above c (omega arith);
    }

pub added_ext : (counts₀ counts : List ℕ) (bit bit' : ℕ → ℕ) (end : ℕ) → Added counts₀ counts bit end → ((c : ℕ) → c < end → bit c ≡ bit' c) → Added counts₀ counts bit' end
added_ext counts₀ counts bit bit' end g e = record { same = g.same; below = λ c l. omega (arith, g.below c l, e c l); above = g.above }

pub added_zero : (counts : List ℕ) (bit : ℕ → ℕ) (end : ℕ) → ((c : ℕ) → c < end → bit c ≡ 0) → Added counts counts bit end
added_zero counts bit end e = record { same = refl; below = λ c l. omega (arith, e c l); above = λ c l. refl }

-- ---- one fact

either_bit : (a b : ℕ) → b ≤ 1 → either a b ≤ 1
either_bit a b l = by_cases (ℕ_discrete a 1) (λ e. rw (eq-eqb a 1 e) (omega arith)) (λ n. rw (ne_eqb a 1 n) l)

pub either-at_bit : (d r : List ℕ) (nc g c : ℕ) → at d g c ≤ 1 → at r g c ≤ 1 → either_at d r nc g c ≤ 1
either-at_bit d r nc g c l u = by_cases (dec_lt c nc) (λ h. rw (lt-ltb c nc h) (either_bit (at d g c) (at r g c) u)) (λ h. let k : nc ≤ c = omega arith in rw (le-ltb c nc k) l)

module _ (st : List ℕ) (m nc ns : ℕ) (d r f : List ℕ) (x y : ℕ) (dw : Square st m ns d) (rw' : Square st m ns r) where
  -- What a typing adds: the row of its class.
  own-type : (c : ℕ) → property_at f y ≡ 1 → own_bit st m nc d r f x c y ≡ node_bit st m d (object_at f y) c
  unfolding own_bit start_node
  own-type c e = rw (eq-eqb (property_at f y) 1 e)

  -- What another fact adds: the row of its property; where its object is the subject, the rows of both squares.
  own_other : (c : ℕ) → ¬ (property_at f y ≡ 1) → ¬ (object_at f y ≡ x) → own_bit st m nc d r f x c y ≡ node_bit st m d (property_node (property_at f y)) c
  unfolding own_bit start_node
  own_other c n k = rw (ne_eqb (property_at f y) 1 n, ne_eqb (object_at f y) x k)

  own_self : (c : ℕ) → ¬ (property_at f y ≡ 1) → object_at f y ≡ x → own_bit st m nc d r f x c y ≡ cond (ltb c nc) (either (node_bit st m d (property_node (property_at f y)) c) (node_bit st m r (property_node (property_at f y)) c)) (node_bit st m d (property_node (property_at f y)) c)
  unfolding own_bit start_node
  own_self c n e = rw (ne_eqb (property_at f y) 1 n, eq-eqb (object_at f y) x e)

  pub type_row : (counts₀ counts : List ℕ) (g : ℕ) → property_at f y ≡ 1 → Found (subject_node st) m (object_at f y) g → g < m → Added counts₀ counts (λ c. at d g c) ns → Added counts₀ counts (λ c. own_bit st m nc d r f x c y) ns
  type_row counts₀ counts g e h l a = added_ext counts₀ counts (λ c. at d g c) (λ c. own_bit st m nc d r f x c y) ns a (λ c lc. sym (own-type c e ∙ node_found st m ns d dw (object_at f y) c g h l lc))

  pub type_none : (counts : List ℕ) (g : ℕ) → property_at f y ≡ 1 → Found (subject_node st) m (object_at f y) g → m ≤ g → Added counts counts (λ c. own_bit st m nc d r f x c y) ns
  type_none counts g e h l = added_zero counts (λ c. own_bit st m nc d r f x c y) ns (λ c lc. own-type c e ∙ node_none st m ns d dw (object_at f y) c g h l)

  pub other_row : (counts₀ counts : List ℕ) (g : ℕ) → ¬ (property_at f y ≡ 1) → ¬ (object_at f y ≡ x) → Found (subject_node st) m (property_node (property_at f y)) g → g < m → Added counts₀ counts (λ c. at d g c) ns → Added counts₀ counts (λ c. own_bit st m nc d r f x c y) ns
  other_row counts₀ counts g n k h l a = added_ext counts₀ counts (λ c. at d g c) (λ c. own_bit st m nc d r f x c y) ns a (λ c lc. sym (own_other c n k ∙ node_found st m ns d dw (property_node (property_at f y)) c g h l lc))

  pub self_row : (counts₀ counts : List ℕ) (g : ℕ) → ¬ (property_at f y ≡ 1) → object_at f y ≡ x → Found (subject_node st) m (property_node (property_at f y)) g → g < m → Added counts₀ counts (either_at d r nc g) ns → Added counts₀ counts (λ c. own_bit st m nc d r f x c y) ns
  self_row counts₀ counts g n e h l a =
      added_ext counts₀ counts (either_at d r nc g) (λ c. own_bit st m nc d r f x c y) ns a
      (λ c lc. sym (own_self c n e ∙ rw (node_found st m ns d dw (property_node (property_at f y)) c g h l lc, node_found st m ns r rw' (property_node (property_at f y)) c g h l lc)))

  pub property_none : (counts : List ℕ) (g : ℕ) → ¬ (property_at f y ≡ 1) → Found (subject_node st) m (property_node (property_at f y)) g → m ≤ g → Added counts counts (λ c. own_bit st m nc d r f x c y) ns
  property_none counts g n h l =
      added_zero counts (λ c. own_bit st m nc d r f x c y) ns
      (λ c lc. let zd : node_bit st m d (property_node (property_at f y)) c ≡ 0 = node_none st m ns d dw (property_node (property_at f y)) c g h l in
      let zr : node_bit st m r (property_node (property_at f y)) c ≡ 0 = node_none st m ns r rw' (property_node (property_at f y)) c g h l in
      by_cases (ℕ_discrete (object_at f y) x) (λ e. own_self c n e ∙ rw (zd, zr) (nothing (ltb c nc))) (λ k. own_other c n k ∙ zd))
    where
      nothing : (b : Bool) → cond b (either 0 0) 0 ≡ 0
      nothing true = refl
      nothing false = refl

  -- Each adds at most 1.
  pub own_bit_lem : (c : ℕ) → c < ns → own_bit st m nc d r f x c y ≤ 1
  own_bit_lem c lc =
      by_cases (ℕ_discrete (property_at f y) 1)
      (λ e. omega (arith, own-type c e, node_bit_lem st m ns d dw (object_at f y) c lc))
      (λ n. by_cases (ℕ_discrete (object_at f y) x)
      (λ e. let p = property_node (property_at f y) in let bd = node_bit_lem st m ns d dw p c lc in let br = node_bit_lem st m ns r rw' p c lc in
      rw (own_self c n e) (by_cases (dec_lt c nc) (λ h. rw (lt-ltb c nc h) (either_bit (node_bit st m d p c) (node_bit st m r p c) br)) (λ h. let k : nc ≤ c = omega arith in rw (le-ltb c nc k) bd)))
      (λ k. omega (arith, own_other c n k, node_bit_lem st m ns d dw (property_node (property_at f y)) c lc)))

  -- To a property another fact than a typing adds the bit of its own.
  pub own_property : (c : ℕ) → nc ≤ c → ¬ (property_at f y ≡ 1) → own_bit st m nc d r f x c y ≡ node_bit st m d (property_node (property_at f y)) c
  own_property c l n = by_cases (ℕ_discrete (object_at f y) x) (λ e. own_self c n e ∙ rw (le-ltb c nc l)) (λ k. own_other c n k)

  -- By range: a fact of another subject adds the row of its property, one of the subject nothing.
  range_other : (c : ℕ) → ¬ (subject_at f y ≡ x) → other_bit st m r f x c y ≡ node_bit st m r (property_node (property_at f y)) c
  unfolding other_bit
  range_other c n = rw (ne_eqb (subject_at f y) x n)

  range_self : (c : ℕ) → subject_at f y ≡ x → other_bit st m r f x c y ≡ 0
  unfolding other_bit
  range_self c e = rw (eq-eqb (subject_at f y) x e)

  pub range-row : (counts₀ counts : List ℕ) (g : ℕ) → nc ≤ ns → ¬ (subject_at f y ≡ x) → Found (subject_node st) m (property_node (property_at f y)) g → g < m → Added counts₀ counts (λ c. at r g c) nc → Added counts₀ counts (λ c. other_bit st m r f x c y) nc
  range-row counts₀ counts g le n h l a = added_ext counts₀ counts (λ c. at r g c) (λ c. other_bit st m r f x c y) nc a (λ c lc. sym (range_other c n ∙ node_found st m ns r rw' (property_node (property_at f y)) c g h l (omega arith)))

  pub range_none : (counts : List ℕ) (g : ℕ) → ¬ (subject_at f y ≡ x) → Found (subject_node st) m (property_node (property_at f y)) g → m ≤ g → Added counts counts (λ c. other_bit st m r f x c y) nc
  range_none counts g n h l = added_zero counts (λ c. other_bit st m r f x c y) nc (λ c lc. range_other c n ∙ node_none st m ns r rw' (property_node (property_at f y)) c g h l)

  pub range_own : (counts : List ℕ) → subject_at f y ≡ x → Added counts counts (λ c. other_bit st m r f x c y) nc
  range_own counts e = added_zero counts (λ c. other_bit st m r f x c y) nc (λ c lc. range_self c e)

  pub other_bit_lem : (c : ℕ) → c < ns → other_bit st m r f x c y ≤ 1
  other_bit_lem c lc = by_cases (ℕ_discrete (subject_at f y) x) (λ e. omega (arith, range_self c e)) (λ n. omega (arith, range_other c n, node_bit_lem st m ns r rw' (property_node (property_at f y)) c lc))

-- ---- the facts of a range

-- Terms of at most 1 sum to at most their number.
pub sum_few : (h : ℕ → ℕ) (a b : ℕ) → a ≤ b → ((y : ℕ) → a ≤ y → y < b → h y ≤ 1) → sum_to h b ≤ sum_to h a + (b - a)
unfolding sum_to
sum_few h zero zero le g = omega arith
sum_few h (suc a) zero le g = absurd (omega arith)
sum_few h a (suc b) le g =
    by_cases (dec_lt a (suc b))
    (λ l. omega (arith, sum_few h a b (omega arith) (λ y k u. g y k (omega arith)), g b (omega arith) (omega arith)))
    (λ n. let e : a ≡ suc b = omega arith in rw e (omega arith))

-- What stands in the places a .. b of the index.
module _ (ix : List ℕ) (a b : ℕ) (le : a ≤ b) (fit : b ≤ length ix) where
  pub part-length : length (take (b - a) (drop a ix)) ≡ b - a
  part-length = length-take-le (b - a) (drop a ix) (omega (arith, length-drop a ix))

  pub part_at : (i : ℕ) → i < length (take (b - a) (drop a ix)) → get_or (take (b - a) (drop a ix)) i 0 ≡ get_or ix (a + i) 0
  part_at i l = get_or-take (b - a) (drop a ix) i 0 (omega (arith, part-length)) ∙ get_or-drop a ix i 0

pub summed_none : (counts : List ℕ) (h : ℕ → ℕ → ℕ) (end a : ℕ) → Summed counts counts h end a a
summed_none counts h end a = record { same = refl; below = λ c l. refl; above = λ c l. refl }

pub summed_more : (counts₀ counts counts' : List ℕ) (h : ℕ → ℕ → ℕ) (end a b : ℕ) → Summed counts₀ counts h end a b → Added counts counts' (λ c. h c b) end → Summed counts₀ counts' h end a (b + 1)
summed_more counts₀ counts counts' h end a b g s =
    record {
      same = s.same ∙ g.same;
      below = λ c l. omega (arith, s.below c l, g.below c l, sum_more (h c) b);
      above = λ c l. s.above c l ∙ g.above c l;
    }

-- The counts rise by at most 1 for each place.
pub summed_few : (counts₀ counts : List ℕ) (h : ℕ → ℕ → ℕ) (end a b : ℕ) → Summed counts₀ counts h end a b → a ≤ b → ((c y : ℕ) → c < end → a ≤ y → y < b → h c y ≤ 1) → (c : ℕ) → c < end → get_or counts c 0 ≤ get_or counts₀ c 0 + (b - a)
summed_few counts₀ counts h end a b g le bits c l = omega (arith, g.below c l, sum_few (h c) a b le (λ y k u. bits c y l k u))

-- ---- the counts

module _ (st : List ℕ) (m nc ns : ℕ) (d r f ix : List ℕ) (n x i e j h : ℕ) (sr : Range (subject_at f) n x i e) (or : Range (object_of f ix) n x j h) (once : Once n ix) where
  -- Over all facts as over those of the subject.
  own-sum : (c : ℕ) → sum_to (subject_adds st m nc d r f x c) n + sum_to (own_bit st m nc d r f x c) i ≡ sum_to (own_bit st m nc d r f x c) e
  own-sum c =
      sum-range (subject_adds st m nc d r f x c) (own_bit st m nc d r f x c) i e n sr.low sr.high
      (λ y l. subject_adds-not st m nc d r f x c y (sr.before y l)) (λ y l u. subject_adds_lem st m nc d r f x c y (sr.all y l u)) (λ y l u. subject_adds-not st m nc d r f x c y (sr.after y l u))

  object_is : (c y : ℕ) → object_at f y ≡ x → object_adds st m r f x c y ≡ other_bit st m r f x c y
  unfolding other_bit
  object_is c y e = object_adds_here st m nc d r f x c y e

  -- Over all facts as over the places of the index.
  other-sum : (c : ℕ) → sum_to (object_adds st m r f x c) n + sum_to (λ a. other_bit st m r f x c (get_or ix a 0)) j ≡ sum_to (λ a. other_bit st m r f x c (get_or ix a 0)) h
  other-sum c =
      let H : ℕ → ℕ = λ a. object_adds st m r f x c (get_or ix a 0) in
      let b : sum_to H n + sum_to (λ a. other_bit st m r f x c (get_or ix a 0)) j ≡ sum_to (λ a. other_bit st m r f x c (get_or ix a 0)) h =
      sum-range H (λ a. other_bit st m r f x c (get_or ix a 0)) j h n or.low or.high
      (λ y l. object_adds-not st m nc d r f x c (get_or ix y 0) (or.before y l)) (λ y l u. object_is c (get_or ix y 0) (or.all y l u)) (λ y l u. object_adds-not st m nc d r f x c (get_or ix y 0) (or.after y l u)) in
      omega (arith, once (object_adds st m r f x c), sum_at_is (object_adds st m r f x c) ix n)

  -- What was counted is what the facts add.
  pub counts_of : (counts₀ counts₁ counts : List ℕ) → nc ≤ ns → ((c : ℕ) → get_or counts₀ c 0 ≡ 0) → Summed counts₀ counts₁ (λ c y. own_bit st m nc d r f x c y) ns i e → Summed counts₁ counts (λ c a. other_bit st m r f x c (get_or ix a 0)) nc j h → CountsOf st m d r nc ns f n x counts
  counts_of counts₀ counts₁ counts le z a b =
      record {
        class = λ c l. omega (arith, z c, a.below c (omega arith), b.below c l, own-sum c, other-sum c);
        property = λ c l u. omega (arith, z c, a.below c u, b.above c l, own-sum c);
      }
