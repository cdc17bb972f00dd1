-- Laws of the work list: one subject after another, and what is there in the end. Assumes nothing.
use mathlib.Core.Path.{◌≡◌, refl, sym, ◌∙◌}
use mathlib.Core.List.{List, Memᴰ}
use mathlib.Core.Logic.{◌⊎◌, inl, inr, ⊎_elim, by_cases, ◌↔◌}
use Prim.Native.Nat.{ℕ, ◌+◌, ◌≤◌, ◌<◌}
use native.Mathlib.Decide.{ℕ_discrete, dec_lt}
use native.Mathlib.Omega.{arith}
use lib.ListN.{length, get_or, drop}
use Rattle.spec.specs.Terms.{triple}
use Rattle.spec.proofs.Order.{of_subject, of_property, of_object}
use Rattle.spec.specs.Tables.{row_at, first_rows}
use Rattle.spec.specs.Rules.{Reach, stay, step}
use Rattle.rdfs_reach.specs.inside.Marks.{Within, Unused, Room, ObjectOf, ReachedFrom, Grown, Extended}
use Rattle.rdfs_reach.proofs.MarkLaws.{member-row, extended_none}

-- Terms below n are as they were.
pub within_kept : {found found' : List ℕ} {a b x : ℕ} (n : ℕ) → ((i : ℕ) → i < n → get_or found' i 0 ≡ get_or found i 0) → b ≤ n → Within found a b x → Within found' a b x
within_kept n h l w = record { at = w.at; low = w.low; high = w.high; is = h w.at (omega (arith, w.high)) ∙ w.is }

pub within_wider : {found : List ℕ} {a b c d x : ℕ} → c ≤ a → b ≤ d → Within found a b x → Within found c d x
within_wider l h w = record { at = w.at; low = omega (arith, w.low); high = omega (arith, w.high); is = w.is }

-- Room stays.
pub room_on : {st used used' found found' : List ℕ} {m k n n' : ℕ} → Room st m used found n → Grown st m k used found n used' found' n' → length used' ≡ length used → length found' ≡ length found → Room st m used' found' n'
room_on r g u f = record { marks = omega (arith, r.marks); places = omega (arith, r.places, g.cost); uniform = g.uniform }

-- No mark of another property is gained.
pub unused_on : {st used used' found found' : List ℕ} {m k n n' : ℕ} (p : ℕ) → ¬ (p ≡ k) → Grown st m k used found n used' found' n' → Unused st m p used → Unused st m p used'
unused_on p d g u = λ j l e. g.other j l (λ q. d (sym e ∙ q)) ∙ u j l e

-- One subject more.
module _ {st used found used' found' used'' found'' : List ℕ} {m k n n' n'' : ℕ} {Q P : ℕ → Type 0} (x : ℕ) (a : Extended st m k Q used found n used' found' n')
    (b : Extended st m k (λ y. y ≡ x) used' found' n' used'' found'' n'') (old : (y : ℕ) → Q y → P y) (new : P x) (only : (y : ℕ) → P y → Q y ⊎ (y ≡ x)) where
  more_gained : (j : ℕ) → j < m → get_or used j 0 ≡ 0 → ¬ (get_or used'' j 0 ≡ 0) → Within found'' n n'' (row_at st j).object
  more_gained j l p q =
      by_cases (ℕ_discrete (get_or used' j 0) 0)
      (λ z. within_wider a.grown.grows (omega arith) (b.gained j l z q))
      (λ z. within_wider (omega arith) b.grown.grows (within_kept n' b.grown.kept (omega arith) (a.gained j l p z)))

  more_origin : (i : ℕ) → n ≤ i → i < n'' → ObjectOf st m k P (get_or found'' i 0)
  more_origin i l h =
      by_cases (dec_lt i n')
      (λ (c : i < n'). let o = a.origin i l c in record { subject = o.subject; holds = old o.subject o.holds; statement = rw (b.grown.kept i c) o.statement })
      (λ c. let o = b.origin i (omega arith) h in record { subject = o.subject; holds = rw o.holds new; statement = o.statement })

  pub extended_more : Extended st m k P used found n used'' found'' n''
  extended_more = record {
    grown = record {
      grows = omega (arith, a.grown.grows, b.grown.grows);
      cost = b.grown.cost ∙ a.grown.cost;
      kept = λ i l. b.grown.kept i (omega (arith, a.grown.grows)) ∙ a.grown.kept i l;
      other = λ j l p. b.grown.other j l p ∙ a.grown.other j l p;
      uniform = b.grown.uniform;
    };
    marked = λ j l p. b.marked j l (a.marked j l p);
    gained = more_gained;
    origin = more_origin;
    done = λ j l p q. ⊎_elim (λ z. b.marked j l (a.done j l p z)) (λ z. b.done j l p z) (only (row_at st j).subject q);
  }

-- ---- where no statement of the property had a mark

module _ {st used found used' found' : List ℕ} {m k n n' : ℕ} {Q : ℕ → Type 0} (u : Unused st m k used) (a : Extended st m k Q used found n used' found' n') where
  -- The object of a statement whose subject is one of which Q holds is there.
  pub stated_in : (x o : ℕ) → Q x → Memᴰ (triple x k o) (first_rows m (drop 1 st)) → Within found' n n' o
  stated_in x o q s =
      let r = member-row st m (triple x k o) s in
      let p : (row_at st r.at).property ≡ k = of_property r.is in
      rw (of_object r.is) at (a.gained r.at r.below (u r.at r.below p) (a.done r.at r.below p (rw (of_subject r.is) q)))

  -- The terms appended are exactly the objects.
  pub objects_exact : (o : ℕ) → Within found' n n' o ↔ ObjectOf st m k Q o
  objects_exact o = (
    λ w. rw w.is at (a.origin w.at w.low w.high),
    λ w. stated_in w.subject o w.holds w.statement,
  )

-- ---- the loops

-- The subjects at the places from from on, below i, are done.
pub record Turn (st : List ℕ) (m k from : ℕ) (used₀ found₀ : List ℕ) (n : ℕ) (used found : List ℕ) (e i : ℕ) : Type 0 where
  pub low : from ≤ i
  pub size_used : length used ≡ length used₀
  pub size_found : length found ≡ length found₀
  pub done : Extended st m k (Within found from i) used₀ found₀ n used found e

pub turn_begin : (st : List ℕ) (m k from : ℕ) (used found : List ℕ) (n : ℕ) → Room st m used found n → Turn st m k from used found n used found n from
turn_begin st m k from used found n room = record {
  low = omega arith;
  size_used = refl;
  size_found = refl;
  done = extended_none st m k (Within found from from) used found n room (λ j l p w z. omega (arith, w.low, w.high));
}

module _ {st used₀ found₀ used found : List ℕ} {m k from n e i : ℕ} (t : Turn st m k from used₀ found₀ n used found e i) where
  pub turn_room : Room st m used₀ found₀ n → Room st m used found e
  turn_room r = room_on r t.done.grown t.size_used t.size_found

  module _ {used' found' : List ℕ} {e' : ℕ} (x : ℕ) (is : get_or found i 0 ≡ x) (l : i < e) (b : Extended st m k (λ y. y ≡ x) used found e used' found' e') where
    old-in : (y : ℕ) → Within found from i y → Within found' from (i + 1) y
    old-in y w = within_wider (omega arith) (omega arith) (within_kept e b.grown.kept (omega arith) w)

    new_in : Within found' from (i + 1) x
    new_in = record { at = i; low = t.low; high = omega arith; is = b.grown.kept i l ∙ is }

    only-in : (y : ℕ) → Within found' from (i + 1) y → Within found from i y ⊎ (y ≡ x)
    only-in y w =
        let q : get_or found w.at 0 ≡ y = sym (b.grown.kept w.at (omega (arith, w.high))) ∙ w.is in
        by_cases (ℕ_discrete w.at i) (λ z. inr (sym q ∙ rw z is))
        (λ z. inl (record { at = w.at; low = w.low; high = omega (arith, w.high); is = q }))

    pub turn_more : length used' ≡ length used → length found' ≡ length found → Turn st m k from used₀ found₀ n used' found' e' (i + 1)
    turn_more us fs = record {
      low = omega (arith, t.low);
      size_used = us ∙ t.size_used;
      size_found = fs ∙ t.size_found;
      done = extended_more x t.done b old-in new_in only-in;
    }

-- The subjects are those that were there: the loop ends at to, below the terms appended.
pub all_end : {st used₀ found₀ used found : List ℕ} {m k from to n e : ℕ} → to ≤ n → Unused st m k used₀ → Turn st m k from used₀ found₀ n used found e to →
    (o : ℕ) → Within found n e o ↔ ObjectOf st m k (Within found₀ from to) o
all_end {st} {used₀} {found₀} {used} {found} {m} {k} {from} {to} {n} {e} l u t o =
    let x = objects_exact u t.done o in (
      λ w. let r = x.0 w in record { subject = r.subject; holds = within_kept n (λ i h. sym (t.done.grown.kept i h)) l r.holds; statement = r.statement },
      λ r. x.1 (record { subject = r.subject; holds = within_kept n t.done.grown.kept l r.holds; statement = r.statement }),
    )

-- Each term from from on is reached from one of those that were there.
abbrev pub Reached : List ℕ → ℕ → ℕ → ℕ → List ℕ → ℕ → List ℕ → ℕ → Type 0
Reached st m k from found₀ n found e = (p : ℕ) → from ≤ p → p < e → ReachedFrom st m k (Within found₀ from n) (get_or found p 0)

pub reached_begin : (st : List ℕ) (m k from : ℕ) (found : List ℕ) (n : ℕ) → Reached st m k from found n found n
reached_begin st m k from found n p a c = record { start = get_or found p 0; holds = record { at = p; low = a; high = c; is = refl }; path = stay }

pub reached_more : {st used found used' found' found₀ : List ℕ} {m k from n e e' i : ℕ} (x : ℕ) → get_or found i 0 ≡ x → from ≤ i → i < e → Reached st m k from found₀ n found e →
    Extended st m k (λ y. y ≡ x) used found e used' found' e' → Reached st m k from found₀ n found' e'
reached_more {st} {used} {found} {used'} {found'} {found₀} {m} {k} {from} {n} {e} {e'} {i} x is l h r b p a c =
    by_cases (dec_lt p e) (λ (d : p < e). rw (b.grown.kept p d) (r p a d))
    (λ d.
    let o = b.origin p (omega arith) c in
    let s = r i l h in
    record { start = s.start; holds = s.holds; path = step s.path (rw (sym is ∙ refl) at (rw o.holds at o.statement)) })

-- In the end the terms from from on are exactly what is reached.
pub close_end : {st used₀ found₀ used found : List ℕ} {m k from n e : ℕ} → from ≤ n → Unused st m k used₀ → Turn st m k from used₀ found₀ n used found e e → Reached st m k from found₀ n found e →
    (b : ℕ) → Within found from e b ↔ ReachedFrom st m k (Within found₀ from n) b
close_end {st} {used₀} {found₀} {used} {found} {m} {k} {from} {n} {e} l u t r b = (
  λ w. rw w.is at (r w.at w.low w.high),
  λ w. on w.start (within_wider (omega arith) t.done.grown.grows (within_kept n t.done.grown.kept (omega arith) w.holds)) w.path,
)
  where
    on : (a : ℕ) {c : ℕ} → Within found from e a → Reach (first_rows m (drop 1 st)) k a c → Within found from e c
    on a w stay = w
    on a w (step {b} {c} p s) = within_wider l (omega arith) (stated_in u t.done b c (on a w p) s)

-- Room does not depend on the terms.
pub room_for : {st used found found' : List ℕ} {m n n' : ℕ} → Room st m used found n → n' ≤ n → length found' ≡ length found → Room st m used found' n'
room_for r l f = record { marks = r.marks; places = omega (arith, r.places); uniform = r.uniform }
