-- `objects`, `spread` and `reach` list exactly what is reached by steps of a property. Assumes nothing.
use mathlib.Core.Path.{◌≡◌, refl, sym, ap, ◌∙◌}
use mathlib.Core.Bool.{true, cond}
use mathlib.Core.List.Memᴰ
use mathlib.Core.List.{List, [], ◌∷◌, ◌++◌, Memᴰ}
use mathlib.Core.Logic.{◌⊎◌, inl, inr, ⊎_elim, ◌↔◌}
use Prim.Native.Nat.{ℕ, zero, suc, ◌≤◌}
use native.Mathlib.Nat.{le_refl, not-suc-le-zero}
use native.Mathlib.Omega.{arith}
use lib.ListN.{length}
use lib.Dec.{eqb}
use borrow.Author.Tests.{eq-eqb, eqb-true}
use Rattle.spec.specs.declared.Triple.{Triple}
use Rattle.spec.specs.Terms.{triple}
use Rattle.spec.specs.Lists.{select}
use Rattle.spec.specs.Rules.{Reach, stay, step}
use Rattle.spec.specs.computed.Carried.{leaves, objects, steps, spread, reach}
use Rattle.spec.specs.inside.Comparison.{triple_eq}
use Rattle.spec.specs.inside.Entailment.{ReachFrom}
use Rattle.spec.proofs.Lists.{true-not_false, cond_elim, any_in, any_out, select_in, select_out}
use Rattle.spec.proofs.Order.{of_subject, of_property, of_object}
use Rattle.spec.proofs.Ascending.{and_left, and_right}

-- ---- `objects`

-- t is a statement of property k whose subject is one of xs.
abbrev FromOne : ℕ → List ℕ → Triple → Type 0
FromOne k xs t = (t.property ≡ k) × Memᴰ t.subject xs

-- The test decides it.
leaves_in : (k : ℕ) (xs : List ℕ) (t : Triple) → FromOne k xs t → leaves k xs t ≡ true
unfolding leaves
leaves_in k xs t h = rw (eq-eqb t.property k h.0) (any_in (eqb t.subject) t.subject (eq-eqb t.subject) (eqb-true t.subject) xs h.1)

leaves_out : (k : ℕ) (xs : List ℕ) (t : Triple) → leaves k xs t ≡ true → FromOne k xs t
unfolding leaves
leaves_out k xs t e =
    (eqb-true t.property k (and_left _ _ e), any_out (eqb t.subject) t.subject (eq-eqb t.subject) (eqb-true t.subject) xs (and_right (eqb t.property k) _ e))

-- A statement of property k leads from one of xs to c.
pub record StepFrom (S : List Triple) (k : ℕ) (xs : List ℕ) (c : ℕ) : Type 0 where
  pub start : ℕ
  pub listed : Memᴰ start xs
  pub stated : Memᴰ (triple start k c) S

-- The object of such a statement is listed.
pub objects_in : (S : List Triple) (k : ℕ) (xs : List ℕ) (c q : ℕ) → Memᴰ q xs → Memᴰ (triple q k c) S → Memᴰ c (objects S k xs)
unfolding objects
objects_in S k xs c q i m = Memᴰ.map (λ (t : Triple). t.object) (select_in (leaves k xs) S m (leaves_in k xs (triple q k c) (refl, i)))

-- Only such objects are listed.
pub objects_out : (S : List Triple) (k : ℕ) (xs : List ℕ) (c : ℕ) → Memᴰ c (objects S k xs) → StepFrom S k xs c
unfolding objects
objects_out S k xs c m =
    let r = Memᴰ.of_map (λ (t : Triple). t.object) (select (leaves k xs) S) m in
    let s = select_out (leaves k xs) S r.1 in
    let h = leaves_out k xs r.0 s.1 in
    record { start = r.0.subject; listed = h.1; stated = Memᴰ.cast (triple_eq (triple r.0.subject k c) r.0 refl (sym h.0) (sym r.2)) s.0 }

-- `objects` lists exactly the objects of the statements of property k whose subject is one of xs.
pub objects_iff : (S : List Triple) (k : ℕ) (xs : List ℕ) (c : ℕ) → Memᴰ c (objects S k xs) ↔ StepFrom S k xs c
objects_iff S k xs c = (objects_out S k xs c, λ r. objects_in S k xs c r.start r.listed r.stated)

-- ---- what `steps` gives

-- What holds of all of xs, and along each statement, holds of all that the rounds add.
steps_sound : (k : ℕ) (Q : ℕ → Type 0) (n : ℕ) (S : List Triple) (xs : List ℕ) → ((t : Triple) → Memᴰ t S → t.property ≡ k → Q t.subject → Q t.object)
    → ((b : ℕ) → Memᴰ b xs → Q b) → (b : ℕ) → Memᴰ b (steps n S k xs) → Q b
unfolding steps
steps_sound k Q zero S xs al ea = ea
steps_sound k Q (suc n) S xs al ea =
    steps_sound k Q n S (xs ++ objects S k xs) al
    (λ b m. ⊎_elim (ea b) (λ i. let r = objects_out S k xs b i in al (triple r.start k b) r.stated refl (ea r.start r.listed)) (Memᴰ.append_cases xs m))

-- What was there stays.
steps_kept : (n : ℕ) (S : List Triple) (k : ℕ) (xs : List ℕ) {b : ℕ} → Memᴰ b xs → Memᴰ b (steps n S k xs)
unfolding steps
steps_kept zero S k xs m = m
steps_kept (suc n) S k xs m = steps_kept n S k (xs ++ objects S k xs) (Memᴰ.append_left (objects S k xs) m)

-- ---- that so many rounds are enough: while a statement leaves what is seen, its object is seen and the statement struck out

-- A statement taken out of a list, with the others; or none.
data Pull : Type 0 where
  none : Pull
  took : Triple → List Triple → Pull

-- The same, with t kept among the others.
keep : Triple → Pull → Pull
keep t none = none
keep t (took u R) = took u (t ∷ R)

-- The first statement that leaves xs, and the others.
pull : ℕ → List ℕ → List Triple → Pull
pull k xs [] = none
pull k xs (t ∷ S) = cond (leaves k xs t) (took t S) (keep t (pull k xs S))

-- f of what was taken, or x.
after_pull : {A : Type 0} → Pull → A → (Triple → List Triple → A) → A
after_pull none x f = x
after_pull (took t R) x f = f t R

-- What is seen after at most n such turns.
explore : ℕ → ℕ → List Triple → List ℕ → List ℕ
explore k zero S seen = seen
explore k (suc n) S seen = after_pull (pull k seen S) seen (λ t R. explore k n R (t.object ∷ seen))

-- t was taken out of S and leaves what is seen; R is the rest.
record Took (k : ℕ) (seen : List ℕ) (S : List Triple) (t : Triple) (R : List Triple) : Type 0 where
  leaving : FromOne k seen t
  there : Memᴰ t S
  left : (u : Triple) → Memᴰ u R → Memᴰ u S
  all : (u : Triple) → Memᴰ u S → (u ≡ t) ⊎ Memᴰ u R
  shorter : length S ≡ suc (length R)

-- What an outcome says of the statements.
abbrev Pulled : ℕ → List ℕ → List Triple → Pull → Type 0
Pulled k seen S none = (t : Triple) → Memᴰ t S → ¬ FromOne k seen t
Pulled k seen S (took t R) = Took k seen S t R

-- Keeping a statement that does not leave what is seen.
keep_spec : (k : ℕ) (seen : List ℕ) (t : Triple) (S : List Triple) (r : Pull) → ¬ FromOne k seen t → Pulled k seen S r → Pulled k seen (t ∷ S) (keep t r)
unfolding keep
keep_spec k seen t S none n h = λ u m i. ⊎_elim (λ (q : u ≡ t). n (sym (of_property q) ∙ i.0, Memᴰ.cast (sym (of_subject q)) i.1)) (λ m'. h u m' i) (Memᴰ.cases_cons m)
keep_spec k seen t S (took v R) n h =
    record {
      leaving = h.leaving;
      there = Memᴰ.tail h.there;
      left = λ u m. ⊎_elim Memᴰ.head (λ m'. Memᴰ.tail (h.left u m')) (Memᴰ.cases_cons m);
      all = λ u m. ⊎_elim (λ e. inr (Memᴰ.head e)) (λ m'. ⊎_elim inl (λ j. inr (Memᴰ.tail j)) (h.all u m')) (Memᴰ.cases_cons m);
      shorter = ap suc h.shorter;
    }

-- `pull` takes a statement that leaves what is seen, if there is one.
pull_spec : (k : ℕ) (seen : List ℕ) (S : List Triple) → Pulled k seen S (pull k seen S)
unfolding pull
pull_spec k seen [] = λ t m i. Memᴰ.not-nil m
pull_spec k seen (t ∷ S) =
    cond_elim (Pulled k seen (t ∷ S)) (leaves k seen t)
    (λ l. record { leaving = leaves_out k seen t l; there = Memᴰ.head refl; left = λ u j. Memᴰ.tail j; all = λ u j. Memᴰ.cases_cons j; shorter = refl })
    (λ n. keep_spec k seen t S (pull k seen S) (λ l. true-not_false (sym (leaves_in k seen t l) ∙ n)) (pull_spec k seen S))

-- What holds in both outcomes holds after the pull.
after_pull_elim : {A : Type 0} (Q : A → Type 0) (k : ℕ) (seen : List ℕ) (S : List Triple) (x : A) (f : Triple → List Triple → A)
    → (((t : Triple) → Memᴰ t S → ¬ FromOne k seen t) → Q x)
    → ((t : Triple) (R : List Triple) → Took k seen S t R → Q (f t R))
    → Q (after_pull (pull k seen S) x f)
unfolding after_pull
after_pull_elim Q k seen S x f a b = go (pull k seen S) (pull_spec k seen S)
  where
    go : (r : Pull) → Pulled k seen S r → Q (after_pull r x f)
    go none h = a h
    go (took t R) h = b t R h

-- All that is seen is explored.
explore_kept : (k b n : ℕ) (S : List Triple) (seen : List ℕ) → Memᴰ b seen → Memᴰ b (explore k n S seen)
unfolding explore
explore_kept k b zero S seen m = m
explore_kept k b (suc n) S seen m = after_pull_elim (Memᴰ b) k seen S _ _ (λ _. m) (λ t R h. explore_kept k b n R (t.object ∷ seen) (Memᴰ.tail m))

-- A list that is closed under the statements of property k of S.
abbrev Closed : ℕ → List Triple → List ℕ → Type 0
Closed k S xs = (t : Triple) → Memᴰ t S → t.property ≡ k → Memᴰ t.subject xs → Memᴰ t.object xs

-- With as many turns as there are statements, what is explored is closed.
explore-closed : (k n : ℕ) (S : List Triple) (seen : List ℕ) → length S ≤ n → Closed k S (explore k n S seen)
unfolding explore
explore-closed k zero [] seen l = λ t m e i. absurd (Memᴰ.not-nil m)
explore-closed k zero (x ∷ S) seen l = λ t m e i. absurd (not-suc-le-zero l)
explore-closed k (suc n) S seen l =
    after_pull_elim (Closed k S) k seen S _ _
    (λ h t m e i. absurd (h t m (e, i)))
    (λ u R h t m e i.
    ⊎_elim (λ (q : t ≡ u). explore_kept k t.object n R (u.object ∷ seen) (Memᴰ.head (of_object q)))
    (λ j. explore-closed k n R (u.object ∷ seen) (omega (arith, h.shorter)) t j e i)
    (h.all t m))

-- What n turns explore, n rounds of steps add.
explore-within : (k b n : ℕ) (S R : List Triple) (seen xs : List ℕ) → ((u : Triple) → Memᴰ u R → Memᴰ u S) → ((c : ℕ) → Memᴰ c seen → Memᴰ c xs)
    → Memᴰ b (explore k n R seen) → Memᴰ b (steps n S k xs)
unfolding explore steps
explore-within k b zero S R seen xs f g = g b
explore-within k b (suc n) S R seen xs f g =
    after_pull_elim (λ (ys : List ℕ). Memᴰ b ys → Memᴰ b (steps n S k (xs ++ objects S k xs))) k seen R _ _
    (λ _ m. steps_kept n S k (xs ++ objects S k xs) (Memᴰ.append_left (objects S k xs) (g b m)))
    (λ t Q h. explore-within k b n S Q (t.object ∷ seen) (xs ++ objects S k xs) (λ u m. f u (h.left u m))
    (λ c m. ⊎_elim
    (λ e. Memᴰ.append_right xs (objects_in S k xs c t.subject (g t.subject h.leaving.1)
    (Memᴰ.cast (triple_eq (triple t.subject k c) t refl (sym h.leaving.0) e) (f t h.there))))
    (λ i. Memᴰ.append_left (objects S k xs) (g c i))
    (Memᴰ.cases_cons m)))

-- ---- the theorems

-- One step more.
pub from_step : {S : List Triple} {k : ℕ} {xs : List ℕ} {b c : ℕ} → Memᴰ (triple b k c) S → ReachFrom S k xs b → ReachFrom S k xs c
from_step m f = record { start = f.start; listed = f.listed; path = step f.path m }

-- What is reached from a member of a closed list is in that list.
reach-listed : {S : List Triple} {k a b : ℕ} {ys : List ℕ} → Closed k S ys → Memᴰ a ys → Reach S k a b → Memᴰ b ys
reach-listed c m stay = m
reach-listed c m (step r s) = c _ s refl (reach-listed c m r)

-- `spread` lists exactly what is reached from one of xs.
pub spread_iff : (S : List Triple) (k : ℕ) (xs : List ℕ) (b : ℕ) → Memᴰ b (spread S k xs) ↔ ReachFrom S k xs b
unfolding spread
spread_iff S k xs b = (
  λ m. steps_sound k (ReachFrom S k xs) _ S xs (λ t j e f. from_step (Memᴰ.cast (triple_eq (triple t.subject k t.object) t refl (sym e) refl) j) f)
      (λ c j. record { start = c; listed = j; path = stay }) b m,
  λ f. explore-within k b (length S) S S xs xs (λ u m. m) (λ c m. m)
      (reach-listed (explore-closed k (length S) S xs (le_refl (length S))) (explore_kept k f.start (length S) S xs f.listed) f.path),
)

-- `reach` lists exactly what is reached from a, for every property k.
pub reach_iff : (S : List Triple) (k a b : ℕ) → Memᴰ b (reach S k a) ↔ Reach S k a b
unfolding reach
reach_iff S k a b = (
  λ m. let f = (spread_iff S k (a ∷ []) b).0 m in rw (Memᴰ.eq_of_singleton f.listed) at f.path,
  λ r. (spread_iff S k (a ∷ []) b).1 (record { start = a; listed = Memᴰ.head refl; path = r }),
)
