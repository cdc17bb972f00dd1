-- The saturation: its supports, what it keeps, and that raising and lowering give what working out afresh gives. Assumes nothing.
use mathlib.Core.Path.{◌≡◌, refl, sym, ◌∙◌}
use mathlib.Core.Bool.{Bool, true, false, cond}
use mathlib.Core.List.{List, [], ◌∷◌, Memᴰ}
use mathlib.Core.Logic.{⊎_elim, by_cases, ◌↔◌}
use Prim.Native.Nat.{ℕ, ◌+◌, ◌-◌, ◌≤◌, ◌<◌}
use native.Mathlib.Omega.{arith}
use lib.ListN.{length}
use Rattle.spec.specs.declared.Triple.{Triple}
use Rattle.spec.specs.Terms.{is_allowed_statement, is_allowed_fact}
use Rattle.spec.specs.Lists.{select}
use Rattle.spec.specs.Order.{is_in, insert, remove}
use Rattle.spec.specs.inside.Comparison.{equal_triples, Ascending}
use Rattle.spec.proofs.Lists.{cond_elim, select_in, select_out, select-length}
use Rattle.spec.proofs.Tests.{order_elim, same_elim, is_in_iff, is_in_elim}
use Rattle.spec.proofs.Ascending.{select_asc}
use Rattle.spec.specs.inside.Entailment.{Holds, HoldsBy, NoVocabulary}
use Rattle.spec.specs.Saturation.{Kept, raise_all, lower_all, kept_rows, kept_supports}
use Rattle.spec.specs.computed.Saturated.{saturation}
use Rattle.spec.specs.computed.Carried.{carried, carriers, support}
use Rattle.spec.proofs.Sets.{Distinct, ascending-distinct}
use Rattle.spec.proofs.Entailment.{holds_iff-carried, holds_mono, holds_allowed, allowed_no_vocabulary}
use Rattle.spec.proofs.Carried.{carried_ascends, carried_iff}
use Rattle.spec.specs.inside.Counts.{Counts, lookup}
use Rattle.spec.proofs.Kept.{one, lookup_nil, one_yes, one_no, raise_counts, lower_counts, lookup-raise, lookup-lower, raise-length, lower-length, kept_ext, kept_shorter, kept_ascends, kept_positive, lookup_kept, support_of}

-- ---- many rows raised, many lowered

-- 1 if u is one of ts, else 0.
abbrev pub among : Triple → List Triple → ℕ
among u ts = cond (is_in u ts) 1 0

-- It is at most 1.
pub among-bound : (u : Triple) (ts : List Triple) → among u ts ≤ 1
among-bound u ts = cond_elim (λ (n : ℕ). n ≤ 1) (is_in u ts) (λ _. omega arith) (λ _. omega arith)

-- How often u stands in a list.
count : Triple → List Triple → ℕ
count u [] = 0
count u (t ∷ ts) = one u t + count u ts

-- What is not there does not count,
count_absent : (u : Triple) (ts : List Triple) → ¬ Memᴰ u ts → count u ts ≡ 0
unfolding count
count_absent u [] n = refl
count_absent u (t ∷ ts) n = omega (arith, one_no u t (λ e. n (mathlib.Core.List.Memᴰ.head e)), count_absent u ts (λ m. n (mathlib.Core.List.Memᴰ.tail m)))

-- and what is there counts once where nothing stands twice.
count-present : (u : Triple) (ts : List Triple) → Distinct ts → Memᴰ u ts → count u ts ≡ 1
unfolding count
count-present u [] d m = absurd (mathlib.Core.List.Memᴰ.not-nil m)
count-present u (t ∷ ts) d m =
    by_cases (equal_triples u t)
    (λ e. omega (arith, one_yes u t e, count_absent u ts (λ j. d.0 (mathlib.Core.List.Memᴰ.cast (sym e) j))))
    (λ n. omega (arith, one_no u t n, count-present u ts d.1 (⊎_elim (λ e. absurd (n e)) (λ j. j) (mathlib.Core.List.Memᴰ.cases_cons m))))

-- In an ascending list it stands once or not at all.
count_among : (u : Triple) (ts : List Triple) → Ascending ts → count u ts ≡ among u ts
count_among u ts a = is_in_elim (λ (n : ℕ). count u ts ≡ n) u ts (count-present u ts (ascending-distinct ts a)) (count_absent u ts)

-- Raising keeps the order and the supports above 0.
pub raise_all_counts : (ts : List Triple) (k : Kept) → Counts k → Counts (raise_all ts k)
unfolding raise_all
raise_all_counts [] k a = a
raise_all_counts (t ∷ ts) k a = raise_counts t (raise_all ts k) (raise_all_counts ts k a)

-- Lowering does, too.
pub lower_all_counts : (ts : List Triple) (k : Kept) → Counts k → Counts (lower_all ts k)
unfolding lower_all
lower_all_counts [] k a = a
lower_all_counts (t ∷ ts) k a = lower_counts t (lower_all ts k) (lower_all_counts ts k a)

-- Raising drops no row, and adds at most the rows raised.
pub raise_all-length : (ts : List Triple) (k : Kept) → (length k ≤ length (raise_all ts k)) × (length (raise_all ts k) ≤ length ts + length k)
unfolding raise_all
raise_all-length [] k = omega arith
raise_all-length (t ∷ ts) k = omega (arith, raise-length t (raise_all ts k), raise_all-length ts k)

-- Lowering adds no row.
pub lower_all-length : (ts : List Triple) (k : Kept) → length (lower_all ts k) ≤ length k
unfolding lower_all
lower_all-length [] k = omega arith
lower_all-length (t ∷ ts) k = omega (arith, lower-length t (lower_all ts k), lower_all-length ts k)

-- Raising adds to a support as often as the row is raised,
raise_all-count : (ts : List Triple) (k : Kept) (u : Triple) → Counts k → lookup (raise_all ts k) u ≡ count u ts + lookup k u
unfolding raise_all count
raise_all-count [] k u a = omega arith
raise_all-count (t ∷ ts) k u a = omega (arith, lookup-raise t (raise_all ts k) u (raise_all_counts ts k a), raise_all-count ts k u a)

-- and lowering takes from it as often.
lower_all-count : (ts : List Triple) (k : Kept) (u : Triple) → Counts k → lookup (lower_all ts k) u ≡ lookup k u - count u ts
unfolding lower_all count
lower_all-count [] k u a = omega arith
lower_all-count (t ∷ ts) k u a = omega (arith, lookup-lower t (lower_all ts k) u (lower_all_counts ts k a), lower_all-count ts k u a)

-- Raising ascending rows gives each of them one support more, and changes no other.
pub lookup-raise_all : (ts : List Triple) (k : Kept) (u : Triple) → Ascending ts → Counts k → lookup (raise_all ts k) u ≡ among u ts + lookup k u
lookup-raise_all ts k u o a = omega (arith, raise_all-count ts k u a, count_among u ts o)

-- Lowering ascending rows gives each of them that is kept one support less, and changes no other.
pub lookup-lower_all : (ts : List Triple) (k : Kept) (u : Triple) → Ascending ts → Counts k → lookup (lower_all ts k) u ≡ lookup k u - among u ts
lookup-lower_all ts k u o a = omega (arith, lower_all-count ts k u a, count_among u ts o)

-- ---- the supports of the saturation

-- The saturation ascends, with supports above 0.
pub saturation_counts : (S F : List Triple) → Counts (saturation S F)
unfolding saturation
saturation_counts S [] = tt
saturation_counts S (f ∷ F) = raise_all_counts _ (saturation S F) (saturation_counts S F)

-- One fact more in front.
saturation-cons : (S : List Triple) (f : Triple) (F : List Triple) (u : Triple) → lookup (saturation S (f ∷ F)) u ≡ among u (carried S f) + lookup (saturation S F) u
unfolding saturation
saturation-cons S f F u = lookup-raise_all (carried S f) (saturation S F) u (carried_ascends S f) (saturation_counts S F)

-- No fact, no support.
pub support_nil : (S : List Triple) (t : Triple) → support S [] t ≡ 0
unfolding support carriers select
support_nil S t = refl

-- What is listed counts 1.
listed-length : (b : Bool) (f : Triple) (l : List Triple) → length (cond b (f ∷ l) l) ≡ cond b 1 0 + length l
listed-length true f l = omega arith
listed-length false f l = omega arith

-- One fact more in front adds 1 to what it carries.
pub support-cons : (S : List Triple) (f : Triple) (F : List Triple) (t : Triple) → support S (f ∷ F) t ≡ among t (carried S f) + support S F t
unfolding support carriers select
support-cons S f F t = listed-length (is_in t (carried S f)) f (select (λ g. is_in t (carried S g)) F)

-- Each row has its support, and a row that is not kept has none.
pub saturation-support : (S F : List Triple) (t : Triple) → lookup (saturation S F) t ≡ support S F t
unfolding saturation
saturation-support S [] t = lookup_nil t ∙ sym (support_nil S t)
saturation-support S (f ∷ F) t = omega (arith, saturation-cons S f F t, saturation-support S F t, support-cons S f F t)

-- The saturation is the only such list.
pub saturation_unique : (S F : List Triple) (k : Kept) → Counts k → ((t : Triple) → lookup k t ≡ support S F t) → k ≡ saturation S F
saturation_unique S F k a h = kept_ext k (saturation S F) a (saturation_counts S F) (λ t. h t ∙ sym (saturation-support S F t))

-- ---- the support is the number of the facts that carry the row

-- A fact that lists t is a carrier.
carriers_in : (S F : List Triple) (t f : Triple) → Memᴰ f F → Memᴰ t (carried S f) → Memᴰ f (carriers S F t)
unfolding carriers
carriers_in S F t f m i = select_in (λ g. is_in t (carried S g)) F m ((is_in_iff t (carried S f)).1 i)

-- A carrier is a fact that lists t.
carriers_out : (S F : List Triple) (t f : Triple) → Memᴰ f (carriers S F t) → Memᴰ f F × Memᴰ t (carried S f)
unfolding carriers
carriers_out S F t f m = let r = select_out (λ g. is_in t (carried S g)) F m in (r.0, (is_in_iff t (carried S f)).0 r.1)

-- The support is the number of the carriers,
pub support_is : (S F : List Triple) (t : Triple) → support S F t ≡ length (carriers S F t)
unfolding support
support_is S F t = refl

-- which are exactly the facts of F that carry t,
pub carriers_iff : (S F : List Triple) (t f : Triple) → NoVocabulary S → Memᴰ f (carriers S F t) ↔ (Memᴰ f F × HoldsBy S f t)
carriers_iff S F t f w = (λ m. let r = carriers_out S F t f m in (r.0, (carried_iff S f t w).0 r.1), λ h. carriers_in S F t f h.0 ((carried_iff S f t w).1 h.1))

-- ascending as in F, each once,
pub carriers-ascend : (S F : List Triple) (t : Triple) → Ascending F → Ascending (carriers S F t)
unfolding carriers
carriers-ascend S F t a = select_asc (λ f. is_in t (carried S f)) F a

-- and so at most the number of facts.
pub support-bound : (S F : List Triple) (t : Triple) → support S F t ≤ length F
unfolding support carriers
support-bound S F t = select-length (λ f. is_in t (carried S f)) F

-- Each support of the saturation lies between 1 and the number of facts.
pub saturation_supports : (S F : List Triple) (n : ℕ) → Memᴰ n (kept_supports (saturation S F)) → (0 < n) × (n ≤ length F)
saturation_supports S F n m =
    let r = support_of (saturation S F) n (saturation_counts S F) m in
    (kept_positive (saturation S F) (saturation_counts S F) n m, omega (arith, r.supported, saturation-support S F r.row, support-bound S F r.row))

-- ---- the rows that are kept are the rows that hold

-- A list that is not empty has a member,
first_of : (l : List Triple) → 0 < length l → (f : Triple) × Memᴰ f l
first_of [] h = absurd (omega arith)
first_of (f ∷ l) h = (f, mathlib.Core.List.Memᴰ.head refl)

-- and one with a member is not empty.
not_empty : {f : Triple} (l : List Triple) → Memᴰ f l → 0 < length l
not_empty [] m = absurd (mathlib.Core.List.Memᴰ.not-nil m)
not_empty (g ∷ l) m = omega arith

-- A row has a support exactly if it holds.
pub support_holds : (S F : List Triple) (t : Triple) → NoVocabulary S → (0 < support S F t) ↔ Holds S F t
support_holds S F t w = (
  λ h.
      let r = first_of (carriers S F t) (omega (arith, support_is S F t)) in
      let c = (carriers_iff S F t r.0 w).0 r.1 in
      (holds_iff-carried S F t).1 (record { fact = r.0; explicit_fact = c.0; carries = c.1 }),
  λ h. let c = (holds_iff-carried S F t).0 h in omega (arith, support_is S F t, not_empty (carriers S F t) ((carriers_iff S F t c.fact w).1 (c.explicit_fact, c.carries))),
)

-- A row has a support in the saturation exactly if it holds.
pub saturation_holds : (S F : List Triple) (t : Triple) → NoVocabulary S → (0 < lookup (saturation S F) t) ↔ Holds S F t
saturation_holds S F t w = rw saturation-support (support_holds S F t w)

-- The rows of the saturation are exactly the facts that hold.
pub saturation_kept : (S F : List Triple) (t : Triple) → NoVocabulary S → Memᴰ t (kept_rows (saturation S F)) ↔ Holds S F t
saturation_kept S F t w =
    let k = lookup_kept (saturation S F) t (saturation_counts S F) in
    let h = saturation_holds S F t w in
    (λ m. h.0 (k.1 m), λ d. k.0 (h.1 d))

-- They ascend,
pub saturation_ascends : (S F : List Triple) → Ascending (kept_rows (saturation S F))
saturation_ascends S F = kept_ascends (saturation S F) (saturation_counts S F)

-- and each is an allowed fact, where the statements and the facts are allowed.
pub saturation_allowed : (S F : List Triple) → ((u : Triple) → Memᴰ u S → is_allowed_statement u ≡ true) → ((u : Triple) → Memᴰ u F → is_allowed_fact u ≡ true)
    → (t : Triple) → Memᴰ t (kept_rows (saturation S F)) → is_allowed_fact t ≡ true
saturation_allowed S F v w t m = holds_allowed v w ((saturation_kept S F t (allowed_no_vocabulary S v)).0 m)

-- ---- a fact more, a fact less

-- A new fact adds to the supports of what it carries.
insert-support : (S : List Triple) (f : Triple) (F : List Triple) (u : Triple) → ¬ Memᴰ f F → lookup (saturation S (insert f F)) u ≡ among u (carried S f) + lookup (saturation S F) u
unfolding insert
insert-support S f [] u n = saturation-cons S f [] u
insert-support S f (g ∷ F) u n =
    order_elim (λ (r : List Triple). lookup (saturation S r) u ≡ among u (carried S f) + lookup (saturation S (g ∷ F)) u) f g
    (λ _. saturation-cons S f (g ∷ F) u)
    (λ q. absurd (n (mathlib.Core.List.Memᴰ.head q)))
    (λ _. omega (arith, saturation-cons S g (insert f F) u, saturation-cons S g F u, insert-support S f F u (λ m. n (mathlib.Core.List.Memᴰ.tail m))))

-- A fact that goes takes from the supports of what it carried.
remove-support : (S : List Triple) (f : Triple) (F : List Triple) (u : Triple) → Memᴰ f F → lookup (saturation S F) u ≡ among u (carried S f) + lookup (saturation S (remove f F)) u
unfolding remove
remove-support S f [] u m = absurd (mathlib.Core.List.Memᴰ.not-nil m)
remove-support S f (g ∷ F) u m =
    same_elim (λ (r : List Triple). lookup (saturation S (g ∷ F)) u ≡ among u (carried S f) + lookup (saturation S r) u) f g
    (λ q. rw q (saturation-cons S g F u))
    (λ n. omega (arith, saturation-cons S g (remove f F) u, saturation-cons S g F u, remove-support S f F u (⊎_elim (λ e. absurd (n e)) (λ j. j) (mathlib.Core.List.Memᴰ.cases_cons m))))

-- Raising what a new fact carries gives the saturation worked out afresh,
pub raise-saturation : (S F : List Triple) (f : Triple) → ¬ Memᴰ f F → raise_all (carried S f) (saturation S F) ≡ saturation S (insert f F)
raise-saturation S F f n =
    kept_ext (raise_all (carried S f) (saturation S F)) (saturation S (insert f F))
    (raise_all_counts (carried S f) (saturation S F) (saturation_counts S F)) (saturation_counts S (insert f F))
    (λ u. lookup-raise_all (carried S f) (saturation S F) u (carried_ascends S f) (saturation_counts S F) ∙ sym (insert-support S f F u n))

-- and so does lowering what a withdrawn fact carried.
pub lower-saturation : (S F : List Triple) (f : Triple) → Memᴰ f F → lower_all (carried S f) (saturation S F) ≡ saturation S (remove f F)
lower-saturation S F f m =
    kept_ext (lower_all (carried S f) (saturation S F)) (saturation S (remove f F))
    (lower_all_counts (carried S f) (saturation S F) (saturation_counts S F)) (saturation_counts S (remove f F))
    (λ u. omega (arith, lookup-lower_all (carried S f) (saturation S F) u (carried_ascends S f) (saturation_counts S F), remove-support S f F u m))

-- ---- fewer statements, no more rows

-- What implies more counts no more.
bit_le : (a b : Bool) → (a ≡ true → b ≡ true) → cond a 1 0 ≤ cond b 1 0
bit_le true b f = rw (f refl) (omega arith)
bit_le false b f = omega arith

-- Fewer statements give no fact a greater support,
pub support_mono : (R S F : List Triple) (t : Triple) → NoVocabulary S → ((u : Triple) → Memᴰ u R → Memᴰ u S) → support R F t ≤ support S F t
support_mono R S [] t w h = omega (arith, support_nil R t)
support_mono R S (f ∷ F) t w h =
    let wider : Memᴰ t (carried R f) → Memᴰ t (carried S f) = λ m. (carried_iff S f t w).1 (holds_mono h (λ u i. i) ((carried_iff R f t (λ u i. w u (h u i))).0 m)) in
    omega (
      arith,
      support-cons R f F t,
      support-cons S f F t,
      support_mono R S F t w h,
      bit_le (is_in t (carried R f)) (is_in t (carried S f)) (λ e. (is_in_iff t (carried S f)).1 (wider ((is_in_iff t (carried R f)).0 e))),
    )

-- and keep no more rows.
pub saturation_shorter : (R S F : List Triple) → NoVocabulary S → ((u : Triple) → Memᴰ u R → Memᴰ u S) → length (saturation R F) ≤ length (saturation S F)
saturation_shorter R S F w h =
    kept_shorter (saturation R F) (saturation S F) (saturation_counts R F) (saturation_counts S F) (λ u. simp saturation-support (support_mono R S F u w h))
