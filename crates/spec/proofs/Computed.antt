-- What is computed is what the definitions say in the papers' own words: one theorem for each file of specs/computed. A strictly ascending list,
-- or an ordered set of rows, is fixed by its members (`ascending_ext`, `ordered_ext`). Assumes nothing.
use Prim.Native.Nat.{ℕ}
use mathlib.Core.Path.{◌≡◌, refl, sym, ◌∙◌}
use mathlib.Core.Bool.{true}
use mathlib.Core.Logic.{◌↔◌}
use mathlib.Core.List.{List, [], ◌∷◌, ◌++◌, Memᴰ}
use lib.ListN.{length}
use Rattle.spec.specs.declared.Triple.{Triple}
use Rattle.spec.specs.Terms.{triple, is_statement, is_allowed_statement, is_allowed_fact}
use Rattle.spec.specs.Rows.{ordered}
use Rattle.spec.specs.Order.{is_ascending, ListOf}
use Rattle.spec.specs.Rules.{Follows, FollowsAsFact, Carries}
use Rattle.spec.specs.Questions.{IsAnswer}
use Rattle.spec.specs.Alternatives.{IsAlternative}
use Rattle.spec.specs.Demand3.{Supported, none, row}
use Rattle.spec.specs.computed.Carried.{carried, carriers}
use Rattle.spec.specs.Saturation.{Kept, kept_rows, kept_supports}
use Rattle.spec.specs.computed.Saturated.{saturation}
use Rattle.spec.specs.computed.Closed.{closed}
use Rattle.spec.specs.computed.Solutions.{answers}
use Rattle.spec.specs.computed.Reformulated.{alternatives}
use Rattle.spec.proofs.Ascending.{is_ascending_iff}
use Rattle.spec.proofs.Entailment.{allowed_no_vocabulary}
use Rattle.spec.proofs.Follows.{carries_iff, follows_fact_iff, follows_statement_iff}
use Rattle.spec.proofs.Closed.{closed_iff}
use Rattle.spec.proofs.Carried.{carried_ascends, carried_iff}
use Rattle.spec.proofs.Saturation.{saturation_counts, saturation-support, support_is, carriers_iff, carriers-ascend, saturation_kept, saturation_ascends}
use Rattle.spec.proofs.Kept.{lookup_entry}
use Rattle.spec.proofs.Meaning.{HeadStands, answers_iff}
use Rattle.spec.proofs.AnswerLaws.{answers-ordered}
use Rattle.spec.proofs.Alternatives.{alternatives_iff, alternatives-ascend}

-- Rows whose supports are the numbers of their carriers.
supported-rows : (S F : List Triple) (k : Kept) → ((t : Triple) → ListOf (λ f. Memᴰ f F × Carries S f t) (carriers S F t)) → ((e : Triple × ℕ) → Memᴰ e k → e.1 ≡ length (carriers S F e.0)) → Supported S F (kept_rows k) (kept_supports k)
supported-rows S F [] c h = none
supported-rows S F (e ∷ k) c h = rw (h e (Memᴰ.head refl)) (row (c e.0) (supported-rows S F k c (λ g m. h g (Memᴰ.tail m))))

module _ {S : List Triple} (allowed : (u : Triple) → Memᴰ u S → is_allowed_statement u ≡ true) where
  -- What `carried` lists ascends, and is exactly what an allowed fact carries under allowed statements.
  pub carried_is : (f : Triple) → is_allowed_fact f ≡ true → ListOf (Carries S f) (carried S f)
  carried_is f e = record {
    ascend = (is_ascending_iff (carried S f)).1 (carried_ascends S f);
    exactly = λ t.
        let c = carried_iff S f t (allowed_no_vocabulary S allowed) in
        let h = carries_iff allowed f t e in
        (λ m. h.1 (c.0 m), λ k. c.1 (h.0 k));
  }

  -- What `carriers` lists ascends, and is exactly those of some allowed facts that carry a row.
  pub carriers_are : (F : List Triple) → is_ascending F ≡ true → ((u : Triple) → Memᴰ u F → is_allowed_fact u ≡ true) → (t : Triple)
      → ListOf (λ f. Memᴰ f F × Carries S f t) (carriers S F t)
  carriers_are F a e t = record {
    ascend = (is_ascending_iff (carriers S F t)).1 (carriers-ascend S F t ((is_ascending_iff F).0 a));
    exactly = λ f.
        let c = carriers_iff S F t f (allowed_no_vocabulary S allowed) in (
          λ m. let r = c.0 m in (r.0, (carries_iff allowed f t (e f r.0)).1 r.1),
          λ h. c.1 (h.0, (carries_iff allowed f t (e f h.0)).0 h.1),
        );
  }

  -- What `saturation` keeps is exactly the facts that follow from allowed statements and facts, ascending, each with the number of the facts that
  -- carry it.
  pub saturation_is : (F : List Triple) → is_ascending F ≡ true → ((u : Triple) → Memᴰ u F → is_allowed_fact u ≡ true)
      → ListOf (FollowsAsFact (S ++ F)) (kept_rows (saturation S F)) × Supported S F (kept_rows (saturation S F)) (kept_supports (saturation S F))
  saturation_is F a e = (
    record {
      ascend = (is_ascending_iff (kept_rows (saturation S F))).1 (saturation_ascends S F);
      exactly = λ t.
          let k = saturation_kept S F t (allowed_no_vocabulary S allowed) in
          let f = follows_fact_iff allowed e t in
          (λ m. f.1 (k.0 m), λ h. k.1 (f.0 h));
    },
    supported-rows S F (saturation S F) (carriers_are F a e)
        (λ g m. sym (lookup_entry (saturation S F) g (saturation_counts S F) m) ∙ saturation-support S F g.0 ∙ support_is S F g.0),
  )

  -- What `closed` lists is exactly the statements that follow from allowed statements, whatever allowed facts stand beside them.
  pub closed_is : (F : List Triple) → ((u : Triple) → Memᴰ u F → is_allowed_fact u ≡ true) → (t : Triple) → Memᴰ t (closed S) ↔ (Follows (S ++ F) t × (is_statement t ≡ true))
  closed_is F e t =
      let c = closed_iff S t in
      let f = follows_statement_iff allowed e t in
      (λ m. f.1 (c.0 m), λ h. c.1 (f.0 h))

-- What `answers` lists is an ordered set, and exactly the answers among the triples G, where each head word is a variable that stands in an atom.
pub answers_are : (G ps : List Triple) (vs : List ℕ) → HeadStands ps vs
    → (ordered (answers G ps vs) ≡ answers G ps vs) × ((row : List ℕ) → Memᴰ row (answers G ps vs) ↔ IsAnswer (λ t. Memᴰ t G) ps vs row)
answers_are G ps vs h = (answers-ordered G ps vs, λ row. answers_iff G ps vs row h)

-- What `alternatives` lists ascends, and is exactly the alternatives of an atom under the statements S.
pub alternatives_are : (S : List Triple) (a : Triple) → (is_ascending (alternatives S a) ≡ true) × ((k s t : ℕ) → Memᴰ (triple k s t) (alternatives S a) ↔ IsAlternative S a k s t)
alternatives_are S a = ((is_ascending_iff (alternatives S a)).1 (alternatives-ascend S a), alternatives_iff S a)
