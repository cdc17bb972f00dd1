-- Whether a fact counts for a row, as the bits of the squares have it. Assumes nothing.
use mathlib.Core.Path.{◌≡◌, refl, sym, ap, ◌∙◌}
use mathlib.Core.Bool.{false}
use mathlib.Core.List.Memᴰ
use mathlib.Core.List.{List}
use mathlib.Core.Logic.{◌↔◌, ◌⊎◌, inl, inr, ⊎_elim, by_cases}
use Prim.Native.Nat.{ℕ, ◌+◌, ◌^◌, ◌≤◌, ◌<◌}
use native.Mathlib.Omega.{arith}
use native.Mathlib.Decide.{ℕ_discrete}
use Rattle.spec.specs.declared.Triple.{Triple}
use Rattle.spec.specs.Terms.{is_literal, triple}
use Rattle.spec.specs.inside.Comparison.{triple_eq, equal_triples}
use Rattle.spec.proofs.Order.{of_property, of_object}
use Rattle.spec.proofs.Tests.{is_in_elim}
use Rattle.spec.specs.inside.Entailment.{explicit, HoldsBy, NoVocabulary}
use Rattle.spec.specs.computed.Carried.{carried}
use Rattle.spec.proofs.Carried.{carried_iff}
use Rattle.spec.proofs.Kept.{one, one_yes, one_no}
use Rattle.spec.proofs.Saturation.{among}
use Rattle.saturate_schema.specs.inside.Walks.{Edge, Plus}
use Rattle.saturate_schema.specs.inside.Nodes.{property_node}
use Rattle.saturate_schema.proofs.Walks.{From}
use Rattle.saturate_schema.proofs.Meaning.{Edges, Small, key, key-type, key_other, Carry, by_class, by_property, by_object_lem, carry, no_one, not_type}
use Rattle.saturate_schema.proofs.Meaning as meaning

-- A bit that says whether f carries t is the one that the support counts.
pub bit_is : (S : List Triple) (f t : Triple) (b : ℕ) → NoVocabulary S → b ≤ 1 → ((b ≡ 1) ↔ HoldsBy S f t) → among t (carried S f) ≡ b
bit_is S f t b w le h =
    is_in_elim (λ (n : ℕ). n ≡ b) t (carried S f)
    (λ m. sym (h.1 ((carried_iff S f t w).0 m)))
    (λ n. by_cases (ℕ_discrete b 1) (λ e. absurd (n ((carried_iff S f t w).1 (h.0 e)))) (λ k. omega arith))

-- The triple itself, or by a walk, and never both.
bit-sum : (S : List Triple) (f t : Triple) (P : Type 0) (b : ℕ) → NoVocabulary S → b ≤ 1 → ((b ≡ 1) ↔ P) → (t ≡ f → ¬ P) → (HoldsBy S f t → (t ≡ f) ⊎ P) → (P → HoldsBy S f t) → among t (carried S f) ≡ one t f + b
bit-sum S f t P b w le h apart out into =
    by_cases (equal_triples t f)
    (λ e. let z : b ≡ 0 = by_cases (ℕ_discrete b 1) (λ q. absurd (apart e (h.0 q))) (λ k. omega arith) in
    bit_is S f t 1 w (omega arith) ((λ _. explicit (Memᴰ.head e)), λ _. refl) ∙ (omega (arith, one_yes t f e)))
    (λ n. bit_is S f t b w le ((λ q. into (h.0 q)), λ c. h.1 (⊎_elim (λ e. absurd (n e)) (λ p. p) (out c))) ∙ (omega (arith, one_no t f n)))

module _ (S : List Triple) (f : Triple) (small : Small S) (none : NoVocabulary S) (fo : f.object < 2 ^ 32) (D R : List Edge) (de : Edges S 4 D) (re : Edges S 5 R) where
  -- The two ways of saying what f carries.
  into : {t : Triple} → Carry f D R t → HoldsBy S f t
  into c = meaning.carried S f small none fo D R de re c

  -- And back.
  out : {t : Triple} → HoldsBy S f t → Carry f D R t
  out c = carry S f small none fo D R de re c

  -- What a fact of the subject x adds to a class c.
  abbrev pub Own : ℕ → ℕ → Type 0
  Own x c = (Plus D (key f) c × (¬ (key f ≡ c))) ⊎ ((is_literal f.object ≡ false) × (¬ (f.property ≡ 1)) × (x ≡ f.object) × Plus R (property_node f.property) c)

  -- A typing that starts its own walks is the fact itself.
  typed : (x c : ℕ) → c < 2 ^ 32 → x ≡ f.subject → c ≡ key f → triple x 1 c ≡ f
  typed x c l s e = by_cases (ℕ_discrete f.property 1) (λ h. triple_eq (triple x 1 c) f s (sym h) (e ∙ key-type f h)) (λ n. absurd (omega (arith, key_other f n)))

  -- It adds what is explicit, and one for what it leads to.
  pub bit_own : (x c b : ℕ) → c < 2 ^ 32 → x ≡ f.subject → b ≤ 1 → ((b ≡ 1) ↔ Own x c) → among (triple x 1 c) (carried S f) ≡ one (triple x 1 c) f + b
  bit_own x c b l s le h =
      bit-sum S f (triple x 1 c) (Own x c) b none le h
      (λ e z. ⊎_elim (λ w. w.1 (key-type f (sym (of_property e)) ∙ sym (of_object e))) (λ w. w.1 (sym (of_property e))) z)
      (λ k. go (out k))
      (λ z. ⊎_elim (λ w. into (by_class s refl l (inr w.0))) (λ w. into (by_object_lem w.0 w.1 w.2 refl l w.3)) z)
    where
      go : Carry f D R (triple x 1 c) → (triple x 1 c ≡ f) ⊎ Own x c
      go (by_class a p k (inl e)) = inl (typed x c l s e)
      go (by_class a p k (inr w)) = by_cases (ℕ_discrete (key f) c) (λ e. inl (typed x c l s (sym e))) (λ n. inr (inl (w, n)))
      go (by_property a o w) = absurd (no_one S f small none fo D R de re 1 refl w)
      go (by_object_lem n k a p j w) = inr (inr (n, k, a, w))

  -- A fact of another subject adds one for a class that its object x gets by range.
  pub bit_other : (x c b : ℕ) → c < 2 ^ 32 → ¬ (x ≡ f.subject) → b ≤ 1 → ((b ≡ 1) ↔ ((is_literal f.object ≡ false) × (¬ (f.property ≡ 1)) × (x ≡ f.object) × Plus R (property_node f.property) c)) → among (triple x 1 c) (carried S f) ≡ b
  bit_other x c b l s le h =
      bit_is S f (triple x 1 c) b none le
      ((λ q. let w = h.0 q in into (by_object_lem w.0 w.1 w.2 refl l w.3)), λ k. h.1 (go (out k)))
    where
      go : Carry f D R (triple x 1 c) → (is_literal f.object ≡ false) × (¬ (f.property ≡ 1)) × (x ≡ f.object) × Plus R (property_node f.property) c
      go (by_class a p k w) = absurd (s a)
      go (by_property a o w) = absurd (s a)
      go (by_object_lem n k a p j w) = (n, k, a, w)

  -- What a fact adds to a row of a property other than rdf:type.
  abbrev pub Led : ℕ → ℕ → ℕ → Type 0
  Led x q o = (x ≡ f.subject) × (o ≡ f.object) × Plus D (key f) (property_node q) × (¬ (key f ≡ property_node q))

  -- It adds what is explicit, and one for what it leads to.
  pub bit_property : (x q o b : ℕ) → ¬ (q ≡ 1) → b ≤ 1 → ((b ≡ 1) ↔ Led x q o) → among (triple x q o) (carried S f) ≡ one (triple x q o) f + b
  bit_property x q o b nq le h =
      bit-sum S f (triple x q o) (Led x q o) b none le h
      (λ e z. z.3 (key_other f (λ k. nq (of_property e ∙ k)) ∙ ap property_node (sym (of_property e))))
      (λ k. go (out k))
      (λ z. into (by_property z.0 z.1 (inr z.2)))
    where
      same : x ≡ f.subject → o ≡ f.object → From D (key f) (property_node q) → property_node q ≡ key f → triple x q o ≡ f
      same a b w e = triple_eq (triple x q o) f a (let n = not_type S f small none fo D R de re q w in omega (arith, key_other f n)) b

      go : Carry f D R (triple x q o) → (triple x q o ≡ f) ⊎ Led x q o
      go (by_class a p k w) = absurd (nq p)
      go (by_property a b (inl e)) = inl (same a b (inl e) e)
      go (by_property a b (inr w)) = by_cases (ℕ_discrete (key f) (property_node q)) (λ e. inl (same a b (inr w) (sym e))) (λ n. inr (a, b, w, n))
      go (by_object_lem n k a p j w) = absurd (nq p)
