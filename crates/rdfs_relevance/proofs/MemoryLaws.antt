-- Laws of a memory of answers: what is read at a place, and what is stored there. Assumes nothing.
use mathlib.Core.Path.{◌≡◌, refl, sym, ◌∙◌}
use mathlib.Core.Bool.{Bool, true, false, ◌&&◌}
use mathlib.Core.List.{List}
use mathlib.Core.Logic.{by_cases}
use Prim.Native.Nat.{ℕ, ◌+◌, ◌*◌, ◌≤◌, ◌<◌}
use native.Mathlib.Decide.{ℕ_discrete}
use native.Mathlib.Omega.{arith}
use lib.ListN.{length, get_or, set, replicate, length-set, length-replicate, get_or-replicate}
use lib.Seq.{get_or-set_same, get_or-set_other}
use lib.Dec.{eqb}
use borrow.Author.Tests.{eqb-true}
use Rattle.spec.specs.declared.Triple.{Triple}
use Rattle.spec.proofs.Ascending.{and_left, and_right}
use Rattle.table.specs.inside.Bounds.{Tells}
use Rattle.rdfs_relevance.specs.inside.Targets.{Led, Remembers}

-- Nothing is remembered at the start.
pub remembers_nothing : (S : List Triple) → Remembers S (replicate 16384 0)
remembers_nothing S = record {
  size = length-replicate {A = ℕ} 16384 0;
  each = λ k l n. absurd (n (get_or-replicate {A = ℕ} 16384 (k * 4 + 1) 0 0 (omega arith)));
}

-- The three words of a question are compared.
pub same_question : (x w y q z t : ℕ) → (eqb x w && eqb y q && eqb z t) ≡ true → (x ≡ w) × ((y ≡ q) × (z ≡ t))
same_question x w y q z t e =
    let h = and_left (eqb x w && eqb y q) (eqb z t) e in
    (eqb-true x w (and_left _ (eqb y q) h), (eqb-true y q (and_right (eqb x w) _ h), eqb-true z t (and_right (eqb x w && eqb y q) _ e)))

-- The answer at a place that has the question.
pub recalled : (S : List Triple) (memory : List ℕ) (k w q t : ℕ) → Remembers S memory → k < 4096 → ¬ (q ≡ 0) →
    (get_or memory (k * 4) 0 ≡ w) × ((get_or memory (k * 4 + 1) 0 ≡ q) × (get_or memory (k * 4 + 2) 0 ≡ t)) → (r : Bool) → r ≡ eqb (get_or memory (k * 4 + 3) 0) 1 → Tells r (Led S q w t)
recalled S memory k w q t h l n s r e = rw (e, ← s.0, ← s.1.0, ← s.1.1) (h.each k l (λ z. n (sym s.1.0 ∙ z)))

module _ (memory : List ℕ) (p w q t a : ℕ) where
  abbrev one : List ℕ
  one = set memory (p * 4) w

  abbrev two : List ℕ
  two = set one (p * 4 + 1) q

  abbrev three : List ℕ
  three = set two (p * 4 + 2) t

  -- The memory with four words stored at place p.
  abbrev stored : List ℕ
  stored = set three (p * 4 + 3) a

  -- A word apart from these four stays.
  stored_other : (i : ℕ) → ¬ (i ≡ p * 4) → ¬ (i ≡ p * 4 + 1) → ¬ (i ≡ p * 4 + 2) → ¬ (i ≡ p * 4 + 3) → get_or stored i 0 ≡ get_or memory i 0
  stored_other i n₀ n₁ n₂ n₃ = get_or-set_other three _ i a 0 n₃ ∙ (get_or-set_other two _ i t 0 n₂ ∙ (get_or-set_other one _ i q 0 n₁ ∙ get_or-set_other memory _ i w 0 n₀))

  stored-word : p * 4 + 4 ≤ length memory → get_or stored (p * 4) 0 ≡ w
  stored-word l =
      get_or-set_other three (p * 4 + 3) (p * 4) a 0 (λ z. omega arith)
      ∙ (get_or-set_other two (p * 4 + 2) (p * 4) t 0 (λ z. omega arith)
      ∙ (get_or-set_other one (p * 4 + 1) (p * 4) q 0 (λ z. omega arith) ∙ get_or-set_same memory (p * 4) w 0 (omega arith)))

  stored-asked : p * 4 + 4 ≤ length memory → get_or stored (p * 4 + 1) 0 ≡ q
  stored-asked l =
      get_or-set_other three (p * 4 + 3) (p * 4 + 1) a 0 (λ z. omega arith)
      ∙ (get_or-set_other two (p * 4 + 2) (p * 4 + 1) t 0 (λ z. omega arith) ∙ get_or-set_same one (p * 4 + 1) q 0 (simp length-set (omega arith)))

  stored_target : p * 4 + 4 ≤ length memory → get_or stored (p * 4 + 2) 0 ≡ t
  stored_target l = get_or-set_other three (p * 4 + 3) (p * 4 + 2) a 0 (λ z. omega arith) ∙ get_or-set_same two (p * 4 + 2) t 0 (simp length-set (omega arith))

  stored_answer : p * 4 + 4 ≤ length memory → get_or stored (p * 4 + 3) 0 ≡ a
  stored_answer l = get_or-set_same three (p * 4 + 3) a 0 (simp length-set (omega arith))

-- 1 is stored for yes, and 0 for no.
pub answer_one : (a : ℕ) (r : Bool) → a ≡ 1 → r ≡ true → eqb a 1 ≡ r
answer_one a r e h = rw (e, h) refl

pub answer_zero : (a : ℕ) (r : Bool) → a ≡ 0 → r ≡ false → eqb a 1 ≡ r
answer_zero a r e h = rw (e, h) refl

-- A true answer is remembered, and the others still are.
pub remembers_stored : (memory : List ℕ) (p w q t a : ℕ) (r : Bool) → p < 4096 → length memory ≡ 16384 → eqb a 1 ≡ r → (S : List Triple) → Tells r (Led S q w t) → Remembers S memory → Remembers S (stored memory p w q t a)
remembers_stored memory p w q t a r l s e S h m = record {
  size = simp length-set s;
  each = λ k c n. by_cases (ℕ_discrete k p)
      (λ (z : k ≡ p).
      let g : p * 4 + 4 ≤ length memory = omega arith in
      rw (z, stored-word memory p w q t a g, stored-asked memory p w q t a g, stored_target memory p w q t a g, stored_answer memory p w q t a g, e) h)
      (λ z.
      let o : (i : ℕ) → k * 4 ≤ i → i < k * 4 + 4 → get_or (stored memory p w q t a) i 0 ≡ get_or memory i 0 =
      λ i u v. stored_other memory p w q t a i (λ y. z (omega arith)) (λ y. z (omega arith)) (λ y. z (omega arith)) (λ y. z (omega arith)) in
      rw (o (k * 4) (omega arith) (omega arith), o (k * 4 + 1) (omega arith) (omega arith), o (k * 4 + 2) (omega arith) (omega arith), o (k * 4 + 3) (omega arith) (omega arith))
      (m.each k c (λ y. n (o (k * 4 + 1) (omega arith) (omega arith) ∙ y))));
}
