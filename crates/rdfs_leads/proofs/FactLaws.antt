-- What a fact has and gives, by what its property or class leads to. Assumes nothing.
use mathlib.Core.Path.{◌≡◌, refl}
use mathlib.Core.Bool.{Bool, true, false}
use mathlib.Core.List.Memᴰ
use mathlib.Core.List.{List, [], Memᴰ}
use Prim.Native.Nat.{ℕ}
use borrow.Author.Tests.{ne_eqb}
use Rattle.spec.specs.declared.Triple.{Triple}
use Rattle.spec.specs.Terms.{type, is_literal, triple}
use Rattle.spec.specs.computed.Carried.{properties, subject_classes, object_classes}
use Rattle.table.specs.inside.Bounds.{Tells}
use Rattle.table.proofs.SearchLaws.{tells_false}
use Rattle.rdfs_relevance.specs.inside.Targets.{led_to, Led}
use Rattle.rdfs_answer.proofs.LedLaws.{tells_iff, some-any}

-- The classes of an object that is no literal are those of the example's.
same_object : (S : List Triple) (f : Triple) → is_literal f.object ≡ false → object_classes S (triple 6 f.property 6) ≡ object_classes S f
unfolding object_classes properties is_literal
same_object S f e = rw e refl

module _ (S : List Triple) (f : Triple) {r : Bool} where
  pub fact_property : (x : ℕ) → Tells r (Led S 1 f.property x) → Tells r (Memᴰ x (properties S f))
  unfolding led_to properties
  fact_property x t = t

  -- A fact whose property is rdf:type gives its subject what its object, a class, leads to.
  pub fact-type : (x : ℕ) → f.property ≡ type → Tells r (Led S 3 f.object x) → Tells r (Memᴰ x (subject_classes S f))
  unfolding led_to subject_classes properties
  fact-type x e t = rw e t

  -- Another gives it what its property leads to.
  pub fact-subject : (x : ℕ) → ¬ (f.property ≡ type) → Tells r (Led S 2 f.property x) → Tells r (Memᴰ x (subject_classes S f))
  unfolding led_to subject_classes properties
  fact-subject x n t = rw (ne_eqb f.property type n) (rw (ne_eqb f.property type n) at t)

  pub fact-object : (x : ℕ) → is_literal f.object ≡ false → Tells r (Led S 4 f.property x) → Tells r (Memᴰ x (object_classes S f))
  unfolding led_to
  fact-object x e t = rw (← same_object S f e) t

  pub fact-any : is_literal f.object ≡ false → Tells r (Led S 5 f.property 0) → Tells r (¬ (object_classes S f ≡ []))
  unfolding led_to
  fact-any e t = rw (← same_object S f e) (tells_iff (some-any (object_classes S (triple 6 f.property 6))) t)

-- A literal has no class.
no_classes : (S : List Triple) (f : Triple) → is_literal f.object ≡ true → object_classes S f ≡ []
unfolding object_classes
no_classes S f e = rw e refl

pub literal-object : (S : List Triple) (f : Triple) (x : ℕ) → is_literal f.object ≡ true → Tells false (Memᴰ x (object_classes S f))
literal-object S f x e = tells_false (λ i. Memᴰ.not-nil (rw (no_classes S f e) at i))

pub literal-any : (S : List Triple) (f : Triple) → is_literal f.object ≡ true → Tells false (¬ (object_classes S f ≡ []))
literal-any S f e = tells_false (λ n. n (no_classes S f e))
