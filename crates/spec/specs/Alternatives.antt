-- The alternatives of an atom: how it is reformulated over explicit triples (document 01, "Questions and their rewriting"; source
-- document 000, section 4.3). Definitions only.
use Rattle.std.specs.Prelude.{ℕ, ◌≡◌, Bool, true, false, ◌&&◌}
use mathlib.Core.List.{List, [], ◌∷◌, map, Memᴰ}
use Rattle.spec.specs.declared.Triple.{Triple}
use Rattle.spec.specs.Terms.{type, sub_class_of, sub_property_of, domain, range, is_literal, triple}
use Rattle.spec.specs.Rules.{Reach}
use Rattle.spec.specs.computed.Reformulated.{alternatives}
use Rattle.spec.specs.Refusals.{first_refusal}
use Rattle.spec.specs.Tables.{rows, is_statement_table}
use Rattle.spec.specs.Rows.{words}
use Rattle.spec.specs.Outputs.{are_fitting, Replied, give}
use Rattle.spec.specs.Questions.{is_atom, admits, admits_class}

-- "An alternative of an atom is kind, source, target", under the statements S. "Kinds 1 to 3 need a property of 1 or a variable, and an object
-- equal to target or variable; kind 4 a property equal to target or variable."
pub data IsAlternative (S : List Triple) (a : Triple) : ℕ → ℕ → ℕ → Type 0 where
  -- "0 0 0: an explicit triple as it is."
  as_it_is : IsAlternative S a 0 0 0
  -- "Kind 1: a 1 source gives a 1 target, where one or more subclass steps lead from source to target and the two differ."
  by_subclass : {c d : ℕ} → Reach S sub_class_of c d → ¬ (c ≡ d) → admits_class a d ≡ true → IsAlternative S a 1 c d
  -- "Kind 2: a source b gives a 1 target, where zero or more subproperty steps, one domain, then zero or more subclass steps lead there."
  by_domain : {p q c d : ℕ} → Reach S sub_property_of p q → Memᴰ (triple q domain c) S → Reach S sub_class_of c d → admits_class a d ≡ true → IsAlternative S a 2 p d
  -- "Kind 3: the same with range, for b not a literal."
  by_range : {p q c d : ℕ} → Reach S sub_property_of p q → Memᴰ (triple q range c) S → Reach S sub_class_of c d → admits_class a d ≡ true → IsAlternative S a 3 p d
  -- "Kind 4: a source b gives a target b, by one or more subproperty steps, source and target different."
  by_subproperty : {p q : ℕ} → Reach S sub_property_of p q → ¬ (p ≡ q) → admits a.property q ≡ true → IsAlternative S a 4 p q

-- What an alternative gives of an explicit triple.
pub data Gives : ℕ → ℕ → ℕ → Triple → Triple → Type 0 where
  -- "An explicit triple as it is."
  itself : {f : Triple} → Gives 0 0 0 f f
  -- "A 1 source gives a 1 target."
  a_class : {x c d : ℕ} → Gives 1 c d (triple x type c) (triple x type d)
  -- "A source b gives a 1 target."
  of_subject : {x p y d : ℕ} → Gives 2 p d (triple x p y) (triple x type d)
  -- "The same with range, for b not a literal."
  of_object : {x p y d : ℕ} → is_literal y ≡ false → Gives 3 p d (triple x p y) (triple y type d)
  -- "A source b gives a target b."
  a_property : {x p q y : ℕ} → Gives 4 p q (triple x p y) (triple x q y)

-- A triple that some alternative of an atom gives of one of the explicit triples F.
pub record Reformulated (S F : List Triple) (a t : Triple) : Type 0 where
  pub kind : ℕ
  pub source : ℕ
  pub target : ℕ
  pub fact : Triple
  pub alternative : IsAlternative S a kind source target
  pub listed : Memᴰ fact F
  pub gives : Gives kind source target fact t

-- Whether an atom's property and object admit those of a triple.
abbrev pub admits_triple : Triple → Triple → Bool
admits_triple a t = admits a.property t.property && admits a.object t.object

-- ---- the reply

-- The rows of the alternatives of an atom, three words each: kind, source, target.
abbrev pub alternative_rows : List Triple → Triple → List (List ℕ)
alternative_rows S a = map words (alternatives S a)

-- What is asked: 1, 6 and, last, 8.
abbrev pub reformulate_checks : List ℕ → Triple → ℕ → List (ℕ × Bool)
reformulate_checks S a len =
    (1, is_statement_table S)
    ∷ (6, is_atom a)
    ∷ (8, are_fitting 3 len (alternative_rows (rows S) a))
    ∷ []

-- The alternatives of an atom under a table of statements, into an output of len words.
unfoldable pub reformulate : List ℕ → Triple → ℕ → Replied
reformulate S a len = give (first_refusal (reformulate_checks S a len)) (alternative_rows (rows S) a) len
