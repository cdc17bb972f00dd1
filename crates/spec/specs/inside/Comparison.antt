-- How triples compare, with the evidence: what proofs branch on, where definitions have a test. Definitions, and what they need.
use Rattle.std.specs.Prelude.{◌≡◌, List, [], ◌∷◌, ℕ, ◌<◌}
use Rattle.std.proofs.Common.{sym, arith}
use Rattle.std.proofs.Math.Decide.{ℕ_discrete, dec_lt}
use Rattle.spec.specs.declared.Triple.{Triple}

-- The order by subject, property, object: `is_less` decides it.
pub data Less (t u : Triple) : Type 0 where
  by_subject : t.subject < u.subject → Less t u
  by_property : t.subject ≡ u.subject → t.property < u.property → Less t u
  by_object : t.subject ≡ u.subject → t.property ≡ u.property → t.object < u.object → Less t u

-- Strictly ascending: each row is less than the next.
abbrev pub Above : Triple → List Triple → Type 0
Above t [] = Unit {0}
Above t (u ∷ F) = Less t u × Above u F

-- Strictly ascending, from the first row on.
abbrev pub Ascending : List Triple → Type 0
Ascending [] = Unit {0}
Ascending (u ∷ F) = Above u F

-- How two numbers stand.
pub data Compared (m n : ℕ) : Type 0 where
  below : m < n → Compared m n
  equal : m ≡ n → Compared m n
  above : n < m → Compared m n

-- The comparison of two numbers.
unfoldable pub compare_numbers : (m n : ℕ) → Compared m n
unfolding dec_lt ℕ_discrete
compare_numbers m n = elim (dec_lt m n) [ yes h ↦ below h | no h ↦ elim (ℕ_discrete m n) [ yes e ↦ equal e | no k ↦ above (omega arith) ] ]

-- Triples are equal where their parts are.
pub triple_eq : (t u : Triple) → t.subject ≡ u.subject → t.property ≡ u.property → t.object ≡ u.object → t ≡ u
triple_eq t u a b c = λ i. record { subject = a i; property = b i; object = c i }

-- How two triples stand.
pub data Trichotomy (t u : Triple) : Type 0 where
  less : Less t u → Trichotomy t u
  same : t ≡ u → Trichotomy t u
  more : Less u t → Trichotomy t u

-- The comparison of two triples.
unfoldable pub compare_triples : (t u : Triple) → Trichotomy t u
unfolding compare_numbers
compare_triples t u =
    elim (compare_numbers t.subject u.subject) [
      | below h ↦ less (by_subject h)
      | above h ↦ more (by_subject h)
      | equal a ↦ elim (compare_numbers t.property u.property) [
        | below h ↦ less (by_property a h)
        | above h ↦ more (by_property (sym a) h)
        | equal b ↦ elim (compare_numbers t.object u.object) [
          | below h ↦ less (by_object a b h)
          | above h ↦ more (by_object (sym a) (sym b) h)
          | equal c ↦ same (triple_eq t u a b c)
        ]
      ]
    ]

-- No triple is less than itself.
pub less_irrefl : {t : Triple} → Less t t → ⊥
less_irrefl (by_subject h) = omega arith
less_irrefl (by_property e h) = omega arith
less_irrefl (by_object e k h) = omega arith

-- Whether two triples are equal.
unfoldable pub equal_triples : Discrete Triple
unfolding compare_triples
equal_triples t u = elim (compare_triples t u) [ less h ↦ no (λ e. less_irrefl (rw e at h)) | same e ↦ yes e | more h ↦ no (λ e. less_irrefl (rw e at h)) ]

-- x where the answer is yes, y where it is no.
unfoldable pub choose : {P A : Type 0} → Dec P → A → A → A
choose (yes p) x y = x
choose (no h) x y = y

-- x, y or z, as t is less than u, is u, or is more than u.
unfoldable pub by_order : {t u : Triple} {A : Type 0} → Trichotomy t u → A → A → A → A
by_order (less h) x y z = x
by_order (same e) x y z = y
by_order (more h) x y z = z
