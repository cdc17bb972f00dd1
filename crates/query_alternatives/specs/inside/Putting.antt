-- What the functions that put alternatives into an output do. Definitions only.
use Rattle.std.specs.Prelude.{ℕ, Bool, ◌&&◌, ◌||◌, not, cond, drop, eqb}
use mathlib.Core.List.{List, [], ◌∷◌, ◌++◌, map, flat_map}
use Rattle.spec.specs.declared.Triple.{Triple}
use Rattle.spec.specs.Terms.{type, triple}
use Rattle.spec.specs.Tables.{first_rows, rows}
use Rattle.spec.specs.Rows.{words}
use Rattle.spec.specs.Outputs.{are_fitting, Replied, give}
use Rattle.rows_distinct.specs.declared.Collected.{Collected}
use Rattle.rows_distinct.specs.inside.Collected.{Collects}
use Rattle.rows_distinct.specs.inside.Effects.{Within}
use Rattle.spec.specs.Alternatives.{alternative_rows}
use Rattle.spec.specs.Questions.{admits_class, admits}
use Rattle.spec.specs.Lists.{select}
use Rattle.spec.specs.computed.Reformulated.{alternatives_from}

-- The rows of some alternatives were put into an output, in any order, each once or more often.
pub record Puts (us : List Triple) (out : List ℕ) (c : Collected) (out' : List ℕ) (c' : Collected) : Type 0 where
  pub within : Within 3 out' c'
  pub collects : (R : List (List ℕ)) → Collects 3 R out c → Collects 3 (map words us ++ R) out' c'

-- ---- alternatives by what made-up facts carry

-- A fact of the property x between two terms of which nothing else is known. The terms are the kinds of what a class of theirs gives.
abbrev pub property_fact : ℕ → Triple
property_fact x = triple 2 x 3

-- A fact that gives such a term the class x.
abbrev pub class_fact : ℕ → Triple
class_fact x = triple 1 type x

-- The alternative with the source x that a row carried by one of these facts comes to: a class of the term k has the kind k, and
-- another property has the kind 4.
unfoldable pub alternative_by : ℕ → Triple → Triple
alternative_by x t = cond (eqb t.property type) (triple t.subject x t.object) (triple 4 x t.property)

-- Whether an atom admits the target of an alternative: a property for kind 4, else a class.
unfoldable pub admits_target : Triple → Triple → Bool
admits_target a u = cond (eqb u.subject 4) (admits a.property u.object) (admits_class a u.object)

-- Whether source and target are such as the kind asks for: they differ, save for kinds 2 and 3.
unfoldable pub are_ends : Triple → Bool
are_ends u = eqb u.subject 2 || (eqb u.subject 3 || not (eqb u.property u.object))

-- Whether an alternative qualifies for an atom.
unfoldable pub qualifies : Triple → Triple → Bool
qualifies a u = admits_target a u && are_ends u

-- The alternatives of an atom that a carried row gives: one or none.
unfoldable pub given : Triple → ℕ → Triple → List Triple
given a x t = select (qualifies a) (alternative_by x t ∷ [])

-- ---- alternatives by statements

-- The alternatives whose source is the subject of one of the first n statements.
unfoldable pub alternatives_below : List ℕ → Triple → ℕ → List Triple
alternatives_below S a n = flat_map (λ (t : Triple). alternatives_from (rows S) a t.subject) (first_rows n (drop 1 S))

-- All alternatives are given, or question 8 refuses where they do not fit.
abbrev pub give_alternatives : List ℕ → Triple → ℕ → Replied
give_alternatives S a len = let R = alternative_rows (rows S) a in give (cond (are_fitting 3 len R) 0 8) R len
