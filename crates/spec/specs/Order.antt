-- The order of triples, and ascending lists of them as sets (document 01, "Tables"). Definitions only.
use Rattle.std.specs.Prelude.{Bool, true, ◌&&◌, cond, ◌≡◌, ◌↔◌, eqb}
use mathlib.Core.List.{List, [], ◌∷◌, Memᴰ}
use Rattle.spec.specs.declared.Triple.{Triple}
use Rattle.spec.specs.Lists.{any}
use Rattle.spec.specs.Rows.{less, words}

-- "Ascending as unsigned numbers by subject, property, object": whether t is less than u, by the order of their words.
abbrev pub is_less : Triple → Triple → Bool
is_less t u = less (words t) (words u)

-- Whether two triples are the same, word by word.
unfoldable pub is_same : Triple → Triple → Bool
is_same t u = eqb t.subject u.subject && (eqb t.property u.property && eqb t.object u.object)

-- Whether t is one of some triples.
abbrev pub is_in : Triple → List Triple → Bool
is_in t F = any (is_same t) F

-- Whether a list is strictly ascending: each triple is less than the next.
unfoldable pub is_ascending : List Triple → Bool
is_ascending [] = true
is_ascending (t ∷ []) = true
is_ascending (t ∷ u ∷ F) = is_less t u && is_ascending (u ∷ F)

-- The triples ts are exactly those of which P holds, ascending, each once.
pub record ListOf (P : Triple → Type 0) (ts : List Triple) : Type 0 where
  pub ascend : is_ascending ts ≡ true
  pub exactly : (t : Triple) → Memᴰ t ts ↔ P t

-- An ascending list with t, which stands in it once.
unfoldable pub insert : Triple → List Triple → List Triple
insert t [] = t ∷ []
insert t (u ∷ F) = cond (is_less t u) (t ∷ u ∷ F) (cond (is_same t u) (u ∷ F) (u ∷ insert t F))

-- An ascending list without t.
unfoldable pub remove : Triple → List Triple → List Triple
remove t [] = []
remove t (u ∷ F) = cond (is_same t u) F (u ∷ remove t F)
