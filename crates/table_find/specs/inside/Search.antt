-- How a row stands to another, and where it stands among ascending rows. Definitions only.
use Rattle.std.specs.Prelude.{ℕ, suc, ◌<◌, ◌≡◌, List, [], ◌∷◌, Result, Ok, Err}
use Rattle.std.specs.declared.cmp.Ordering.{Ordering}
use Rattle.std.specs.declared.cmp.Ordering.TheVariants.{Less, Equal, Greater}
use Rattle.spec.specs.declared.Triple.{Triple}
use Rattle.spec.specs.inside.Comparison.{compare_triples, by_order}

-- What an ordering says of two words.
abbrev pub Says : Ordering → ℕ → ℕ → Type 0
Says Less a b = a < b
Says Equal a b = a ≡ b
Says Greater a b = b < a

-- How t stands to u.
abbrev pub ordering : Triple → Triple → Ordering
ordering t u = by_order (compare_triples t u) Less Equal Greater

-- The place in a list with one row more in front.
abbrev pub next : Result ℕ ℕ → Result ℕ ℕ
next (Ok i) = Ok (suc i)
next (Err i) = Err (suc i)

-- Where t stands in ascending rows, or else the gap where it would stand.
unfoldable pub place : Triple → List Triple → Result ℕ ℕ
place t [] = Err 0
place t (u ∷ us) = by_order (compare_triples u t) (next (place t us)) (Ok 0) (Err 0)
