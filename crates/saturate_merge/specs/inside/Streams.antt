-- Streams of ascending objects, and what stands at their fronts. Definitions only.
use Rattle.std.specs.Prelude.{◌≡◌, cond, List, [], ◌∷◌, ℕ, zero, suc, ◌+◌, ◌-◌, ◌*◌, ◌^◌, ◌≤◌, ◌<◌, length, get_or, ltb, eqb}
use Rattle.spec.specs.Terms.{triple}
use Rattle.spec.specs.Saturation.{Kept}
use Rattle.spec.specs.inside.Counts.{lookup}

-- The objects of n rows of the table f, from row a on.
unfoldable pub objects : List ℕ → ℕ → ℕ → List ℕ
objects f a zero = []
objects f a (suc n) = get_or f (a * 3 + 3) 0 ∷ objects f (a + 1) n

-- Stream y: the objects of the rows between its two ends, which stand side by side.
abbrev pub stream : List ℕ → List ℕ → ℕ → List ℕ
stream f ends y = objects f (get_or ends (y * 2) 0) (get_or ends (y * 2 + 1) 0 - get_or ends (y * 2) 0)

-- The first k streams, the last one in front.
unfoldable pub streams : List ℕ → List ℕ → ℕ → List (List ℕ)
streams f ends zero = []
streams f ends (suc k) = stream f ends k ∷ streams f ends k

-- The first object of a stream, 2 ^ 32 where there is none.
unfoldable pub front_of : List ℕ → ℕ
front_of [] = 2 ^ 32
front_of (o ∷ l) = o

-- The lesser of two numbers.
abbrev pub lesser_of : ℕ → ℕ → ℕ
lesser_of a b = cond (ltb a b) a b

-- The least of the first objects, 2 ^ 32 where there is none.
unfoldable pub least_of : List (List ℕ) → ℕ
least_of [] = 2 ^ 32
least_of (l ∷ ls) = lesser_of (front_of l) (least_of ls)

-- A stream without its first object, where that is o.
unfoldable pub strip : ℕ → List ℕ → List ℕ
strip o [] = []
strip o (a ∷ l) = cond (eqb a o) l (a ∷ l)

-- Each stream without its first object, where that is o.
unfoldable pub strips : ℕ → List (List ℕ) → List (List ℕ)
strips o [] = []
strips o (l ∷ ls) = strip o l ∷ strips o ls

-- 1 where a stream's first object is o, else 0.
unfoldable pub hit : ℕ → List ℕ → ℕ
hit o [] = 0
hit o (a ∷ l) = cond (eqb a o) 1 0

-- The number of streams whose first object is o.
unfoldable pub hits : ℕ → List (List ℕ) → ℕ
hits o [] = 0
hits o (l ∷ ls) = hit o l + hits o ls

-- How often o stands in a list.
unfoldable pub often : ℕ → List ℕ → ℕ
often o [] = 0
often o (a ∷ l) = cond (eqb a o) 1 0 + often o l

-- How often o stands in all the streams.
unfoldable pub tally : ℕ → List (List ℕ) → ℕ
tally o [] = 0
tally o (l ∷ ls) = often o l + tally o ls

-- Strictly ascending words, above a.
abbrev pub Over : ℕ → List ℕ → Type 0
Over a [] = Unit {0}
Over a (b ∷ l) = (a < b) × (b < 2 ^ 32) × Over b l

-- Strictly ascending words.
abbrev pub Rising : List ℕ → Type 0
Rising [] = Unit {0}
Rising (b ∷ l) = (b < 2 ^ 32) × Over b l

-- Each stream ascends.
abbrev pub AllRising : List (List ℕ) → Type 0
AllRising [] = Unit {0}
AllRising (l ∷ ls) = Rising l × AllRising ls

-- The first k streams end in the table.
abbrev pub Inside : List ℕ → List ℕ → ℕ → Type 0
Inside f ends k = (k * 2 ≤ length ends) × ((y : ℕ) → y < k → get_or ends (y * 2 + 1) 0 * 3 < length f)

-- In K the row x q o has as support how often o stands in the streams, for each o.
abbrev pub Tallied : Kept → ℕ → ℕ → List (List ℕ) → Type 0
Tallied K x q ls = (o : ℕ) → lookup K (triple x q o) ≡ tally o ls
