-- Keys with counts, and what they add to the objects of explicit rows. Definitions only.
use Rattle.std.specs.Prelude.{◌≡◌, cond, List, [], ◌∷◌, ℕ, zero, suc, ◌+◌, ◌-◌, ◌^◌, ◌<◌, get_or, ltb, eqb}
use Rattle.spec.specs.Terms.{triple}
use Rattle.spec.specs.Saturation.{Kept}
use Rattle.spec.specs.inside.Counts.{lookup}
use Rattle.saturate_merge.specs.inside.Streams.{often}

-- Keys, each with its count.
abbrev pub Counted : Type 0
Counted = List (ℕ × ℕ)

-- n keys with their counts, from key r on.
unfoldable pub keys_with_counts : List ℕ → List ℕ → ℕ → ℕ → Counted
keys_with_counts keys counts r zero = []
keys_with_counts keys counts r (suc n) = (get_or keys r 0, get_or counts r 0) ∷ keys_with_counts keys counts (r + 1) n

-- The keys r .. end with their counts.
abbrev pub counted : List ℕ → List ℕ → ℕ → ℕ → Counted
counted keys counts r end = keys_with_counts keys counts r (end - r)

-- The count of the key o.
unfoldable pub count_of : ℕ → Counted → ℕ
count_of o [] = 0
count_of o (w ∷ ws) = cond (eqb w.0 o) w.1 0 + count_of o ws

-- The first key, 2 ^ 32 where there is none.
unfoldable pub first_key : Counted → ℕ
first_key [] = 2 ^ 32
first_key (w ∷ ws) = w.0

-- The keys are strictly ascending words, above a.
abbrev pub KeysOver : ℕ → Counted → Type 0
KeysOver a [] = Unit {0}
KeysOver a (w ∷ ws) = (a < w.0) × (w.0 < 2 ^ 32) × KeysOver w.0 ws

-- The keys are strictly ascending words.
abbrev pub KeysRising : Counted → Type 0
KeysRising [] = Unit {0}
KeysRising (w ∷ ws) = (w.0 < 2 ^ 32) × KeysOver w.0 ws

-- How often o stands among the objects l, and the count of the key o.
unfoldable pub total : List ℕ → Counted → ℕ → ℕ
total l ws o = often o l + count_of o ws

-- Key r, 2 ^ 32 from end on.
unfoldable pub key_at : List ℕ → ℕ → ℕ → ℕ
key_at keys r end = cond (ltb r end) (get_or keys r 0) (2 ^ 32)

-- In K the row x p o has as support how often it stands among the objects, and its count, for each o.
abbrev pub Totalled : Kept → ℕ → ℕ → List ℕ → Counted → Type 0
Totalled K x p l ws = (o : ℕ) → lookup K (triple x p o) ≡ total l ws o
