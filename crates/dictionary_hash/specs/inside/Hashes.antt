-- The hashes of texts, and the slots of an index where searches begin. Definitions only.
use Rattle.std.specs.Prelude.{ℕ, ◌+◌, ◌*◌, ◌/◌, ◌%◌, List, [], ◌∷◌}

-- The hash of a text with a hash that goes on by a byte.
unfoldable pub hash_on : ℕ → ℕ → ℕ
hash_on h b = (h * 16777619 + b) % 4294967296

-- The hash of a text that stands behind one with a hash.
unfoldable pub hash_from : ℕ → List ℕ → ℕ
hash_from h [] = h
hash_from h (b ∷ bs) = hash_from (hash_on h b) bs

-- The hash of a text.
unfoldable pub hash : List ℕ → ℕ
hash bs = hash_from 0 bs

-- The slot at which the search for a text with a hash begins.
unfoldable pub slot_of : ℕ → ℕ
slot_of h = h * 2654435769 % 4294967296 / 65536

-- The slot at which the search for a text begins.
unfoldable pub home_of : List ℕ → ℕ
home_of bs = slot_of (hash bs)
