-- Rows of bits as words of 32 columns. bit gives the bit of a row and a column. Definitions only.
use Rattle.std.specs.Prelude.{◌≡◌, List, ◌↔◌, ◌⊎◌, ℕ, ◌+◌, ◌*◌, ◌/◌, ◌%◌, ◌<◌, get_or}
use Rattle.query_keys.specs.inside.Bits.{bit_of}

-- Column c of a row that stands by itself.
abbrev pub row_bit : List ℕ → ℕ → ℕ
row_bit row c = bit_of (get_or row (c / 32) 0) (c % 32)

-- x is word w of a row that has column c alone.
abbrev pub AloneIn : ℕ → ℕ → ℕ → Type 0
AloneIn c w x = (k : ℕ) → k < 32 → (bit_of x k ≡ 1) ↔ (w * 32 + k ≡ c)

-- x is word w of a row that has column so and, if it is one of m rows, what row go has.
abbrev pub GainedIn : (ℕ → ℕ → ℕ) → ℕ → ℕ → ℕ → ℕ → ℕ → Type 0
GainedIn bit go m so w x = (k : ℕ) → k < 32 → (bit_of x k ≡ 1) ↔ ((w * 32 + k ≡ so) ⊎ ((go < m) × (bit go (w * 32 + k) ≡ 1)))
