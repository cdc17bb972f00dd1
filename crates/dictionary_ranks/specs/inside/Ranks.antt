-- The terms that have a number of their kind that is taken, and the slots for the places of their entries. Definitions only.
use Rattle.std.specs.Prelude.{ℕ, ◌+◌, ◌-◌, ◌*◌, ◌/◌, ◌≤◌, ◌<◌}
use Rattle.spec.specs.Terms.{kind, number}
use Rattle.spec_ntriples.specs.Dictionary.{first_number}
use Rattle.dictionary_bytes.specs.declared.Filled.{Filled}
use Rattle.dictionary_numbers.specs.inside.Numbers.{number_of}

-- A term has a number of its kind that is taken.
pub record HasNumber (f : Filled) (w : ℕ) : Type 0 where
  pub least : kind w ≤ 2
  pub first : first_number (kind w) ≤ number w
  pub taken : number w < number_of f (kind w)

-- The rank of a term: how many terms of its kind are before it.
unfoldable pub rank_of : ℕ → ℕ
rank_of w = number w - first_number (kind w)

-- For how many entries of a kind one of its 16,384 places is kept: its entries are as many as numbers are taken.
unfoldable pub stride_of : Filled → ℕ → ℕ
stride_of f k = (number_of f k - first_number k - 1) / 16384 + 1

-- The slot for a term, in the 16,384 of its kind: they are for the terms whose ranks are multiples of the stride, and for those behind each.
unfoldable pub slot_for : Filled → ℕ → ℕ
slot_for f w = kind w * 16384 + rank_of w / stride_of f (kind w)
