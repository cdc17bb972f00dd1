-- What the functions that walk extra fields say of their results. Definitions only.
use Rattle.std.specs.Prelude.{ℕ, ◌+◌, ◌^◌, ◌<◌, ◌≡◌, List}
use Rattle.spec.specs.Deliveries.{number_fields}
use Rattle.spec.specs.computed.Decoded.{short, section_start, fields_from, fields_end}
use Rattle.delivery_number.specs.declared.Fields.{Fields}

-- Fields r are the extra fields of a delivery's bytes: where its fifth section begins, after the count, and how many are counted.
pub record ExtraFields (bs : List ℕ) (r : Fields) : Type 0 where
  pub begins : r.at ≡ section_start bs 4 + 2
  pub counted : r.count ≡ short bs (section_start bs 4)
  pub near : r.at < 2 ^ 32
  pub few : r.count < 65536

-- Fields r are what is left of the n fields from index at on once those before the first with tag 1 are stepped over.
pub record FromNumber (bs : List ℕ) (at n : ℕ) (r : Fields) : Type 0 where
  pub same : number_fields (fields_from bs at n) ≡ number_fields (fields_from bs r.at r.count)
  pub end : fields_end bs r.at r.count ≡ fields_end bs at n
  pub tag : 0 < r.count → short bs r.at ≡ 1
