-- Laws of walks over sections, entries and extra fields: a step and the end of each. Assumes nothing.
use Prim.Native.Nat.{ℕ, zero, suc, ◌+◌, ◌-◌, ◌*◌, ◌≤◌, ◌<◌}
use mathlib.Core.Path.{◌≡◌, refl}
use mathlib.Core.Bool.{Bool, true, false}
use mathlib.Core.List.{List, [], ◌∷◌}
use native.Mathlib.Numerals.{add-one}
use native.Mathlib.Omega.{arith}
use lib.ListN.{length}
use borrow.Author.Tests.{eq-eqb, ne_eqb}
use Rattle.spec.specs.declared.Triple.{Triple}
use Rattle.spec.specs.Lists.{all, select}
use Rattle.spec.specs.Deliveries.{number_fields}
use Rattle.spec.specs.computed.Decoded.{short, entry_at, entries_from, section_end, section_start, field_at, field_end, fields_from, fields_end}

-- ---- sections

-- The section after section i begins where section i ends.
pub start_more : (bs : List ℕ) (i at next : ℕ) → at ≡ section_start bs i → next ≡ section_end bs at → next ≡ section_start bs (i + 1)
unfolding section_start
start_more bs i at next e h = rw (h, e, add-one i)

-- The walk of the sections ends at the one that is asked for.
pub start_end : (bs : List ℕ) (i k at : ℕ) → i ≤ k → k ≤ i → at ≡ section_start bs i → at ≤ i * 786422 → (at ≡ section_start bs k) × (at ≤ k * 786422)
start_end bs i k at h l e b = let q : k ≡ i = omega arith in rw q (e, b)

-- ---- entries

-- As many entries are read as are counted.
pub length-entries_from : (bs : List ℕ) (at n : ℕ) → length (entries_from bs at n) ≡ n
unfolding entries_from
length-entries_from bs at zero = refl
length-entries_from bs at (suc n) = rw (length-entries_from bs (at + 12) n)

-- The first of some entries, and those after it.
pub entries_step : (bs : List ℕ) (at n : ℕ) → 0 < n → entries_from bs at n ≡ entry_at bs at ∷ entries_from bs (at + 12) (n - 1)
unfolding entries_from
entries_step bs at zero h = absurd (omega arith)
entries_step bs at (suc n) h = let e : suc n - 1 ≡ n = omega arith in rw e

-- No entries.
pub entries_none : (bs : List ℕ) (at n : ℕ) → n ≤ 0 → entries_from bs at n ≡ []
unfolding entries_from
entries_none bs at zero h = refl
entries_none bs at (suc n) h = absurd (omega arith)

-- A scan of entries goes by those that are left.
module _ (test : Triple → Bool) (bs : List ℕ) (at n : ℕ) where
  pub entries_more : 0 < n → test (entry_at bs at) ≡ true → all test (entries_from bs at n) ≡ all test (entries_from bs (at + 12) (n - 1))
  unfolding all
  entries_more h e = rw (entries_step bs at n h, e)

  pub entries_stop : 0 < n → test (entry_at bs at) ≡ false → all test (entries_from bs at n) ≡ false
  unfolding all
  entries_stop h e = rw (entries_step bs at n h, e)

  pub entries_end : n ≤ 0 → all test (entries_from bs at n) ≡ true
  unfolding all
  entries_end h = rw (entries_none bs at n h)

-- ---- fields

-- As many fields are read as are counted.
pub length-fields_from : (bs : List ℕ) (at n : ℕ) → length (fields_from bs at n) ≡ n
unfolding fields_from
length-fields_from bs at zero = refl
length-fields_from bs at (suc n) = rw (length-fields_from bs (field_end bs at) n)

-- The first of some fields, and those after it.
pub fields_step : (bs : List ℕ) (at n : ℕ) → 0 < n → fields_from bs at n ≡ field_at bs at ∷ fields_from bs (field_end bs at) (n - 1)
unfolding fields_from
fields_step bs at zero h = absurd (omega arith)
fields_step bs at (suc n) h = let e : suc n - 1 ≡ n = omega arith in rw e

-- Fields end where those after the first end.
pub fields_end_more : (bs : List ℕ) (at n next : ℕ) → 0 < n → next ≡ field_end bs at → fields_end bs next (n - 1) ≡ fields_end bs at n
unfolding fields_end
fields_end_more bs at zero next h q = absurd (omega arith)
fields_end_more bs at (suc n) next h q = let e : suc n - 1 ≡ n = omega arith in rw (q, e)

-- No fields end where they would begin.
pub fields_end_none : (bs : List ℕ) (at n : ℕ) → n ≤ 0 → fields_end bs at n ≡ at
unfolding fields_end
fields_end_none bs at zero h = refl
fields_end_none bs at (suc n) h = absurd (omega arith)

-- Fields end no earlier than they begin.
pub fields_end_from : (bs : List ℕ) (at n : ℕ) → at ≤ fields_end bs at n
unfolding fields_end field_end
fields_end_from bs at zero = omega arith
fields_end_from bs at (suc n) = omega (arith, fields_end_from bs (field_end bs at) n)

-- Fields that are there end no earlier than the first of them.
pub fields_end_first : (bs : List ℕ) (at n : ℕ) → 0 < n → field_end bs at ≤ fields_end bs at n
unfolding fields_end
fields_end_first bs at zero h = absurd (omega arith)
fields_end_first bs at (suc n) h = fields_end_from bs (field_end bs at) n

-- ---- fields with tag 1

module _ (bs : List ℕ) (at n : ℕ) where
  -- A field with another tag is stepped over.
  pub number_more : (next : ℕ) → 0 < n → next ≡ field_end bs at → (short bs at ≡ 1 → ⊥) → number_fields (fields_from bs at n) ≡ number_fields (fields_from bs next (n - 1))
  unfolding number_fields select
  number_more next h q e = rw (fields_step bs at n h, ne_eqb _ _ e, q)

  -- A field with tag 1 is the first of them.
  pub number_here : 0 < n → short bs at ≡ 1 → number_fields (fields_from bs at n) ≡ field_at bs at ∷ number_fields (fields_from bs (field_end bs at) (n - 1))
  unfolding number_fields select
  number_here h e = rw (fields_step bs at n h, eq-eqb _ _ e)

-- Of no fields none has tag 1.
pub number_none : (bs : List ℕ) (at n : ℕ) → n ≡ 0 → number_fields (fields_from bs at n) ≡ []
unfolding number_fields fields_from select
number_none bs at n h = rw h
