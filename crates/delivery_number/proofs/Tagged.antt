-- The walk of the extra fields of a whole delivery to those with tag 1. Assumes nothing.
use Prim.Native.Nat.{ℕ, zero, suc, ◌+◌, ◌-◌, ◌≤◌, ◌<◌}
use mathlib.Core.Path.{◌≡◌, refl, sym, ap, ◌∙◌}
use mathlib.Core.Bool.{true, false}
use mathlib.Core.List.{List, [], ◌∷◌}
use native.Mathlib.Omega.{arith}
use lib.ListN.{length, get_or, take, drop}
use lib.Seq.{get_or-take, get_or-drop}
use lib.Dec.{eqb, eqb-suc-zero}
use borrow.Author.Tests.{eqb-true, eq-eqb, ne_eqb}
use Rattle.delivery_number.specs.declared.Fields.{Fields}
use Rattle.spec.specs.Deliveries.{number_fields, is_number_right, number_of}
use Rattle.spec.specs.computed.Decoded.{short, word, field_at, field_end, fields_from, fields_end, read, is_whole}
use Rattle.spec.specs.Messages.{Field}
use Rattle.delivery_number.specs.inside.Found.{ExtraFields, FromNumber}
use Rattle.delivery_format.proofs.Walk.{fields_end_more, fields_end_from, fields_end_first, number_here, number_none}
use Rattle.delivery_format.proofs.Sections.{field-length}
use Rattle.delivery_format.proofs.Whole.{whole_length, whole_end}

-- ---- a field's bytes

-- A byte of a field.
byte_of : (bs : List ℕ) (k n i j : ℕ) → i < n → k + i ≡ j → get_or (take n (drop k bs)) i 0 ≡ get_or bs j 0
byte_of bs k n i j h e = rw (get_or-take, get_or-drop, e)

-- The word of a field of four bytes.
word_of : (bs : List ℕ) (k n : ℕ) → n ≡ 4 → word (take n (drop k bs)) 0 ≡ word bs k
unfolding word short
word_of bs k n h =
    rw (byte_of bs k n 0 k (omega arith) (omega arith), byte_of bs k n 1 (k + 1) (omega arith) refl, byte_of bs k n 2 (k + 2) (omega arith) refl, byte_of bs k n 3 (k + 2 + 1) (omega arith) (omega arith))

-- ---- the test of the fields with tag 1

-- The first of them is not of length 4.
not_four : (f : Field) (fs : List Field) → (length f.bytes ≡ 4 → ⊥) → is_number_right (f ∷ fs) ≡ false
unfolding is_number_right
not_four f [] h = ne_eqb _ _ h
not_four f (g ∷ fs) h = refl

-- Where they are right, the first is of length 4.
four : (f : Field) (fs : List Field) → is_number_right (f ∷ fs) ≡ true → length f.bytes ≡ 4
unfolding is_number_right
four f [] h = eqb-true _ _ h
four f (g ∷ fs) h = absurd (let z : ◌≡◌ {A = ℕ} 0 1 = cc in omega arith)

-- One of length 4 is right where those that are left are none; of these the first has tag 1.
rest_right : (f : Field) (bs : List ℕ) (at n : ℕ) → length f.bytes ≡ 4 → (0 < n → short bs at ≡ 1) → eqb n 0 ≡ is_number_right (f ∷ number_fields (fields_from bs at n))
unfolding is_number_right
rest_right f bs at zero e t = rw (number_none bs at 0 refl, eq-eqb _ _ e)
rest_right f bs at (suc n) e t = rw (number_here bs at (suc n) (omega arith) (t (omega arith)), eqb-suc-zero n)

-- ---- the walk

module _ (bs : List ℕ) (w : is_whole bs ≡ true) (f : Fields) (x : ExtraFields bs f) where
  -- The extra fields are those that are read.
  fields_read : fields_from bs f.at f.count ≡ (read bs).fields
  unfolding read
  fields_read = rw (x.begins, x.counted)

  -- They end at the last byte.
  fields_whole : fields_end bs f.at f.count ≡ length bs
  fields_whole = rw (x.begins, x.counted) (whole_end bs w)

  pub fields_small : fields_end bs f.at f.count ≤ 65536
  fields_small = omega (arith, fields_whole, whole_length bs w)

  module _ (g : Fields) (y : FromNumber bs f.at f.count g) where
    -- What is left begins within the bytes.
    pub at_small : g.at ≤ 65536
    at_small = omega (arith, fields_small, y.end, fields_end_from bs g.at g.count)

    -- None has tag 1.
    found_none : g.count ≡ 0 → number_fields (read bs).fields ≡ []
    found_none h = ap number_fields (sym fields_read) ∙ y.same ∙ number_none bs g.at g.count h

    pub right-none : g.count ≡ 0 → true ≡ is_number_right (number_fields (read bs).fields)
    unfolding is_number_right
    right-none h = rw (found_none h)

    pub number-absent : g.count ≡ 0 → 0 ≡ number_of (number_fields (read bs).fields)
    unfolding number_of
    number-absent h = rw (found_none h)

    -- One has tag 1, and lies within the bytes.
    module _ (h : 0 < g.count) where
      found-one : number_fields (read bs).fields ≡ field_at bs g.at ∷ number_fields (fields_from bs (field_end bs g.at) (g.count - 1))
      found-one = ap number_fields (sym fields_read) ∙ y.same ∙ number_here bs g.at g.count h (y.tag h)

      found-length : length (field_at bs g.at).bytes ≡ short bs (g.at + 2)
      found-length = field-length bs g.at (omega (arith, fields_whole, y.end, fields_end_first bs g.at g.count h))

      -- It is not of length 4.
      pub right-length : (n : ℕ) → n ≡ short bs (g.at + 2) → (n ≡ 4 → ⊥) → false ≡ is_number_right (number_fields (read bs).fields)
      right-length n q e = rw found-one (sym (not_four _ _ (λ l. e (q ∙ sym found-length ∙ l))))

      module _ (next : ℕ) (q : next ≡ field_end bs g.at) where
        pub more-small : fields_end bs next (g.count - 1) ≤ 65536
        more-small = omega (arith, fields_small, y.end, fields_end_more bs g.at g.count next h q)

        -- It is right where no field after it has tag 1.
        pub right-more : (m : Fields) → FromNumber bs next (g.count - 1) m → (n : ℕ) → n ≡ short bs (g.at + 2) → n ≡ 4 → eqb m.count 0 ≡ is_number_right (number_fields (read bs).fields)
        right-more m z n r e = rw (found-one, ← q, z.same) (rest_right (field_at bs g.at) bs m.at m.count (found-length ∙ sym r ∙ e) z.tag)

      -- Its word is the delivery number.
      pub number-found : is_number_right (number_fields (read bs).fields) ≡ true → word bs (g.at + 4) ≡ number_of (number_fields (read bs).fields)
      unfolding number_of
      number-found e =
          let l : length (field_at bs g.at).bytes ≡ 4 = four (field_at bs g.at) (number_fields (fields_from bs (field_end bs g.at) (g.count - 1))) (rw found-one at e) in
          rw found-one (sym (word_of bs (g.at + 4) (short bs (g.at + 2)) (sym found-length ∙ l)))
