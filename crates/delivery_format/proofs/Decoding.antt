-- The bytes of a whole delivery are those that are written of what it says. Assumes nothing.
use Prim.Native.Nat.{ℕ, zero, suc, ◌+◌, ◌*◌, ◌/◌, ◌%◌, ◌≤◌, ◌<◌}
use mathlib.Core.Path.{◌≡◌, refl, sym, ap, ◌∙◌}
use mathlib.Core.Bool.{true}
use mathlib.Core.List.{List, [], ◌∷◌, ◌++◌, append_assoc}
use native.Mathlib.Nat.{mod-eq_of_lt, div-eq_of_lt, add-mul-div_right, add-mul-mod_self_right}
use native.Mathlib.Omega.{arith}
use lib.ListN.{length, get_or, take, drop, take-append-drop, drop_of_length-le}
use lib.Seq.{drop-cons, drop-drop}
use Rattle.spec.specs.Messages.{short_bytes, word_bytes, entry_bytes, entries_bytes, section_bytes, field_bytes, fields_bytes, encode}
use Rattle.spec.specs.computed.Decoded.{short, word, entry_at, entries_from, section_at, section_end, section_start, field_at, field_end, fields_from, fields_end, read, is_whole}
use Rattle.delivery_format.specs.inside.Encodable.{IsByte}
use Rattle.spec.specs.inside.Each.{Each}
use Rattle.delivery_format.proofs.Walk.{length-entries_from, length-fields_from, fields_end_from}
use Rattle.delivery_format.proofs.Whole.{whole_end, whole_fields, section-next, section-within}
use Rattle.delivery_format.proofs.Sections.{field-length}

-- ---- numbers that are read

-- A low part below the base and a high part are found again.
low_part : (a b n : ℕ) → 0 < n → a < n → (a + b * n) % n ≡ a
low_part a b n p h = rw (add-mul-mod_self_right a b n, mod-eq_of_lt h)

high_part : (a b n : ℕ) → 0 < n → a < n → (a + b * n) / n ≡ b
high_part a b n p h = rw (add-mul-div_right a b p, div-eq_of_lt h) (omega arith)

-- A byte of a list of bytes, and 0 past its end.
byte_below : (bs : List ℕ) → Each IsByte bs → (i : ℕ) → get_or bs i 0 < 256
byte_below [] e i = omega arith
byte_below (b ∷ bs) e zero = e.0
byte_below (b ∷ bs) e (suc i) = byte_below bs e.1 i

module _ (bs : List ℕ) (each : Each IsByte bs) where
  short_below : (at : ℕ) → short bs at < 65536
  unfolding short
  short_below at = omega (arith, byte_below bs each at, byte_below bs each (at + 1))

  -- Bytes p from index a to index b, then q to index c.
  join : (a b c : ℕ) (p q : List ℕ) → drop a bs ≡ p ++ drop b bs → drop b bs ≡ q ++ drop c bs → drop a bs ≡ (p ++ q) ++ drop c bs
  join a b c p q x y = x ∙ ap (λ (l : List ℕ). p ++ l) y ∙ sym (append_assoc p q (drop c bs))

  byte_again : (at next : ℕ) → next ≡ at + 1 → next ≤ length bs → drop at bs ≡ get_or bs at 0 ∷ drop next bs
  byte_again at next e h = let q : suc at ≡ next = omega arith in rw q at (drop-cons bs at 0 (omega arith))

  short_again : (at next : ℕ) → next ≡ at + 2 → next ≤ length bs → drop at bs ≡ short_bytes (short bs at) ++ drop next bs
  unfolding short short_bytes
  short_again at next e h =
      rw (low_part (get_or bs at 0) (get_or bs (at + 1) 0) 256 (omega arith) (byte_below bs each at), high_part (get_or bs at 0) (get_or bs (at + 1) 0) 256 (omega arith) (byte_below bs each at))
      (join at (at + 1) next (get_or bs at 0 ∷ []) (get_or bs (at + 1) 0 ∷ []) (byte_again at (at + 1) refl (omega arith)) (byte_again (at + 1) next (omega arith) h))

  word_parts : (at : ℕ) → word_bytes (word bs at) ≡ short_bytes (short bs at) ++ short_bytes (short bs (at + 2))
  unfolding word word_bytes
  word_parts at = rw (low_part (short bs at) (short bs (at + 2)) 65536 (omega arith) (short_below at), high_part (short bs at) (short bs (at + 2)) 65536 (omega arith) (short_below at))

  pub word_again : (at next : ℕ) → next ≡ at + 4 → next ≤ length bs → drop at bs ≡ word_bytes (word bs at) ++ drop next bs
  word_again at next e h =
      rw (word_parts at)
      (join at (at + 2) next (short_bytes (short bs at)) (short_bytes (short bs (at + 2))) (short_again at (at + 2) refl (omega arith)) (short_again (at + 2) next (omega arith) h))

  -- ---- sections

  entry_again : (at : ℕ) → at + 12 ≤ length bs → drop at bs ≡ entry_bytes (entry_at bs at) ++ drop (at + 12) bs
  unfolding entry_bytes
  entry_again at h =
      join at (at + 4) (at + 12) (word_bytes (word bs at)) (word_bytes (word bs (at + 4)) ++ word_bytes (word bs (at + 8)))
      (word_again at (at + 4) refl (omega arith))
      (join (at + 4) (at + 8) (at + 12) (word_bytes (word bs (at + 4))) (word_bytes (word bs (at + 8))) (word_again (at + 4) (at + 8) (omega arith) (omega arith)) (word_again (at + 8) (at + 12) (omega arith) h))

  entries_again : (at n end : ℕ) → end ≡ at + n * 12 → end ≤ length bs → drop at bs ≡ entries_bytes (entries_from bs at n) ++ drop end bs
  unfolding entries_from entries_bytes
  entries_again at zero end e h = let q : end ≡ at = omega arith in rw q
  entries_again at (suc n) end e h =
      join at (at + 12) end (entry_bytes (entry_at bs at)) (entries_bytes (entries_from bs (at + 12) n)) (entry_again at (omega arith)) (entries_again (at + 12) n end (omega arith) h)

  section_again : (at : ℕ) → section_end bs at ≤ length bs → drop at bs ≡ section_bytes (section_at bs at) ++ drop (section_end bs at) bs
  unfolding section_end section_bytes
  section_again at h =
      rw (length-entries_from bs (at + 2) (short bs at))
      (join at (at + 2) (section_end bs at) (short_bytes (short bs at)) (entries_bytes (section_at bs at)) (short_again at (at + 2) refl (omega arith)) (entries_again (at + 2) (short bs at) (section_end bs at) refl h))

  -- ---- fields

  bytes_again : (at n : ℕ) → drop at bs ≡ take n (drop at bs) ++ drop (at + n) bs
  bytes_again at n = sym (take-append-drop n (drop at bs)) ∙ ap (λ (l : List ℕ). take n (drop at bs) ++ l) (drop-drop n at bs)

  field_again : (at : ℕ) → field_end bs at ≤ length bs → drop at bs ≡ field_bytes (field_at bs at) ++ drop (field_end bs at) bs
  unfolding field_end field_bytes
  field_again at h =
      rw (field-length bs at h)
      (join at (at + 2) (field_end bs at) (short_bytes (short bs at)) (short_bytes (short bs (at + 2)) ++ (field_at bs at).bytes)
      (short_again at (at + 2) refl (omega arith))
      (join (at + 2) (at + 4) (field_end bs at) (short_bytes (short bs (at + 2))) (field_at bs at).bytes (short_again (at + 2) (at + 4) (omega arith) (omega arith)) (bytes_again (at + 4) (short bs (at + 2)))))

  fields_again : (at n : ℕ) → fields_end bs at n ≡ length bs → drop at bs ≡ fields_bytes (fields_from bs at n)
  unfolding fields_from fields_bytes fields_end
  fields_again at zero e = drop_of_length-le bs {i = at} (omega arith)
  fields_again at (suc n) e =
      let h : field_end bs at ≤ length bs = omega (arith, e, fields_end_from bs (field_end bs at) n) in
      field_again at h ∙ ap (λ (l : List ℕ). field_bytes (field_at bs at) ++ l) (fields_again (field_end bs at) n e)

  -- ---- the whole

  module _ (w : is_whole bs ≡ true) where
    -- One section of entries, and what follows it.
    again : (k : ℕ) → k < 4 → (q : List ℕ) → drop (section_start bs (suc k)) bs ≡ q → drop (section_start bs k) bs ≡ section_bytes (section_at bs (section_start bs k)) ++ q
    unfolding section_start
    again k h q e =
        let l : section_end bs (section_start bs k) ≤ length bs = rw (← section-next bs k) at (section-within bs w k h) in
        section_again (section_start bs k) l ∙ ap (λ (r : List ℕ). section_bytes (section_at bs (section_start bs k)) ++ r) e

    -- The fifth section.
    last-again : drop (section_start bs 4) bs ≡ short_bytes (length (read bs).fields) ++ fields_bytes (read bs).fields
    unfolding read
    last-again =
        rw (length-fields_from bs (section_start bs 4 + 2) (short bs (section_start bs 4)))
        (short_again (section_start bs 4) (section_start bs 4 + 2) refl (whole_fields bs w) ∙ ap (λ (l : List ℕ). short_bytes (short bs (section_start bs 4)) ++ l) (fields_again (section_start bs 4 + 2) (short bs (section_start bs 4)) (whole_end bs w)))

    -- A whole delivery is the bytes of what it says.
    pub encode-read : encode (read bs) ≡ bs
    unfolding encode read section_start
    encode-read = sym (again 0 (omega arith) _ (again 1 (omega arith) _ (again 2 (omega arith) _ (again 3 (omega arith) _ last-again))))
