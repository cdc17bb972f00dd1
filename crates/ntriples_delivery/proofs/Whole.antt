-- Laws of the bytes of a delivery, written section behind section among zeros. Assumes nothing.
use Prim.Native.Nat.{ℕ, suc, ◌+◌, ◌-◌, ◌*◌, ◌≤◌}
use mathlib.Core.Path.{◌≡◌, refl, sym, ap, ◌∙◌}
use mathlib.Core.Bool.{true, false}
use mathlib.Core.List.{List, [], ◌∷◌, ◌++◌, append_assoc}
use native.Mathlib.Omega.{arith}
use lib.ListN.{length, replicate, length-append}
use lib.Seq.{sets}
use Rattle.spec.specs.declared.Triple.{Triple}
use Rattle.spec.specs.Lists.{padded}
use Rattle.spec.specs.Tables.{first_rows}
use Rattle.spec.proofs.TableRows.{length-first_rows}
use Rattle.spec.specs.Messages.{short_bytes, entries_bytes, section_bytes, fields_bytes, encode}
use Rattle.delivery_format.specs.inside.Sections.{is_right_in}
use Rattle.spec_ntriples.specs.Reading.{additions}
use Rattle.spec_ntriples.proofs.ReadingRefused.{selected, additions-length}
use Rattle.ntriples_text.proofs.Writing.{sets-append}
use Rattle.ntriples_zero.proofs.Zeros.{sets_zeros}
use Rattle.ntriples_section.specs.inside.Sections.{chosen}
use Rattle.ntriples_section.proofs.Writing.{section-length}

-- How many statements and facts there are.
pub chosen-all : (n : ℕ) (ws : List ℕ) → length (chosen true n ws) + length (chosen false n ws) ≡ n
unfolding chosen is_right_in
chosen-all n ws = selected (first_rows n ws) ∙ length-first_rows n ws

module _ (n len : ℕ) (ws : List ℕ) (h : 10 + 12 * n ≤ len) where
  abbrev message : List ℕ
  message = encode (additions (first_rows n ws))

  abbrev statements : List Triple
  statements = chosen true n ws

  abbrev facts : List Triple
  facts = chosen false n ws

  -- The bytes of a message of additions.
  message_is : message ≡ replicate 4 0 ++ (section_bytes statements ++ (section_bytes facts ++ (0 ∷ 0 ∷ [])))
  unfolding encode additions chosen is_right_in section_bytes entries_bytes fields_bytes short_bytes
  message_is = refl

  message-length : length message ≡ 10 + 12 * n
  message-length = additions-length (first_rows n ws) ∙ ap (λ (k : ℕ). 10 + 12 * k) (length-first_rows n ws)

  -- What is behind the sections: a count of no fields, and zeros.
  tail-is
      : (S F R : List ℕ) → S ++ F ++ (0 ∷ 0 ∷ R) ≡ S ++ (F ++ (0 ∷ 0 ∷ [])) ++ R
  tail-is S F R =
      append_assoc S F (0 ∷ 0 ∷ R)
      ∙ sym (append_assoc S (F ++ (0 ∷ 0 ∷ [])) R ∙ ap (λ (l : List ℕ). S ++ l) (append_assoc F (0 ∷ 0 ∷ []) R))

  both-length : length (section_bytes statements ++ section_bytes facts) ≡ 4 + 12 * n
  both-length =
      omega (arith, length-append (section_bytes statements) (section_bytes facts), section-length statements, section-length facts, chosen-all n ws)

  among_zeros : sets (replicate len 0) 4 (section_bytes statements ++ section_bytes facts) ≡ padded len message
  among_zeros =
      let S = section_bytes statements in
      let F = section_bytes facts in
      let r : ℕ = len - length message in
      let k : len ≡ 4 + (length (S ++ F) + suc (suc r)) = omega (arith, both-length, message-length) in
      ap (λ (m : ℕ). sets (replicate m 0) 4 (S ++ F)) k
      ∙ sets_zeros 4 (suc (suc r)) (S ++ F)
      ∙ ap (λ (l : List ℕ). replicate 4 0 ++ l) (tail-is S F (replicate r 0))
      ∙ sym (ap (λ (l : List ℕ). l ++ replicate r 0) message_is)

  pub delivery-written
      : (zeros a b : List ℕ) (at : ℕ) → zeros ≡ replicate len 0 → a ≡ sets zeros 4 (section_bytes statements) → at ≡ 4 + 2 + length statements * 12 → b ≡ sets a at (section_bytes facts)
      → b ≡ padded len message
  delivery-written zeros a b at z e p f =
      let k : at ≡ 4 + length (section_bytes statements) = omega (arith, section-length statements) in
      f ∙ rw (e, z, k) (sym (sets-append (replicate len 0) 4 (section_bytes statements) (section_bytes facts)) ∙ among_zeros)
