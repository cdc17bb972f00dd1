-- Laws of the canonical bytes of characters. Assumes nothing.
use Prim.Native.Nat.{ℕ}
use mathlib.Core.Path.{◌≡◌, refl}
use mathlib.Core.List.{[], ◌∷◌}
use lib.Dec.{eqb}
use Rattle.std.specs.Prelude.{Some, None}
use Rattle.spec_ntriples.specs.Utf8.{encode_char}
use Rattle.spec_ntriples.specs.Characters.{codes}
use Rattle.spec_ntriples.specs.Texts.{canonical_char}
use Rattle.ntriples_bytes.proofs.Marking.{by_test}
use Rattle.ntriples_cursor.specs.declared.Cursor.{Cursor}
use Rattle.ntriples_cursor.specs.declared.Piece.{Piece}
use Rattle.ntriples_cursor.specs.inside.Coming.{Holds}
use Rattle.ntriples_cursor.specs.inside.Letters.{letter_of}

-- A character with a letter is escaped, and any other is not.
letter-some : (c l : ℕ) → letter_of c ≡ Some l → canonical_char c ≡ 0x5C ∷ l ∷ []
unfolding canonical_char letter_of codes
letter-some c l =
    by_test (eqb c 0x22) (λ q. rw q (λ h. cc))
    (λ q. rw q (by_test (eqb c 0x5C) (λ r. rw r (λ h. cc))
    (λ r. rw r (by_test (eqb c 0x0A) (λ s. rw s (λ h. cc))
    (λ s. rw s (by_test (eqb c 0x0D) (λ t. rw t (λ h. cc)) (λ t. rw t (λ h. cc))))))))

letter_none : (c : ℕ) → letter_of c ≡ None → canonical_char c ≡ encode_char c
unfolding canonical_char letter_of codes
letter_none c =
    by_test (eqb c 0x22) (λ q. rw q (λ h. cc))
    (λ q. rw q (by_test (eqb c 0x5C) (λ r. rw r (λ h. cc))
    (λ r. rw r (by_test (eqb c 0x0A) (λ s. rw s (λ h. cc))
    (λ s. rw s (by_test (eqb c 0x0D) (λ t. rw t (λ h. cc)) (λ t. rw t (λ h. refl))))))))

module _ (c : ℕ) (next : Cursor) (p : Piece) where
  pub letter_canonical : (l : ℕ) → letter_of c ≡ Some l → Holds (0x5C ∷ l ∷ []) next p → Holds (canonical_char c) next p
  letter_canonical l e H = rw (letter-some c l e) H

  pub plain_canonical : letter_of c ≡ None → Holds (encode_char c) next p → Holds (canonical_char c) next p
  plain_canonical e H = rw (letter_none c e) H
