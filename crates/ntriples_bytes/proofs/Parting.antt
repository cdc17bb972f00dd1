-- Laws of the characters of parts of bytes. Assumes nothing.
use Prim.Native.Nat.{ℕ, zero, suc, ◌+◌, ◌-◌, ◌*◌, ◌≤◌, ◌<◌}
use mathlib.Core.Path.{◌≡◌, refl, ap, ◌∙◌}
use mathlib.Core.Bool.{Bool, true, false, ◌||◌}
use mathlib.Core.List.{List, [], ◌∷◌, ◌++◌}
use native.Mathlib.Omega.{arith}
use lib.Dec.{eqb, ltb}
use borrow.Author.Tests.{lt-leb, lt-ltb}
use Rattle.spec_ntriples.specs.Utf8.{is_between}
use Rattle.spec_ntriples.specs.computed.Decoded.{Decoded, broken, decoded, with_char, Due, bad, due, first_byte, further_byte, next_byte, no_byte, decode_from, decode}
use Rattle.ntriples_bytes.specs.inside.Parts.{joined, has_any}
use Rattle.ntriples_bytes.proofs.Decoding.{broken-not, whole, bad_stays}
use Rattle.ntriples_bytes.proofs.Marking.{by_test, between}

-- A further byte of an open character is none of ASCII.
abbrev IsOpen : Due → Type 0
IsOpen bad = Unit {0}
IsOpen (due zero v low high) = Unit {0}
IsOpen (due (suc left) v low high) = 0x80 ≤ low

-- What the first byte leaves open.
first_open : (b : ℕ) → IsOpen (first_byte b)
unfolding first_byte
first_open b =
    by_test (ltb b 0x80) (λ q. rw q tt)
    (λ q. rw q (by_test (is_between 0xC2 0xDF b) (λ r. rw r (omega arith))
    (λ r. rw r (by_test (eqb b 0xE0) (λ s. rw s (omega arith))
    (λ s. rw s (by_test (eqb b 0xED) (λ t. rw t (omega arith))
    (λ t. rw t (by_test (is_between 0xE1 0xEF b) (λ u. rw u (omega arith))
    (λ u. rw u (by_test (eqb b 0xF0) (λ v. rw v (omega arith))
    (λ v. rw v (by_test (is_between 0xF1 0xF3 b) (λ w. rw w (omega arith))
    (λ w. rw w (by_test (eqb b 0xF4) (λ x. rw x (omega arith)) (λ x. rw x tt)))))))))))))))

-- What a further byte leaves open.
further_open : (left v low high b : ℕ) → IsOpen (further_byte left v low high b)
unfolding further_byte
further_open zero v low high b = by_test (is_between low high b) (λ q. rw q tt) (λ q. rw q tt)
further_open (suc left) v low high b = by_test (is_between low high b) (λ q. rw q (omega arith)) (λ q. rw q tt)

-- A character in front of the first part.
joined_char : (v : ℕ) (d e : Decoded) → with_char v (joined d e) ≡ joined (with_char v d) e
unfolding with_char joined
joined_char v broken e = refl
joined_char v (decoded cs) broken = refl
joined_char v (decoded cs) (decoded ds) = refl

-- One character, and no character, as the first part.
joined_one : (v : ℕ) (e : Decoded) → with_char v e ≡ joined (decoded (v ∷ [])) e
unfolding with_char joined
joined_one v broken = refl
joined_one v (decoded ds) = refl

joined_none : (e : Decoded) → e ≡ joined (decoded []) e
unfolding joined
joined_none broken = refl
joined_none (decoded ds) = refl

-- A byte of ASCII is a character.
pub ascii_char : (c : ℕ) (ys : List ℕ) → c < 0x80 → decode (c ∷ ys) ≡ with_char c (decode ys)
unfolding decode first_byte
ascii_char c ys h = rw (lt-ltb c 0x80 h) (whole ys c 0 0)

-- It ends what is open before it.
ends_open
    : (c : ℕ) (ys : List ℕ) (d : Due) → c < 0x80 → IsOpen d → decode_from (c ∷ ys) d ≡ joined (no_byte d) (with_char c (decode ys))
unfolding decode decode_from next_byte no_byte joined further_byte
ends_open c ys bad h o = refl
ends_open c ys (due zero v low high) h o = ap (with_char v) (ascii_char c ys h) ∙ joined_one v (with_char c (decode ys))
ends_open c ys (due (suc left) v low high) h o = rw (lt-leb low c (omega arith)) (bad_stays ys)

from_parts
    : (xs : List ℕ) (c : ℕ) (ys : List ℕ) (d : Due) → c < 0x80 → IsOpen d
    → decode_from (xs ++ (c ∷ ys)) d ≡ joined (decode_from xs d) (with_char c (decode ys))
unfolding decode_from next_byte joined
from_parts [] c ys d h o = ends_open c ys d h o
from_parts (b ∷ xs) c ys bad h o = refl
from_parts (b ∷ xs) c ys (due zero v low high) h o =
    ap (with_char v) (from_parts xs c ys (first_byte b) h (first_open b)) ∙ joined_char v (decode_from xs (first_byte b)) (with_char c (decode ys))
from_parts (b ∷ xs) c ys (due (suc left) v low high) h o = from_parts xs c ys (further_byte left v low high b) h (further_open left v low high b)

-- The bytes before a byte of ASCII decode by themselves, and so do those behind it.
pub decode_parts : (xs : List ℕ) (c : ℕ) (ys : List ℕ) → c < 0x80 → decode (xs ++ (c ∷ ys)) ≡ joined (decode xs) (with_char c (decode ys))
unfolding decode
decode_parts [] c ys h = ascii_char c ys h ∙ joined_none (with_char c (decode ys))
decode_parts (b ∷ xs) c ys h = from_parts xs c ys (first_byte b) h (first_open b)

-- ---- characters by their bytes

or_left : (a b : Bool) → (a || b) ≡ false → a ≡ false
or_left true b e = e
or_left false b e = refl

or_right : (a b : Bool) → (a || b) ≡ false → b ≡ false
or_right true b e = let z : ◌≡◌ {A = ℕ} 0 1 = cc in absurd (omega arith)
or_right false b e = e

module _ (test : ℕ → Bool) (none : (c : ℕ) → 0x80 ≤ c → test c ≡ false) where
  -- The character that is open does not pass the test: a whole one by itself, another because it will be behind ASCII.
  abbrev Clear : Due → Type 0
  Clear bad = Unit {0}
  Clear (due zero v low high) = test v ≡ false
  Clear (due (suc zero) v low high) = 2 ≤ v
  Clear (due (suc (suc left)) v low high) = 2 ≤ v * 64 + (low - 0x80)

  first_clear : (b : ℕ) → test b ≡ false → Clear (first_byte b)
  unfolding first_byte
  first_clear b h =
      by_test (ltb b 0x80) (λ q. rw q h)
      (λ q. rw q (by_test (is_between 0xC2 0xDF b) (λ r. rw r (omega (arith, between 0xC2 b 0xDF r)))
      (λ r. rw r (by_test (eqb b 0xE0) (λ s. rw s (omega arith))
      (λ s. rw s (by_test (eqb b 0xED) (λ t. rw t (omega arith))
      (λ t. rw t (by_test (is_between 0xE1 0xEF b) (λ u. rw u (omega (arith, between 0xE1 b 0xEF u)))
      (λ u. rw u (by_test (eqb b 0xF0) (λ v. rw v (omega arith))
      (λ v. rw v (by_test (is_between 0xF1 0xF3 b) (λ w. rw w (omega (arith, between 0xF1 b 0xF3 w)))
      (λ w. rw w (by_test (eqb b 0xF4) (λ x. rw x (omega arith)) (λ x. rw x tt)))))))))))))))

  further_clear : (left v low high b : ℕ) → Clear (due (suc left) v low high) → Clear (further_byte left v low high b)
  unfolding further_byte
  further_clear zero v low high b h = by_test (is_between low high b) (λ q. rw q (none (v * 64 + (b - 0x80)) (omega arith))) (λ q. rw q tt)
  further_clear (suc zero) v low high b h = by_test (is_between low high b) (λ q. rw q (omega (arith, between low b high q))) (λ q. rw q tt)
  further_clear (suc (suc left)) v low high b h = by_test (is_between low high b) (λ q. rw q (omega (arith, between low b high q))) (λ q. rw q tt)

  -- One character in front that does not pass.
  clear_front : (v : ℕ) (d : Decoded) (cs : List ℕ) → test v ≡ false → ((ds : List ℕ) → d ≡ decoded ds → has_any test ds ≡ false) → with_char v d ≡ decoded cs → has_any test cs ≡ false
  unfolding with_char has_any
  clear_front v broken cs h f e = broken-not e
  clear_front v (decoded ds) cs h f e = let g : v ∷ ds ≡ cs = cc in rw (← g, h) (f ds refl)

  from_clear : (bs cs : List ℕ) (d : Due) → Clear d → has_any test bs ≡ false → decode_from bs d ≡ decoded cs → has_any test cs ≡ false
  unfolding decode_from no_byte next_byte has_any
  from_clear [] cs bad k h e = broken-not e
  from_clear [] cs (due zero v low high) k h e = let g : v ∷ [] ≡ cs = cc in rw (← g, k)
  from_clear [] cs (due (suc left) v low high) k h e = broken-not e
  from_clear (b ∷ bs) cs bad k h e = broken-not e
  from_clear (b ∷ bs) cs (due zero v low high) k h e =
      clear_front v (decode_from bs (first_byte b)) cs k
      (λ ds q. from_clear bs ds (first_byte b) (first_clear b (or_left (test b) (has_any test bs) h)) (or_right (test b) (has_any test bs) h) q) e
  from_clear (b ∷ bs) cs (due (suc left) v low high) k h e =
      from_clear bs cs (further_byte left v low high b) (further_clear left v low high b k) (or_right (test b) (has_any test bs) h) e

  -- Where no byte passes a test that only ASCII does, no character does.
  pub none_passes : (bs cs : List ℕ) → has_any test bs ≡ false → decode bs ≡ decoded cs → has_any test cs ≡ false
  unfolding decode has_any
  none_passes [] cs h e = let g : [] ≡ cs = cc in rw (← g)
  none_passes (b ∷ bs) cs h e = from_clear bs cs (first_byte b) (first_clear b (or_left (test b) (has_any test bs) h)) (or_right (test b) (has_any test bs) h) e
