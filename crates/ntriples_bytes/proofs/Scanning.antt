-- Laws of whether bytes are UTF-8, byte by byte. Assumes nothing.
use Prim.Native.Nat.{ℕ, zero, suc, ◌+◌, ◌-◌, ◌*◌, ◌≤◌, ◌<◌}
use mathlib.Core.Path.{◌≡◌, refl, sym, ap, ◌∙◌}
use mathlib.Core.Bool.{true, false, ◌&&◌}
use mathlib.Core.List.{List, [], ◌∷◌}
use native.Mathlib.Numerals.{add-one}
use native.Mathlib.Omega.{arith}
use lib.ListN.{length, get_or, drop, drop_of_length-le}
use lib.Seq.{drop-cons}
use lib.Dec.{eqb, ltb}
use borrow.Author.Tests.{lt-leb, le-leb, ne_eqb, eq-eqb, lt-ltb, le-ltb, eqb-true, ltb-true}
use Rattle.spec_ntriples.specs.Utf8.{is_between}
use Rattle.spec_ntriples.specs.computed.Decoded.{Decoded, broken, decoded, with_char, bad, due, first_byte, further_byte, next_byte, no_byte, decode_from, decode}
use Rattle.ntriples_bytes.specs.inside.Whole.{are_chars, are_chars_from}
use Rattle.std.specs.Prelude.{Option, Some, None}
use Rattle.ntriples_bytes.specs.declared.Due.{Due as Left}
use Rattle.ntriples_bytes.proofs.Decoding.{whole, bad_stays}
use Rattle.ntriples_bytes.proofs.Marking.{by_test, and_left, and_right}

-- So many bytes are due, the next in a range.
abbrev pub left_due : ℕ → ℕ → ℕ → Option Left
left_due left low high = Some (record { left = left; low = low; high = high })

-- A character in front says nothing.
pub with_char_lem : (v : ℕ) (d : Decoded) → are_chars (with_char v d) ≡ are_chars d
unfolding are_chars with_char
with_char_lem v broken = refl
with_char_lem v (decoded cs) = refl

-- The number so far says nothing.
any_value
    : (bs : List ℕ) (left v w low high : ℕ)
    → are_chars (decode_from bs (due left v low high)) ≡ are_chars (decode_from bs (due left w low high))
unfolding decode_from next_byte no_byte further_byte are_chars
any_value [] zero v w low high = refl
any_value (b ∷ bs) zero v w low high = with_char_lem v (decode_from bs (first_byte b)) ∙ sym (with_char_lem w (decode_from bs (first_byte b)))
any_value [] (suc left) v w low high = refl
any_value (b ∷ bs) (suc left) v w low high =
    by_test (is_between low high b) (λ q. rw q (any_value bs left (v * 64 + (b - 0x80)) (w * 64 + (b - 0x80)) 0x80 0xBF)) (λ q. rw q)

-- ---- the first byte

-- What it leaves due says whether it and the bytes behind are characters.
pub first-due
    : (b left v low high : ℕ) → first_byte b ≡ due left v low high
    → (bs : List ℕ) → are_chars (decode_from bs (first_byte b)) ≡ are_chars_from bs (left_due left low high)
unfolding are_chars_from
first-due b left v low high e bs = rw e (any_value bs left v 0 low high)

pub first_bad : (b : ℕ) → first_byte b ≡ bad → (bs : List ℕ) → are_chars (decode_from bs (first_byte b)) ≡ are_chars_from bs None
unfolding are_chars_from are_chars
first_bad b e bs = rw (e, bad_stays bs)

-- Behind a whole character any range will do.
whole_from : (bs : List ℕ) (v low high : ℕ) → are_chars (decode_from bs (due 0 v low high)) ≡ are_chars (decode bs)
whole_from bs v low high = rw (whole bs v low high) (with_char_lem v (decode bs))

pub first_ascii : (b low high : ℕ) → b < 0x80 → (bs : List ℕ) → are_chars (decode_from bs (first_byte b)) ≡ are_chars_from bs (left_due 0 low high)
unfolding are_chars_from first_byte
first_ascii b low high h bs = rw (lt-ltb b 0x80 h) (whole_from bs b 0 0 ∙ sym (whole_from bs 0 low high))

-- The branches of `first_byte` behind ASCII.
module _ (b : ℕ) where
  pub too_low : 0x80 ≤ b → b < 0xC2 → first_byte b ≡ bad
  unfolding first_byte
  too_low h k =
      rw (le-ltb b 0x80 h, lt-leb 0xC2 b k, ne_eqb b 0xE0 (λ x. omega arith), ne_eqb b 0xED (λ x. omega arith), lt-leb 0xE1 b (omega arith), ne_eqb b 0xF0 (λ x. omega arith), lt-leb 0xF1 b (omega arith), ne_eqb b 0xF4 (λ x. omega arith))

  pub leads_two : 0xC2 ≤ b → b < 0xE0 → first_byte b ≡ due 1 (b - 0xC0) 0x80 0xBF
  unfolding first_byte
  leads_two h k = rw (le-ltb b 0x80 (omega arith), le-leb 0xC2 b h, le-leb b 0xDF (omega arith))

  not_two : 0xE0 ≤ b → is_between 0xC2 0xDF b ≡ false
  not_two k = rw (le-leb 0xC2 b (omega arith), lt-leb b 0xDF (omega arith))

  pub leads_three_low : b ≡ 0xE0 → first_byte b ≡ due 2 0 0xA0 0xBF
  unfolding first_byte
  leads_three_low h = rw (le-ltb b 0x80 (omega arith), not_two (omega arith), eq-eqb b 0xE0 h)

  pub leads_three_surrogates : b ≡ 0xED → first_byte b ≡ due 2 13 0x80 0x9F
  unfolding first_byte
  leads_three_surrogates h = rw (le-ltb b 0x80 (omega arith), not_two (omega arith), ne_eqb b 0xE0 (λ x. omega arith), eq-eqb b 0xED h)

  pub leads_three : 0xE0 ≤ b → b < 0xF0 → (b ≡ 0xE0 → ⊥) → (b ≡ 0xED → ⊥) → first_byte b ≡ due 2 (b - 0xE0) 0x80 0xBF
  unfolding first_byte
  leads_three h k n m =
      rw (le-ltb b 0x80 (omega arith), not_two h, ne_eqb b 0xE0 n, ne_eqb b 0xED m, le-leb 0xE1 b (omega (arith, n)), le-leb b 0xEF (omega arith))

  not_three : 0xF0 ≤ b → is_between 0xE1 0xEF b ≡ false
  not_three k = rw (le-leb 0xE1 b (omega arith), lt-leb b 0xEF (omega arith))

  pub leads_four_low : b ≡ 0xF0 → first_byte b ≡ due 3 0 0x90 0xBF
  unfolding first_byte
  leads_four_low h =
      rw (le-ltb b 0x80 (omega arith), not_two (omega arith), ne_eqb b 0xE0 (λ x. omega arith), ne_eqb b 0xED (λ x. omega arith), not_three (omega arith), eq-eqb b 0xF0 h)

  pub leads_four : 0xF0 < b → b < 0xF4 → first_byte b ≡ due 3 (b - 0xF0) 0x80 0xBF
  unfolding first_byte
  leads_four h k =
      rw (le-ltb b 0x80 (omega arith), not_two (omega arith), ne_eqb b 0xE0 (λ x. omega arith), ne_eqb b 0xED (λ x. omega arith), not_three (omega arith), ne_eqb b 0xF0 (λ x. omega arith), le-leb 0xF1 b (omega arith), le-leb b 0xF3 (omega arith))

  not_four : 0xF4 ≤ b → is_between 0xF1 0xF3 b ≡ false
  not_four k = rw (le-leb 0xF1 b (omega arith), lt-leb b 0xF3 (omega arith))

  pub leads_four_high : b ≡ 0xF4 → first_byte b ≡ due 3 4 0x80 0x8F
  unfolding first_byte
  leads_four_high h =
      rw (le-ltb b 0x80 (omega arith), not_two (omega arith), ne_eqb b 0xE0 (λ x. omega arith), ne_eqb b 0xED (λ x. omega arith), not_three (omega arith), ne_eqb b 0xF0 (λ x. omega arith), not_four (omega arith), eq-eqb b 0xF4 h)

  pub too_high : 0xF4 < b → first_byte b ≡ bad
  unfolding first_byte
  too_high h =
      rw (le-ltb b 0x80 (omega arith), not_two (omega arith), ne_eqb b 0xE0 (λ x. omega arith), ne_eqb b 0xED (λ x. omega arith), not_three (omega arith), ne_eqb b 0xF0 (λ x. omega arith), not_four (omega arith), ne_eqb b 0xF4 (λ x. omega arith))

-- ---- a further byte

-- A byte behind an open character.
further_byte_lem
    : (l low high b : ℕ) (bs : List ℕ) → (l ≡ 0 → ⊥)
    → are_chars_from (b ∷ bs) (left_due l low high) ≡ are_chars (decode_from bs (further_byte (l - 1) 0 low high b))
unfolding are_chars_from decode_from next_byte
further_byte_lem zero low high b bs n = absurd (n refl)
further_byte_lem (suc l) low high b bs n = let e : suc l - 1 ≡ l = omega arith in rw e

module _ (left low high b : ℕ) where
  pub next-first
      : left ≡ 0 → (bs : List ℕ) → are_chars_from (b ∷ bs) (left_due left low high) ≡ are_chars (decode_from bs (first_byte b))
  unfolding are_chars_from decode_from next_byte
  next-first h bs = rw h (with_char_lem 0 (decode_from bs (first_byte b)))

  out_of_range : is_between low high b ≡ false → (left ≡ 0 → ⊥) → (bs : List ℕ) → are_chars_from (b ∷ bs) (left_due left low high) ≡ are_chars_from bs None
  unfolding are_chars_from further_byte are_chars
  out_of_range q n bs = further_byte_lem left low high b bs n ∙ rw (q, bad_stays bs)

  pub too_small : (left ≡ 0 → ⊥) → b < low → (bs : List ℕ) → are_chars_from (b ∷ bs) (left_due left low high) ≡ are_chars_from bs None
  too_small n h = out_of_range (rw (lt-leb low b h)) n

  pub too_great : (left ≡ 0 → ⊥) → low ≤ b → high < b → (bs : List ℕ) → are_chars_from (b ∷ bs) (left_due left low high) ≡ are_chars_from bs None
  too_great n k h = out_of_range (rw (le-leb low b k, lt-leb b high h)) n

  pub in_range : (left ≡ 0 → ⊥) → low ≤ b → b ≤ high → (bs : List ℕ) → are_chars_from (b ∷ bs) (left_due left low high) ≡ are_chars_from bs (left_due (left - 1) 0x80 0xBF)
  unfolding are_chars_from further_byte
  in_range n k h bs = further_byte_lem left low high b bs n ∙ rw (le-leb low b k, le-leb b high h) (any_value bs (left - 1) (0 * 64 + (b - 0x80)) 0 0x80 0xBF)

-- ---- the walk

-- No byte is read yet.
pub none_read : (bs : List ℕ) (low high : ℕ) → are_chars (decode bs) ≡ are_chars_from bs (left_due 0 low high)
unfolding are_chars_from
none_read bs low high = sym (whole_from bs 0 low high)

-- One more byte.
one-read
    : (bs : List ℕ) (at : ℕ) (d : Left) → at < length bs → are_chars (decode bs) ≡ are_chars_from (drop at bs) (Some d)
    → are_chars (decode bs) ≡ are_chars_from (get_or bs at 0 ∷ drop (at + 1) bs) (Some d)
one-read bs at d h e = e ∙ rw (add-one at, drop-cons bs at 0 h)

-- A byte of ASCII, as the test for that says.
pub ascii-read
    : (bs : List ℕ) (at : ℕ) (d : Left) → at < length bs → (eqb d.left 0 && ltb (get_or bs at 0) 0x80) ≡ true
    → are_chars (decode bs) ≡ are_chars_from (drop at bs) (Some d)
    → are_chars (decode bs) ≡ are_chars_from (drop (at + 1) bs) (Some d)
ascii-read bs at d h t e =
    let z : d.left ≡ 0 = eqb-true d.left 0 (and_left (eqb d.left 0) (ltb (get_or bs at 0) 0x80) t) in
    one-read bs at d h e
    ∙ next-first d.left d.low d.high (get_or bs at 0) z (drop (at + 1) bs)
    ∙ first_ascii (get_or bs at 0) d.low d.high (ltb-true (get_or bs at 0) 0x80 (and_right (eqb d.left 0) (ltb (get_or bs at 0) 0x80) t)) (drop (at + 1) bs)
    ∙ ap (λ (n : ℕ). are_chars_from (drop (at + 1) bs) (left_due n d.low d.high)) (sym z)

-- A byte that breaks an open character.
pub broken-read
    : (bs : List ℕ) (at : ℕ) (d : Left) → at < length bs → are_chars (decode bs) ≡ are_chars_from (drop at bs) (Some d)
    → ((ys : List ℕ) → are_chars_from (get_or bs at 0 ∷ ys) (Some d) ≡ are_chars_from ys None)
    → false ≡ are_chars (decode bs)
unfolding are_chars_from
broken-read bs at d h e n = sym (one-read bs at d h e ∙ n (drop (at + 1) bs))

-- No byte may be due behind the last.
none_due : (l low high : ℕ) → are_chars_from [] (left_due l low high) ≡ eqb l 0
unfolding are_chars_from decode_from no_byte are_chars
none_due zero low high = refl
none_due (suc l) low high = sym (ne_eqb (suc l) 0 (λ x. omega arith))

-- All bytes are read.
pub all_read
    : (bs : List ℕ) (at : ℕ) (d : Left) → length bs ≤ at → are_chars (decode bs) ≡ are_chars_from (drop at bs) (Some d)
    → eqb d.left 0 ≡ are_chars (decode bs)
all_read bs at d h e = sym (e ∙ rw (drop_of_length-le bs h) (none_due d.left d.low d.high))
