-- Laws of decoding, and of characters at indices. Assumes nothing.
use Prim.Native.Nat.{ℕ, zero, suc, ◌≤◌, ◌<◌}
use mathlib.Core.Path.{◌≡◌, refl, sym, ◌∙◌}
use mathlib.Core.List.{List, [], ◌∷◌}
use native.Mathlib.Omega.{arith}
use lib.ListN.{length, drop, drop_of_length-le, length-drop}
use Rattle.spec_ntriples.specs.computed.Decoded.{Decoded, broken, decoded, with_char, Due, bad, due, first_byte, further_byte, next_byte, no_byte, decode_from, decode}
use Rattle.ntriples_bytes.specs.inside.Places.{At, Utf8From, chars_of, chars_at, Marks}
use Rattle.ntriples_bytes.specs.declared.Mark.{Mark}

-- ---- decoding

-- Broken bytes are no characters.
pub broken-not : {C : Type 0} {cs : List ℕ} → broken ≡ decoded cs → C
broken-not e = let z : ◌≡◌ {A = ℕ} 0 1 = cc in absurd (omega arith)

-- The character in front is the first.
pub front_char : (v c : ℕ) (d : Decoded) (cs : List ℕ) → with_char v d ≡ decoded (c ∷ cs) → v ≡ c
unfolding with_char
front_char v c broken cs e = broken-not e
front_char v c (decoded ds) cs e = cc

-- The others are those behind it.
pub behind_front : (v c : ℕ) (d : Decoded) (cs : List ℕ) → with_char v d ≡ decoded (c ∷ cs) → d ≡ decoded cs
unfolding with_char
behind_front v c broken cs e = broken-not e
behind_front v c (decoded ds) cs e = cc

-- With a character in front there is one.
not_none : (v : ℕ) (d : Decoded) → with_char v d ≡ decoded [] → ⊥
unfolding with_char
not_none v broken e = broken-not e
not_none v (decoded cs) e = let z : ◌≡◌ {A = ℕ} 0 1 = cc in absurd (omega arith)

-- Behind a whole character others begin.
pub whole : (bs : List ℕ) (v low high : ℕ) → decode_from bs (due 0 v low high) ≡ with_char v (decode bs)
unfolding decode_from next_byte no_byte with_char decode
whole [] v low high = refl
whole (b ∷ bs) v low high = refl

-- A broken character stays so.
pub bad_stays : (bs : List ℕ) → decode_from bs bad ≡ broken
unfolding decode_from no_byte next_byte
bad_stays [] = refl
bad_stays (b ∷ bs) = refl

-- Where a character is open, at least one is read.
some_char : (l : List ℕ) (d : Due) → decode_from l d ≡ decoded [] → ⊥
unfolding decode_from next_byte no_byte
some_char [] bad e = broken-not e
some_char [] (due zero v low high) e = let z : ◌≡◌ {A = ℕ} 0 1 = cc in absurd (omega arith)
some_char [] (due (suc left) v low high) e = broken-not e
some_char (b ∷ l) bad e = broken-not e
some_char (b ∷ l) (due zero v low high) e = not_none v (decode_from l (first_byte b)) e
some_char (b ∷ l) (due (suc left) v low high) e = some_char l (further_byte left v low high b) e

-- Where no character is read, there is no byte.
decode_none : (l : List ℕ) → decode l ≡ decoded [] → length l ≤ 0
unfolding decode
decode_none [] e = omega arith
decode_none (b ∷ l) e = absurd (some_char l (first_byte b) e)

-- Where a character is read, there is a byte.
pub decode-some : (l : List ℕ) (c : ℕ) (cs : List ℕ) → decode l ≡ decoded (c ∷ cs) → 0 < length l
unfolding decode
decode-some [] c cs e = let z : ◌≡◌ {A = ℕ} 0 1 = cc in omega arith
decode-some (b ∷ l) c cs e = omega arith

-- ---- at an index

-- The characters at an index are determined.
pub at_same : (bs : List ℕ) (at : ℕ) (cs ds : List ℕ) → At bs at cs → At bs at ds → cs ≡ ds
at_same bs at cs ds A B = let e : decoded cs ≡ decoded ds = sym A.chars ∙ B.chars in cc

-- All characters of bytes stand at index 0.
pub at_start : (bs cs : List ℕ) → decode bs ≡ decoded cs → At bs 0 cs
at_start bs cs e = record { within = omega arith; chars = e }

-- Where characters stand, the bytes are UTF-8.
pub some_at : {bs : List ℕ} {at : ℕ} {cs : List ℕ} → At bs at cs → Utf8From bs at
some_at {cs = cs} A = record { chars = cs; stands = A }

-- At the end there are no characters.
pub at_end : (bs : List ℕ) (at : ℕ) (cs : List ℕ) → length bs ≤ at → At bs at cs → cs ≡ []
unfolding decode
at_end bs at cs h A = let e : decode (drop at bs) ≡ decoded [] = rw (drop_of_length-le bs h) in let f : decoded cs ≡ decoded [] = sym A.chars ∙ e in cc

-- A character is before the end.
pub at_within : (bs : List ℕ) (at c : ℕ) (cs : List ℕ) → At bs at (c ∷ cs) → at < length bs
at_within bs at c cs A = omega (arith, decode-some (drop at bs) c cs A.chars, length-drop at bs)

-- The first of the characters at an index.
pub record First (bs : List ℕ) (at : ℕ) (cs : List ℕ) : Type 0 where
  pub char : ℕ
  pub behind : List ℕ
  pub same : cs ≡ char ∷ behind
  pub stands : At bs at (char ∷ behind)

-- Before the end there is one.
pub first-at : (bs : List ℕ) (at : ℕ) (cs : List ℕ) → at < length bs → At bs at cs → First bs at cs
first-at bs at [] h A = absurd (omega (arith, decode_none (drop at bs) A.chars, length-drop at bs))
first-at bs at (c ∷ cs) h A = record { char = c; behind = cs; same = refl; stands = A }

-- ---- the characters at an index

-- They are those that stand there.
pub chars_are : {bs : List ℕ} {at : ℕ} {cs : List ℕ} → At bs at cs → chars_at bs at ≡ cs
unfolding chars_at chars_of
chars_are A = rw A.chars

-- They stand there.
pub chars_stand : {bs : List ℕ} {at : ℕ} → Utf8From bs at → At bs at (chars_at bs at)
chars_stand U = rw (chars_are U.stands) U.stands

-- Behind the end there are none.
pub chars_end : (bs : List ℕ) (at : ℕ) → length bs ≤ at → chars_at bs at ≡ []
unfolding chars_at chars_of decode
chars_end bs at h = rw (drop_of_length-le bs h)

-- The marked one is the first.
pub chars_marked : {bs : List ℕ} {at : ℕ} {m : Mark} → Marks bs at m → chars_at bs at ≡ m.code ∷ chars_at bs m.next
chars_marked M = chars_are M.stands ∙ rw (chars_are M.rest)

-- Behind it the bytes are UTF-8.
pub from_marked : {bs : List ℕ} {at : ℕ} {m : Mark} → Marks bs at m → Utf8From bs m.next
from_marked M = some_at M.rest
