-- How many bytes characters take: laws of decoding and encoding together. Assumes nothing.
use Prim.Native.Nat.{ℕ, zero, suc, ◌+◌, ◌-◌, ◌*◌, ◌≤◌, ◌<◌}
use mathlib.Core.Path.{◌≡◌, refl, sym, ◌∙◌}
use mathlib.Core.List.{List, [], ◌∷◌, ◌++◌, append_assoc}
use native.Mathlib.Decide.{dec_lt}
use native.Mathlib.Omega.{arith}
use lib.Dec.{eqb, ltb}
use lib.ListN.{length, drop, length-append, length-drop}
use borrow.Author.Tests.{lt-ltb, le-ltb, ltb-true}
use Rattle.spec_ntriples.specs.Utf8.{is_between, encode_char, utf8}
use Rattle.spec_ntriples.specs.computed.Decoded.{decoded, with_char, bad, due, first_byte, further_byte, next_byte, no_byte, decode_from, decode}
use Rattle.ntriples_bytes.specs.inside.Places.{At}
use Rattle.ntriples_bytes.proofs.Decoding.{broken-not, front_char, behind_front, whole, bad_stays, first-at, at_start}
use Rattle.ntriples_bytes.proofs.Marking.{by_test, between}

-- ---- one character

-- Bytes behind the first of a character end it: so many are used, it is in a range, and the others decode by themselves.
record Ended (bs : List ℕ) (left lo hi : ℕ) (c : ℕ) (cs : List ℕ) : Type 0 where
  pub tail : List ℕ
  pub long : length bs ≡ left + length tail
  pub reads : decode tail ≡ decoded cs
  pub above : lo ≤ c
  pub below : c ≤ hi

bad-not : {C : Type 0} (bs : List ℕ) {cs : List ℕ} → decode_from bs bad ≡ decoded cs → C
bad-not bs e = broken-not (sym (bad_stays bs) ∙ e)

-- No byte is due.
end_none : (bs : List ℕ) (v low high c : ℕ) (cs : List ℕ) → decode_from bs (due 0 v low high) ≡ decoded (c ∷ cs) → Ended bs 0 v v c cs
end_none bs v low high c cs e =
    let f : with_char v (decode bs) ≡ decoded (c ∷ cs) = sym (whole bs v low high) ∙ e in
    let g : v ≡ c = front_char v c (decode bs) cs f in
    record { tail = bs; long = omega arith; reads = behind_front v c (decode bs) cs f; above = omega arith; below = omega arith }

-- One is due, or two, or three.
module _ (c : ℕ) (cs : List ℕ) where
  end_one : (bs : List ℕ) (v low high : ℕ) → 0x80 ≤ low → high ≤ 0xBF → decode_from bs (due 1 v low high) ≡ decoded (c ∷ cs) → Ended bs 1 (v * 64 + (low - 0x80)) (v * 64 + 63) c cs
  unfolding decode_from next_byte no_byte further_byte
  end_one [] v low high l h e = broken-not e
  end_one (b ∷ bs) v low high l h e =
      by_test (is_between low high b)
      (λ q.
      let r = between low b high q in
      let E : Ended bs 0 (v * 64 + (b - 0x80)) (v * 64 + (b - 0x80)) c cs = end_none bs (v * 64 + (b - 0x80)) 0x80 0xBF c cs (rw q at e) in
      record { tail = E.tail; long = omega (arith, E.long); reads = E.reads; above = omega (arith, E.above, r); below = omega (arith, E.below, r) })
      (λ q. bad-not bs (rw q at e))

  end_two : (bs : List ℕ) (v low high : ℕ) → 0x80 ≤ low → high ≤ 0xBF → decode_from bs (due 2 v low high) ≡ decoded (c ∷ cs) → Ended bs 2 ((v * 64 + (low - 0x80)) * 64) (v * 4096 + 4095) c cs
  unfolding decode_from next_byte no_byte further_byte
  end_two [] v low high l h e = broken-not e
  end_two (b ∷ bs) v low high l h e =
      by_test (is_between low high b)
      (λ q.
      let r = between low b high q in
      let E : Ended bs 1 ((v * 64 + (b - 0x80)) * 64 + (0x80 - 0x80)) ((v * 64 + (b - 0x80)) * 64 + 63) c cs = end_one bs (v * 64 + (b - 0x80)) 0x80 0xBF (omega arith) (omega arith) (rw q at e) in
      record { tail = E.tail; long = omega (arith, E.long); reads = E.reads; above = omega (arith, E.above, r); below = omega (arith, E.below, r) })
      (λ q. bad-not bs (rw q at e))

  end_three : (bs : List ℕ) (v low high : ℕ) → 0x80 ≤ low → high ≤ 0xBF → decode_from bs (due 3 v low high) ≡ decoded (c ∷ cs) → Ended bs 3 ((v * 64 + (low - 0x80)) * 4096) (v * 262144 + 262143) c cs
  unfolding decode_from next_byte no_byte further_byte
  end_three [] v low high l h e = broken-not e
  end_three (b ∷ bs) v low high l h e =
      by_test (is_between low high b)
      (λ q.
      let r = between low b high q in
      let E : Ended bs 2 (((v * 64 + (b - 0x80)) * 64 + (0x80 - 0x80)) * 64) ((v * 64 + (b - 0x80)) * 4096 + 4095) c cs = end_two bs (v * 64 + (b - 0x80)) 0x80 0xBF (omega arith) (omega arith) (rw q at e) in
      record { tail = E.tail; long = omega (arith, E.long); reads = E.reads; above = omega (arith, E.above, r); below = omega (arith, E.below, r) })
      (λ q. bad-not bs (rw q at e))

-- The bytes of a character, by its range.
pub width_one : (c : ℕ) → c ≤ 0x7F → length (encode_char c) ≡ 1
unfolding encode_char
width_one c h = rw (lt-ltb c 0x80 (omega arith))

width_two : (c : ℕ) → 0x80 ≤ c → c ≤ 0x7FF → length (encode_char c) ≡ 2
unfolding encode_char
width_two c h k = rw (le-ltb c 0x80 h, lt-ltb c 0x800 (omega arith))

width_three : (c : ℕ) → 0x800 ≤ c → c ≤ 0xFFFF → length (encode_char c) ≡ 3
unfolding encode_char
width_three c h k = rw (le-ltb c 0x80 (omega arith), le-ltb c 0x800 h, lt-ltb c 0x10000 (omega arith))

width_four : (c : ℕ) → 0x10000 ≤ c → length (encode_char c) ≡ 4
unfolding encode_char
width_four c h = rw (le-ltb c 0x80 (omega arith), le-ltb c 0x800 (omega arith), le-ltb c 0x10000 h)

-- The first character of bytes takes as many as it is encoded in, and the others stand behind it.
pub record FirstChar (bs : List ℕ) (c : ℕ) (cs : List ℕ) : Type 0 where
  pub tail : List ℕ
  pub long : length bs ≡ length (encode_char c) + length tail
  pub reads : decode tail ≡ decoded cs
  pub small : c < 0x200000

module _ (b : ℕ) (bs : List ℕ) (c : ℕ) (cs : List ℕ) where
  one : Ended bs 0 b b c cs → b < 0x80 → FirstChar (b ∷ bs) c cs
  one E h = record { tail = E.tail; long = omega (arith, E.long, width_one c (omega (arith, E.below))); reads = E.reads; small = omega (arith, E.below) }

  two : (lo hi : ℕ) → Ended bs 1 lo hi c cs → 0x80 ≤ lo → hi ≤ 0x7FF → FirstChar (b ∷ bs) c cs
  two lo hi E h k = record { tail = E.tail; long = omega (arith, E.long, width_two c (omega (arith, E.above)) (omega (arith, E.below))); reads = E.reads; small = omega (arith, E.below) }

  three : (lo hi : ℕ) → Ended bs 2 lo hi c cs → 0x800 ≤ lo → hi ≤ 0xFFFF → FirstChar (b ∷ bs) c cs
  three lo hi E h k = record { tail = E.tail; long = omega (arith, E.long, width_three c (omega (arith, E.above)) (omega (arith, E.below))); reads = E.reads; small = omega (arith, E.below) }

  four : (lo hi : ℕ) → Ended bs 3 lo hi c cs → 0x10000 ≤ lo → hi < 0x200000 → FirstChar (b ∷ bs) c cs
  four lo hi E h k = record { tail = E.tail; long = omega (arith, E.long, width_four c (omega (arith, E.above))); reads = E.reads; small = omega (arith, E.below) }

  first_byte_lem : decode_from bs (first_byte b) ≡ decoded (c ∷ cs) → FirstChar (b ∷ bs) c cs
  unfolding first_byte
  first_byte_lem e =
      by_test (ltb b 0x80) (λ q. one (end_none bs b 0 0 c cs (rw q at e)) (ltb-true b 0x80 q))
      (λ q. by_test (is_between 0xC2 0xDF b)
      (λ r. let i = between 0xC2 b 0xDF r in two _ _ (end_one c cs bs (b - 0xC0) 0x80 0xBF (omega arith) (omega arith) (rw (q, r) at e)) (omega (arith, i)) (omega (arith, i)))
      (λ r. by_test (eqb b 0xE0) (λ s. three _ _ (end_two c cs bs 0 0xA0 0xBF (omega arith) (omega arith) (rw (q, r, s) at e)) (omega arith) (omega arith))
      (λ s. by_test (eqb b 0xED) (λ t. three _ _ (end_two c cs bs 13 0x80 0x9F (omega arith) (omega arith) (rw (q, r, s, t) at e)) (omega arith) (omega arith))
      (λ t. by_test (is_between 0xE1 0xEF b)
      (λ u. let i = between 0xE1 b 0xEF u in three _ _ (end_two c cs bs (b - 0xE0) 0x80 0xBF (omega arith) (omega arith) (rw (q, r, s, t, u) at e)) (omega (arith, i)) (omega (arith, i)))
      (λ u. by_test (eqb b 0xF0) (λ v. four _ _ (end_three c cs bs 0 0x90 0xBF (omega arith) (omega arith) (rw (q, r, s, t, u, v) at e)) (omega arith) (omega arith))
      (λ v. by_test (is_between 0xF1 0xF3 b)
      (λ w. let i = between 0xF1 b 0xF3 w in four _ _ (end_three c cs bs (b - 0xF0) 0x80 0xBF (omega arith) (omega arith) (rw (q, r, s, t, u, v, w) at e)) (omega (arith, i)) (omega (arith, i)))
      (λ w. by_test (eqb b 0xF4) (λ x. four _ _ (end_three c cs bs 4 0x80 0x8F (omega arith) (omega arith) (rw (q, r, s, t, u, v, w, x) at e)) (omega arith) (omega arith))
      (λ x. bad-not bs (rw (q, r, s, t, u, v, w, x) at e)))))))))

pub first_char : (bs : List ℕ) (c : ℕ) (cs : List ℕ) → decode bs ≡ decoded (c ∷ cs) → FirstChar bs c cs
unfolding decode
first_char [] c cs e = let z : ◌≡◌ {A = ℕ} 0 1 = cc in absurd (omega arith)
first_char (b ∷ bs) c cs e = first_byte_lem b bs c cs e

-- ---- all characters

-- Where no character is read, there is no byte.
none_long : (bs : List ℕ) → decode bs ≡ decoded [] → length bs ≡ 0
none_long bs e = elim (dec_lt 0 (length bs)) [
  | yes h ↦ let F = first-at bs 0 [] h (at_start bs [] e) in let n : [] ≡ F.char ∷ F.behind = F.same in let z : ◌≡◌ {A = ℕ} 0 1 = cc in absurd (omega arith)
  | no h ↦ omega arith
]

-- A character takes one to four bytes.
pub width_some : (c : ℕ) → 0 < length (encode_char c)
unfolding encode_char
width_some c =
    by_test (ltb c 0x80) (λ q. rw q (omega arith))
    (λ q. rw q (by_test (ltb c 0x800) (λ r. rw r (omega arith)) (λ r. rw r (by_test (ltb c 0x10000) (λ t. rw t (omega arith)) (λ t. rw t (omega arith))))))

pub width_most : (c : ℕ) → length (encode_char c) ≤ 4
unfolding encode_char
width_most c =
    by_test (ltb c 0x80) (λ q. rw q (omega arith))
    (λ q. rw q (by_test (ltb c 0x800) (λ r. rw r (omega arith)) (λ r. rw r (by_test (ltb c 0x10000) (λ t. rw t (omega arith)) (λ t. rw t (omega arith))))))

-- As many bytes as the characters are encoded in.
decode_long : (n : ℕ) (bs : List ℕ) → length bs ≤ n → (cs : List ℕ) → decode bs ≡ decoded cs → length (utf8 cs) ≡ length bs
unfolding utf8
decode_long n bs h [] e = sym (none_long bs e)
decode_long zero bs h (c ∷ cs) e = let F = first_char bs c cs e in absurd (omega (arith, F.long, width_some c))
decode_long (suc n) bs h (c ∷ cs) e =
    let F = first_char bs c cs e in
    rw (length-append (encode_char c) (utf8 cs)) (omega (arith, F.long, width_some c, decode_long n F.tail (omega (arith, F.long, width_some c)) cs F.reads))

-- ---- at an index

-- Characters at an index take all bytes from there on.
pub at_place : (line : List ℕ) (p : ℕ) (cs : List ℕ) → At line p cs → p + length (utf8 cs) ≡ length line
at_place line p cs A = let h : p ≤ length line = A.within in omega (arith, decode_long (length line) (drop p line) (omega (arith, length-drop p line)) cs A.chars, length-drop p line)

-- The index of characters is determined.
pub same_place : (line : List ℕ) (p q : ℕ) (cs : List ℕ) → At line p cs → At line q cs → p ≡ q
same_place line p q cs A B = omega (arith, at_place line p cs A, at_place line q cs B)

-- A character takes the bytes up to the next.
pub next_place : (line : List ℕ) (p q c : ℕ) (cs : List ℕ) → At line p (c ∷ cs) → At line q cs → q ≡ p + length (encode_char c)
unfolding utf8
next_place line p q c cs A B = omega (arith, rw (length-append (encode_char c) (utf8 cs)) at (at_place line p (c ∷ cs) A), at_place line q cs B)

-- A character at an index is a small number.
pub char_small : (line : List ℕ) (p c : ℕ) (cs : List ℕ) → At line p (c ∷ cs) → c < 0x200000
char_small line p c cs A = (first_char (drop p line) c cs A.chars).small

-- Some characters more take more bytes.
pub encode-append : (cs ds : List ℕ) → utf8 (cs ++ ds) ≡ utf8 cs ++ utf8 ds
unfolding utf8
encode-append [] ds = refl
encode-append (c ∷ cs) ds = rw (encode-append cs ds) (sym (append_assoc (encode_char c) (utf8 cs) (utf8 ds)))

pub places_apart : (line : List ℕ) (p q : ℕ) (cs ds : List ℕ) → At line p (cs ++ ds) → At line q ds → q ≡ p + length (utf8 cs)
places_apart line p q cs ds A B = omega (arith, rw (encode-append cs ds, length-append (utf8 cs) (utf8 ds)) at (at_place line p (cs ++ ds) A), at_place line q ds B)
