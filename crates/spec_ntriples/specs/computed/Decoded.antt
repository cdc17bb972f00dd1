-- The characters of bytes in UTF-8, by a walk over the bytes. Nobody has to read it: `utf8` of specs/Utf8.antt says what the bytes of
-- characters are.
-- Fixed by decode-encode (proofs/Decoding.antt): bytes decode to characters exactly when these are scalar values whose UTF-8 they are.
use Rattle.std.specs.Prelude.{ℕ, zero, suc, ◌+◌, ◌-◌, ◌*◌, cond, List, [], ◌∷◌, eqb, ltb}
use Rattle.spec_ntriples.specs.Utf8.{is_between}

-- The characters of some bytes, or that they are no UTF-8.
pub data Decoded : Type 0 where
  broken : Decoded
  decoded : List ℕ → Decoded

-- One character more, in front.
unfoldable pub with_char : ℕ → Decoded → Decoded
with_char c broken = broken
with_char c (decoded cs) = decoded (c ∷ cs)

-- What is open inside a character: how many bytes are due, the number so far, and the range of the next byte; or that it is broken.
pub data Due : Type 0 where
  bad : Due
  due : (left value low high : ℕ) → Due

-- "Table 3-7. Well-Formed UTF-8 Byte Sequences": what the first byte of a character leaves due.
unfoldable pub first_byte : ℕ → Due
first_byte b =
    cond (ltb b 0x80) (due 0 b 0 0)
    (cond (is_between 0xC2 0xDF b) (due 1 (b - 0xC0) 0x80 0xBF)
    (cond (eqb b 0xE0) (due 2 0 0xA0 0xBF)
    (cond (eqb b 0xED) (due 2 13 0x80 0x9F)
    (cond (is_between 0xE1 0xEF b) (due 2 (b - 0xE0) 0x80 0xBF)
    (cond (eqb b 0xF0) (due 3 0 0x90 0xBF)
    (cond (is_between 0xF1 0xF3 b) (due 3 (b - 0xF0) 0x80 0xBF)
    (cond (eqb b 0xF4) (due 3 4 0x80 0x8F) bad)))))))

-- What a further byte leaves due, where so many are due behind it.
unfoldable pub further_byte : (left value low high : ℕ) → ℕ → Due
further_byte left v low high b = cond (is_between low high b) (due left (v * 64 + (b - 0x80)) 0x80 0xBF) bad

-- What a byte does behind an open character: where that is whole another begins, else it goes on.
unfoldable pub next_byte : Due → ℕ → (Due → Decoded) → Decoded
next_byte bad b rest = broken
next_byte (due zero v low high) b rest = with_char v (rest (first_byte b))
next_byte (due (suc left) v low high) b rest = rest (further_byte left v low high b)

-- Behind the last byte nothing may be due.
unfoldable pub no_byte : Due → Decoded
no_byte bad = broken
no_byte (due zero v low high) = decoded (v ∷ [])
no_byte (due (suc left) v low high) = broken

-- The characters of an open one and the bytes behind.
unfoldable pub decode_from : List ℕ → Due → Decoded
decode_from [] d = no_byte d
decode_from (b ∷ bs) d = next_byte d b (decode_from bs)

-- The characters of some bytes.
unfoldable pub decode : List ℕ → Decoded
decode [] = decoded []
decode (b ∷ bs) = decode_from bs (first_byte b)
