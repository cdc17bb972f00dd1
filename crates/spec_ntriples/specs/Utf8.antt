-- Characters in UTF-8 (the Unicode standard, section 3.9; RFC 3629). A character is the number of a Unicode scalar value. Definitions only.
use Rattle.std.specs.Prelude.{ℕ, ◌+◌, ◌/◌, ◌%◌, Bool, ◌&&◌, ◌||◌, cond, List, [], ◌∷◌, ◌++◌, leb, ltb}

-- Whether a number is one from l to h.
abbrev pub is_between : ℕ → ℕ → ℕ → Bool
is_between l h c = leb l c && leb c h

-- "Unicode scalar value: any Unicode code point except high-surrogate and low-surrogate code points."
unfoldable pub is_scalar : ℕ → Bool
is_scalar c = ltb c 0xD800 || is_between 0xE000 0x10FFFF c

-- "Table 3-6. UTF-8 Bit Distribution": the bytes of a character.
unfoldable pub encode_char : ℕ → List ℕ
encode_char c =
    cond (ltb c 0x80) (c ∷ [])
    (cond (ltb c 0x800) ((0xC0 + c / 64) ∷ (0x80 + c % 64) ∷ [])
    (cond (ltb c 0x10000) ((0xE0 + c / 4096) ∷ (0x80 + c / 64 % 64) ∷ (0x80 + c % 64) ∷ [])
    ((0xF0 + c / 262144) ∷ (0x80 + c / 4096 % 64) ∷ (0x80 + c / 64 % 64) ∷ (0x80 + c % 64) ∷ [])))

-- The bytes of some characters.
unfoldable pub utf8 : List ℕ → List ℕ
utf8 [] = []
utf8 (c ∷ cs) = encode_char c ++ utf8 cs
