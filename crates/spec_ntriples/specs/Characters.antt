-- The sets of characters in the grammar of RDF 1.1 N-Triples (W3C Recommendation, section 7), by the numbers and names of its productions.
-- Definitions only.
use Rattle.std.specs.Prelude.{ℕ, ◌-◌, Bool, false, ◌&&◌, ◌||◌, not, cond, List, [], ◌∷◌, eqb, ltb}
use Prim.Native.Char.{code}
use Prim.Native.String.{String}
use Prim.Native.String as string
use Rattle.spec_ntriples.specs.Utf8.{is_between}

-- The characters of a quoted text.
unfoldable pub codes : String → List ℕ
codes string.[] = []
codes (string.◌∷◌ c s) = code c ∷ codes s

-- Whether a character is one of some.
unfoldable pub is_one_of : List ℕ → ℕ → Bool
is_one_of [] c = false
is_one_of (d ∷ ds) c = eqb c d || is_one_of ds c

-- [a-zA-Z]
abbrev pub is_letter : ℕ → Bool
is_letter c = is_between 65 90 c || is_between 97 122 c

-- [0-9]
abbrev pub is_digit : ℕ → Bool
is_digit c = is_between 48 57 c

-- [a-zA-Z0-9]
abbrev pub is_letter_or_digit : ℕ → Bool
is_letter_or_digit c = is_letter c || is_digit c

-- In [8] IRIREF: "[^#x00-#x20<>"{}|^`\]".
unfoldable pub is_iri_char : ℕ → Bool
is_iri_char c = ltb 0x20 c && not (is_one_of (codes "<>\"{}|^`\\") c)

-- In [9] STRING_LITERAL_QUOTE: "[^#x22#x5C#xA#xD]".
unfoldable pub is_string_char : ℕ → Bool
is_string_char c = not (is_one_of (codes "\"\\\n\r") c)

-- [157s] PN_CHARS_BASE
unfoldable pub is_pn_chars_base : ℕ → Bool
is_pn_chars_base c =
    is_letter c
    || (is_between 0x00C0 0x00D6 c
    || (is_between 0x00D8 0x00F6 c
    || (is_between 0x00F8 0x02FF c
    || (is_between 0x0370 0x037D c
    || (is_between 0x037F 0x1FFF c
    || (is_between 0x200C 0x200D c
    || (is_between 0x2070 0x218F c
    || (is_between 0x2C00 0x2FEF c
    || (is_between 0x3001 0xD7FF c
    || (is_between 0xF900 0xFDCF c
    || (is_between 0xFDF0 0xFFFD c
    || is_between 0x10000 0xEFFFF c)))))))))))

-- [158s] PN_CHARS_U: "PN_CHARS_BASE | '_' | ':'".
unfoldable pub is_pn_chars_u : ℕ → Bool
is_pn_chars_u c = is_pn_chars_base c || is_one_of (codes "_:") c

-- [160s] PN_CHARS: "PN_CHARS_U | '-' | [0-9] | #x00B7 | [#x0300-#x036F] | [#x203F-#x2040]".
unfoldable pub is_pn_chars : ℕ → Bool
is_pn_chars c = is_pn_chars_u c || (eqb c (code "-") || (is_digit c || (eqb c 0x00B7 || (is_between 0x0300 0x036F c || is_between 0x203F 0x2040 c))))

-- [162s] HEX: the value of a digit, 16 where a character is none.
unfoldable pub hex_value : ℕ → ℕ
hex_value c = cond (is_between 48 57 c) (c - 48) (cond (is_between 65 70 c) (c - 55) (cond (is_between 97 102 c) (c - 87) 16))

-- No character: the number above the last code point.
abbrev pub no_char : ℕ
no_char = 0x110000

-- [153s] ECHAR: "'\' [tbnrf"'\]": the character that the letter behind the backslash stands for; no character for any other letter.
unfoldable pub echar : ℕ → ℕ
echar c =
    cond (eqb c (code "t")) 0x09
    (cond (eqb c (code "b")) 0x08
    (cond (eqb c (code "n")) 0x0A
    (cond (eqb c (code "r")) 0x0D
    (cond (eqb c (code "f")) 0x0C (cond (is_one_of (codes "\"'\\") c) c no_char)))))
