-- The grammar of RDF 1.1 N-Triples (W3C Recommendation, section 7), production for production, under the names that they have there.
-- Definitions only.
use Prim.Native.Char.{code}
use Rattle.std.specs.Prelude.{true, [], ◌∷◌}
use Rattle.spec_ntriples.specs.Characters.{is_letter, is_digit, is_letter_or_digit, is_iri_char, is_string_char, is_pn_chars_base}
use Rattle.spec_ntriples.specs.Expressions.{Expression, set, exactly, ◌then◌, ◌or◌, many, quoted, one_of, between, optional, some, times}

-- ---- terminals

-- [162s] HEX ::= [0-9] | [A-F] | [a-f]
abbrev pub HEX : Expression
HEX = between (code "0") (code "9") or between (code "A") (code "F") or between (code "a") (code "f")

-- [10] UCHAR ::= '\u' HEX HEX HEX HEX | '\U' HEX HEX HEX HEX HEX HEX HEX HEX
abbrev pub UCHAR : Expression
UCHAR = quoted "\\u" then times 4 HEX or quoted "\\U" then times 8 HEX

-- [153s] ECHAR ::= '\' [tbnrf"'\]
abbrev pub ECHAR : Expression
ECHAR = quoted "\\" then one_of "tbnrf\"'\\"

-- [8] IRIREF ::= '<' ([^#x00-#x20<>"{}|^`\] | UCHAR)* '>'
abbrev pub IRIREF : Expression
IRIREF = quoted "<" then many (set is_iri_char or UCHAR) then quoted ">"

-- [9] STRING_LITERAL_QUOTE ::= '"' ([^#x22#x5C#xA#xD] | ECHAR | UCHAR)* '"'
abbrev pub STRING_LITERAL_QUOTE : Expression
STRING_LITERAL_QUOTE = quoted "\"" then many (set is_string_char or ECHAR or UCHAR) then quoted "\""

-- [157s] PN_CHARS_BASE ::= [A-Z] | [a-z] | [#x00C0-#x00D6] | .. (the ranges are in Characters)
abbrev pub PN_CHARS_BASE : Expression
PN_CHARS_BASE = set is_pn_chars_base

-- [158s] PN_CHARS_U ::= PN_CHARS_BASE | '_' | ':'
abbrev pub PN_CHARS_U : Expression
PN_CHARS_U = PN_CHARS_BASE or quoted "_" or quoted ":"

-- [160s] PN_CHARS ::= PN_CHARS_U | '-' | [0-9] | #x00B7 | [#x0300-#x036F] | [#x203F-#x2040]
abbrev pub PN_CHARS : Expression
PN_CHARS = PN_CHARS_U or quoted "-" or between (code "0") (code "9") or exactly (0x00B7 ∷ []) or between 0x0300 0x036F or between 0x203F 0x2040

-- [141s] BLANK_NODE_LABEL ::= '_:' (PN_CHARS_U | [0-9]) ((PN_CHARS | '.')* PN_CHARS)?
abbrev pub BLANK_NODE_LABEL : Expression
BLANK_NODE_LABEL = quoted "_:" then (PN_CHARS_U or set is_digit) then optional (many (PN_CHARS or quoted ".") then PN_CHARS)

-- [144s] LANGTAG ::= '@' [a-zA-Z]+ ('-' [a-zA-Z0-9]+)*
abbrev pub LANGTAG : Expression
LANGTAG = quoted "@" then some (set is_letter) then many (quoted "-" then some (set is_letter_or_digit))

-- [7] EOL ::= [#xD#xA]+
abbrev pub EOL : Expression
EOL = some (one_of "\r\n")

-- "White space (tab U+0009 or space U+0020)", as much as there is, between two terminals.
abbrev pub WS : Expression
WS = many (one_of "\t ")

-- "Comments in N-Triples take the form of '#', outside an IRIREF or STRING_LITERAL_QUOTE, and continue to the end of line": here the end of
-- the characters, since a line is cut off where it ends.
abbrev pub COMMENT : Expression
COMMENT = quoted "#" then many (set (λ c. true))

-- ---- terms and lines

-- [3] subject ::= IRIREF | BLANK_NODE_LABEL
abbrev pub subject : Expression
subject = IRIREF or BLANK_NODE_LABEL

-- [4] predicate ::= IRIREF
abbrev pub predicate : Expression
predicate = IRIREF

-- [6] literal ::= STRING_LITERAL_QUOTE ('^^' IRIREF | LANGTAG)?
abbrev pub literal : Expression
literal = STRING_LITERAL_QUOTE then optional (WS then (quoted "^^" then WS then IRIREF or LANGTAG))

-- [5] object ::= IRIREF | BLANK_NODE_LABEL | literal
abbrev pub object : Expression
object = IRIREF or BLANK_NODE_LABEL or literal

-- [2] triple ::= subject predicate object '.'
abbrev pub triple : Expression
triple = subject then WS then predicate then WS then object then WS then quoted "."

-- A line with a triple, in [1] ntriplesDoc ::= triple? (EOL triple)* EOL?
abbrev pub triple_line : Expression
triple_line = WS then triple then WS then optional COMMENT

-- A line with none.
abbrev pub empty_line : Expression
empty_line = WS then optional COMMENT
