-- The terminals of N-Triples, read from the front of characters, with escapes resolved (RDF 1.1 N-Triples, section 7), by functions that
-- compute. Nobody has to read it: specs/Productions.antt has the grammar, and specs/Meaning.antt what its terminals stand for.
-- Fixed by line_read (proofs/LineRead.antt): a line is read as a triple exactly when it matches the grammar and means that triple.
use Rattle.std.specs.Prelude.{ℕ, zero, suc, ◌+◌, ◌*◌, Bool, true, false, ◌&&◌, cond, List, [], ◌∷◌, eqb, ltb}
use Prim.Native.Char.{code}
use Rattle.spec_ntriples.specs.Utf8.{is_scalar}
use Rattle.spec_ntriples.specs.Characters.{codes, is_one_of, is_letter_or_digit, is_iri_char, is_string_char, is_pn_chars, hex_value, no_char, echar}
use Rattle.spec_ntriples.specs.Texts.{lower_char}

-- What was read from the front of characters: nothing, where they do not begin so; or some characters, and those behind.
pub data Got : Type 0 where
  none : Got
  got : (chars rest : List ℕ) → Got

-- One character more, in front of what was read.
unfoldable pub push : ℕ → Got → Got
push c none = none
push c (got cs rest) = got (c ∷ cs) rest

-- ---- IRIs and strings

-- Where a reader of an IRI or a string stands: outside an escape, behind a backslash, or inside [10] UCHAR, with so many digits due and the
-- number of those before.
pub data State : Type 0 where
  outside : State
  slash : State
  digits : (left value : ℕ) → State

-- What a character does there: it ends the terminal, breaks it, leads to a state, or is the last of what stands for a character.
pub data Step : Type 0 where
  ends : Step
  breaks : Step
  leads : State → Step
  gives : ℕ → Step

-- The last digit of UCHAR gives its number, where "an escape gives" a character, and one that is not "barred" there.
unfoldable pub digit : (ℕ → Bool) → ℕ → ℕ → Step
digit allowed zero v = cond (is_scalar v && allowed v) (gives v) breaks
digit allowed (suc left) v = leads (digits (suc left) v)

-- A digit of UCHAR.
unfoldable pub hex_step : (ℕ → Bool) → ℕ → ℕ → ℕ → Step
hex_step allowed zero v c = breaks
hex_step allowed (suc left) v c = cond (ltb (hex_value c) 16) (digit allowed left (v * 16 + hex_value c)) breaks

-- [8] IRIREF behind "<".
unfoldable pub iri_step : State → ℕ → Step
iri_step outside c = cond (eqb c (code ">")) ends (cond (eqb c (code "\\")) (leads slash) (cond (is_iri_char c) (gives c) breaks))
iri_step slash c = cond (eqb c (code "u")) (leads (digits 4 0)) (cond (eqb c (code "U")) (leads (digits 8 0)) breaks)
iri_step (digits left v) c = hex_step is_iri_char left v c

-- [9] STRING_LITERAL_QUOTE behind its first quote. No character is barred there.
unfoldable pub string_step : State → ℕ → Step
string_step outside c = cond (eqb c (code "\"")) ends (cond (eqb c (code "\\")) (leads slash) (cond (is_string_char c) (gives c) breaks))
string_step slash c =
    cond (eqb c (code "u")) (leads (digits 4 0))
    (cond (eqb c (code "U")) (leads (digits 8 0)) (cond (ltb (echar c) no_char) (gives (echar c)) breaks))
string_step (digits left v) c = hex_step (λ x. true) left v c

-- What was read after a step.
unfoldable pub after_step : Step → List ℕ → (State → Got) → Got
after_step ends cs rest = got [] cs
after_step breaks cs rest = none
after_step (leads s) cs rest = rest s
after_step (gives c) cs rest = push c (rest outside)

-- "Escapes are resolved first": the characters up to the one that ends the terminal.
unfoldable pub scan : (State → ℕ → Step) → State → List ℕ → Got
scan step s [] = none
scan step s (c ∷ cs) = after_step (step s c) cs (λ s'. scan step s' cs)

-- ---- labels and tags

-- A dot stands in a label only where more of the label is behind it.
unfoldable pub dotted : ℕ → List ℕ → Got → Got
dotted c cs none = none
dotted c cs (got [] rest) = got [] (c ∷ cs)
dotted c cs (got (d ∷ ds) rest) = got (c ∷ d ∷ ds) rest

-- [141s] BLANK_NODE_LABEL behind its first character: "((PN_CHARS | '.')* PN_CHARS)?", as long as it can be.
unfoldable pub label : List ℕ → Got
label [] = got [] []
label (c ∷ cs) = let g = label cs in cond (is_pn_chars c) (push c g) (cond (eqb c (code ".")) (dotted c cs g) (got [] (c ∷ cs)))

-- Whether the first character passes a test.
unfoldable pub head_is : (ℕ → Bool) → List ℕ → Bool
head_is test [] = false
head_is test (c ∷ cs) = test c

-- [144s] LANGTAG behind "@": "[a-zA-Z]+ ('-' [a-zA-Z0-9]+)*", whose first character is known to be a letter: characters that pass the test,
-- and then hyphens, each with letters or digits behind it.
unfoldable pub tag : (ℕ → Bool) → List ℕ → Got
tag test [] = got [] []
tag test (c ∷ cs) =
    cond (test c) (push (lower_char c) (tag test cs))
    (cond (eqb c (code "-") && head_is is_letter_or_digit cs) (push c (tag is_letter_or_digit cs)) (got [] (c ∷ cs)))

-- "White space (tab U+0009 or space U+0020)" between terminals is passed over.
unfoldable pub skip : List ℕ → List ℕ
skip [] = []
skip (c ∷ cs) = let r = skip cs in cond (is_one_of (codes "\t ") c) r (c ∷ cs)
