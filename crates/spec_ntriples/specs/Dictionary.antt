-- The dictionary in lent bytes: terms and their texts (document 02, slip 1, where it is called the term book). Definitions only.
use Rattle.std.specs.Prelude.{ℕ, zero, suc, ◌+◌, ◌-◌, ◌*◌, ◌/◌, ◌%◌, ◌^◌, Bool, true, ◌&&◌, ◌||◌, cond, List, [], ◌∷◌, ◌++◌, length, get_or, take, drop, replicate, eqb, leb, ltb}
use Prim.Native.Char.{code}
use Rattle.spec.specs.Lists.{select}
use Rattle.spec_ntriples.specs.Characters.{codes}
use Rattle.spec_ntriples.specs.Texts.{is_same_text}
use Rattle.spec_ntriples.specs.computed.Canonical.{is_canonical}

-- "An entry for each text": its term, and its bytes.
pub record Entry : Type 0 where
  pub term : ℕ
  pub text : List ℕ

-- An entry by its parts.
abbrev pub entry : ℕ → List ℕ → Entry
entry w t = record { term = w; text = t }

-- ---- bytes

-- "Little-endian": a number in so many bytes.
unfoldable pub number_bytes : ℕ → ℕ → List ℕ
number_bytes zero n = []
number_bytes (suc k) n = n % 256 ∷ number_bytes k (n / 256)

-- "Term in 4 bytes, length in 8, little-endian, then the canonical text."
unfoldable pub bytes_of_entry : Entry → List ℕ
bytes_of_entry e = number_bytes 4 e.term ++ (number_bytes 8 (length e.text) ++ e.text)

-- "From byte 0", one entry behind the other.
unfoldable pub bytes_of_entries : List Entry → List ℕ
bytes_of_entries [] = []
bytes_of_entries (e ∷ es) = bytes_of_entry e ++ bytes_of_entries es

-- "Zeros follow": the dictionary of len bytes that has some entries.
unfoldable pub dictionary_bytes : ℕ → List Entry → List ℕ
dictionary_bytes len es = bytes_of_entries es ++ replicate (len - length (bytes_of_entries es)) 0

-- The number of little-endian bytes.
unfoldable pub bytes_number : List ℕ → ℕ
bytes_number [] = 0
bytes_number (b ∷ bs) = b + 256 * bytes_number bs

-- The term of the entry at the front of bytes, and the length of its text.
abbrev pub front_term : List ℕ → ℕ
front_term bs = bytes_number (take 4 bs)

-- That length.
abbrev pub front_length : List ℕ → ℕ
front_length bs = bytes_number (take 8 (drop 4 bs))

-- At most so many entries at the front of bytes: up to the first whose term is 0, or that does not lie within the bytes.
unfoldable pub entries_at_most : ℕ → List ℕ → List Entry
entries_at_most zero bs = []
entries_at_most (suc most) bs =
    let n = front_length bs in
    let es = entries_at_most most (drop (12 + n) bs) in
    cond (eqb (front_term bs) 0 || ltb (length bs) (12 + n)) [] (entry (front_term bs) (take n (drop 12 bs)) ∷ es)

-- The entries of a dictionary's bytes.
unfoldable pub entries : List ℕ → List Entry
entries bs = entries_at_most (length bs) bs

-- ---- terms

-- "Vocabulary URIs get 1 to 5 in every book, without an entry": their texts, from 1 on.
abbrev pub vocabulary_texts : List (List ℕ)
vocabulary_texts =
    codes "<http://www.w3.org/1999/02/22-rdf-syntax-ns#type>"
    ∷ codes "<http://www.w3.org/2000/01/rdf-schema#subClassOf>"
    ∷ codes "<http://www.w3.org/2000/01/rdf-schema#subPropertyOf>"
    ∷ codes "<http://www.w3.org/2000/01/rdf-schema#domain>"
    ∷ codes "<http://www.w3.org/2000/01/rdf-schema#range>"
    ∷ []

-- The place of a text among some, from 1 on; 0 where it is not among them.
unfoldable pub place_of : List ℕ → List (List ℕ) → ℕ
place_of t [] = 0
place_of t (u ∷ us) = let r = place_of t us in cond (is_same_text t u) 1 (cond (eqb r 0) 0 (suc r))

-- The vocabulary URI with a text, 0 where there is none.
abbrev pub vocabulary_of : List ℕ → ℕ
vocabulary_of t = place_of t vocabulary_texts

-- The term of a text among entries, 0 where none has it.
unfoldable pub term_in : List Entry → List ℕ → ℕ
term_in [] t = 0
term_in (e ∷ es) t = cond (is_same_text t e.text) e.term (term_in es t)

-- The term of a text in a dictionary, 0 where it has none.
unfoldable pub term_of : List Entry → List ℕ → ℕ
term_of es t = cond (eqb (vocabulary_of t) 0) (term_in es t) (vocabulary_of t)

-- ---- numbers

-- The kind of a text, by its first byte: "<", "_" or a quote.
unfoldable pub kind_of : List ℕ → ℕ
kind_of t = cond (eqb (get_or t 0 0) (code "<")) 0 (cond (eqb (get_or t 0 0) (code "_")) 1 2)

-- The first number of a kind: "URIs from 16 and the others from 1".
unfoldable pub first_number : ℕ → ℕ
first_number zero = 16
first_number (suc k) = 1

-- "The next number of its kind" behind some entries: as many are taken as they have texts of that kind.
unfoldable pub next_number : ℕ → List Entry → ℕ
next_number k es = first_number k + length (select (λ e. eqb (kind_of e.text) k) es)

-- The term of that number.
abbrev pub next_term : ℕ → List Entry → ℕ
next_term k es = k * 2 ^ 30 + next_number k es

-- Numbers of a kind are below 2^30. "No number left": whether some entries have more texts of a kind than it has numbers.
unfoldable pub are_numbers_enough : List Entry → Bool
are_numbers_enough es = leb (next_number 0 es) (2 ^ 30) && (leb (next_number 1 es) (2 ^ 30) && leb (next_number 2 es) (2 ^ 30))

-- ---- question 1

-- "So numbered": each entry has the next term of its kind behind those before it.
unfoldable pub are_numbered : List Entry → List Entry → Bool
are_numbered before [] = true
are_numbered before (e ∷ es) = eqb e.term (next_term (kind_of e.text) before) && are_numbered (before ++ (e ∷ [])) es

-- "Canonical, distinct and none of 1 to 5."
unfoldable pub are_texts : List Entry → Bool
are_texts [] = true
are_texts (e ∷ es) = is_canonical e.text && (eqb (vocabulary_of e.text) 0 && (eqb (term_in es e.text) 0 && are_texts es))

-- Question 1 for a dictionary: its bytes are those of its entries, "so numbered, its texts canonical, distinct and none of 1 to 5".
unfoldable pub is_dictionary : List ℕ → Bool
is_dictionary bs =
    is_same_text (dictionary_bytes (length bs) (entries bs)) bs
    && (are_numbered [] (entries bs)
    && (are_numbers_enough (entries bs) && are_texts (entries bs)))
