-- What a delivery says, and its bytes (document 01, "Deliveries"). Definitions only.
use Rattle.std.specs.Prelude.{ℕ, ◌/◌, ◌%◌, List, [], ◌∷◌, ◌++◌, length}
use Rattle.spec.specs.declared.Triple.{Triple}

-- An extra field: a tag and bytes.
pub record Field : Type 0 where
  pub tag : ℕ
  pub bytes : List ℕ

-- What a delivery says: entries withdrawn and added, and extra fields.
pub record Message : Type 0 where
  pub statements_withdrawn : List Triple
  pub facts_withdrawn : List Triple
  pub statements_added : List Triple
  pub facts_added : List Triple
  pub fields : List Field

-- ---- its bytes

-- "Little-endian": the two bytes of a 16-bit number, the low one first.
unfoldable pub short_bytes : ℕ → List ℕ
short_bytes n = n % 256 ∷ n / 256 ∷ []

-- The four bytes of a 32-bit word.
unfoldable pub word_bytes : ℕ → List ℕ
word_bytes w = short_bytes (w % 65536) ++ short_bytes (w / 65536)

-- "12 bytes an entry, the three words of its triple."
unfoldable pub entry_bytes : Triple → List ℕ
entry_bytes t = word_bytes t.subject ++ (word_bytes t.property ++ word_bytes t.object)

-- The bytes of entries.
unfoldable pub entries_bytes : List Triple → List ℕ
entries_bytes [] = []
entries_bytes (t ∷ ts) = entry_bytes t ++ entries_bytes ts

-- "Each after a 16-bit count": the bytes of a section of entries.
unfoldable pub section_bytes : List Triple → List ℕ
section_bytes ts = short_bytes (length ts) ++ entries_bytes ts

-- "16-bit tag, 16-bit length, that many bytes."
unfoldable pub field_bytes : Field → List ℕ
field_bytes f = short_bytes f.tag ++ (short_bytes (length f.bytes) ++ f.bytes)

-- The bytes of fields.
unfoldable pub fields_bytes : List Field → List ℕ
fields_bytes [] = []
fields_bytes (f ∷ fs) = field_bytes f ++ fields_bytes fs

-- "Five sections in this order: statements withdrawn, facts withdrawn, statements added, facts added, extra fields."
unfoldable pub encode : Message → List ℕ
encode m =
    section_bytes m.statements_withdrawn
    ++ (section_bytes m.facts_withdrawn
    ++ (section_bytes m.statements_added
    ++ (section_bytes m.facts_added
    ++ (short_bytes (length m.fields) ++ fields_bytes m.fields))))

-- "At most 65,536" bytes.
abbrev pub most_bytes : ℕ
most_bytes = 65536
