-- Whether bytes are a delivery, and what they say, found by a walk over them. Nobody has to read it: `encode` of specs/Messages.antt says what
-- the bytes of a message are.
-- Fixed by whole_iff (crates/delivery_format/proofs/Decoded.antt): bytes are whole exactly when they are not too many and those of a message.
-- Fixed by read_is (crates/delivery_format/proofs/Decoded.antt): what is read of the bytes of a message is that message.
-- Fixed by word_is (crates/delivery_format/proofs/Decoded.antt): the word that is read of four bytes is the one whose bytes they are.
use Rattle.std.specs.Prelude.{ℕ, zero, suc, ◌+◌, ◌*◌, Bool, ◌&&◌, List, [], ◌∷◌, length, get_or, take, drop, eqb, leb}
use Rattle.spec.specs.declared.Triple.{Triple}
use Rattle.spec.specs.Terms.{triple}
use Rattle.spec.specs.Messages.{Field, Message, most_bytes}

-- ---- numbers

-- The 16-bit number whose two bytes begin at index at. A byte past the end counts as 0; where there is one, the delivery is not whole.
unfoldable pub short : List ℕ → ℕ → ℕ
short bs at = get_or bs at 0 + get_or bs (at + 1) 0 * 256

-- The 32-bit word whose four bytes begin at index at.
unfoldable pub word : List ℕ → ℕ → ℕ
word bs at = short bs at + short bs (at + 2) * 65536

-- ---- sections of entries

-- The entry that begins at index at.
abbrev pub entry_at : List ℕ → ℕ → Triple
entry_at bs at = triple (word bs at) (word bs (at + 4)) (word bs (at + 8))

-- The n entries from index at on.
unfoldable pub entries_from : List ℕ → ℕ → ℕ → List Triple
entries_from bs at zero = []
entries_from bs at (suc n) = entry_at bs at ∷ entries_from bs (at + 12) n

-- The entries of the section that begins at index at.
abbrev pub section_at : List ℕ → ℕ → List Triple
section_at bs at = entries_from bs (at + 2) (short bs at)

-- Where that section ends.
unfoldable pub section_end : List ℕ → ℕ → ℕ
section_end bs at = at + 2 + short bs at * 12

-- Where section k begins.
unfoldable pub section_start : List ℕ → ℕ → ℕ
section_start bs zero = 0
section_start bs (suc k) = section_end bs (section_start bs k)

-- ---- extra fields

-- The field that begins at index at.
abbrev pub field_at : List ℕ → ℕ → Field
field_at bs at = record { tag = short bs at; bytes = take (short bs (at + 2)) (drop (at + 4) bs) }

-- Where that field ends.
unfoldable pub field_end : List ℕ → ℕ → ℕ
field_end bs at = at + 4 + short bs (at + 2)

-- The n fields from index at on.
unfoldable pub fields_from : List ℕ → ℕ → ℕ → List Field
fields_from bs at zero = []
fields_from bs at (suc n) = field_at bs at ∷ fields_from bs (field_end bs at) n

-- Where the n fields from index at on end.
unfoldable pub fields_end : List ℕ → ℕ → ℕ → ℕ
fields_end bs at zero = at
fields_end bs at (suc n) = fields_end bs (field_end bs at) n

-- ---- the whole

-- What the bytes of a whole delivery say.
unfoldable pub read : List ℕ → Message
read bs =
    record {
      statements_withdrawn = section_at bs (section_start bs 0);
      facts_withdrawn = section_at bs (section_start bs 1);
      statements_added = section_at bs (section_start bs 2);
      facts_added = section_at bs (section_start bs 3);
      fields = fields_from bs (section_start bs 4 + 2) (short bs (section_start bs 4));
    }

-- Whether what is counted ends at the last byte, neither before it nor behind it, and there are not too many bytes.
unfoldable pub is_whole : List ℕ → Bool
is_whole bs = leb (length bs) most_bytes && eqb (fields_end bs (section_start bs 4 + 2) (short bs (section_start bs 4))) (length bs)
