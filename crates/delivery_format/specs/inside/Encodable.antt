-- What fits the layout of a delivery's bytes, and messages that agree but for fields that are stepped over. Definitions only.
use Rattle.std.specs.Prelude.{ℕ, ◌^◌, ◌<◌, ◌≡◌, List, length}
use Rattle.spec.specs.declared.Triple.{Triple}
use Rattle.spec.specs.Messages.{Field, Message}
use Rattle.spec.specs.Deliveries.{number_fields}
use Rattle.spec.specs.inside.Each.{Each}

-- ---- what fits the layout

-- A byte.
abbrev pub IsByte : ℕ → Type 0
IsByte b = b < 256

-- A number of 16 bits.
abbrev pub IsShort : ℕ → Type 0
IsShort n = n < 65536

-- The three words of an entry have 32 bits.
pub record IsEntry (t : Triple) : Type 0 where
  pub subject : t.subject < 2 ^ 32
  pub property : t.property < 2 ^ 32
  pub object : t.object < 2 ^ 32

-- A section that can be written.
pub record IsSection (ts : List Triple) : Type 0 where
  pub count : IsShort (length ts)
  pub entries : Each IsEntry ts

-- A field that can be written.
pub record IsField (f : Field) : Type 0 where
  pub tag : IsShort f.tag
  pub length : IsShort (length f.bytes)
  pub bytes : Each IsByte f.bytes

-- A message that can be written as bytes.
pub record Encodable (m : Message) : Type 0 where
  pub statements_withdrawn : IsSection m.statements_withdrawn
  pub facts_withdrawn : IsSection m.facts_withdrawn
  pub statements_added : IsSection m.statements_added
  pub facts_added : IsSection m.facts_added
  pub count : IsShort (length m.fields)
  pub fields : Each IsField m.fields

-- ---- what decides

-- Two messages that agree but for fields with other tags than 1.
pub record Agree (m n : Message) : Type 0 where
  pub statements_withdrawn : m.statements_withdrawn ≡ n.statements_withdrawn
  pub facts_withdrawn : m.facts_withdrawn ≡ n.facts_withdrawn
  pub statements_added : m.statements_added ≡ n.statements_added
  pub facts_added : m.facts_added ≡ n.facts_added
  pub numbers : number_fields m.fields ≡ number_fields n.fields
