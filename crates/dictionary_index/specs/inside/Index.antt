-- A table of words that leads from a text to its entry. Definitions only.
use Rattle.std.specs.Prelude.{ℕ, suc, ◌+◌, ◌-◌, ◌^◌, ◌≤◌, ◌<◌, ◌≡◌, true, List, length, get_or}
use Rattle.dictionary_bytes.specs.inside.Entries.{length_at, text_at, place_at}
use Rattle.dictionary_hash.specs.inside.Hashes.{home_of}
use Rattle.dictionary_index.specs.declared.Search.{Search}
use Rattle.dictionary_index.specs.declared.Search.TheVariants.{Found, Free, Past}
use Rattle.dictionary_index.specs.declared.Entered.{Entered}
use Rattle.dictionary_index.specs.declared.Entered.TheVariants.{New, Known, Full}
use Rattle.dictionary_index.specs.declared.Segment.{Segment}

-- ---- searches

-- The entry to which a word leads that is not 0, in the index of a segment that begins at first.
abbrev pub entry_of : ℕ → ℕ → ℕ
entry_of first w = first + (w - 1)

-- Each word that is not 0 leads to an entry that lies within the bytes.
abbrev pub LeadWithin : List ℕ → List ℕ → ℕ → Type 0
LeadWithin slots bs first = (s : ℕ) → 0 < get_or slots s 0 → entry_of first (get_or slots s 0) + 12 + length_at bs (entry_of first (get_or slots s 0)) ≤ length bs

-- The slots from home to s are taken, none by an entry with the text.
abbrev pub Passed : List ℕ → List ℕ → ℕ → List ℕ → ℕ → ℕ → Type 0
Passed slots bs first text home s = (j : ℕ) → home ≤ j → j < s → (0 < get_or slots j 0) × (text_at bs (entry_of first (get_or slots j 0)) ≡ text → ⊥)

-- A slot from home on leads to an entry with the text.
pub record FoundAt (slots bs : List ℕ) (first : ℕ) (text : List ℕ) (home at : ℕ) : Type 0 where
  pub slot : ℕ
  pub from : home ≤ slot
  pub taken : 0 < get_or slots slot 0
  pub leads : at ≡ entry_of first (get_or slots slot 0)
  pub same : text_at bs at ≡ text

-- An empty slot before which all are taken.
pub record FreeAt (slots bs : List ℕ) (first : ℕ) (text : List ℕ) (home s : ℕ) : Type 0 where
  pub from : home ≤ s
  pub within : s < length slots
  pub empty : get_or slots s 0 ≡ 0
  pub passed : Passed slots bs first text home s

-- What a search says of the table.
abbrev pub Searched : List ℕ → List ℕ → ℕ → List ℕ → ℕ → Search → Type 0
Searched slots bs first text home (Found at) = FoundAt slots bs first text home at
Searched slots bs first text home (Free s) = FreeAt slots bs first text home s
Searched slots bs first text home Past = Passed slots bs first text home (length slots)

-- ---- the index of a segment

-- A search for the text of the entry at a byte index comes to it: from its home slot up to its own all slots are taken.
pub record Reached (slots bs : List ℕ) (first at : ℕ) : Type 0 where
  pub slot : ℕ
  pub from : home_of (text_at bs at) ≤ slot
  pub within : slot < length slots
  pub holds : get_or slots slot 0 ≡ at - first + 1
  pub taken : (j : ℕ) → home_of (text_at bs at) ≤ j → j < slot → 0 < get_or slots j 0

-- A word leads to one of the k entries from first on.
pub record Leads (bs : List ℕ) (first k w : ℕ) : Type 0 where
  pub number : ℕ
  pub below : number < k
  pub holds : w ≡ place_at bs first number - first + 1

-- The slots are the index of the k entries from byte index first on, which lie within the bytes.
pub record Index (slots bs : List ℕ) (first k : ℕ) : Type 0 where
  pub within : place_at bs first k ≤ length bs
  pub reached : (i : ℕ) → i < k → Reached slots bs first (place_at bs first i)
  pub leads : (s : ℕ) → 0 < get_or slots s 0 → Leads bs first k (get_or slots s 0)
  pub distinct : (i j : ℕ) → i < j → j < k → text_at bs (place_at bs first i) ≡ text_at bs (place_at bs first j) → ⊥

-- The entry at a byte index is one of the k from first on, and has the text.
pub record HasEntry (bs : List ℕ) (first k : ℕ) (text : List ℕ) (at : ℕ) : Type 0 where
  pub number : ℕ
  pub below : number < k
  pub place : at ≡ place_at bs first number
  pub same : text_at bs at ≡ text

-- None of the k entries from first on has the text.
abbrev pub NoEntry : List ℕ → ℕ → ℕ → List ℕ → Type 0
NoEntry bs first k text = (i : ℕ) → i < k → text_at bs (place_at bs first i) ≡ text → ⊥

-- ---- entering

-- The slots are the index of all entries from first to the one at a byte index, which lies within the bytes and can be entered.
pub record IndexTo (slots bs : List ℕ) (first at : ℕ) : Type 0 where
  pub count : ℕ
  pub index : Index slots bs first count
  pub place : at ≡ place_at bs first count
  pub within : at + 12 + length_at bs at ≤ length bs
  pub near : at - first + 1 < 2 ^ 32

-- What entering the entry at a byte index did, behind k entries of the segment: its text was new, and the index leads to it too; or an entry
-- has the text already, or no slot is left for it, and the slots are as they were. An index of enough slots has one for the first entry.
abbrev pub EnteredAt : (slots after bs : List ℕ) (first k at : ℕ) → Entered → Type 0
EnteredAt slots after bs first k at New = Index after bs first (suc k)
EnteredAt slots after bs first k at (Known other) = (after ≡ slots) × HasEntry bs first k (text_at bs at) other
EnteredAt slots after bs first k at Full = (after ≡ slots) × NoEntry bs first k (text_at bs at) × (65536 ≤ length slots → 0 < k)

-- ---- segments

-- All words are 0.
abbrev pub AreZero : List ℕ → Type 0
AreZero slots = (s : ℕ) → get_or slots s 0 ≡ 0

-- The bytes from one index to another are some entries, one behind the other.
pub record AreEntries (bs : List ℕ) (first last : ℕ) : Type 0 where
  pub count : ℕ
  pub ends : place_at bs first count ≡ last
  pub within : last ≤ length bs

-- The entry at a byte index has the text of one of the k entries from first on.
pub record Repeats (bs : List ℕ) (first k at : ℕ) : Type 0 where
  pub other : ℕ
  pub has : HasEntry bs first k (text_at bs at) other

-- A segment of the entries from first to last: the slots are the index of its entries, of which there is at least one; and where it says that
-- a text repeats, the entry behind it has the text of one of them.
pub record IsSegment (slots bs : List ℕ) (first last : ℕ) (g : Segment) : Type 0 where
  pub index : Index slots bs first g.count
  pub ends : g.end ≡ place_at bs first g.count
  pub within : g.end ≤ last
  pub some : first < last → 0 < g.count
  pub repeats : g.repeats ≡ true → Repeats bs first g.count g.end
