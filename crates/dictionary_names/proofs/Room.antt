-- Room for an entry, and entries that have none. Assumes nothing.
use Prim.Native.Nat.{ℕ, ◌+◌, ◌-◌, ◌≤◌, ◌<◌}
use mathlib.Core.Path.{◌≡◌, sym, ◌∙◌}
use mathlib.Core.Bool.{false}
use mathlib.Core.List.{List, ◌∷◌, ◌++◌}
use native.Mathlib.Omega.{arith}
use lib.Dec.{leb}
use lib.ListN.{length, length-append}
use borrow.Author.Tests.{leb-true, leb-false, le-leb, lt-leb}
use Rattle.spec.proofs.Lists.{by_test}
use Rattle.spec_ntriples.specs.Dictionary.{Entry, bytes_of_entry, bytes_of_entries}
use Rattle.spec_ntriples.proofs.EntryBytes.{length-entry}
use Rattle.dictionary_entries.proofs.Standing.{entries-length}

pub room_none : (len end n : ℕ) → len - end < 12 → end ≤ len → false ≡ leb (end + 12 + n) len
room_none len end n h k = sym (lt-leb (end + 12 + n) len (omega arith))

pub room_is : (len end n : ℕ) → 12 ≤ len - end → end ≤ len → leb n (len - end - 12) ≡ leb (end + 12 + n) len
room_is len end n h k =
    by_test (leb n (len - end - 12)) (λ p. p ∙ sym (le-leb (end + 12 + n) len (omega (arith, leb-true n (len - end - 12) p))))
    (λ p. p ∙ sym (lt-leb (end + 12 + n) len (omega (arith, leb-false n (len - end - 12) p))))

-- With the entry of a text that would go past the end, and any behind it, so do the entries.
pub too_long_lem : (len : ℕ) (es fs : List Entry) (e : Entry) → len < length (bytes_of_entries es) + 12 + length e.text → len < length (bytes_of_entries (es ++ (e ∷ fs)))
unfolding bytes_of_entries
too_long_lem len es fs e h = omega (arith, entries-length es (e ∷ fs), length-append (bytes_of_entry e) (bytes_of_entries fs), length-entry e)
