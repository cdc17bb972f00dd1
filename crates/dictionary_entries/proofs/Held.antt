-- Laws of bytes that hold entries: where they stand, from any of them on. Assumes nothing.
use Prim.Native.Nat.{ℕ, zero, ◌+◌, ◌-◌, ◌≤◌, ◌<◌}
use mathlib.Core.Path.{◌≡◌, refl, sym, ap, ◌∙◌}
use mathlib.Core.List.{List, [], ◌++◌, append_assoc}
use native.Mathlib.Omega.{arith}
use lib.ListN.{length, get_or, take, drop, replicate, length-append, length-replicate}
use lib.Seq.{take_at, drop_at, take-length}
use Rattle.spec.specs.inside.Each.{Each}
use Rattle.spec_ntriples.specs.Dictionary.{Entry, bytes_of_entries, dictionary_bytes, front_term}
use Rattle.spec_ntriples.specs.inside.Entries.{Writable, Holds}
use Rattle.spec.proofs.Each.{each_back}
use Rattle.dictionary_bytes.specs.inside.Entries.{text_at, place_at, entries_at}
use Rattle.dictionary_entries.proofs.Standing.{entry_at, entries-append, entries-length, entries_stand, places_stand}

-- Entries end within the bytes that hold them.
pub held-within : (bs : List ℕ) (end : ℕ) (es : List Entry) → Holds bs end es → end ≤ length bs
unfolding dictionary_bytes
held-within bs end es H =
    let z : ℕ = length bs - length (bytes_of_entries es) in
    omega (arith, H.ends, ap length H.same, length-append (bytes_of_entries es) (replicate z 0), length-replicate z zero)

-- The entries fs behind ds, of which the first begins at an index.
module _ (bs : List ℕ) (end : ℕ) (ds fs : List Entry) (H : Holds bs end (ds ++ fs)) (first : ℕ) (p : first ≡ length (bytes_of_entries ds)) where
  abbrev zeros : List ℕ
  zeros = replicate (length bs - length (bytes_of_entries (ds ++ fs))) 0

  pub held_split : bs ≡ bytes_of_entries ds ++ (bytes_of_entries fs ++ zeros)
  unfolding dictionary_bytes
  held_split = H.same ∙ ap (λ (l : List ℕ). l ++ zeros) (entries-append ds fs) ∙ append_assoc (bytes_of_entries ds) (bytes_of_entries fs) zeros

  pub held_front : take first bs ≡ bytes_of_entries ds
  held_front = ap (λ (l : List ℕ). take first l) held_split ∙ take_at (bytes_of_entries ds) (bytes_of_entries fs ++ zeros) first (sym p)

  held-drop : drop first bs ≡ bytes_of_entries fs ++ zeros
  held-drop = ap (λ (l : List ℕ). drop first l) held_split ∙ drop_at (bytes_of_entries ds) (bytes_of_entries fs ++ zeros) first (sym p)

  held_writable : Each Writable fs
  held_writable = each_back Writable ds fs H.writable

  -- They are the entries from there on.
  pub held-entries : entries_at bs first (length fs) ≡ fs
  held-entries = entries_stand bs first fs zeros held-drop held_writable

  -- The place of each, and of their end.
  pub held_place : (i : ℕ) → i ≤ length fs → place_at bs first i ≡ first + length (bytes_of_entries (take i fs))
  held_place i h = places_stand bs first fs zeros held-drop held_writable i h

  pub held_last : place_at bs first (length fs) ≡ end
  held_last = held_place (length fs) (omega arith) ∙ ap (λ (es : List Entry). first + length (bytes_of_entries es)) (take-length fs) ∙ omega (arith, p, H.ends, entries-length ds fs)

  -- The term and the text at a place.
  pub held_term : (i : ℕ) (d : Entry) → i < length fs → front_term (drop (place_at bs first i) bs) ≡ (get_or fs i d).term
  held_term i d h = sym (ap (λ (e : Entry). e.term) (ap (λ (es : List Entry). get_or es i d) (sym held-entries) ∙ entry_at bs first (length fs) i d h))

  pub held-text : (i : ℕ) (d : Entry) → i < length fs → text_at bs (place_at bs first i) ≡ (get_or fs i d).text
  held-text i d h = sym (ap (λ (e : Entry). e.text) (ap (λ (es : List Entry). get_or es i d) (sym held-entries) ∙ entry_at bs first (length fs) i d h))

-- All entries: they begin at index 0.
pub all_places : (bs : List ℕ) (end : ℕ) (es : List Entry) → Holds bs end es → (i : ℕ) → i ≤ length es → place_at bs 0 i ≡ length (bytes_of_entries (take i es))
unfolding bytes_of_entries
all_places bs end es H i h = held_place bs end [] es H 0 refl i h ∙ omega arith
