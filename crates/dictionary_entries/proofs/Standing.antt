-- Laws of entries that stand in bytes from an index on. Assumes nothing.
use Prim.Native.Nat.{ℕ, zero, suc, ◌+◌, ◌≤◌, ◌<◌}
use mathlib.Core.Path.{◌≡◌, refl, sym, ap, ◌∙◌}
use mathlib.Core.List.{List, [], ◌∷◌, ◌++◌, append_assoc}
use native.Mathlib.Omega.{arith}
use lib.ListN.{length, get_or, take, drop, length-append}
use lib.Seq.{drop-drop}
use Rattle.spec.specs.inside.Each.{Each}
use Rattle.spec_ntriples.specs.Dictionary.{Entry, entry, bytes_of_entry, bytes_of_entries, front_term, front_length}
use Rattle.spec_ntriples.specs.inside.Entries.{Writable}
use Rattle.spec_ntriples.proofs.EntryBytes.{length-entry, front_term_lem, front_length_lem, front-text, front_rest}
use Rattle.dictionary_bytes.specs.inside.Entries.{length_at, text_at, place_at, entries_at}

-- ---- the entries from an index on, by their places

-- The entries behind the first.
pub place_behind : (bs : List ℕ) (first i : ℕ) → place_at bs first (suc i) ≡ place_at bs (first + 12 + length_at bs first) i
unfolding place_at
place_behind bs first zero = refl
place_behind bs first (suc i) = ap (λ (at : ℕ). at + 12 + length_at bs at) (place_behind bs first i)

pub entries-count : (bs : List ℕ) (first k : ℕ) → length (entries_at bs first k) ≡ k
unfolding entries_at
entries-count bs first zero = refl
entries-count bs first (suc k) = ap suc (entries-count bs (first + 12 + length_at bs first) k)

-- The i-th is the one at the i-th place.
pub entry_at : (bs : List ℕ) (first k i : ℕ) (d : Entry) → i < k → get_or (entries_at bs first k) i d ≡ entry (front_term (drop (place_at bs first i) bs)) (text_at bs (place_at bs first i))
unfolding entries_at place_at
entry_at bs first zero i d h = absurd (omega arith)
entry_at bs first (suc k) zero d h = refl
entry_at bs first (suc k) (suc i) d h = rw (place_behind bs first i) (entry_at bs (first + 12 + length_at bs first) k i d (omega arith))

-- ---- bytes of entries

pub entries-append : (ds fs : List Entry) → bytes_of_entries (ds ++ fs) ≡ bytes_of_entries ds ++ bytes_of_entries fs
unfolding bytes_of_entries
entries-append [] fs = refl
entries-append (e ∷ ds) fs = ap (λ (l : List ℕ). bytes_of_entry e ++ l) (entries-append ds fs) ∙ sym (append_assoc (bytes_of_entry e) (bytes_of_entries ds) (bytes_of_entries fs))

pub entries-length : (ds fs : List Entry) → length (bytes_of_entries (ds ++ fs)) ≡ length (bytes_of_entries ds) + length (bytes_of_entries fs)
entries-length ds fs = ap length (entries-append ds fs) ∙ length-append (bytes_of_entries ds) (bytes_of_entries fs)

-- ---- an entry that stands at an index

module _ (bs : List ℕ) (at : ℕ) (e : Entry) (rest : List ℕ) (h : drop at bs ≡ bytes_of_entry e ++ rest) (w : Writable e) where
  pub term_stands : front_term (drop at bs) ≡ e.term
  term_stands = ap (λ (l : List ℕ). front_term l) h ∙ front_term_lem e rest w

  pub length_stands : length_at bs at ≡ length e.text
  unfolding length_at
  length_stands = ap (λ (l : List ℕ). front_length l) h ∙ front_length_lem e rest w

  pub text_stands : text_at bs at ≡ e.text
  unfolding text_at
  text_stands = rw (length_stands, ← drop-drop 12 at bs, h) (front-text e rest w)

  pub rest_stands : drop (at + 12 + length_at bs at) bs ≡ rest
  rest_stands =
      let e' : at + 12 + length_at bs at ≡ at + (12 + length e.text) = omega (arith, length_stands) in
      ap (λ (i : ℕ). drop i bs) e' ∙ sym (drop-drop (12 + length e.text) at bs) ∙ ap (λ (l : List ℕ). drop (12 + length e.text) l) h ∙ front_rest e rest w

-- Some entries that stand from an index on: they are those there, and their places.
module _ (bs : List ℕ) where
  pub entries_stand : (at : ℕ) (fs : List Entry) (rest : List ℕ) → drop at bs ≡ bytes_of_entries fs ++ rest → Each Writable fs → entries_at bs at (length fs) ≡ fs
  unfolding entries_at bytes_of_entries
  entries_stand at [] rest h w = refl
  entries_stand at (f ∷ fs) rest h w =
      let k : drop at bs ≡ bytes_of_entry f ++ (bytes_of_entries fs ++ rest) = h ∙ append_assoc (bytes_of_entry f) (bytes_of_entries fs) rest in
      rw (term_stands bs at f (bytes_of_entries fs ++ rest) k w.0, text_stands bs at f (bytes_of_entries fs ++ rest) k w.0)
      (ap (λ (l : List Entry). f ∷ l) (entries_stand (at + 12 + length_at bs at) fs rest (rest_stands bs at f (bytes_of_entries fs ++ rest) k w.0) w.1))

  pub places_stand : (at : ℕ) (fs : List Entry) (rest : List ℕ) → drop at bs ≡ bytes_of_entries fs ++ rest → Each Writable fs → (i : ℕ) → i ≤ length fs → place_at bs at i ≡ at + length (bytes_of_entries (take i fs))
  unfolding place_at bytes_of_entries
  places_stand at fs rest h w zero l = omega arith
  places_stand at [] rest h w (suc i) l = absurd (omega arith)
  places_stand at (f ∷ fs) rest h w (suc i) l =
      let k : drop at bs ≡ bytes_of_entry f ++ (bytes_of_entries fs ++ rest) = h ∙ append_assoc (bytes_of_entry f) (bytes_of_entries fs) rest in
      let p = places_stand (at + 12 + length_at bs at) fs rest (rest_stands bs at f (bytes_of_entries fs ++ rest) k w.0) w.1 i (omega arith) in
      let n = length_stands bs at f (bytes_of_entries fs ++ rest) k w.0 in
      place_behind bs at i ∙ p ∙ omega (arith, n, length-entry f, length-append (bytes_of_entry f) (bytes_of_entries (take i fs)))
