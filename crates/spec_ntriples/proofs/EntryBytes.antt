-- A dictionary's entries are written and read back (entries-written, dictionary-written). Assumes nothing.
use Prim.Native.Nat.{ℕ, zero, suc, ◌+◌, ◌-◌, ◌*◌, ◌/◌, ◌^◌, ◌≤◌, ◌<◌}
use mathlib.Core.Path.{◌≡◌, refl, sym, ap, ◌∙◌}
use mathlib.Core.Bool.{true, false, ◌&&◌}
use mathlib.Core.List.{List, [], ◌∷◌, ◌++◌, append_assoc}
use native.Mathlib.Nat.{mod-add-div'}
use native.Mathlib.Omega.{arith}
use lib.ListN.{length, take, drop, replicate, length-append, length-replicate}
use lib.Seq.{take_at, drop_at}
use lib.Dec.{ltb}
use borrow.Author.Tests.{ne_eqb, le-ltb}
use Rattle.spec.proofs.Ascending.{and_left}
use Rattle.spec.specs.inside.Each.{Each}
use Rattle.spec_ntriples.specs.Texts.{is_same_text}
use Rattle.spec_ntriples.specs.Dictionary.{Entry, number_bytes, bytes_of_entry, bytes_of_entries, dictionary_bytes, bytes_number, front_term, front_length, entries_at_most, entries, kind_of, are_numbered, are_numbers_enough, are_texts, is_dictionary}
use Rattle.spec_ntriples.specs.inside.Entries.{Writable}
use Rattle.spec_ntriples.proofs.Canonical.{same_bytes}
use Rattle.spec_ntriples.proofs.Numbers.{first_positive, Numbered, kind_least}

-- ---- numbers

-- How many numbers so many bytes have.
abbrev room : ℕ → ℕ
room zero = 1
room (suc k) = 256 * room k

pub length-number : (k n : ℕ) → length (number_bytes k n) ≡ k
unfolding number_bytes
length-number zero n = refl
length-number (suc k) n = ap suc (length-number k (n / 256))

-- A number written in enough bytes is read back.
number-written : (k n : ℕ) → n < room k → bytes_number (number_bytes k n) ≡ n
unfolding number_bytes bytes_number
number-written zero n h = omega (arith, h)
number-written (suc k) n h = omega (arith, number-written k (n / 256) (omega (arith, h)), mod-add-div' n 256)

zeros-number : (n z : ℕ) → bytes_number (take n (replicate z 0)) ≡ 0
unfolding bytes_number
zeros-number zero z = refl
zeros-number (suc n) zero = refl
zeros-number (suc n) (suc z) = omega (arith, zeros-number n z)

-- ---- entries

-- The bytes before its text.
abbrev header : Entry → List ℕ
header e = number_bytes 4 e.term ++ number_bytes 8 (length e.text)

entry_split : (e : Entry) (rest : List ℕ) → bytes_of_entry e ++ rest ≡ header e ++ (e.text ++ rest)
unfolding bytes_of_entry
entry_split e rest =
    append_assoc (number_bytes 4 e.term) (number_bytes 8 (length e.text) ++ e.text) rest
    ∙ ap (λ (l : List ℕ). number_bytes 4 e.term ++ l) (append_assoc (number_bytes 8 (length e.text)) e.text rest)
    ∙ sym (append_assoc (number_bytes 4 e.term) (number_bytes 8 (length e.text)) (e.text ++ rest))

length_header : (e : Entry) → length (header e) ≡ 12
length_header e = omega (arith, length-append (number_bytes 4 e.term) (number_bytes 8 (length e.text)), length-number 4 e.term, length-number 8 (length e.text))

pub length-entry : (e : Entry) → length (bytes_of_entry e) ≡ 12 + length e.text
unfolding bytes_of_entry
length-entry e =
    omega (arith, length-append (number_bytes 4 e.term) (number_bytes 8 (length e.text) ++ e.text), length-append (number_bytes 8 (length e.text)) e.text, length-number 4 e.term, length-number 8 (length e.text))

-- Entries are as many bytes as they have, and no fewer than they are.
pub length-entries : (es : List Entry) → length es ≤ length (bytes_of_entries es)
unfolding bytes_of_entries
length-entries [] = omega arith
length-entries (e ∷ es) = omega (arith, length-entries es, length-entry e, length-append (bytes_of_entry e) (bytes_of_entries es))

-- ---- entries read back

entries_zeros : (most z : ℕ) → entries_at_most most (replicate z 0) ≡ []
unfolding entries_at_most
entries_zeros zero z = refl
entries_zeros (suc m) z = rw (zeros-number 4 z)

-- The front of bytes that begin with an entry.
module _ (e : Entry) (rest : List ℕ) (w : Writable e) where
  abbrev bytes : List ℕ
  bytes = bytes_of_entry e ++ rest

  abbrev n : ℕ
  n = length e.text

  pub front_term_lem : front_term bytes ≡ e.term
  unfolding bytes_of_entry
  front_term_lem =
      ap bytes_number (ap (λ (l : List ℕ). take 4 l) (append_assoc (number_bytes 4 e.term) (number_bytes 8 n ++ e.text) rest) ∙ take_at (number_bytes 4 e.term) ((number_bytes 8 n ++ e.text) ++ rest) 4 (length-number 4 e.term))
      ∙ number-written 4 e.term (omega (arith, w.word))

  pub front_length_lem : front_length bytes ≡ n
  unfolding bytes_of_entry
  front_length_lem =
      ap bytes_number
      (ap (λ (l : List ℕ). take 8 (drop 4 l)) (append_assoc (number_bytes 4 e.term) (number_bytes 8 n ++ e.text) rest)
      ∙ ap (λ (l : List ℕ). take 8 l) (drop_at (number_bytes 4 e.term) ((number_bytes 8 n ++ e.text) ++ rest) 4 (length-number 4 e.term) ∙ append_assoc (number_bytes 8 n) e.text rest)
      ∙ take_at (number_bytes 8 n) (e.text ++ rest) 8 (length-number 8 n))
      ∙ number-written 8 n (omega (arith, w.size))

  after_header : drop 12 bytes ≡ e.text ++ rest
  after_header = ap (λ (l : List ℕ). drop 12 l) (entry_split e rest) ∙ drop_at (header e) (e.text ++ rest) 12 (length_header e)

  pub front-text : take n (drop 12 bytes) ≡ e.text
  front-text = ap (λ (l : List ℕ). take n l) after_header ∙ take_at e.text rest n refl

  pub front_rest : drop (12 + n) bytes ≡ rest
  front_rest = drop_at (bytes_of_entry e) rest (12 + n) (length-entry e)

  front-within : ltb (length bytes) (12 + n) ≡ false
  front-within = le-ltb (length bytes) (12 + n) (omega (arith, length-entry e, length-append (bytes_of_entry e) rest))

-- So many entries at most are read back.
entries-at_most : (most z : ℕ) (es : List Entry) → length es ≤ most → Each Writable es → entries_at_most most (bytes_of_entries es ++ replicate z 0) ≡ es
unfolding entries_at_most bytes_of_entries
entries-at_most most z [] h w = entries_zeros most z
entries-at_most zero z (e ∷ es) h w = absurd (omega (arith, h))
entries-at_most (suc m) z (e ∷ es) h w =
    let rest : List ℕ = bytes_of_entries es ++ replicate z 0 in
    rw (
      append_assoc (bytes_of_entry e) (bytes_of_entries es) (replicate z 0),
      front_term_lem e rest w.0,
      front_length_lem e rest w.0,
      front-text e rest w.0,
      front_rest e rest w.0,
      front-within e rest w.0,
      ne_eqb e.term 0 (λ (q : e.term ≡ 0). omega (arith, q, w.0.some)),
    )
    (ap (λ (l : List Entry). e ∷ l) (entries-at_most m z es (omega (arith, h)) w.1))

-- ---- dictionaries

pub dictionary-length : (len : ℕ) (es : List Entry) → length (bytes_of_entries es) ≤ len → length (dictionary_bytes len es) ≡ len
unfolding dictionary_bytes
dictionary-length len es h =
    let z : ℕ = len - length (bytes_of_entries es) in
    omega (arith, h, length-append (bytes_of_entries es) (replicate z 0), length-replicate z (zero))

-- Entries that can be written and fit are the entries of their dictionary.
pub entries-written : (len : ℕ) (es : List Entry) → length (bytes_of_entries es) ≤ len → Each Writable es → entries (dictionary_bytes len es) ≡ es
unfolding entries dictionary_bytes
entries-written len es h w =
    ap (λ (most : ℕ). entries_at_most most (dictionary_bytes len es)) (dictionary-length len es h)
    ∙ entries-at_most len (len - length (bytes_of_entries es)) es (omega (arith, h, length-entries es)) w

-- A dictionary is its entries, written.
pub dictionary-written : (bs : List ℕ) → is_dictionary bs ≡ true → bs ≡ dictionary_bytes (length bs) (entries bs)
unfolding is_dictionary
dictionary-written bs h =
    sym (same_bytes (dictionary_bytes (length bs) (entries bs)) bs
    (and_left (is_same_text (dictionary_bytes (length bs) (entries bs)) bs) (are_numbered [] (entries bs) && (are_numbers_enough (entries bs) && are_texts (entries bs))) h))

-- ---- numbered entries can be written

size_each : (es : List Entry) → length (bytes_of_entries es) < 2 ^ 64 → Each (λ (e : Entry). length e.text < 2 ^ 64) es
unfolding bytes_of_entries
size_each [] h = tt
size_each (e ∷ es) h =
    (omega (arith, h, length-entry e, length-append (bytes_of_entry e) (bytes_of_entries es)), size_each es (omega (arith, h, length-append (bytes_of_entry e) (bytes_of_entries es))))

number_writable : (es : List Entry) (e : Entry) → Numbered es e → length e.text < 2 ^ 64 → Writable e
number_writable es e N h =
    record { some = omega (arith, N.is, first_positive (kind_of e.text), N.first); word = omega (arith, N.is, N.small, kind_least e.text); size = h }

pub writable : (fs es : List Entry) → Each (Numbered fs) es → length (bytes_of_entries es) < 2 ^ 64 → Each Writable es
writable fs es N h = go es N (size_each es h)
  where
    go : (xs : List Entry) → Each (Numbered fs) xs → Each (λ (e : Entry). length e.text < 2 ^ 64) xs → Each Writable xs
    go [] a b = tt
    go (x ∷ xs) a b = (number_writable fs x a.0 b.0, go xs a.1 b.1)
