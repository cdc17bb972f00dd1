-- The dictionary after a reading (reading-dictionary, at the end). Assumes nothing.
use Prim.Native.Nat.{ℕ, ◌^◌, ◌≤◌, ◌<◌}
use mathlib.Core.Path.{◌≡◌, refl, ◌∙◌}
use mathlib.Core.Bool.{Bool, true, ◌&&◌}
use mathlib.Core.List.{List, [], ◌∷◌, ◌++◌, flat_map}
use native.Mathlib.Omega.{arith}
use lib.ListN.{length}
use Rattle.spec.proofs.Ascending.{and_left, and_right}
use Rattle.spec.specs.inside.Each.{Each}
use Rattle.spec_ntriples.specs.Texts.{Text, is_same_text, TextTriple}
use Rattle.spec_ntriples.specs.Dictionary.{Entry, bytes_of_entries, dictionary_bytes, entries, term_of, kind_of, are_numbered, are_numbers_enough, are_texts, is_dictionary}
use Rattle.spec_ntriples.specs.computed.Canonical.{is_canonical}
use Rattle.spec_ntriples.specs.Reading.{with_text, with_texts, with_all, conclude_reading, read_nTriples}
use Rattle.spec_ntriples.specs.Sights.{triple_texts, file_texts, first_sights, known_texts}
use Rattle.spec_ntriples.specs.Promises.{entries_with, Accepted, Entered}
use Rattle.spec_ntriples.proofs.Canonical.{same_itself}
use Rattle.spec_ntriples.proofs.Numbers.{numbers_enough, numbered_split, numbered-entries}
use Rattle.spec_ntriples.proofs.EntryBytes.{writable, entries-written, dictionary-length}
use Rattle.spec_ntriples.proofs.KnownTexts.{HasTerm, add_text, add_texts, next_entries, numbered_has, next_texts, next_numbered, first_sights_lem, texts_have, texts_kept}
use Rattle.spec_ntriples.proofs.TripleTexts.{TextsRight, document_texts}
use Rattle.spec_ntriples.proofs.ReadingRefused.{accepted_is}

-- ---- the texts of a file, one by one

with-text : (es : List Entry) (t : Text) → kind_of t.bytes ≡ t.kind → with_text es t ≡ add_text es t.bytes
unfolding with_text add_text
with-text es t h = rw h

pub with_all_lem : (es : List Entry) (ts : List TextTriple) → Each TextsRight ts → with_all es ts ≡ add_texts es (file_texts ts)
unfolding with_all with_texts add_texts file_texts flat_map triple_texts
with_all_lem es [] h = refl
with_all_lem es (t ∷ ts) h =
    rw (with-text es t.subject h.0.subject_kind, with-text (add_text es t.subject.bytes) t.property h.0.property_kind, with-text (add_text (add_text es t.subject.bytes) t.property.bytes) t.object h.0.object_kind)
    (with_all_lem (add_text (add_text (add_text es t.subject.bytes) t.property.bytes) t.object.bytes) ts h.1)

texts_canonical : (ts : List TextTriple) → Each TextsRight ts → Each (λ (t : List ℕ). is_canonical t ≡ true) (file_texts ts)
unfolding file_texts flat_map triple_texts
texts_canonical [] h = tt
texts_canonical (t ∷ ts) h = (h.0.canonical.subject, (h.0.canonical.property, (h.0.canonical.object, texts_canonical ts h.1)))

and_both : (a b : Bool) → a ≡ true → b ≡ true → (a && b) ≡ true
and_both a b h k = rw (h, k)

-- ---- dictionaries

-- What question 1 asks, one by one.
pub record Formed (bs : List ℕ) : Type 0 where
  pub same : is_same_text (dictionary_bytes (length bs) (entries bs)) bs ≡ true
  pub numbered : are_numbered [] (entries bs) ≡ true
  pub numbers : are_numbers_enough (entries bs) ≡ true
  pub texts : are_texts (entries bs) ≡ true

pub formed : (bs : List ℕ) → is_dictionary bs ≡ true → Formed bs
unfolding is_dictionary
formed bs h =
    let a = is_same_text (dictionary_bytes (length bs) (entries bs)) bs in
    let b = are_numbered [] (entries bs) in
    let c = are_numbers_enough (entries bs) in
    let d = are_texts (entries bs) in
    let i : (b && (c && d)) ≡ true = and_right a (b && (c && d)) h in
    let j : (c && d) ≡ true = and_right b (c && d) i in
    record { same = and_left a (b && (c && d)) h; numbered = and_left b (c && d) i; numbers = and_left c d j; texts = and_right c d j }

-- Entries that are right and fit make a dictionary.
pub is_dictionary_lem : (len : ℕ) (es : List Entry) → length (bytes_of_entries es) ≤ len → entries (dictionary_bytes len es) ≡ es → are_numbered [] es ≡ true → are_numbers_enough es ≡ true → are_texts es ≡ true → is_dictionary (dictionary_bytes len es) ≡ true
unfolding is_dictionary
is_dictionary_lem len es s e n c t =
    rw (dictionary-length len es s, e, same_itself (dictionary_bytes len es), n, c, t)

-- ---- an accepted reading

module _ (dictionary file : List ℕ) (len n : ℕ) (A : Accepted dictionary file len n) where
  -- The entries after it, and the texts seen first.
  abbrev pub entries_after : List Entry
  entries_after = entries_with dictionary A.lines

  abbrev sights : List (List ℕ)
  sights = first_sights (known_texts (entries dictionary)) (file_texts A.lines)

  pub lines_right : Each TextsRight A.lines
  lines_right = document_texts file A.lines A.said

  old_terms : Each HasTerm (entries dictionary)
  old_terms = numbered_has [] (entries dictionary) (formed dictionary A.formed).numbered

  after-added : entries_after ≡ add_texts (entries dictionary) (file_texts A.lines)
  after-added = with_all_lem (entries dictionary) A.lines lines_right

  after_is : entries_after ≡ entries dictionary ++ next_entries (entries dictionary) sights
  after_is = after-added ∙ first_sights_lem (entries dictionary) (file_texts A.lines) old_terms

  -- They are numbered,
  pub after_numbered : are_numbered [] entries_after ≡ true
  after_numbered =
      rw after_is
      (numbered_split [] (entries dictionary) (next_entries (entries dictionary) sights)
      ∙ and_both (are_numbered [] (entries dictionary)) (are_numbered (entries dictionary) (next_entries (entries dictionary) sights)) (formed dictionary A.formed).numbered (next_numbered (entries dictionary) sights))

  -- have right texts,
  pub after_texts : are_texts entries_after ≡ true
  after_texts =
      rw after-added (texts_kept (entries dictionary) (file_texts A.lines) old_terms (formed dictionary A.formed).texts (texts_canonical A.lines lines_right))

  -- and a term for each text of the file.
  pub after_have : Each (λ (t : List ℕ). 0 < term_of entries_after t) (file_texts A.lines)
  after_have = rw after-added (texts_have (entries dictionary) (file_texts A.lines) old_terms)

  pub after_bytes : (read_nTriples dictionary file len).dictionary ≡ dictionary_bytes (length dictionary) entries_after
  unfolding conclude_reading
  after_bytes = rw (accepted_is dictionary file len n A)

  module _ (lent : length dictionary < 2 ^ 64) where
    pub after-entries : entries (dictionary_bytes (length dictionary) entries_after) ≡ entries_after
    after-entries =
        entries-written (length dictionary) entries_after A.space
        (writable entries_after entries_after (numbered-entries entries_after after_numbered (numbers_enough entries_after A.numbers)) (omega (arith, lent, A.space)))

    pub after-formed : is_dictionary (dictionary_bytes (length dictionary) entries_after) ≡ true
    after-formed = is_dictionary_lem (length dictionary) entries_after A.space after-entries after_numbered A.numbers after_texts

    entered : Entered dictionary (dictionary_bytes (length dictionary) entries_after) A.lines
    entered =
        record {
          formed = after-formed;
          as_long = dictionary-length (length dictionary) entries_after A.space;
          added = next_entries (entries dictionary) sights;
          entries_are = after-entries ∙ after_is;
          texts = next_texts (entries dictionary) sights;
          numbers = next_numbered (entries dictionary) sights;
        }

    -- Theorem 5: the dictionary after it is one, as long as it was; its entries are the old ones and those of the new texts in order of
    -- first sight, each with the next term of its kind.
    pub reading-dictionary : Entered dictionary (read_nTriples dictionary file len).dictionary A.lines
    reading-dictionary = rw after_bytes entered
