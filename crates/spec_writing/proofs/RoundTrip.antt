-- What is written with a dictionary is read back with it (statements-read-back, facts-read-back, kept-read-back, at the end). Assumes nothing.
use Rattle.std.specs.Prelude.{Ok, Err}
use Prim.Native.Nat.{ℕ, ◌+◌, ◌-◌, ◌*◌, ◌≤◌, ◌<◌, min}
use mathlib.Core.Path.{◌≡◌, refl, sym, ap, ◌∙◌, subst}
use mathlib.Core.Bool.{Bool, true, not}
use mathlib.Core.List.{List, [], ◌∷◌, map, flat_map}
use native.Mathlib.Omega.{arith}
use lib.ListN.{length, take, replicate, length-append}
use lib.Seq.{take_at}
use borrow.Author.Tests.{not-true}
use Rattle.spec.specs.declared.Triple.{Triple}
use Rattle.spec.specs.Terms.{is_triple, is_statement, is_allowed_statement, is_allowed_fact}
use Rattle.spec.specs.Lists.{all, select, padded}
use Rattle.spec.specs.Deliveries.{is_fact}
use Rattle.spec.specs.Tables.{most_statements, most_facts, most_kept, rows, is_table}
use Rattle.spec.specs.Messages.{most_bytes, encode}
use Rattle.spec.specs.inside.Each.{Each}
use Rattle.spec.proofs.Ascending.{and_left, and_right}
use Rattle.spec_ntriples.specs.Texts.{TextTriple}
use Rattle.spec_ntriples.specs.Dictionary.{Entry, bytes_of_entries, dictionary_bytes, entries, term_of, is_dictionary}
use Rattle.spec_ntriples.specs.Sights.{text_of, triple_texts, file_texts}
use Rattle.spec_ntriples.specs.Reading.{triple_of, additions, read_file, conclude_reading, read_nTriples}
use Rattle.spec_ntriples.specs.Promises.{entries_with, RefusedBy, Accepted}
use Rattle.spec_ntriples.proofs.EntryBytes.{dictionary-written}
use Rattle.spec_ntriples.proofs.KnownTexts.{texts_known}
use Rattle.spec_ntriples.proofs.ReadingDictionary.{with_all_lem, formed}
use Rattle.spec_ntriples.proofs.ReadingRefused.{additions-length, length-map, accepted_is, reading_refused, reading_refused_leaves}
use Rattle.spec_writing.specs.Writing.{row_texts, rows_bytes, has_text, has_texts, write_rows, write_statements, write_facts, write_kept}
use Rattle.spec_writing.specs.WritingPromises.{facts_addition, statements_addition, ReadsBack}
use Rattle.spec_writing.proofs.TextTerms.{term_right, text_term}
use Rattle.spec_writing.proofs.WrittenRows.{all_texts, rows_right, written-document, table-rows, statement-triple, statement_statement, fact-triple, fact_fact}
use Rattle.spec_writing.proofs.WritingRefused.{none_lacks, writing_accepted, writing_accepted_gives}

-- ---- the dictionary

-- A dictionary's entries fit it.
entries_fit : (d : List ℕ) → is_dictionary d ≡ true → length (bytes_of_entries (entries d)) ≤ length d
unfolding dictionary_bytes
entries_fit d h =
    let b : List ℕ = bytes_of_entries (entries d) in
    let e : length d ≡ length (dictionary_bytes (length d) (entries d)) = ap length (dictionary-written d h) in
    omega (arith, e, length-append b (replicate (length d - length b) 0))

module _ (d : List ℕ) (h : is_dictionary d ≡ true) where
  -- The texts of rows have terms, so that none is entered,
  texts_have : (ts : List Triple) → all (has_texts (entries d)) ts ≡ true → Each (λ (t : List ℕ). 0 < term_of (entries d) t) (file_texts (map (row_texts (entries d)) ts))
  unfolding all file_texts flat_map triple_texts row_texts
  texts_have [] s = tt
  texts_have (t ∷ ts) s =
      let a = all_texts (entries d) t (and_left (has_texts (entries d) t) (all (has_texts (entries d)) ts) s) in
      (has t.subject a.subject, (has t.property a.property, (has t.object a.object, texts_have ts (and_right (has_texts (entries d) t) (all (has_texts (entries d)) ts) s))))
    where
      has : (w : ℕ) → has_text (entries d) w ≡ true → 0 < term_of (entries d) (text_of (entries d) w)
      has w k = let r = term_right d h w k in omega (arith, r.some, r.back)

  -- and these are the rows' terms.
  row_back : (t : Triple) → has_texts (entries d) t ≡ true → triple_of (entries d) (row_texts (entries d) t) ≡ t
  unfolding triple_of row_texts
  row_back t s =
      let a = all_texts (entries d) t s in
      rw (text_term d h t.subject a.subject, text_term d h t.property a.property, text_term d h t.object a.object)

  rows_back : (ts : List Triple) → all (has_texts (entries d)) ts ≡ true → map (triple_of (entries d)) (map (row_texts (entries d)) ts) ≡ ts
  unfolding all
  rows_back [] s = refl
  rows_back (t ∷ ts) s =
      rw (row_back t (and_left (has_texts (entries d) t) (all (has_texts (entries d)) ts) s), rows_back ts (and_right (has_texts (entries d) t) (all (has_texts (entries d)) ts) s))

  -- ---- rows read back

  module _ (ts : List Triple) (k : all is_triple ts ≡ true) (s : all (has_texts (entries d)) ts ≡ true) where
    abbrev texts : List TextTriple
    texts = map (row_texts (entries d)) ts

    same_entries : entries_with d texts ≡ entries d
    same_entries = with_all_lem (entries d) texts (rows_right d h ts k s) ∙ texts_known (entries d) (file_texts texts) (texts_have ts s)

    count : length texts ≡ length ts
    count = length-map (row_texts (entries d)) ts

    unfoldable accepted : (len : ℕ) → 10 + 12 * length ts ≤ min len most_bytes → Accepted d (rows_bytes (entries d) ts) len (10 + 12 * length ts)
    accepted len r =
        record {
          lines = texts;
          formed = h;
          said = written-document d h ts k s;
          space = rw same_entries (entries_fit d h);
          numbers = rw same_entries (formed d h).numbers;
          room = rw count r;
          size = rw count;
        }

    conclude : (len : ℕ) → conclude_reading 0 d (entries d) ts len ≡ read_file (Ok (10 + 12 * length ts)) d (padded len (encode (additions ts)))
    unfolding conclude_reading
    conclude len =
        ap (λ (n : ℕ). read_file (Ok n) (dictionary_bytes (length d) (entries d)) (padded len (encode (additions ts)))) (additions-length ts)
        ∙ ap (λ (x : List ℕ). read_file (Ok (10 + 12 * length ts)) x (padded len (encode (additions ts)))) (sym (dictionary-written d h))

    back_fits : (len : ℕ) → 10 + 12 * length ts ≤ min len most_bytes → read_nTriples d (rows_bytes (entries d) ts) len ≡ read_file (Ok (10 + 12 * length ts)) d (padded len (encode (additions ts)))
    unfolding accepted
    back_fits len r =
        accepted_is d (rows_bytes (entries d) ts) len (10 + 12 * length ts) (accepted len r)
        ∙ ap (λ (es : List Entry). conclude_reading 0 d es (map (triple_of es) texts) len) same_entries
        ∙ ap (λ (us : List Triple). conclude_reading 0 d (entries d) us len) (rows_back ts s)
        ∙ conclude len

    back-exceeds : (len : ℕ) → min len most_bytes < 10 + 12 * length ts → read_nTriples d (rows_bytes (entries d) ts) len ≡ read_file (Err 15) d (replicate len 0)
    back-exceeds len r =
        let R : RefusedBy d (rows_bytes (entries d) ts) len 15 =
        RefusedBy.no_room refl h texts (written-document d h ts k s) (rw same_entries (entries_fit d h)) (rw same_entries (formed d h).numbers) (rw count r) in
        reading_refused_leaves d (rows_bytes (entries d) ts) len 15 ((reading_refused d (rows_bytes (entries d) ts) len 15).1 R)

    -- The lines of rows, read with their dictionary, add the rows.
    pub rows-read-back : ReadsBack d (rows_bytes (entries d) ts) (length ts) (additions ts)
    rows-read-back = record { fits = back_fits; exceeds = back-exceeds }

-- ---- what is written

-- The bytes of an accepted writing, read back.
written-read-back
    : (formed : Bool) (table d : List ℕ) (len n : ℕ) → (formed ≡ true → all is_triple (rows table) ≡ true) → (write_rows formed table d len).reply ≡ Ok n
    → ReadsBack d (take n (write_rows formed table d len).bytes) (length (rows table)) (additions (rows table))
written-read-back formed table d len n f e =
    let A = (writing_accepted formed table d len n).0 e in
    let b : List ℕ = rows_bytes (entries d) (rows table) in
    let t : take n (write_rows formed table d len).bytes ≡ b =
    ap (take n) (writing_accepted_gives formed table d len n e) ∙ take_at b (replicate (len - length b) 0) n (sym A.size) in
    rw t (rows-read-back d A.dictionary_formed (rows table) (f A.table_formed) (none_lacks (entries d) (rows table) A.have_texts))

-- All of some rows, or none of them.
select-all : {A : Type 0} (test : A → Bool) (xs : List A) → all test xs ≡ true → select test xs ≡ xs
unfolding all select
select-all test [] h = refl
select-all test (x ∷ xs) h = rw (and_left (test x) (all test xs) h, select-all test xs (and_right (test x) (all test xs) h))

select_none : {A : Type 0} (test : A → Bool) (xs : List A) → all (λ x. not (test x)) xs ≡ true → select test xs ≡ []
unfolding all select
select_none test [] h = refl
select_none test (x ∷ xs) h = rw (not-true (test x) (and_left (not (test x)) (all (λ x. not (test x)) xs) h)) (select_none test xs (and_right (not (test x)) (all (λ x. not (test x)) xs) h))

no_facts : (ts : List Triple) → all is_statement ts ≡ true → select is_fact ts ≡ []
unfolding all select
no_facts [] h = refl
no_facts (t ∷ ts) h = rw (and_left (is_statement t) (all is_statement ts) h) (no_facts ts (and_right (is_statement t) (all is_statement ts) h))

all_facts : (ts : List Triple) → all is_fact ts ≡ true → additions ts ≡ facts_addition ts
unfolding additions
all_facts ts h = rw (select_none is_statement ts h, select-all is_fact ts h)

all_statements : (ts : List Triple) → all is_statement ts ≡ true → additions ts ≡ statements_addition ts
unfolding additions
all_statements ts h = rw (select-all is_statement ts h, no_facts ts h)

-- Theorem 1: where a table is written, its lines, read back with the same dictionary, leave the dictionary as it is and add the table's
-- rows, in order; the facts,
facts_of : (most : ℕ) (table d : List ℕ) (len n : ℕ) → (write_rows (is_table is_allowed_fact most table) table d len).reply ≡ Ok n → ReadsBack d (take n (write_rows (is_table is_allowed_fact most table) table d len).bytes) (length (rows table)) (facts_addition (rows table))
facts_of most table d len n e =
    let A = (writing_accepted (is_table is_allowed_fact most table) table d len n).0 e in
    subst (ReadsBack d (take n (write_rows (is_table is_allowed_fact most table) table d len).bytes) (length (rows table)))
    (all_facts (rows table) (table-rows is_allowed_fact is_fact most table fact_fact A.table_formed))
    (written-read-back (is_table is_allowed_fact most table) table d len n (λ f. table-rows is_allowed_fact is_triple most table fact-triple f) e)

pub facts-read_back : (table d : List ℕ) (len n : ℕ) → (write_facts table d len).reply ≡ Ok n → ReadsBack d (take n (write_facts table d len).bytes) (length (rows table)) (facts_addition (rows table))
unfolding write_facts
facts-read_back table d len n e = facts_of most_facts table d len n e

-- the kept facts,
pub kept-read_back : (table d : List ℕ) (len n : ℕ) → (write_kept table d len).reply ≡ Ok n → ReadsBack d (take n (write_kept table d len).bytes) (length (rows table)) (facts_addition (rows table))
unfolding write_kept
kept-read_back table d len n e = facts_of most_kept table d len n e

-- and the statements.
pub statements-read_back : (table d : List ℕ) (len n : ℕ) → (write_statements table d len).reply ≡ Ok n → ReadsBack d (take n (write_statements table d len).bytes) (length (rows table)) (statements_addition (rows table))
unfolding write_statements
statements-read_back table d len n e =
    let A = (writing_accepted (is_table is_allowed_statement most_statements table) table d len n).0 e in
    subst (ReadsBack d (take n (write_rows (is_table is_allowed_statement most_statements table) table d len).bytes) (length (rows table)))
    (all_statements (rows table) (table-rows is_allowed_statement is_statement most_statements table statement_statement A.table_formed))
    (written-read-back (is_table is_allowed_statement most_statements table) table d len n (λ f. table-rows is_allowed_statement is_triple most_statements table statement-triple f) e)
