-- Rows written with a dictionary: the lines are canonical, are read as the rows' texts and are their own canonical form (written-document,
-- written-canonical, written-fixed, at the end). Assumes nothing.
use Prim.Native.Nat.{ℕ, ◌≤◌}
use mathlib.Core.Path.{◌≡◌, refl, ap}
use mathlib.Core.Bool.{Bool, true, ◌&&◌, ◌||◌, not}
use mathlib.Core.Logic.{⊎_elim}
use mathlib.Core.List.{List, [], ◌∷◌, map}
use native.Mathlib.Omega.{arith}
use lib.Dec.{eqb, ltb}
use borrow.Author.Tests.{eqb-true}
use Rattle.spec.specs.declared.Triple.{Triple}
use Rattle.spec.specs.Terms.{kind, number, is_uri, is_blank, is_literal, is_resource, is_triple, is_statement, are_sides_allowed, is_allowed_statement, is_allowed_fact}
use Rattle.spec.specs.Lists.{all}
use Rattle.spec.specs.Tables.{rows, is_table}
use Rattle.spec.specs.inside.Each.{Each}
use Rattle.spec.proofs.Lists.{or_cases}
use Rattle.spec.proofs.Ascending.{and_left, and_right}
use Rattle.spec.proofs.TableFormed.{is_table_well_formed}
use Rattle.spec_ntriples.specs.Dictionary.{Entry, entries, is_dictionary}
use Rattle.spec_ntriples.specs.Reading.{text_triples}
use Rattle.spec_ntriples.specs.computed.Lines.{Document, triples, document}
use Rattle.spec_ntriples.specs.Meaning.{FileSays}
use Rattle.spec_ntriples.proofs.TripleTexts.{TextsRight}
use Rattle.spec_writing.specs.Writing.{document_bytes, row_texts, rows_bytes, has_text, has_texts}
use Rattle.spec_writing.specs.CanonicalForm.{CanonicalFile, canonical_form}
use Rattle.spec_writing.proofs.TextTerms.{text_canonical, text-kind}
use Rattle.spec_writing.proofs.CanonicalDocuments.{document_says, document-written, document_form}

-- ---- the kinds of a triple's terms

uri-kind : (w : ℕ) → is_uri w ≡ true → kind w ≤ 0
unfolding is_uri
uri-kind w h = let e = eqb-true (kind w) 0 (and_left (eqb (kind w) 0) (ltb 0 (number w)) h) in omega (arith, e)

resource-kind : (w : ℕ) → is_resource w ≡ true → kind w ≤ 1
unfolding is_uri is_blank
resource-kind w h =
    ⊎_elim
    (λ i. let e = eqb-true (kind w) 0 (and_left (eqb (kind w) 0) (ltb 0 (number w)) i) in omega (arith, e))
    (λ i. let e = eqb-true (kind w) 1 (and_left (eqb (kind w) 1) (ltb 0 (number w)) i) in omega (arith, e))
    (or_cases (is_uri w) (is_blank w) h)

-- A triple's subject is a URI or blank, its property a URI.
pub record Kinds (t : Triple) : Type 0 where
  pub subject_most : kind t.subject ≤ 1
  pub property_most : kind t.property ≤ 0

triple_kinds : (t : Triple) → is_triple t ≡ true → Kinds t
unfolding is_triple
triple_kinds t h =
    let a = is_resource t.subject in
    let b = is_uri t.property in
    let c = is_resource t.object || is_literal t.object in
    let k : (a && b) ≡ true = and_left (a && b) c h in
    record { subject_most = resource-kind t.subject (and_left a b k); property_most = uri-kind t.property (and_right a b k) }

-- ---- the texts of rows

-- All terms of a row have texts.
pub record AllTexts (es : List Entry) (t : Triple) : Type 0 where
  pub subject : has_text es t.subject ≡ true
  pub property : has_text es t.property ≡ true
  pub object : has_text es t.object ≡ true

pub all_texts : (es : List Entry) (t : Triple) → has_texts es t ≡ true → AllTexts es t
unfolding has_texts
all_texts es t h =
    let a = has_text es t.subject in
    let b = has_text es t.property in
    let c = has_text es t.object in
    let k : (b && c) ≡ true = and_right a (b && c) h in
    record { subject = and_left a (b && c) h; property = and_left b c k; object = and_right b c k }

module _ (d : List ℕ) (formed : is_dictionary d ≡ true) where
  row_right : (t : Triple) → is_triple t ≡ true → has_texts (entries d) t ≡ true → TextsRight (row_texts (entries d) t)
  unfolding row_texts
  row_right t h s =
      let k = triple_kinds t h in
      let a = all_texts (entries d) t s in
      record {
        canonical =
            record {
              subject = text_canonical d formed t.subject a.subject;
              property = text_canonical d formed t.property a.property;
              object = text_canonical d formed t.object a.object;
            };
        subject_kind = text-kind d formed t.subject a.subject;
        property_kind = text-kind d formed t.property a.property;
        object_kind = text-kind d formed t.object a.object;
        subject_most = k.subject_most;
        property_most = k.property_most;
      }

  pub rows_right : (ts : List Triple) → all is_triple ts ≡ true → all (has_texts (entries d)) ts ≡ true → Each TextsRight (map (row_texts (entries d)) ts)
  unfolding all
  rows_right [] h s = tt
  rows_right (t ∷ ts) h s = (
    row_right t (and_left (is_triple t) (all is_triple ts) h) (and_left (has_texts (entries d) t) (all (has_texts (entries d)) ts) s),
    rows_right ts (and_right (is_triple t) (all is_triple ts) h) (and_right (has_texts (entries d) t) (all (has_texts (entries d)) ts) s),
  )

  -- ---- rows written

  module _ (ts : List Triple) (h : all is_triple ts ≡ true) (s : all (has_texts (entries d)) ts ≡ true) where
    -- Theorem 3: the lines of rows say the rows' texts, in order,
    pub written-says : FileSays (rows_bytes (entries d) ts) (map (row_texts (entries d)) ts)
    unfolding rows_bytes
    written-says = document_says (map (row_texts (entries d)) ts) (rows_right ts h s)

    -- are read as them,
    pub written-document : document (rows_bytes (entries d) ts) ≡ triples (map (row_texts (entries d)) ts)
    unfolding rows_bytes
    written-document = document-written (map (row_texts (entries d)) ts) (rows_right ts h s)

    -- and are canonical.
    pub written-canonical : CanonicalFile (rows_bytes (entries d) ts)
    unfolding rows_bytes
    written-canonical = (document_form (map (row_texts (entries d)) ts) (rows_right ts h s)).file

    -- Theorem 4: they are their own canonical form.
    pub written-fixed : canonical_form (rows_bytes (entries d) ts) ≡ rows_bytes (entries d) ts
    unfolding canonical_form text_triples rows_bytes
    written-fixed = ap (λ (x : Document). document_bytes (text_triples x)) written-document

-- ---- the rows of tables

all_implied : {A : Type 0} (p q : A → Bool) → ((x : A) → p x ≡ true → q x ≡ true) → (xs : List A) → all p xs ≡ true → all q xs ≡ true
unfolding all
all_implied p q f [] h = refl
all_implied p q f (x ∷ xs) h = rw (f x (and_left (p x) (all p xs) h)) (all_implied p q f xs (and_right (p x) (all p xs) h))

-- What the rows of a table are allowed to be, they are.
pub table-rows : (allowed test : Triple → Bool) (most : ℕ) (table : List ℕ) → ((t : Triple) → allowed t ≡ true → test t ≡ true) → is_table allowed most table ≡ true → all test (rows table) ≡ true
table-rows allowed test most table f h = all_implied allowed test f (rows table) (is_table_well_formed allowed most table h).each_allowed

pub statement-triple : (t : Triple) → is_allowed_statement t ≡ true → is_triple t ≡ true
unfolding is_allowed_statement
statement-triple t h = and_left (is_triple t) (is_statement t && are_sides_allowed t) h

pub statement_statement : (t : Triple) → is_allowed_statement t ≡ true → is_statement t ≡ true
unfolding is_allowed_statement
statement_statement t h = and_left (is_statement t) (are_sides_allowed t) (and_right (is_triple t) (is_statement t && are_sides_allowed t) h)

pub fact-triple : (t : Triple) → is_allowed_fact t ≡ true → is_triple t ≡ true
unfolding is_allowed_fact
fact-triple t h = and_left (is_triple t) (not (is_statement t)) h

pub fact_fact : (t : Triple) → is_allowed_fact t ≡ true → not (is_statement t) ≡ true
unfolding is_allowed_fact
fact_fact t h = and_right (is_triple t) (not (is_statement t)) h
