-- Triples written as a canonical document are read back, and canonical form is a fixed point (document-written, document_form,
-- canonical_same, form_canonical, canonical_once, at the end). Assumes nothing.
use Prim.Native.Nat.{ℕ}
use mathlib.Core.Path.{◌≡◌, refl, sym, ap, ◌∙◌}
use mathlib.Core.Bool.{Bool, true, not}
use mathlib.Core.Logic.{inl}
use mathlib.Core.List.{List, [], ◌∷◌, ◌++◌, append_assoc}
use Rattle.spec.specs.Lists.{all}
use Rattle.spec.specs.inside.Each.{Each}
use Rattle.spec.proofs.TableAll.{all_append}
use Rattle.spec_ntriples.specs.Utf8.{is_scalar, encode_char, utf8}
use Rattle.spec_ntriples.specs.Characters.{codes, is_one_of}
use Rattle.spec_ntriples.specs.Texts.{TextTriple}
use Rattle.spec_ntriples.specs.Expressions.{Matches, Repeated}
use Rattle.spec_ntriples.specs.Productions.{EOL, WS}
use Rattle.spec_ntriples.specs.Meaning.{Parts, TripleLine, is_one_line, LineSays, Says, FileSays}
use Rattle.spec_ntriples.specs.Reading.{text_triples}
use Rattle.spec_ntriples.specs.computed.Lines.{Document, refused, triples, document}
use Rattle.spec_ntriples.proofs.Terms.{means-object}
use Rattle.spec_ntriples.proofs.Respelling.{encode-append}
use Rattle.spec_ntriples.proofs.DocumentRead.{document-read}
use Rattle.spec_ntriples.proofs.TripleTexts.{TextsRight, document_texts}
use Rattle.spec_writing.specs.Writing.{line_bytes, document_bytes}
use Rattle.spec_writing.specs.CanonicalForm.{CanonicalLine, CanonicalLines, CanonicalFile, canonical_form}
use Rattle.spec_writing.specs.WritingPromises.{NormalLines, NormalFile}
use Rattle.spec_writing.proofs.CanonicalTexts.{means_normal}
use Rattle.spec_writing.proofs.CanonicalTerms.{Spelled, spell_term, means-subject, means-predicate}

-- ---- terms with single spaces

-- A subject, a property and an object with a space behind each of the first two, and what follows.
abbrev pub spaced : (s p o r : List ℕ) → List ℕ
spaced s p o r = s ++ (codes " " ++ (p ++ (codes " " ++ (o ++ r))))

spaced-append : (s p o a b : List ℕ) → spaced s p o a ++ b ≡ spaced s p o (a ++ b)
unfolding codes
spaced-append s p o a b = rw (append_assoc s (codes " " ++ (p ++ (codes " " ++ (o ++ a)))) b, append_assoc p (codes " " ++ (o ++ a)) b, append_assoc o a b)

spaced-utf8 : (s p o r : List ℕ) → utf8 (spaced s p o r) ≡ spaced (utf8 s) (utf8 p) (utf8 o) (utf8 r)
unfolding codes utf8 encode_char
spaced-utf8 s p o r = rw (encode-append s (codes " " ++ (p ++ (codes " " ++ (o ++ r)))), encode-append p (codes " " ++ (o ++ r)), encode-append o r)

spaced-all : (test : ℕ → Bool) (s p o r : List ℕ) → test 32 ≡ true → all test s ≡ true → all test p ≡ true → all test o ≡ true → all test r ≡ true → all test (spaced s p o r) ≡ true
unfolding codes all
spaced-all test s p o r h a b c d =
    all_append test s _ a (rw h (all_append test p _ b (rw h (all_append test o r c d))))

-- Spaced terms stand in one line, if each does.
pub spaced_one_line : (s p o : List ℕ) → is_one_line s ≡ true → is_one_line p ≡ true → is_one_line o ≡ true → is_one_line (spaced s p o (codes " .")) ≡ true
unfolding codes is_one_of all
spaced_one_line s p o a b c = spaced-all (λ c. not (is_one_of (codes "\r\n") c)) s p o (codes " .") refl a b c refl

-- The bytes of a triple's line are those of its terms' characters, spaced.
pub spaced-bytes
    : (t : TextTriple) (s p o bytes rest : List ℕ) → t.subject.bytes ≡ utf8 s → t.property.bytes ≡ utf8 p → t.object.bytes ≡ utf8 o
    → bytes ≡ utf8 rest → line_bytes t ++ bytes ≡ utf8 (spaced s p o (codes " .") ++ (codes "\n" ++ rest))
unfolding line_bytes codes utf8 encode_char
spaced-bytes t s p o bytes rest a b c e =
    rw (a, b, c, e)
    (spaced-append (utf8 s) (utf8 p) (utf8 o) (codes " .\n") (utf8 rest)
    ∙ sym (spaced-utf8 s p o (codes " .\n" ++ rest))
    ∙ ap utf8 (sym (spaced-append s p o (codes " .") (codes "\n" ++ rest))))

-- ---- lines

one_space : Matches WS (codes " ")
unfolding codes is_one_of
one_space = Repeated.more (codes " ") [] refl (record { char = 32; spelled = refl; allowed = refl }) (Repeated.end refl)

line_feed : Matches EOL (codes "\n")
unfolding codes is_one_of
line_feed =
    record { front = codes "\n"; back = []; spelled = refl; first = record { char = 10; spelled = refl; allowed = refl }; second = Repeated.end refl }

-- The texts of a triple, as characters.
record Terms (t : TextTriple) : Type 0 where
  right : TextsRight t
  s : Spelled t.subject
  p : Spelled t.property
  o : Spelled t.object

terms : (t : TextTriple) → TextsRight t → Terms t
terms t R =
    record {
      right = R;
      s = spell_term t.subject R.canonical.subject R.subject_kind;
      p = spell_term t.property R.canonical.property R.property_kind;
      o = spell_term t.object R.canonical.object R.object_kind;
    }

module _ (t : TextTriple) (T : Terms t) where
  -- Its line, without the end.
  abbrev line : List ℕ
  line = spaced T.s.chars T.p.chars T.o.chars (codes " .")

  unfoldable parts : Parts line
  unfolding codes
  parts =
      record {
        w0 = [];
        s = T.s.chars;
        w1 = codes " ";
        p = T.p.chars;
        w2 = codes " ";
        o = T.o.chars;
        w3 = codes " ";
        w4 = [];
        comment = [];
        spelled = refl;
        white0 = Repeated.end refl;
        is_subject = means-subject T.s.chars t.subject T.s.means T.right.subject_most;
        white1 = one_space;
        is_predicate = means-predicate T.p.chars t.property T.p.means T.right.property_most;
        white2 = one_space;
        is_object = means-object T.o.chars t.object T.o.means;
        white3 = one_space;
        white4 = Repeated.end refl;
        is_comment = inl refl;
      }

  -- It has the triple,
  triple_line : TripleLine line t
  unfolding parts
  triple_line = record { parts = parts; subject_means = T.s.means; predicate_means = T.p.means; object_means = T.o.means }

  -- is canonical,
  unfoldable canonical_line : CanonicalLine line
  unfolding parts
  canonical_line =
      record {
        parts = parts;
        none_before = refl;
        behind_subject = refl;
        behind_predicate = refl;
        behind_object = refl;
        none_behind_dot = refl;
        no_comment = refl;
        subject_term = T.s.canonical;
        predicate_term = T.p.canonical;
        object_term = T.o.canonical;
      }

  -- one line,
  line_one : is_one_line line ≡ true
  line_one = spaced_one_line T.s.chars T.p.chars T.o.chars T.s.one_line T.p.one_line T.o.one_line

  -- of scalar values,
  line_scalar : (rest : List ℕ) → all is_scalar rest ≡ true → all is_scalar (line ++ (codes "\n" ++ rest)) ≡ true
  unfolding codes all is_scalar
  line_scalar rest h =
      all_append is_scalar line (codes "\n" ++ rest) (spaced-all is_scalar T.s.chars T.p.chars T.o.chars (codes " .") refl T.s.scalar T.p.scalar T.o.scalar refl) h

  -- and its bytes are those of the triple's line.
  line_bytes_lem : (bytes rest : List ℕ) → bytes ≡ utf8 rest → line_bytes t ++ bytes ≡ utf8 (line ++ (codes "\n" ++ rest))
  line_bytes_lem bytes rest e = spaced-bytes t T.s.chars T.p.chars T.o.chars bytes rest T.s.same T.p.same T.o.same e

-- ---- documents

-- The document of some triples, as characters.
record Lines (ts : List TextTriple) : Type 0 where
  chars : List ℕ
  scalar : all is_scalar chars ≡ true
  encoded : document_bytes ts ≡ utf8 chars
  says : Says chars ts
  canonical : CanonicalLines chars
  normal : NormalLines canonical

written-lines : (ts : List TextTriple) → Each TextsRight ts → Lines ts
unfolding document_bytes all utf8 parts canonical_line
written-lines [] h =
    record {
      chars = [];
      scalar = refl;
      encoded = refl;
      says = Says.last refl (LineSays.no_triple (record { front = []; back = []; spelled = refl; first = Repeated.end refl; second = inl refl }) refl);
      canonical = CanonicalLines.none refl;
      normal = tt;
    }
written-lines (t ∷ ts) h =
    let T = terms t h.0 in
    let L = written-lines ts h.1 in
    record {
      chars = line t T ++ (codes "\n" ++ L.chars);
      scalar = line_scalar t T L.chars L.scalar;
      encoded = line_bytes_lem t T (document_bytes ts) L.chars L.encoded;
      says = Says.more (line t T) (codes "\n") L.chars (t ∷ []) ts refl (line_one t T) (LineSays.one_triple t (triple_line t T) refl) line_feed L.says refl;
      canonical = CanonicalLines.more (line t T) L.chars refl (canonical_line t T) L.canonical;
      normal = (means_normal T.o.chars t.object T.o.means T.o.same, L.normal);
    }

module _ (ts : List TextTriple) (h : Each TextsRight ts) where
  -- The document of triples whose texts are right says them,
  pub document_says : FileSays (document_bytes ts) ts
  document_says = let L = written-lines ts h in record { chars = L.chars; scalar = L.scalar; encoded = L.encoded; says = L.says }

  -- is read as them,
  pub document-written : document (document_bytes ts) ≡ triples ts
  document-written = (document-read (document_bytes ts) ts).1 document_says

  -- and is canonical, with tags in lower case and without the type xsd:string.
  pub document_form : NormalFile (document_bytes ts)
  document_form =
      let L = written-lines ts h in
      record { file = record { chars = L.chars; scalar = L.scalar; encoded = L.encoded; canonical = L.canonical }; normal = L.normal }

-- ---- canonical form

-- The triples of a document, none where it is refused, have right texts.
document_right : (f : List ℕ) (d : Document) → document f ≡ d → Each TextsRight (text_triples d)
unfolding text_triples
document_right f refused e = tt
document_right f (triples ts) e = document_texts f ts e

-- The canonical form of a file that says some triples.
pub form_of : (f : List ℕ) (ts : List TextTriple) → document f ≡ triples ts → canonical_form f ≡ document_bytes ts
unfolding canonical_form text_triples
form_of f ts e = rw e

-- Theorem 4: a file's canonical form says what the file says,
pub canonical_same : (f : List ℕ) (ts : List TextTriple) → document f ≡ triples ts → document (canonical_form f) ≡ triples ts
canonical_same f ts e = rw (form_of f ts e) (document-written ts (document_texts f ts e))

-- is canonical, with tags in lower case and without the type xsd:string,
pub form_normal : (f : List ℕ) → NormalFile (canonical_form f)
unfolding canonical_form
form_normal f = document_form (text_triples (document f)) (document_right f (document f) refl)

pub form_canonical : (f : List ℕ) → CanonicalFile (canonical_form f)
form_canonical f = (form_normal f).file

-- and is its own canonical form.
pub canonical_once : (f : List ℕ) → canonical_form (canonical_form f) ≡ canonical_form f
unfolding canonical_form text_triples
canonical_once f =
    ap (λ (d : Document). document_bytes (text_triples d)) (document-written (text_triples (document f)) (document_right f (document f) refl))
