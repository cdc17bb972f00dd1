-- Texts that reading gives are canonical, and canonical texts, read, give themselves (text_canonical, canonical-text, canonical_means,
-- document_canonical). Assumes nothing.
use Prim.Native.Nat.{ℕ}
use mathlib.Core.Path.{◌≡◌, refl, sym}
use mathlib.Core.Bool.{true}
use mathlib.Core.Logic.{◌↔◌, ⊎_elim}
use mathlib.Core.List.Memᴰ
use mathlib.Core.List.{List, [], ◌∷◌, ◌++◌, append-nil, Memᴰ}
use lib.Dec.{eqb}
use borrow.Author.Tests.{eqb-true, eq-eqb}
use Rattle.spec.specs.Lists.{all}
use Rattle.spec.proofs.Lists.{by_test, true-not_false}
use Rattle.spec.proofs.Ascending.{and_left, and_right}
use Rattle.spec_ntriples.specs.Utf8.{is_scalar}
use Rattle.spec_ntriples.specs.computed.Decoded.{Decoded, broken, decoded, decode}
use Rattle.spec_ntriples.specs.Characters.{codes}
use Rattle.spec_ntriples.specs.Texts.{Text, is_same_text, iri_text, blank_text, string_text, tagged_text, xsd_string, typed_text, TextTriple}
use Rattle.spec_ntriples.specs.computed.Lines.{Read, nothing, read, read_object, triples, document}
use Rattle.spec_ntriples.specs.Dictionary.{kind_of}
use Rattle.spec_ntriples.specs.computed.Canonical.{is_none, gives_itself, decodes_to_itself, is_canonical}
use Rattle.spec_ntriples.specs.Meaning.{Means, TextOfTerm, TripleLine, LineSays, Says}
use Rattle.spec_ntriples.proofs.Decoding.{decode-encode}
use Rattle.spec_ntriples.proofs.Terms.{object-read, read-object}
use Rattle.spec_ntriples.proofs.LineRead.{nil_ends}
use Rattle.spec_ntriples.proofs.DocumentRead.{document-read}
use Rattle.spec_ntriples.proofs.Respelling.{all_front, all_back, respell_term}

-- ---- the same bytes

pub same_bytes : (a b : List ℕ) → is_same_text a b ≡ true → a ≡ b
unfolding is_same_text
same_bytes [] [] e = refl
same_bytes [] (y ∷ b) e = absurd (true-not_false (sym e))
same_bytes (x ∷ a) [] e = absurd (true-not_false (sym e))
same_bytes (x ∷ a) (y ∷ b) e = rw (eqb-true x y (and_left _ (is_same_text a b) e), same_bytes a b (and_right (eqb x y) _ e))

pub same_itself : (a : List ℕ) → is_same_text a a ≡ true
unfolding is_same_text
same_itself [] = refl
same_itself (x ∷ a) = rw (eq-eqb x x refl) (same_itself a)

-- ---- canonical texts

-- A text that, read as a term to its end, gives itself.
pub record Canonical (bytes : List ℕ) : Type 0 where
  pub chars : List ℕ
  pub term : Text
  pub decodes : decode bytes ≡ decoded chars
  pub reads : read_object chars ≡ read term []
  pub same : term.bytes ≡ bytes

itself : (t cs : List ℕ) (r : Read) → decode t ≡ decoded cs → read_object cs ≡ r → gives_itself t r ≡ true → Canonical t
unfolding gives_itself is_none
itself t cs nothing d h e = absurd (true-not_false (sym e))
itself t cs (read u []) d h e = record { chars = cs; term = u; decodes = d; reads = h; same = same_bytes u.bytes t e }
itself t cs (read u (c ∷ rest)) d h e = absurd (true-not_false (sym e))

is_canonical_lem : (t : List ℕ) (d : Decoded) → decode t ≡ d → decodes_to_itself t d ≡ true → Canonical t
unfolding decodes_to_itself
is_canonical_lem t broken h e = absurd (true-not_false (sym e))
is_canonical_lem t (decoded cs) h e = itself t cs (read_object cs) h refl e

-- A text is canonical exactly where it is UTF-8 and, read as a term to its end, gives itself.
pub canonical-text : (t : List ℕ) → (is_canonical t ≡ true) ↔ Canonical t
unfolding is_canonical decodes_to_itself gives_itself is_none
canonical-text t =
    (λ e. is_canonical_lem t (decode t) refl e, λ (C : Canonical t). rw (C.decodes, C.reads, C.same) (same_itself t))

-- The text that a term means is canonical.
pub means_canonical : (u : List ℕ) (t : Text) → all is_scalar u ≡ true → Means u t → is_canonical t.bytes ≡ true
means_canonical u t h m =
    let r = respell_term u t h m in
    (canonical-text t.bytes).1
    (record {
      chars = r.chars;
      term = t;
      decodes = (decode-encode t.bytes r.chars).1 (r.scalar, r.same);
      reads = rw (append-nil r.chars) at (read-object r.chars t [] r.spells nil_ends);
      same = refl;
    })

-- A text that is read from scalar values is canonical.
pub text_canonical : (cs : List ℕ) (t : Text) (rest : List ℕ) → all is_scalar cs ≡ true → read_object cs ≡ read t rest → is_canonical t.bytes ≡ true
text_canonical cs t rest h e =
    let i = object-read cs t rest e in
    means_canonical i.term t (all_front is_scalar i.term rest (rw i.spelled at h)) i.means

-- Canonical texts are exactly those that terms mean.
pub canonical_means : (t : List ℕ) → (is_canonical t ≡ true) ↔ TextOfTerm t
canonical_means t = (
  λ e. let C = (canonical-text t).0 e in
      let i = object-read C.chars C.term [] C.reads in
      record {
        spelling = i.term;
        term = C.term;
        scalar = all_front is_scalar i.term [] (rw i.spelled at ((decode-encode t C.chars).0 C.decodes).0);
        means = i.means;
        same = C.same;
      },
  λ (T : TextOfTerm t). rw T.same at (means_canonical T.spelling T.term T.scalar T.means),
)

-- ---- documents

-- The texts of a triple are canonical.
pub record CanonicalTriple (t : TextTriple) : Type 0 where
  pub subject : is_canonical t.subject.bytes ≡ true
  pub property : is_canonical t.property.bytes ≡ true
  pub object : is_canonical t.object.bytes ≡ true

pub line_canonical : (cs : List ℕ) (t : TextTriple) → all is_scalar cs ≡ true → TripleLine cs t → CanonicalTriple t
line_canonical cs t h L =
    let P = L.parts in
    let k0 = all_back is_scalar P.w0 _ (rw P.spelled at h) in
    let k1 = all_back is_scalar P.w1 _ (all_back is_scalar P.s _ k0) in
    let k2 = all_back is_scalar P.w2 _ (all_back is_scalar P.p _ k1) in
    record {
      subject = means_canonical P.s t.subject (all_front is_scalar P.s _ k0) L.subject_means;
      property = means_canonical P.p t.property (all_front is_scalar P.p _ k1) L.predicate_means;
      object = means_canonical P.o t.object (all_front is_scalar P.o _ k2) L.object_means;
    }

line_said : (cs : List ℕ) (ts : List TextTriple) (t : TextTriple) → all is_scalar cs ≡ true → LineSays cs ts → Memᴰ t ts → CanonicalTriple t
line_said cs ts t h (LineSays.no_triple m e) k = absurd (Memᴰ.not-nil (rw e at k))
line_said cs ts t h (LineSays.one_triple u L e) k =
    ⊎_elim (λ (q : t ≡ u). rw q (line_canonical cs u h L)) (λ j. absurd (Memᴰ.not-nil j)) (Memᴰ.cases_cons (rw e at k))

says_canonical : (cs : List ℕ) (ts : List TextTriple) (t : TextTriple) → all is_scalar cs ≡ true → Says cs ts → Memᴰ t ts → CanonicalTriple t
says_canonical cs ts t h (Says.last o s) k = line_said cs ts t h s k
says_canonical cs ts t h (Says.more l e r ls us q o s m n p) k =
    let x : all is_scalar (l ++ (e ++ r)) ≡ true = rw q at h in
    ⊎_elim
    (λ j. line_said l ls t (all_front is_scalar l (e ++ r) x) s j)
    (λ j. says_canonical r us t (all_back is_scalar e r (all_back is_scalar l (e ++ r) x)) n j)
    (Memᴰ.append_cases ls (rw p at k))

-- The texts of a file's triples are canonical.
pub document_canonical : (bs : List ℕ) (ts : List TextTriple) (t : TextTriple) → document bs ≡ triples ts → Memᴰ t ts → CanonicalTriple t
document_canonical bs ts t e k = let F = (document-read bs ts).0 e in says_canonical F.chars ts t F.scalar F.says k

-- ---- kinds

-- The kind of a term is that of its text.
pub means-kind : (u : List ℕ) (t : Text) → Means u t → kind_of t.bytes ≡ t.kind
unfolding kind_of codes iri_text blank_text string_text tagged_text typed_text
means-kind u t (Means.iri cs I e) = rw e
means-kind u t (Means.blank ls m s e) = rw e
means-kind u t (Means.plain cs Q e) = rw e
means-kind u t (Means.tagged string cs w ls s Q m n e) = rw e
means-kind u t (Means.typed string cs w w' type ds s Q m n I e) = rw e (by_test (is_same_text (iri_text ds) xsd_string) (λ p. rw p) (λ p. rw p))

pub text-kind : (cs : List ℕ) (t : Text) (rest : List ℕ) → read_object cs ≡ read t rest → kind_of t.bytes ≡ t.kind
text-kind cs t rest e = let i = object-read cs t rest e in means-kind i.term t i.means
