-- The texts of a file's triples are canonical, of their kind, and of a kind that may stand there (document_texts, at the end). Assumes nothing.
use Prim.Native.Nat.{ℕ, ◌≤◌}
use mathlib.Core.Path.{◌≡◌, refl}
use mathlib.Core.Bool.{true, ◌&&◌, ◌||◌}
use mathlib.Core.List.{List, [], ◌∷◌, ◌++◌}
use native.Mathlib.Omega.{arith}
use lib.Dec.{eqb}
use Prim.Native.Char.{code}
use Rattle.spec.specs.Lists.{all}
use Rattle.spec.proofs.Lists.{by_test}
use Rattle.spec.specs.inside.Each.{Each}
use Rattle.spec_ntriples.specs.Utf8.{is_scalar}
use Rattle.spec_ntriples.specs.Characters.{is_digit, is_pn_chars_u}
use Rattle.spec_ntriples.specs.computed.Terminals.{Got, none, got, outside, iri_step, scan, label}
use Rattle.spec_ntriples.specs.Texts.{is_absolute, TextTriple}
use Rattle.spec_ntriples.specs.computed.Lines.{Read, nothing, read, iri_of, read_iri, blank_of, read_blank, read_subject, triples, document}
use Rattle.spec_ntriples.specs.Dictionary.{kind_of}
use Rattle.spec_ntriples.specs.Meaning.{TripleLine, LineSays, Says}
use Rattle.spec_ntriples.proofs.Respelling.{all_front, all_back}
use Rattle.spec_ntriples.proofs.Terms.{read-subject, read-predicate}
use Rattle.spec_ntriples.proofs.DocumentRead.{document-read}
use Rattle.spec_ntriples.proofs.Canonical.{CanonicalTriple, line_canonical, means-kind}
use Rattle.spec.proofs.Each.{each_append}

-- ---- kinds

-- A text that was read, where one was, has a kind below some.
abbrev Below : ℕ → Read → Type 0
Below k nothing = Unit {0}
Below k (read t rest) = t.kind ≤ k

iri_below : (k : ℕ) (g : Got) → Below k (iri_of g)
unfolding iri_of
iri_below k none = tt
iri_below k (got cs rest) = by_test (is_absolute cs) (λ p. rw p (omega arith)) (λ p. rw p tt)

read_iri_below : (k : ℕ) (cs : List ℕ) → Below k (read_iri cs)
unfolding read_iri
read_iri_below k [] = tt
read_iri_below k (c ∷ cs) = by_test (eqb c (code "<")) (λ p. rw p (iri_below k (scan iri_step outside cs))) (λ p. rw p tt)

blank_below : (c : ℕ) (g : Got) → Below 1 (blank_of c g)
unfolding blank_of
blank_below c none = tt
blank_below c (got cs rest) = omega arith

read_blank_below : (cs : List ℕ) → Below 1 (read_blank cs)
unfolding read_blank
read_blank_below [] = tt
read_blank_below (c ∷ []) = tt
read_blank_below (c ∷ d ∷ cs) =
    by_test (eqb c (code ":") && (is_pn_chars_u d || is_digit d)) (λ p. rw p (blank_below d (label cs))) (λ p. rw p tt)

read-subject_below : (cs : List ℕ) → Below 1 (read_subject cs)
unfolding read_subject
read-subject_below [] = tt
read-subject_below (c ∷ cs) = by_test (eqb c (code "_")) (λ p. rw p (read_blank_below cs)) (λ p. rw p (read_iri_below 1 (c ∷ cs)))

-- ---- a triple's texts

-- The texts of a triple are canonical and of their kinds: the subject's is that of a URI or blank, the property's that of a URI.
pub record TextsRight (t : TextTriple) : Type 0 where
  pub canonical : CanonicalTriple t
  pub subject_kind : kind_of t.subject.bytes ≡ t.subject.kind
  pub property_kind : kind_of t.property.bytes ≡ t.property.kind
  pub object_kind : kind_of t.object.bytes ≡ t.object.kind
  pub subject_most : t.subject.kind ≤ 1
  pub property_most : t.property.kind ≤ 0

line_texts_lem : (cs : List ℕ) (t : TextTriple) → all is_scalar cs ≡ true → TripleLine cs t → TextsRight t
unfolding label
line_texts_lem cs t h L =
    let P = L.parts in
    let s : read_subject (P.s ++ []) ≡ read t.subject [] = read-subject P.s t.subject [] P.is_subject L.subject_means refl in
    let p : read_iri (P.p ++ []) ≡ read t.property [] = read-predicate P.p t.property [] P.is_predicate L.predicate_means in
    record {
      canonical = line_canonical cs t h L;
      subject_kind = means-kind P.s t.subject L.subject_means;
      property_kind = means-kind P.p t.property L.predicate_means;
      object_kind = means-kind P.o t.object L.object_means;
      subject_most = rw s at (read-subject_below (P.s ++ []));
      property_most = rw p at (read_iri_below 0 (P.p ++ []));
    }

-- ---- a file's

line_said : (cs : List ℕ) (ts : List TextTriple) → all is_scalar cs ≡ true → LineSays cs ts → Each TextsRight ts
line_said cs ts h (LineSays.no_triple m e) = rw e tt
line_said cs ts h (LineSays.one_triple t L e) = rw e (line_texts_lem cs t h L, tt)

says_texts : (cs : List ℕ) (ts : List TextTriple) → all is_scalar cs ≡ true → Says cs ts → Each TextsRight ts
says_texts cs ts h (Says.last o s) = line_said cs ts h s
says_texts cs ts h (Says.more l e r ls us q o s m n p) =
    let x : all is_scalar (l ++ (e ++ r)) ≡ true = rw q at h in
    rw p
    (each_append TextsRight ls us (line_said l ls (all_front is_scalar l (e ++ r) x) s)
    (says_texts r us (all_back is_scalar e r (all_back is_scalar l (e ++ r) x)) n))

pub document_texts : (bs : List ℕ) (ts : List TextTriple) → document bs ≡ triples ts → Each TextsRight ts
document_texts bs ts e = let F = (document-read bs ts).0 e in says_texts F.chars ts F.scalar F.says
