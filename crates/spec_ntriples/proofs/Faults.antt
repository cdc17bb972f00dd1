-- A line that the grammar allows is read as a triple, or has a fault (line_faults, line_refused, at the end). Assumes nothing.
use Prim.Native.Nat.{ℕ}
use Prim.Native.Char.{code}
use mathlib.Core.Path.{◌≡◌, refl, sym, ap, ◌∙◌}
use mathlib.Core.Logic.{◌↔◌, ◌⊎◌, inl, inr, ⊎_elim}
use mathlib.Core.List.{List, [], ◌∷◌, ◌++◌, map, append_assoc, append-nil}
use Rattle.spec.proofs.Lists.{by_test}
use Rattle.spec_ntriples.specs.Characters.{codes}
use Rattle.spec_ntriples.specs.Texts.{lower_char, Text, text, is_absolute, iri_text, blank_text, string_text, tagged_text, typed_text, TextTriple}
use Rattle.spec_ntriples.specs.computed.Terminals.{skip}
use Rattle.spec_ntriples.specs.computed.Lines.{nothing, iri_of, read_iri, typed_of, literal_of, read_subject, read_object, wrong, after_object, after_property, after_subject, read_line}
use Rattle.spec_ntriples.specs.Expressions.{Matches}
use Rattle.spec_ntriples.specs.Productions.{IRIREF, STRING_LITERAL_QUOTE, WS, subject, literal, object, triple_line, empty_line}
use Rattle.spec_ntriples.specs.Meaning.{IriPiece, Resolves, Iri, Quoted, Means, Parts, TripleLine}
use Rattle.spec_ntriples.specs.Faults.{FaultyIri, FaultyString, Faulty, FaultyLine}
use Rattle.spec_ntriples.proofs.Escapes.{scan_iri, iri_resolves, iri_broken, string_resolves, string_broken}
use Rattle.spec_ntriples.proofs.Terms.{typed_begins, read-subject, read-predicate}
use Rattle.spec_ntriples.proofs.LineRead.{after_o, after_p, after_s, subject_ends, at_object, at_predicate, at_subject, no_rest, parts_match, match_parts, line_wrong}

-- ---- terms

-- An IRI has characters, or a fault.
iri_meant : (u : List ℕ) → Matches IRIREF u → ((cs : List ℕ) × Iri u cs) ⊎ FaultyIri u
iri_meant u m =
    let i = m.second in
    let s : u ≡ codes "<" ++ (i.front ++ codes ">") = m.spelled ∙ rw (m.first, i.spelled, i.second) in
    ⊎_elim
    (λ (r : (cs : List ℕ) × Resolves IriPiece i.front cs). by_test (is_absolute r.0) (λ p. inl (r.0, record { inside = i.front; spelled = s; resolved = r.1; absolute = p })) (λ p. inr (FaultyIri.relative i.front r.0 s r.1 p)))
    (λ b. inr (FaultyIri.escape i.front s b))
    (iri_resolves i.front i.first)

-- A string has characters, or a fault.
string_meant : (u : List ℕ) → Matches STRING_LITERAL_QUOTE u → ((cs : List ℕ) × Quoted u cs) ⊎ FaultyString u
string_meant u m =
    let i = m.second in
    let s : u ≡ codes "\"" ++ (i.front ++ codes "\"") = m.spelled ∙ rw (m.first, i.spelled, i.second) in
    ⊎_elim
    (λ r. inl (r.0, record { inside = i.front; spelled = s; resolved = r.1 }))
    (λ b. inr (record { inside = i.front; spelled = s; bad = b }))
    (string_resolves i.front i.first)

-- A subject or an object means something, or has a fault.
pub subject_meant : (u : List ℕ) → Matches subject u → ((t : Text) × Means u t) ⊎ FaultyIri u
subject_meant u m =
    ⊎_elim
    (λ i. ⊎_elim (λ r. inl (text 0 (iri_text r.0), Means.iri r.0 r.1 refl)) (λ f. inr f) (iri_meant u i))
    (λ b. inl (text 1 (blank_text (b.second.front ++ b.second.back)), Means.blank (b.second.front ++ b.second.back) b (b.spelled ∙ rw (b.first, b.second.spelled)) refl))
    m

typed_meant : (u string cs w w' type : List ℕ) → u ≡ string ++ (w ++ (codes "^^" ++ (w' ++ type))) → Matches STRING_LITERAL_QUOTE string → Quoted string cs → Matches WS w → Matches WS w' → Matches IRIREF type → ((t : Text) × Means u t) ⊎ Faulty u
typed_meant u string cs w w' type e m Q v v' i =
    ⊎_elim
    (λ r. inl (text 2 (typed_text (string_text cs) (iri_text r.0)), Means.typed string cs w w' type r.0 e Q v v' r.1 refl))
    (λ f. inr (Faulty.datatype string w w' type e m v v' f))
    (iri_meant type i)

literal_meant : (u : List ℕ) → Matches literal u → ((t : Text) × Means u t) ⊎ Faulty u
literal_meant u m =
    ⊎_elim
    (λ (q : (cs : List ℕ) × Quoted m.front cs). ⊎_elim
    (λ (e : m.back ≡ []). let s : u ≡ m.front = m.spelled ∙ ap (λ x. m.front ++ x) e ∙ append-nil m.front in
    inl (text 2 (string_text q.0), Means.plain q.0 (rw (← s) at q.1) refl))
    (λ j. ⊎_elim
    (λ t. let k = t.second in
    typed_meant u m.front q.0 j.front k.front k.back (m.spelled ∙ ap (λ x. m.front ++ x) (j.spelled ∙ ap (λ x. j.front ++ x) (t.spelled ∙ rw (t.first, k.spelled)))) m.first q.1 j.first k.first k.second)
    (λ l. let a : j.back ≡ codes "@" ++ l.back = l.spelled ∙ ap (λ x. x ++ l.back) l.first in
    inl (text 2 (tagged_text (string_text q.0) (map lower_char l.back)), Means.tagged m.front q.0 j.front l.back (m.spelled ∙ ap (λ x. m.front ++ x) (j.spelled ∙ ap (λ x. j.front ++ x) a)) q.1 j.first (rw a at l) refl))
    j.second)
    m.second)
    (λ f. inr (Faulty.string m.front m.back m.spelled f))
    (string_meant m.front m.first)

pub object_meant : (u : List ℕ) → Matches object u → ((t : Text) × Means u t) ⊎ Faulty u
object_meant u m =
    ⊎_elim
    (λ i. ⊎_elim (λ r. inl (text 0 (iri_text r.0), Means.iri r.0 r.1 refl)) (λ f. inr (Faulty.iri f)) (iri_meant u i))
    (λ n. ⊎_elim (λ b. ⊎_elim (λ r. inl r) (λ f. inr (Faulty.iri f)) (subject_meant u (inr b))) (λ l. literal_meant u l) n)
    m

-- ---- a fault is not read

iri_nothing : (u r : List ℕ) → FaultyIri u → read_iri (u ++ r) ≡ nothing
unfolding read_iri iri_of codes
iri_nothing u r (FaultyIri.escape inside e b) = rw (e, append_assoc inside (code ">" ∷ []) r, iri_broken inside (code ">" ∷ r) b)
iri_nothing u r (FaultyIri.relative inside cs e R a) = rw (e, append_assoc inside (code ">" ∷ []) r, scan_iri inside cs r R, a)

string_nothing : (u r : List ℕ) → FaultyString u → read_object (u ++ r) ≡ nothing
unfolding read_object literal_of codes
string_nothing u r F = rw (F.spelled, append_assoc F.inside (code "\"" ∷ []) r, string_broken F.inside (code "\"" ∷ r) F.bad)

faulty_spelled : (u : List ℕ) → FaultyIri u → (later : List ℕ) × (u ≡ code "<" ∷ later)
unfolding codes
faulty_spelled u (FaultyIri.escape inside e b) = (_, e)
faulty_spelled u (FaultyIri.relative inside cs e R a) = (_, e)

subject_nothing : (u r : List ℕ) → FaultyIri u → read_subject (u ++ r) ≡ nothing
unfolding read_subject
subject_nothing u r F = let s = faulty_spelled u F in ap (λ x. read_subject (x ++ r)) s.1 ∙ ap (λ x. read_iri (x ++ r)) (sym s.1) ∙ iri_nothing u r F

datatype_nothing : (string w w' type r : List ℕ) → Matches STRING_LITERAL_QUOTE string → Matches WS w → Matches WS w' → FaultyIri type → read_object (string ++ (w ++ (codes "^^" ++ (w' ++ type))) ++ r) ≡ nothing
unfolding typed_of
datatype_nothing string w w' type r m v v' F =
    let s = faulty_spelled type F in
    ⊎_elim
    (λ (q : (cs : List ℕ) × Quoted string cs). typed_begins string q.0 w w' type s.0 r q.1 v v' s.1 ∙ ap (typed_of (string_text q.0)) (iri_nothing type r F))
    (λ f. rw (append_assoc string (w ++ (codes "^^" ++ (w' ++ type))) r) (string_nothing string (w ++ (codes "^^" ++ (w' ++ type)) ++ r) f))
    (string_meant string m)

object_nothing : (u r : List ℕ) → Faulty u → read_object (u ++ r) ≡ nothing
unfolding read_object
object_nothing u r (Faulty.iri F) = let s = faulty_spelled u F in ap (λ x. read_object (x ++ r)) s.1 ∙ ap (λ x. read_subject (x ++ r)) (sym s.1) ∙ subject_nothing u r F
object_nothing u r (Faulty.string string rest e F) = rw (e, append_assoc string rest r) (string_nothing string (rest ++ r) F)
object_nothing u r (Faulty.datatype string w w' type e m v v' F) = rw e (datatype_nothing string w w' type r m v v' F)

-- ---- lines

-- A line of the grammar has a triple, or a fault.
pub line_faults : (cs : List ℕ) → Matches triple_line cs → ((t : TextTriple) × TripleLine cs t) ⊎ FaultyLine cs
line_faults cs m =
    let P = match_parts cs m in
    ⊎_elim
    (λ (s : (t : Text) × Means P.s t). ⊎_elim
    (λ (p : (t : Text) × Means P.p t). ⊎_elim
    (λ (o : (t : Text) × Means P.o t). inl (record { subject = s.0; property = p.0; object = o.0 }, record { parts = P; subject_means = s.1; predicate_means = p.1; object_means = o.1 }))
    (λ f. inr (record { parts = P; fault = inr (inr f) }))
    (object_meant P.o P.is_object))
    (λ f. inr (record { parts = P; fault = inr (inl f) }))
    (subject_meant P.p (inl P.is_predicate)))
    (λ f. inr (record { parts = P; fault = inl f }))
    (subject_meant P.s P.is_subject)

module _ (cs : List ℕ) (P : Parts cs) where
  subject_wrong : FaultyIri P.s → read_line cs ≡ wrong
  unfolding read_line after_subject
  subject_wrong f = rw (at_subject P, no_rest P, subject_nothing P.s (after_s P) f)

  behind-subject : ((t : Text) → after_property t (read_iri (skip (after_s P))) ≡ wrong) → read_line cs ≡ wrong
  unfolding read_line after_subject
  behind-subject h =
      ⊎_elim
      (λ (s : (t : Text) × Means P.s t). rw (at_subject P, no_rest P, read-subject P.s s.0 (after_s P) P.is_subject s.1 (subject_ends P)) (h s.0))
      (λ f. subject_wrong f)
      (subject_meant P.s P.is_subject)

  predicate_wrong : FaultyIri P.p → read_line cs ≡ wrong
  unfolding after_property
  predicate_wrong f = behind-subject (λ t. rw (at_predicate P, iri_nothing P.p (after_p P) f))

  object_wrong : Faulty P.o → read_line cs ≡ wrong
  unfolding after_property after_object
  object_wrong f =
      ⊎_elim
      (λ (p : (t : Text) × Means P.p t). behind-subject (λ t. rw (at_predicate P, read-predicate P.p p.0 (after_p P) P.is_predicate p.1, at_object P, object_nothing P.o (after_o P) f)))
      (λ g. predicate_wrong g)
      (subject_meant P.p (inl P.is_predicate))

-- A fault refuses a line.
pub fault_wrong : (cs : List ℕ) → FaultyLine cs → read_line cs ≡ wrong
fault_wrong cs F =
    let P = F.parts in
    ⊎_elim (λ s. subject_wrong cs P s) (λ n. ⊎_elim (λ p. predicate_wrong cs P p) (λ o. object_wrong cs P o) n) F.fault

-- A line is refused exactly where it is not empty and either is no line of the grammar or has a fault.
pub line_refused : (cs : List ℕ) → (read_line cs ≡ wrong) ↔ ((Matches empty_line cs → ⊥) × (Matches triple_line cs → FaultyLine cs))
line_refused cs =
    (λ e. (((line_wrong cs).0 e).0, λ m. ⊎_elim (λ x. absurd (((line_wrong cs).0 e).1 x.0 x.1)) (λ f. f) (line_faults cs m)), λ h. (line_wrong cs).1 (h.0, λ t L. ((line_wrong cs).0 (fault_wrong cs (h.1 (parts_match cs L.parts)))).1 t L))
