-- A file is its own canonical form exactly where it is canonical, its tags are in lower case and it leaves the type xsd:string off
-- (canonical_unique, canonical_exactly, at the end). Assumes nothing.
use Prim.Native.Nat.{ℕ}
use mathlib.Core.Path.{◌≡◌, refl, sym, ap, ◌∙◌, subst}
use mathlib.Core.Bool.{true}
use mathlib.Core.Logic.{◌↔◌, inl, inr, ⊎_elim}
use mathlib.Core.List.{List, [], ◌∷◌, ◌++◌}
use Rattle.spec.specs.Lists.{all}
use Rattle.spec_ntriples.specs.Utf8.{is_scalar, utf8}
use Rattle.spec_ntriples.specs.Characters.{codes, is_one_of}
use Rattle.spec_ntriples.specs.Texts.{Text, TextTriple}
use Rattle.spec_ntriples.specs.computed.Terminals.{skip}
use Rattle.spec_ntriples.specs.computed.Lines.{full, is_rest, read_line, lines, Document, triples, with_line, read_lines, document_of, document}
use Rattle.spec_ntriples.specs.Expressions.{Matches}
use Rattle.spec_ntriples.specs.Productions.{subject}
use Rattle.spec_ntriples.specs.Meaning.{Means, Parts, is_one_line}
use Rattle.spec_ntriples.proofs.Decoding.{decode-encode}
use Rattle.spec_ntriples.proofs.LineRead.{line_read}
use Rattle.spec_ntriples.proofs.Faults.{subject_meant, object_meant, fault_wrong}
use Rattle.spec_ntriples.proofs.DocumentRead.{refused-not, first, line_more}
use Rattle.spec_ntriples.proofs.Respelling.{all_front, all_back}
use Rattle.spec_writing.specs.Writing.{line_bytes, document_bytes}
use Rattle.spec_writing.specs.CanonicalForm.{CanonicalLine, CanonicalLines, canonical_form}
use Rattle.spec_writing.specs.WritingPromises.{NormalTerm, NormalLines, NormalFile}
use Rattle.spec_writing.proofs.CanonicalTerms.{object_one_line}
use Rattle.spec_writing.proofs.CanonicalTexts.{term_exact, subject_normal}
use Rattle.spec_writing.proofs.CanonicalDocuments.{spaced, spaced_one_line, spaced-bytes, form_of, form_normal}

-- ---- lines

-- The terms of a canonical line, with single spaces.
line_is : (l : List ℕ) (C : CanonicalLine l) → l ≡ spaced C.parts.s C.parts.p C.parts.o (codes " .")
unfolding codes
line_is l C =
    let P = C.parts in
    P.spelled
    ∙ ap (λ x. x ++ (P.s ++ (P.w1 ++ (P.p ++ (P.w2 ++ (P.o ++ (P.w3 ++ (codes "." ++ (P.w4 ++ P.comment))))))))) C.none_before
    ∙ ap (λ x. P.s ++ (x ++ (P.p ++ (P.w2 ++ (P.o ++ (P.w3 ++ (codes "." ++ (P.w4 ++ P.comment)))))))) C.behind_subject
    ∙ ap (λ x. P.s ++ (codes " " ++ (P.p ++ (x ++ (P.o ++ (P.w3 ++ (codes "." ++ (P.w4 ++ P.comment)))))))) C.behind_predicate
    ∙ ap (λ x. spaced P.s P.p P.o (x ++ (codes "." ++ (P.w4 ++ P.comment)))) C.behind_object
    ∙ ap (λ x. spaced P.s P.p P.o (codes " ." ++ (x ++ P.comment))) C.none_behind_dot
    ∙ ap (λ x. spaced P.s P.p P.o (codes " ." ++ x)) C.no_comment

subject-object : (u : List ℕ) → Matches subject u → is_one_line u ≡ true
subject-object u m = ⊎_elim (λ i. object_one_line u (inl i)) (λ b. object_one_line u (inr (inl b))) m

-- It is one line.
canonical_one_line : (l : List ℕ) → CanonicalLine l → is_one_line l ≡ true
canonical_one_line l C =
    let P = C.parts in
    rw (line_is l C)
    (spaced_one_line P.s P.p P.o (subject-object P.s P.is_subject) (object_one_line P.p (inl P.is_predicate)) (object_one_line P.o P.is_object))

-- What its terms mean.
record Meant (l : List ℕ) (P : Parts l) : Type 0 where
  triple : TextTriple
  subject_means : Means P.s triple.subject
  predicate_means : Means P.p triple.property
  object_means : Means P.o triple.object

meant : (l : List ℕ) (P : Parts l) (d : Document) (ts : List TextTriple) → with_line (read_line l) d ≡ triples ts → Meant l P
unfolding with_line
meant l P d ts e =
    ⊎_elim
    (λ (s : (t : Text) × Means P.s t). ⊎_elim
    (λ (p : (t : Text) × Means P.p t). ⊎_elim
    (λ (o : (t : Text) × Means P.o t). record { triple = record { subject = s.0; property = p.0; object = o.0 }; subject_means = s.1; predicate_means = p.1; object_means = o.1 })
    (λ f. refused-not (rw (fault_wrong l (record { parts = P; fault = inr (inr f) })) at e))
    (object_meant P.o P.is_object))
    (λ f. refused-not (rw (fault_wrong l (record { parts = P; fault = inr (inl f) })) at e))
    (subject_meant P.p (inl P.is_predicate)))
    (λ f. refused-not (rw (fault_wrong l (record { parts = P; fault = inl f })) at e))
    (subject_meant P.s P.is_subject)

-- A canonical line, and what stands behind it, has the bytes of its triple's line.
line-exact
    : (l bytes rest : List ℕ) (C : CanonicalLine l) (M : Meant l C.parts) → all is_scalar l ≡ true → NormalTerm C.parts.o → bytes ≡ utf8 rest
    → line_bytes M.triple ++ bytes ≡ utf8 (l ++ (codes "\n" ++ rest))
line-exact l bytes rest C M h N e =
    let P = C.parts in
    let k0 = all_back is_scalar P.w0 _ (rw P.spelled at h) in
    let k1 = all_back is_scalar P.w1 _ (all_back is_scalar P.s _ k0) in
    let k2 = all_back is_scalar P.w2 _ (all_back is_scalar P.p _ k1) in
    spaced-bytes M.triple P.s P.p P.o bytes rest
    (term_exact P.s M.triple.subject (all_front is_scalar P.s _ k0) C.subject_term (subject_normal P.s P.is_subject) M.subject_means)
    (term_exact P.p M.triple.property (all_front is_scalar P.p _ k1) C.predicate_term (subject_normal P.p (inl P.is_predicate)) M.predicate_means)
    (term_exact P.o M.triple.object (all_front is_scalar P.o _ k2) C.object_term N M.object_means)
    e
    ∙ ap (λ x. utf8 (x ++ (codes "\n" ++ rest))) (sym (line_is l C))

-- ---- files

line_says : (l : List ℕ) (P : Parts l) (M : Meant l P) → read_line l ≡ full M.triple
line_says l P M = (line_read l M.triple).1 (record { parts = P; subject_means = M.subject_means; predicate_means = M.predicate_means; object_means = M.object_means })

lines_exact : (u : List ℕ) (ts : List TextTriple) (C : CanonicalLines u) → all is_scalar u ≡ true → NormalLines C → read_lines (lines u) ≡ triples ts → document_bytes ts ≡ utf8 u
unfolding document_bytes utf8 lines read_lines read_line is_rest skip with_line codes is_one_of
lines_exact u ts (CanonicalLines.none e) h N r =
    let f : triples [] ≡ triples ts = rw e at r in
    let g : [] ≡ ts = cc in
    ap document_bytes (sym g) ∙ ap utf8 (sym e)
lines_exact u ts (CanonicalLines.more l rest e L Ls) h N r =
    let k : all is_scalar (l ++ (codes "\n" ++ rest)) ≡ true = rw e at h in
    let a : lines u ≡ l ∷ lines rest = ap lines e ∙ line_more l 10 rest (canonical_one_line l L) refl in
    let b : with_line (read_line l) (read_lines (lines rest)) ≡ triples ts = rw a at r in
    let M = meant l L.parts (read_lines (lines rest)) ts b in
    let F = first M.triple (read_lines (lines rest)) ts (rw (line_says l L.parts M) at b) in
    let i : document_bytes F.later ≡ utf8 rest = lines_exact rest F.later Ls (all_back is_scalar (codes "\n") rest (all_back is_scalar l _ k)) N.1 F.behind in
    ap document_bytes F.same ∙ line-exact l (document_bytes F.later) rest L M (all_front is_scalar l _ k) N.0 i ∙ ap utf8 (sym e)

module _ (f : List ℕ) (ts : List TextTriple) (e : document f ≡ triples ts) where
  -- A canonical file, with tags in lower case and without the type xsd:string, is the canonical document of its triples;
  pub canonical_unique : NormalFile f → f ≡ document_bytes ts
  unfolding document document_of
  canonical_unique N =
      let C = N.file in
      let d = (decode-encode f C.chars).1 (C.scalar, C.encoded) in
      C.encoded ∙ sym (lines_exact C.chars ts C.canonical C.scalar N.normal (rw d at e))

  -- and such files are exactly those that are their own canonical form.
  pub canonical_exactly : (canonical_form f ≡ f) ↔ NormalFile f
  canonical_exactly = (λ q. subst NormalFile q (form_normal f), λ N. form-is ∙ sym (canonical_unique N))
    where
      form-is : canonical_form f ≡ document_bytes ts
      form-is = form_of f ts e
