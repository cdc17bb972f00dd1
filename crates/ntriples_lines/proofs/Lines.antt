-- Laws of lines, read into places. Assumes nothing.
use Prim.Native.Nat.{ℕ, ◌≤◌}
use Prim.Native.Char.{code}
use mathlib.Core.Path.{◌≡◌, refl, ◌∙◌}
use mathlib.Core.Bool.{true, false, cond}
use mathlib.Core.List.{List, [], ◌∷◌}
use native.Mathlib.Omega.{arith}
use lib.ListN.{length}
use lib.Dec.{eqb}
use borrow.Author.Tests.{eqb-true, ne_eqb}
use Rattle.spec_ntriples.specs.computed.Decoded.{decoded, decode}
use Rattle.spec_ntriples.specs.computed.Terminals.{head_is, skip}
use Rattle.spec_ntriples.specs.Texts.{Text, TextTriple}
use Rattle.spec_ntriples.specs.computed.Lines.{Read, nothing, read, read_iri, read_subject, read_object, Line, wrong, empty, full, is_rest, end_of, after_object, after_property, after_subject, read_line}
use Rattle.ntriples_bytes.specs.declared.Mark.{Mark}
use Rattle.ntriples_bytes.specs.inside.Places.{At, chars_at, Marks, HasText}
use Rattle.ntriples_bytes.proofs.Decoding.{at_start, chars_are, chars_stand, chars_end, chars_marked}
use Rattle.ntriples_bytes.proofs.Marking.{by_test}
use Rattle.ntriples_terminals.specs.inside.Ends.{nowhere, behind, behind_read, Ended}
use Rattle.ntriples_lines.specs.declared.Token.{Token}
use Rattle.ntriples_lines.specs.declared.Line as code-line
use Rattle.ntriples_lines.specs.declared.Line.TheVariants.{Wrong, Empty, Full}
use Rattle.ntriples_lines.specs.inside.Reading.{is_ended, IsFull, IsLine}
use Rattle.ntriples_ends.proofs.Heads.{HeadIs}

-- ---- the ends of lines

pub rest_end : (bs : List ℕ) (at : ℕ) → length bs ≤ at → true ≡ is_rest (chars_at bs at)
unfolding is_rest
rest_end bs at h = rw (chars_end bs at h)

pub rest_some : (bs : List ℕ) (at : ℕ) (m : Mark) → Marks bs at m → eqb m.code (code "#") ≡ is_rest (chars_at bs at)
unfolding is_rest
rest_some bs at m M = rw (chars_marked M)

pub ended_none : (cs : List ℕ) → head_is (λ c. eqb c (code ".")) cs ≡ false → false ≡ is_ended cs
unfolding is_ended head_is
ended_none [] q = refl
ended_none (c ∷ cs) q = rw q

pub ended_some : (cs ds : List ℕ) → HeadIs (λ c. eqb c (code ".")) cs ds → is_rest (skip ds) ≡ is_ended cs
unfolding is_ended
ended_some cs ds H = rw (H.same, H.passes)

end_of_lem : (t : TextTriple) (cs : List ℕ) → end_of t cs ≡ cond (is_ended cs) (full t) wrong
unfolding end_of is_ended
end_of_lem t [] = refl
end_of_lem t (c ∷ cs) = refl

-- ---- terms

nothing-not : {C : Type 0} {t : Text} {rest : List ℕ} → nothing ≡ read t rest → C
nothing-not e = let z : ◌≡◌ {A = ℕ} 0 1 = cc in absurd (omega arith)

-- An IRI that is read begins with its mark.
iri_mark : (c : ℕ) (cs : List ℕ) (t : Text) (rest : List ℕ) → read_iri (c ∷ cs) ≡ read t rest → c ≡ code "<"
unfolding read_iri
iri_mark c cs t rest e = by_test (eqb c (code "<")) (λ q. eqb-true c (code "<") q) (λ q. nothing-not (rw q at e))

-- Readers of properties and of subjects agree with that of objects, where they read something.
pub iri-object : (cs : List ℕ) (t : Text) (rest : List ℕ) → read_iri cs ≡ read t rest → read_object cs ≡ read t rest
unfolding read_object read_subject read_iri
iri-object [] t rest e = e
iri-object (c ∷ cs) t rest e =
    let m : c ≡ code "<" = iri_mark c cs t rest e in
    rw (ne_eqb c (code "\"") (λ x. omega arith), ne_eqb c (code "_") (λ x. omega arith)) e

pub subject-object : (cs : List ℕ) (t : Text) (rest : List ℕ) → read_subject cs ≡ read t rest → read_object cs ≡ read t rest
unfolding read_object read_subject
subject-object [] t rest e = e
subject-object (c ∷ cs) t rest e =
    by_test (eqb c (code "_"))
    (λ q. let m : c ≡ code "_" = eqb-true c (code "_") q in rw (ne_eqb c (code "\"") (λ x. omega arith)) e)
    (λ q. iri-object (c ∷ cs) t rest (rw q at e))

pub object-object : (cs : List ℕ) (t : Text) (rest : List ℕ) → read_object cs ≡ read t rest → read_object cs ≡ read t rest
object-object cs t rest e = e

-- A term that a reader reads from some characters at an index up to another.
pub record Term (reader : List ℕ → Read) (line : List ℕ) (from end : ℕ) (cs : List ℕ) : Type 0 where
  pub text : Text
  pub reads : reader cs ≡ read text (chars_at line end)
  pub has : HasText line from end text

-- What is behind says whether something was read.
read_none : (r : Read) → behind_read r ≡ nowhere → r ≡ nothing
unfolding behind_read
read_none nothing e = refl
read_none (read t rest) e = let z : ◌≡◌ {A = ℕ} 0 1 = cc in absurd (omega arith)

record ReadIs (r : Read) (rest : List ℕ) : Type 0 where
  pub text : Text
  pub same : r ≡ read text rest

read_found : (r : Read) (rest : List ℕ) → behind_read r ≡ behind rest → ReadIs r rest
unfolding behind_read
read_found nothing rest e = let z : ◌≡◌ {A = ℕ} 0 1 = cc in absurd (omega arith)
read_found (read t ds) rest e = let f : ds ≡ rest = cc in record { text = t; same = rw f }

module _ (reader : List ℕ → Read) (line : List ℕ) (from : ℕ) (cs : List ℕ) (A : At line from cs) where
  pub no_term : behind_read (reader (chars_at line from)) ≡ nowhere → reader cs ≡ nothing
  no_term e = read_none (reader cs) (rw (chars_are A) at e)

  pub term_found : ((ds : List ℕ) (t : Text) (rest : List ℕ) → reader ds ≡ read t rest → read_object ds ≡ read t rest) → (end : ℕ) → Ended line (behind_read (reader (chars_at line from))) end → Term reader line from end cs
  term_found agrees end E =
      let r : ReadIs (reader cs) (chars_at line end) = read_found (reader cs) (chars_at line end) (rw (chars_are A) at E.same) in
      record { text = r.text; reads = r.same; has = record { chars = cs; rest = chars_at line end; starts = A; reads = agrees cs r.text (chars_at line end) r.same; behind = chars_stand E.from } }

-- ---- lines

-- A line that is the same is read the same.
pub line_same : (line : List ℕ) (a b : Line) (r : code-line.Line) → a ≡ b → IsLine line b r → IsLine line a r
line_same line a b Wrong e q = e ∙ q
line_same line a b Empty e q = e ∙ q
line_same line a b (Full k) e q = record { triple = q.triple; same = e ∙ q.same; subject = q.subject; property = q.property; object = q.object }

-- Behind the property.
pub no_object : (s p : Text) (cs : List ℕ) → read_object cs ≡ nothing → after_object s p (read_object cs) ≡ wrong
unfolding after_object
no_object s p cs e = rw e

module _ (s p : Text) (line : List ℕ) (from end : ℕ) (cs : List ℕ) (T : Term read_object line from end cs) where
  after-object : after_object s p (read_object cs) ≡ cond (is_ended (skip (chars_at line end))) (full (record { subject = s; property = p; object = T.text })) wrong
  unfolding after_object
  after-object = rw T.reads (end_of_lem (record { subject = s; property = p; object = T.text }) (skip (chars_at line end)))

  pub not_ended : is_ended (skip (chars_at line end)) ≡ false → after_object s p (read_object cs) ≡ wrong
  not_ended q = after-object ∙ rw q

  pub all-full
      : (subject property : Token) → HasText line subject.from subject.end s → HasText line property.from property.end p
      → is_ended (skip (chars_at line end)) ≡ true
      → IsFull line (after_object s p (read_object cs)) (record { subject = subject; property = property; object = record { from = from; end = end } })
  all-full subject property S P q =
      record { triple = record { subject = s; property = p; object = T.text }; same = after-object ∙ rw q; subject = S; property = P; object = T.has }

-- Behind the subject.
pub no_property : (s : Text) (cs : List ℕ) → read_iri cs ≡ nothing → after_property s (read_iri cs) ≡ wrong
unfolding after_property
no_property s cs e = rw e

pub after-property
    : (s : Text) (line : List ℕ) (from end : ℕ) (cs : List ℕ) (T : Term read_iri line from end cs)
    → after_property s (read_iri cs) ≡ after_object s T.text (read_object (skip (chars_at line end)))
unfolding after_property
after-property s line from end cs T = rw T.reads

-- The whole.
pub line-empty : (l : List ℕ) → is_rest (skip l) ≡ true → read_line l ≡ empty
unfolding read_line
line-empty l q = rw q

pub line_wrong : (l : List ℕ) → is_rest (skip l) ≡ false → read_subject (skip l) ≡ nothing → read_line l ≡ wrong
unfolding read_line after_subject
line_wrong l q e = rw (q, e)

pub line-subject
    : (l line : List ℕ) (from end : ℕ) → is_rest (skip l) ≡ false → (T : Term read_subject line from end (skip l))
    → read_line l ≡ after_property T.text (read_iri (skip (chars_at line end)))
unfolding read_line after_subject
line-subject l line from end q T = rw (q, T.reads)

-- The characters of a whole line, behind its first white space.
pub at_front : (line l : List ℕ) (from : ℕ) → decode line ≡ decoded l → At line from (skip (chars_at line 0)) → At line from (skip l)
at_front line l from e A = rw (chars_are (at_start line l e)) at A
