-- A line is read exactly as the grammar and its meaning say (line_read, line-empty, line_wrong, line_unique, at the end). Assumes nothing.
use Prim.Native.Nat.{ℕ}
use Prim.Native.Char.{code}
use mathlib.Core.Path.{◌≡◌, refl, sym, ap, ◌∙◌, subst}
use mathlib.Core.Bool.{true, false, ◌&&◌}
use mathlib.Core.Logic.{◌↔◌, inl, inr, ⊎_elim}
use mathlib.Core.List.{List, [], ◌∷◌, ◌++◌, append_assoc}
use native.Mathlib.Omega.{arith}
use lib.Dec.{eqb}
use borrow.Author.Tests.{eqb-true}
use Rattle.spec.proofs.Lists.{by_test}
use Rattle.spec.proofs.Ascending.{and_left, and_right}
use Rattle.spec_ntriples.specs.Characters.{codes, is_one_of, is_pn_chars_base, is_pn_chars_u, is_pn_chars}
use Rattle.spec_ntriples.specs.computed.Terminals.{got, label, tag, skip}
use Rattle.spec_ntriples.specs.Texts.{Text, TextTriple}
use Rattle.spec_ntriples.specs.computed.Lines.{Read, nothing, read, read_iri, suffixed, read_subject, read_object, Line, wrong, empty, full, is_rest, end_of, after_object, after_property, after_subject, read_line}
use Rattle.spec_ntriples.specs.Expressions.{Matches, Joined, Repeated, set, many, optional}
use Rattle.spec_ntriples.specs.Productions.{WS, COMMENT, subject, predicate, object, triple_line, empty_line}
use Rattle.spec_ntriples.specs.Meaning.{Means, Parts, TripleLine}
use Rattle.spec_ntriples.proofs.Escapes.{each_one}
use Rattle.spec_ntriples.proofs.Runs.{skipped, skip_white, skip_keeps, label_stops, label_stops_dot, label_white, tag_stops, tag_white}
use Rattle.spec_ntriples.proofs.Terms.{iri_matches, means-object, iri-read, subject-read, object-read, Ends, read-object, read-subject, read-predicate, begins}

-- ---- the end of a line

wrong-not : {C : Type 0} {t : TextTriple} → wrong ≡ full t → C
wrong-not e = let z : ◌≡◌ {A = ℕ} 0 1 = cc in absurd (omega arith)

empty-not : {C : Type 0} {t : TextTriple} → empty ≡ full t → C
empty-not e = let z : ◌≡◌ {A = ℕ} 0 1 = cc in absurd (omega arith)

wrong-not_empty : {C : Type 0} → wrong ≡ empty → C
wrong-not_empty e = let z : ◌≡◌ {A = ℕ} 0 1 = cc in absurd (omega arith)

any_many : (r : List ℕ) → Matches (many (set (λ c. true))) r
any_many [] = Repeated.end refl
any_many (c ∷ r) = Repeated.more (c ∷ []) r refl (record { char = c; spelled = refl; allowed = refl }) (any_many r)

-- A comment or nothing.
rest_comment : (r : List ℕ) → is_rest r ≡ true → Matches (optional COMMENT) r
unfolding is_rest codes
rest_comment [] h = inl refl
rest_comment (c ∷ r) h = inr (record { front = codes "#"; back = r; spelled = ap (λ x. x ∷ r) (eqb-true c (code "#") h); first = refl; second = any_many r })

comment_rest : (r : List ℕ) → Matches (optional COMMENT) r → (is_rest r ≡ true) × (skip r ≡ r)
unfolding is_rest codes skip is_one_of
comment_rest r m = ⊎_elim (λ e. rw e (refl, refl)) (λ j. rw (j.spelled, j.first) (refl, refl)) m

-- No label goes on there.
comment-label : (r : List ℕ) → Matches (optional COMMENT) r → label r ≡ got [] r
unfolding label codes is_pn_chars is_pn_chars_u is_pn_chars_base is_one_of
comment-label r m = ⊎_elim (λ e. rw e) (λ j. rw (j.spelled, j.first)) m

-- A term ends where a line does.
pub dot_ends : (w w' c : List ℕ) → Matches WS w → Matches WS w' → Matches (optional COMMENT) c → Ends (w ++ (codes "." ++ (w' ++ c)))
unfolding codes suffixed is_one_of
dot_ends w w' c m n k =
    record {
      no_label = label_white w (code "." ∷ (w' ++ c)) m (label_stops_dot (w' ++ c) (label_white w' c n (comment-label c k)));
      no_tag = tag_white w (code "." ∷ (w' ++ c)) m (tag_stops (code ".") (w' ++ c) refl refl refl);
      no_suffix = λ string plain. rw (skip_white w (code "." ∷ (w' ++ c)) m, skip_keeps (code ".") (w' ++ c) refl);
    }

-- And at the end of the characters.
pub nil_ends : Ends []
unfolding label tag suffixed skip
nil_ends = record { no_label = refl; no_tag = record { letters = refl; others = refl }; no_suffix = λ string plain. refl }

-- ---- what is read is a line

-- Behind the object.
record Ended (u t : TextTriple) (cs : List ℕ) : Type 0 where
  w4 : List ℕ
  comment : List ℕ
  spelled : cs ≡ codes "." ++ (w4 ++ comment)
  white4 : Matches WS w4
  is_comment : Matches (optional COMMENT) comment
  same : u ≡ t

ended : (u t : TextTriple) (cs : List ℕ) → end_of u cs ≡ full t → Ended u t cs
unfolding end_of codes
ended u t [] e = wrong-not e
ended u t (c ∷ cs) e =
    by_test (eqb c (code ".") && is_rest (skip cs))
    (λ p. let f : full u ≡ full t = rw p at e in
    let w = skipped cs in
    record {
      w4 = w.white;
      comment = skip cs;
      spelled = ap (λ x. x ∷ cs) (eqb-true c (code ".") (and_left _ (is_rest (skip cs)) p)) ∙ ap (λ x. code "." ∷ x) w.spelled;
      white4 = w.matched;
      is_comment = rest_comment (skip cs) (and_right (eqb c (code ".")) _ p);
      same = cc;
    })
    (λ p. wrong-not (rw p at e))

-- Behind the predicate.
record Objected (s p : Text) (t : TextTriple) (cs : List ℕ) : Type 0 where
  object : Text
  o : List ℕ
  w3 : List ℕ
  rest : List ℕ
  spelled : cs ≡ o ++ (w3 ++ rest)
  means : Means o object
  white3 : Matches WS w3
  later : Ended (record { subject = s; property = p; object = object }) t rest

objected : (s p : Text) (t : TextTriple) (cs : List ℕ) (r : Read) → read_object cs ≡ r → after_object s p r ≡ full t → Objected s p t cs
unfolding after_object
objected s p t cs nothing h e = wrong-not e
objected s p t cs (read o rest) h e =
    let i = object-read cs o rest h in
    let w = skipped rest in
    record {
      object = o;
      o = i.term;
      w3 = w.white;
      rest = skip rest;
      spelled = i.spelled ∙ ap (λ x. i.term ++ x) w.spelled;
      means = i.means;
      white3 = w.matched;
      later = ended (record { subject = s; property = p; object = o }) t (skip rest) e;
    }

-- Behind the subject.
record Predicated (s : Text) (t : TextTriple) (cs : List ℕ) : Type 0 where
  property : Text
  p : List ℕ
  w2 : List ℕ
  rest : List ℕ
  spelled : cs ≡ p ++ (w2 ++ rest)
  matched : Matches predicate p
  means : Means p property
  white2 : Matches WS w2
  later : Objected s property t rest

predicated : (s : Text) (t : TextTriple) (cs : List ℕ) (r : Read) → read_iri cs ≡ r → after_property s r ≡ full t → Predicated s t cs
unfolding after_property
predicated s t cs nothing h e = wrong-not e
predicated s t cs (read p rest) h e =
    let i = iri-read cs p rest h in
    let w = skipped rest in
    record {
      property = p;
      p = i.term;
      w2 = w.white;
      rest = skip rest;
      spelled = i.spelled ∙ ap (λ x. i.term ++ x) w.spelled;
      matched = iri_matches i.term i.chars i.iri;
      means = Means.iri i.chars i.iri i.same;
      white2 = w.matched;
      later = objected s p t (skip rest) (read_object (skip rest)) refl e;
    }

subjected : (cs : List ℕ) (t : TextTriple) (r : Read) → read_subject (skip cs) ≡ r → after_subject r ≡ full t → TripleLine cs t
unfolding after_subject
subjected cs t nothing h e = wrong-not e
subjected cs t (read s rest) h e =
    let i = subject-read (skip cs) s rest h in
    let v = skipped cs in
    let w = skipped rest in
    let x = predicated s t (skip rest) (read_iri (skip rest)) refl e in
    let y = x.later in
    let z = y.later in
    record {
      parts =
          record {
            w0 = v.white;
            s = i.term;
            w1 = w.white;
            p = x.p;
            w2 = x.w2;
            o = y.o;
            w3 = y.w3;
            w4 = z.w4;
            comment = z.comment;
            spelled = v.spelled ∙ ap (λ k. v.white ++ k) (i.spelled ∙ ap (λ k. i.term ++ k) (w.spelled ∙ ap (λ k. w.white ++ k) (x.spelled ∙ ap (λ k. x.p ++ (x.w2 ++ k)) (y.spelled ∙ ap (λ k. y.o ++ (y.w3 ++ k)) z.spelled))));
            white0 = v.matched;
            is_subject = i.matched;
            white1 = w.matched;
            is_predicate = x.matched;
            white2 = x.white2;
            is_object = means-object y.o y.object y.means;
            white3 = y.white3;
            white4 = z.white4;
            is_comment = z.is_comment;
          };
      subject_means = subst (λ (k : TextTriple). Means i.term k.subject) z.same i.means;
      predicate_means = subst (λ (k : TextTriple). Means x.p k.property) z.same x.means;
      object_means = subst (λ (k : TextTriple). Means y.o k.object) z.same y.means;
    }

full_line : (cs : List ℕ) (t : TextTriple) → read_line cs ≡ full t → TripleLine cs t
unfolding read_line
full_line cs t e =
    by_test (is_rest (skip cs)) (λ p. empty-not (rw p at e)) (λ p. subjected cs t (read_subject (skip cs)) refl (rw p at e))

-- ---- a line is read

-- A term has no white space in front, and is no comment.
mark_apart : (c : ℕ) → is_one_of (codes "<_\"") c ≡ true → (is_one_of (codes "\t ") c ≡ false) × (eqb c (code "#") ≡ false)
unfolding codes is_one_of
mark_apart c h = each_one (λ x. (is_one_of (codes "\t ") x ≡ false) × (eqb x (code "#") ≡ false)) (codes "<_\"") c ((refl, refl), ((refl, refl), ((refl, refl), tt))) h

term_kept : (u r : List ℕ) → Matches object u → skip (u ++ r) ≡ u ++ r
term_kept u r m = let b = begins u m in rw b.spelled (skip_keeps b.char (b.later ++ r) (mark_apart b.char b.mark).0)

term_no_rest : (u r : List ℕ) → Matches object u → is_rest (u ++ r) ≡ false
unfolding is_rest
term_no_rest u r m = let b = begins u m in rw b.spelled (mark_apart b.char b.mark).1

subject-object : (u : List ℕ) → Matches subject u → Matches object u
subject-object u m = ⊎_elim (λ i. inl i) (λ b. inr (inl b)) m

-- No label goes on at an IRI.
predicate-label : (u r : List ℕ) → Matches predicate u → label (u ++ r) ≡ got [] (u ++ r)
unfolding codes is_pn_chars is_pn_chars_u is_pn_chars_base is_one_of
predicate-label u r m = rw (m.spelled, m.first) (label_stops (code "<") (m.back ++ r) refl refl)

-- What stands behind each term of a line.
module _ {cs : List ℕ} (P : Parts cs) where
  abbrev pub after_dot : List ℕ
  after_dot = P.w4 ++ P.comment

  abbrev pub after_o : List ℕ
  after_o = P.w3 ++ (codes "." ++ after_dot)

  abbrev pub after_p : List ℕ
  after_p = P.w2 ++ (P.o ++ after_o)

  abbrev pub after_s : List ℕ
  after_s = P.w1 ++ (P.p ++ after_p)

  -- The object ends where the line does.
  pub object_ends : Ends after_o
  object_ends = dot_ends P.w3 P.w4 P.comment P.white3 P.white4 P.is_comment

  -- The subject ends where no label goes on.
  pub subject_ends : label after_s ≡ got [] after_s
  subject_ends = label_white P.w1 (P.p ++ after_p) P.white1 (predicate-label P.p after_p P.is_predicate)

  line_ends : (t : TextTriple) → end_of t (skip after_o) ≡ full t
  unfolding end_of codes is_one_of
  line_ends t =
      let k = comment_rest P.comment P.is_comment in
      rw (skip_white P.w3 (code "." ∷ after_dot) P.white3, skip_keeps (code ".") after_dot refl, skip_white P.w4 P.comment P.white4, k.1, k.0)

  -- White space before each term is passed over.
  pub at_object : skip after_p ≡ P.o ++ after_o
  at_object = skip_white P.w2 (P.o ++ after_o) P.white2 ∙ term_kept P.o after_o P.is_object

  pub at_predicate : skip after_s ≡ P.p ++ after_p
  at_predicate = skip_white P.w1 (P.p ++ after_p) P.white1 ∙ term_kept P.p after_p (inl P.is_predicate)

  pub at_subject : skip cs ≡ P.s ++ after_s
  at_subject = ap skip P.spelled ∙ skip_white P.w0 (P.s ++ after_s) P.white0 ∙ term_kept P.s after_s (subject-object P.s P.is_subject)

  -- The line is not empty.
  pub no_rest : is_rest (P.s ++ after_s) ≡ false
  no_rest = term_no_rest P.s after_s (subject-object P.s P.is_subject)

line_full : (cs : List ℕ) (t : TextTriple) → TripleLine cs t → read_line cs ≡ full t
unfolding read_line after_subject after_property after_object
line_full cs t L =
    let P = L.parts in
    rw (at_subject P, no_rest P, read-subject P.s t.subject (after_s P) P.is_subject L.subject_means (subject_ends P), at_predicate P, read-predicate P.p t.property (after_p P) P.is_predicate L.predicate_means, at_object P, read-object P.o t.object (after_o P) L.object_means (object_ends P))
    (line_ends P t)

-- ---- lines with no triple

-- A line with a subject is not empty.
end-not_empty : {C : Type 0} (u : TextTriple) (cs : List ℕ) → end_of u cs ≡ empty → C
unfolding end_of
end-not_empty u [] e = wrong-not_empty e
end-not_empty u (c ∷ cs) e =
    by_test (eqb c (code ".") && is_rest (skip cs)) (λ p. empty-not (sym (rw p at e))) (λ p. wrong-not_empty (rw p at e))

object-not_empty : {C : Type 0} (s p : Text) (r : Read) → after_object s p r ≡ empty → C
unfolding after_object
object-not_empty s p nothing e = wrong-not_empty e
object-not_empty s p (read o rest) e = end-not_empty _ (skip rest) e

property-not_empty : {C : Type 0} (s : Text) (r : Read) → after_property s r ≡ empty → C
unfolding after_property
property-not_empty s nothing e = wrong-not_empty e
property-not_empty s (read p rest) e = object-not_empty s p (read_object (skip rest)) e

subject-not_empty : {C : Type 0} (r : Read) → after_subject r ≡ empty → C
unfolding after_subject
subject-not_empty nothing e = wrong-not_empty e
subject-not_empty (read s rest) e = property-not_empty s (read_iri (skip rest)) e

empty_line_lem : (cs : List ℕ) → read_line cs ≡ empty → Matches empty_line cs
unfolding read_line
empty_line_lem cs e =
    let w = skipped cs in
    by_test (is_rest (skip cs))
    (λ p. record { front = w.white; back = skip cs; spelled = w.spelled; first = w.matched; second = rest_comment (skip cs) p })
    (λ p. subject-not_empty (read_subject (skip cs)) (rw p at e))

line_nothing : (cs : List ℕ) → Matches empty_line cs → read_line cs ≡ empty
unfolding read_line
line_nothing cs m =
    let k = comment_rest m.back m.second in
    rw (m.spelled, skip_white m.front m.back m.first, k.1, k.0)

regroup : (s w1 p w2 o w3 d x : List ℕ) → s ++ (w1 ++ (p ++ (w2 ++ (o ++ (w3 ++ (d ++ x)))))) ≡ s ++ (w1 ++ (p ++ (w2 ++ (o ++ (w3 ++ d))))) ++ x
regroup s w1 p w2 o w3 d x = simp append_assoc

joined : {P Q : List ℕ → Type 0} (a b u : List ℕ) → u ≡ a ++ b → P a → Q b → Joined P Q u
joined a b u e p q = record { front = a; back = b; spelled = e; first = p; second = q }

-- A line that is taken apart matches the grammar, and the other way.
pub parts_match : (cs : List ℕ) → Parts cs → Matches triple_line cs
parts_match cs P =
    joined P.w0 _ _ (P.spelled ∙ ap (λ x. P.w0 ++ x) (regroup P.s P.w1 P.p P.w2 P.o P.w3 (codes ".") (P.w4 ++ P.comment))) P.white0
    (joined _ (P.w4 ++ P.comment) _ refl
    (joined P.s _ _ refl P.is_subject
    (joined P.w1 _ _ refl P.white1
    (joined P.p _ _ refl P.is_predicate
    (joined P.w2 _ _ refl P.white2 (joined P.o _ _ refl P.is_object (joined P.w3 (codes ".") _ refl P.white3 refl))))))
    (joined P.w4 P.comment _ refl P.white4 P.is_comment))

pub match_parts : (cs : List ℕ) → Matches triple_line cs → Parts cs
match_parts cs m =
    let a = m.second in
    let b = a.first in
    let c = b.second in
    let d = c.second in
    let e = d.second in
    let f = e.second in
    let g = f.second in
    let h = a.second in
    record {
      w0 = m.front;
      s = b.front;
      w1 = c.front;
      p = d.front;
      w2 = e.front;
      o = f.front;
      w3 = g.front;
      w4 = h.front;
      comment = h.back;
      spelled =
          m.spelled
          ∙ ap (λ x. m.front ++ x)
          (a.spelled
          ∙ ap (λ x. x ++ a.back) (b.spelled ∙ ap (λ x. b.front ++ x) (c.spelled ∙ ap (λ x. c.front ++ x) (d.spelled ∙ ap (λ x. d.front ++ x) (e.spelled ∙ ap (λ x. e.front ++ x) (f.spelled ∙ ap (λ x. f.front ++ x) (g.spelled ∙ ap (λ x. g.front ++ x) g.second))))))
          ∙ ap (λ x. b.front ++ (c.front ++ (d.front ++ (e.front ++ (f.front ++ (g.front ++ codes "."))))) ++ x) h.spelled
          ∙ sym (regroup b.front c.front d.front e.front f.front g.front (codes ".") (h.front ++ h.back)));
      white0 = m.first;
      is_subject = b.first;
      white1 = c.first;
      is_predicate = d.first;
      white2 = e.first;
      is_object = f.first;
      white3 = g.first;
      white4 = h.first;
      is_comment = h.second;
    }

-- ---- the theorems

-- A line is read as a triple exactly where it is spelled as the grammar says and its terms mean the triple's texts.
pub line_read : (cs : List ℕ) (t : TextTriple) → (read_line cs ≡ full t) ↔ TripleLine cs t
line_read cs t = (full_line cs t, line_full cs t)

-- A line is read as one with no triple exactly where it is white space and a comment or nothing.
pub line-empty : (cs : List ℕ) → (read_line cs ≡ empty) ↔ Matches empty_line cs
line-empty cs = (empty_line_lem cs, line_nothing cs)

-- A line breaks the grammar exactly where it is neither.
pub line_wrong : (cs : List ℕ) → (read_line cs ≡ wrong) ↔ ((Matches empty_line cs → ⊥) × ((t : TextTriple) → TripleLine cs t → ⊥))
line_wrong cs =
    (λ e. (λ m. wrong-not_empty (sym e ∙ line_nothing cs m), λ t L. wrong-not (sym e ∙ line_full cs t L)), λ h. go (read_line cs) refl h)
  where
    go : (l : Line) → read_line cs ≡ l → (Matches empty_line cs → ⊥) × ((t : TextTriple) → TripleLine cs t → ⊥) → l ≡ wrong
    go wrong e h = refl
    go empty e h = absurd (h.0 (empty_line_lem cs e))
    go (full t) e h = absurd (h.1 t (full_line cs t e))

-- A line has one triple at most, however it is taken apart.
pub line_unique : (cs : List ℕ) (t u : TextTriple) → TripleLine cs t → TripleLine cs u → t ≡ u
line_unique cs t u L M = let e : full t ≡ full u = sym (line_full cs t L) ∙ line_full cs u M in cc

-- A line with a triple matches the grammar.
pub line_matches : (cs : List ℕ) (t : TextTriple) → TripleLine cs t → Matches triple_line cs
line_matches cs t L = parts_match cs L.parts
