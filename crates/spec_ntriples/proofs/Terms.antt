-- Terms are read exactly as they are spelled and with the texts that they mean. Assumes nothing.
use Prim.Native.Nat.{ℕ}
use Prim.Native.Char.{code}
use mathlib.Core.Path.{◌≡◌, refl, sym, ap, ◌∙◌, subst}
use mathlib.Core.Bool.{Bool, true, false, ◌&&◌, ◌||◌}
use mathlib.Core.Logic.{◌⊎◌, inl, inr, ⊎_elim}
use mathlib.Core.List.{List, [], ◌∷◌, ◌++◌, map, append_assoc, append-nil, append_cancel_left}
use native.Mathlib.Omega.{arith}
use lib.ListN.{get_or}
use lib.Dec.{eqb}
use borrow.Author.Tests.{eqb-true}
use Rattle.spec.proofs.Lists.{by_test}
use Rattle.spec.proofs.Ascending.{and_left, and_right}
use Rattle.spec_ntriples.specs.Characters.{codes, is_one_of, is_letter, is_digit, is_iri_char, is_string_char, is_pn_chars_u}
use Rattle.spec_ntriples.specs.computed.Terminals.{Got, none, got, outside, iri_step, string_step, scan, label, head_is, tag, skip}
use Rattle.spec_ntriples.specs.Texts.{lower_char, Text, text, is_absolute, iri_text, blank_text, string_text, tagged_text, typed_text}
use Rattle.spec_ntriples.specs.computed.Lines.{Read, nothing, read, iri_of, read_iri, blank_of, read_blank, typed_of, read_type, tagged_of, suffixed, literal_of, read_subject, read_object}
use Rattle.spec_ntriples.specs.Expressions.{Matches, Single, Repeated, set, ◌or◌, many}
use Rattle.spec_ntriples.specs.Productions.{UCHAR, ECHAR, IRIREF, STRING_LITERAL_QUOTE, BLANK_NODE_LABEL, LANGTAG, WS, subject, predicate, object}
use Rattle.spec_ntriples.specs.Meaning.{IriPiece, StringPiece, Resolves, Iri, Quoted, Means}
use Rattle.spec_ntriples.proofs.Escapes.{iri_scanned, scan_iri, string_scanned, scan_string}
use Rattle.spec_ntriples.proofs.Runs.{skipped, skip_white, skip_keeps, label_first, labelled, label-read, tagged, NoTag, tag_rest, tag_read, tag-head}

-- ---- what means something is spelled by the grammar

iri_pieces : (u cs : List ℕ) → Resolves IriPiece u cs → Matches (many (set is_iri_char or UCHAR)) u
iri_pieces u cs (Resolves.end e) = Repeated.end e
iri_pieces u cs (Resolves.more {cs = ds} p s c e m r) = Repeated.more p s e (piece m) (iri_pieces s ds r)
  where
    piece : IriPiece p c → Matches (set is_iri_char or UCHAR) p
    piece (IriPiece.itself f a) = inl (record { char = c; spelled = f; allowed = a })
    piece (IriPiece.by_uchar U a) = inr U.matched

string_pieces : (u cs : List ℕ) → Resolves StringPiece u cs → Matches (many (set is_string_char or ECHAR or UCHAR)) u
string_pieces u cs (Resolves.end e) = Repeated.end e
string_pieces u cs (Resolves.more {cs = ds} p s c e m r) = Repeated.more p s e (piece m) (string_pieces s ds r)
  where
    piece : StringPiece p c → Matches (set is_string_char or ECHAR or UCHAR) p
    piece (StringPiece.itself f a) = inl (record { char = c; spelled = f; allowed = a })
    piece (StringPiece.by_echar E) = inr (inl E.matched)
    piece (StringPiece.by_uchar U) = inr (inr U.matched)

pub iri_matches : (u cs : List ℕ) → Iri u cs → Matches IRIREF u
iri_matches u cs I =
    record {
      front = codes "<";
      back = I.inside ++ codes ">";
      spelled = I.spelled;
      first = refl;
      second = record { front = I.inside; back = codes ">"; spelled = refl; first = iri_pieces I.inside cs I.resolved; second = refl };
    }

quoted_matches : (u cs : List ℕ) → Quoted u cs → Matches STRING_LITERAL_QUOTE u
quoted_matches u cs Q =
    record {
      front = codes "\"";
      back = Q.inside ++ codes "\"";
      spelled = Q.spelled;
      first = refl;
      second = record { front = Q.inside; back = codes "\""; spelled = refl; first = string_pieces Q.inside cs Q.resolved; second = refl };
    }

-- A term that means something matches [5] object.
pub means-object : (u : List ℕ) (t : Text) → Means u t → Matches object u
means-object u t (Means.iri cs I e) = inl (iri_matches u cs I)
means-object u t (Means.blank ls m s e) = inr (inl m)
means-object u t (Means.plain cs Q e) =
    inr (inr (record { front = u; back = []; spelled = sym (append-nil u); first = quoted_matches u cs Q; second = inl refl }))
means-object u t (Means.tagged string cs w ls s Q m n e) =
    inr (inr (record { front = string; back = w ++ (codes "@" ++ ls); spelled = s; first = quoted_matches string cs Q; second = inr (record { front = w; back = codes "@" ++ ls; spelled = refl; first = m; second = inr n }) }))
means-object u t (Means.typed string cs w w' type ds s Q m n I e) =
    inr
    (inr
    (record {
      front = string;
      back = w ++ (codes "^^" ++ (w' ++ type));
      spelled = s;
      first = quoted_matches string cs Q;
      second =
          inr
          (record {
            front = w;
            back = codes "^^" ++ (w' ++ type);
            spelled = refl;
            first = m;
            second =
                inl
                (record { front = codes "^^"; back = w' ++ type; spelled = refl; first = refl; second = record { front = w'; back = type; spelled = refl; first = n; second = iri_matches type ds I } });
          });
    }))

-- ---- IRIs

-- Nothing is not something.
pub nothing-not : {C : Type 0} {t : Text} {rest : List ℕ} → nothing ≡ read t rest → C
nothing-not e = let z : ◌≡◌ {A = ℕ} 0 1 = cc in absurd (omega arith)

-- An IRI, and what stands behind it.
pub record IriRead (cs : List ℕ) (t : Text) (rest : List ℕ) : Type 0 where
  pub term : List ℕ
  pub chars : List ℕ
  pub spelled : cs ≡ term ++ rest
  pub iri : Iri term chars
  pub same : t ≡ text 0 (iri_text chars)

iri_of_lem : (c : ℕ) (us : List ℕ) (t : Text) (rest : List ℕ) (g : Got) → scan iri_step outside us ≡ g → c ≡ code "<" → iri_of g ≡ read t rest → IriRead (c ∷ us) t rest
unfolding iri_of codes
iri_of_lem c us t rest none h l e = nothing-not e
iri_of_lem c us t rest (got cs r) h l e =
    by_test (is_absolute cs)
    (λ p. let f : read (text 0 (iri_text cs)) r ≡ read t rest = rw p at e in
    let s = iri_scanned us cs r h in
    let q : r ≡ rest = cc in
    record {
      term = c ∷ (s.inside ++ (code ">" ∷ []));
      chars = cs;
      spelled = ap (λ x. c ∷ x) (s.spelled ∙ sym (append_assoc s.inside (code ">" ∷ []) r) ∙ ap (λ x. s.inside ++ (code ">" ∷ []) ++ x) q);
      iri = record { inside = s.inside; spelled = rw l; resolved = s.resolved; absolute = p };
      same = cc;
    })
    (λ p. nothing-not (rw p at e))

-- What is read as an IRI is one.
pub iri-read : (cs : List ℕ) (t : Text) (rest : List ℕ) → read_iri cs ≡ read t rest → IriRead cs t rest
unfolding read_iri
iri-read [] t rest e = nothing-not e
iri-read (c ∷ cs) t rest e =
    by_test (eqb c (code "<"))
    (λ p. iri_of_lem c cs t rest (scan iri_step outside cs) refl (eqb-true c (code "<") p) (rw p at e))
    (λ p. nothing-not (rw p at e))

-- An IRI is read, whatever stands behind it.
pub read_iri_lem : (u cs r : List ℕ) → Iri u cs → read_iri (u ++ r) ≡ read (text 0 (iri_text cs)) r
unfolding read_iri iri_of codes
read_iri_lem u cs r I = rw (I.spelled, append_assoc I.inside (code ">" ∷ []) r, scan_iri I.inside cs r I.resolved, I.absolute)

-- ---- blank nodes

-- A term that was read, what stands behind it, and what it means.
pub record TermRead (cs : List ℕ) (t : Text) (rest : List ℕ) : Type 0 where
  pub term : List ℕ
  pub spelled : cs ≡ term ++ rest
  pub means : Means term t

-- The same of a subject.
pub record SubjectRead (cs : List ℕ) (t : Text) (rest : List ℕ) : Type 0 where
  pub term : List ℕ
  pub spelled : cs ≡ term ++ rest
  pub means : Means term t
  pub matched : Matches subject term

blank_matches : (d : ℕ) (cs ls r : List ℕ) → (is_pn_chars_u d || is_digit d) ≡ true → label cs ≡ got ls r → Matches BLANK_NODE_LABEL (codes "_:" ++ (d ∷ ls))
blank_matches d cs ls r h e =
    record {
      front = codes "_:";
      back = d ∷ ls;
      spelled = refl;
      first = refl;
      second = record { front = d ∷ []; back = ls; spelled = refl; first = label_first.back (d ∷ []) (record { char = d; spelled = refl; allowed = h }); second = (labelled cs ls r e).matched };
    }

blank_of_lem : (c d : ℕ) (cs : List ℕ) (t : Text) (rest : List ℕ) (g : Got) → label cs ≡ g → c ≡ code ":" → (is_pn_chars_u d || is_digit d) ≡ true → blank_of d g ≡ read t rest → SubjectRead (code "_" ∷ c ∷ d ∷ cs) t rest
unfolding blank_of codes
blank_of_lem c d cs t rest none h l m e = nothing-not e
blank_of_lem c d cs t rest (got ls r) h l m e =
    let q : r ≡ rest = cc in
    let n = blank_matches d cs ls r m h in
    record {
      term = codes "_:" ++ (d ∷ ls);
      spelled = rw l (ap (λ x. code "_" ∷ code ":" ∷ d ∷ x) ((labelled cs ls r h).spelled ∙ ap (λ x. ls ++ x) q));
      means = Means.blank (d ∷ ls) n refl (cc);
      matched = inr n;
    }

blank-read : (cs : List ℕ) (t : Text) (rest : List ℕ) → read_blank cs ≡ read t rest → SubjectRead (code "_" ∷ cs) t rest
unfolding read_blank
blank-read [] t rest e = nothing-not e
blank-read (c ∷ []) t rest e = nothing-not e
blank-read (c ∷ d ∷ cs) t rest e =
    by_test (eqb c (code ":") && (is_pn_chars_u d || is_digit d))
    (λ p. blank_of_lem c d cs t rest (label cs) refl (eqb-true c (code ":") (and_left _ (is_pn_chars_u d || is_digit d) p)) (and_right (eqb c (code ":")) _ p) (rw p at e))
    (λ p. nothing-not (rw p at e))

-- What is read as a subject is one.
pub subject-read : (cs : List ℕ) (t : Text) (rest : List ℕ) → read_subject cs ≡ read t rest → SubjectRead cs t rest
unfolding read_subject
subject-read [] t rest e = nothing-not e
subject-read (c ∷ cs) t rest e =
    by_test (eqb c (code "_"))
    (λ p. rw (eqb-true c (code "_") p) (blank-read cs t rest (rw p at e)))
    (λ p. let i = iri-read (c ∷ cs) t rest (rw p at e) in
    record { term = i.term; spelled = i.spelled; means = Means.iri i.chars i.iri i.same; matched = inl (iri_matches i.term i.chars i.iri) })

-- A blank node is read, where no label goes on behind it.
read_blank_lem : (u ls r : List ℕ) → Matches BLANK_NODE_LABEL u → u ≡ codes "_:" ++ ls → label r ≡ got [] r → read_subject (u ++ r) ≡ read (text 1 (blank_text ls)) r
unfolding read_subject read_blank blank_of codes
read_blank_lem u ls r m s h =
    let d = label_first.out m.second.front m.second.first in
    let b : m.second.front ++ m.second.back ≡ ls = append_cancel_left (codes "_:") _ _ (sym (ap (λ x. x ++ (m.second.front ++ m.second.back)) m.first) ∙ ap (λ x. m.front ++ x) (sym m.second.spelled) ∙ sym m.spelled ∙ s) in
    rw (s, ← b, d.spelled, d.allowed, label-read m.second.back r m.second.second h)

-- ---- literals

-- Lists joined one by one, or the last with all before it.
regroup : (string r w mark a rest k : List ℕ) → r ≡ w ++ k → k ≡ mark ++ (a ++ rest) → string ++ r ≡ string ++ (w ++ (mark ++ a)) ++ rest
regroup string r w mark a rest k h l = rw (h, l) (simp append_assoc)

module _ (string cs r : List ℕ) (Q : Quoted string cs) where
  suffix_plain : (t : Text) (rest : List ℕ) → read (text 2 (string_text cs)) r ≡ read t rest → TermRead (string ++ r) t rest
  suffix_plain t rest e = let q : r ≡ rest = cc in record { term = string; spelled = ap (λ x. string ++ x) q; means = Means.plain cs Q (cc) }

  suffix-tag : (c : ℕ) (us : List ℕ) (t : Text) (rest : List ℕ) (g : Got) → skip r ≡ c ∷ us → c ≡ code "@" → head_is is_letter us ≡ true → tag is_letter us ≡ g → tagged_of (string_text cs) g ≡ read t rest → TermRead (string ++ r) t rest
  unfolding tagged_of codes
  suffix-tag c us t rest none h l k j e = nothing-not e
  suffix-tag c us t rest (got ls x) h l k j e =
      let w = skipped r in
      let g = tagged us is_letter ls x j in
      let a = g.front ++ g.back in
      let q : x ≡ rest = cc in
      let s : us ≡ a ++ rest = g.spelled ∙ sym (append_assoc g.front g.back x) ∙ ap (λ y. a ++ y) q in
      record {
        term = string ++ (w.white ++ (codes "@" ++ a));
        spelled = regroup string r w.white (codes "@") a rest (skip r) w.spelled (h ∙ ap (λ y. y ∷ us) l ∙ ap (λ y. code "@" ∷ y) s);
        means =
            Means.tagged string cs w.white a refl Q w.matched
            (record { front = codes "@"; back = a; spelled = refl; first = refl; second = record { front = g.front; back = g.back; spelled = refl; first = g.begun k; second = g.groups } })
            (let z : text 2 (tagged_text (string_text cs) ls) ≡ t = cc in sym z ∙ ap (λ y. text 2 (tagged_text (string_text cs) y)) g.lower);
      }

  suffix_type : (c d : ℕ) (us : List ℕ) (t : Text) (rest : List ℕ) (i : Read) → skip r ≡ c ∷ d ∷ us → c ≡ code "^" → d ≡ code "^" → read_iri (skip us) ≡ i → typed_of (string_text cs) i ≡ read t rest → TermRead (string ++ r) t rest
  unfolding typed_of codes
  suffix_type c d us t rest nothing h l k j e = nothing-not e
  suffix_type c d us t rest (read type x) h l k j e =
      let w = skipped r in
      let v = skipped us in
      let i = iri-read (skip us) type x j in
      let q : x ≡ rest = cc in
      let s : us ≡ (v.white ++ i.term) ++ rest = v.spelled ∙ ap (λ y. v.white ++ y) (i.spelled ∙ ap (λ y. i.term ++ y) q) ∙ sym (append_assoc v.white i.term rest) in
      record {
        term = string ++ (w.white ++ (codes "^^" ++ (v.white ++ i.term)));
        spelled = regroup string r w.white (codes "^^") (v.white ++ i.term) rest (skip r) w.spelled (h ∙ ap (λ y. y ∷ d ∷ us) l ∙ ap (λ y. code "^" ∷ y ∷ us) k ∙ ap (λ y. code "^" ∷ code "^" ∷ y) s);
        means =
            Means.typed string cs w.white v.white i.term i.chars refl Q w.matched v.matched i.iri
            (let z : text 2 (typed_text (string_text cs) type.bytes) ≡ t = cc in sym z ∙ ap (λ (y : Text). text 2 (typed_text (string_text cs) y.bytes)) i.same);
      }

  type_suffix : (c : ℕ) (us : List ℕ) (t : Text) (rest : List ℕ) → skip r ≡ c ∷ us → c ≡ code "^" → read_type (string_text cs) us ≡ read t rest → TermRead (string ++ r) t rest
  unfolding read_type
  type_suffix c [] t rest h l e = nothing-not e
  type_suffix c (d ∷ us) t rest h l e =
      by_test (eqb d (code "^"))
      (λ p. suffix_type c d us t rest (read_iri (skip us)) h l (eqb-true d (code "^") p) refl (rw p at e))
      (λ p. nothing-not (rw p at e))

  suffix_read : (k : List ℕ) (t : Text) (rest : List ℕ) → skip r ≡ k → suffixed (string_text cs) (read (text 2 (string_text cs)) r) k ≡ read t rest → TermRead (string ++ r) t rest
  unfolding suffixed
  suffix_read [] t rest h e = suffix_plain t rest e
  suffix_read (c ∷ us) t rest h e =
      by_test (eqb c (code "@"))
      (λ p. by_test (head_is is_letter us)
      (λ q. suffix-tag c us t rest (tag is_letter us) h (eqb-true c (code "@") p) q refl (rw (p, q) at e))
      (λ q. nothing-not (rw (p, q) at e)))
      (λ p. by_test (eqb c (code "^"))
      (λ q. type_suffix c us t rest h (eqb-true c (code "^") q) (rw (p, q) at e))
      (λ q. suffix_plain t rest (rw (p, q) at e)))

literal_of_lem : (c : ℕ) (us : List ℕ) (t : Text) (rest : List ℕ) (g : Got) → scan string_step outside us ≡ g → c ≡ code "\"" → literal_of g ≡ read t rest → TermRead (c ∷ us) t rest
unfolding literal_of codes
literal_of_lem c us t rest none h l e = nothing-not e
literal_of_lem c us t rest (got cs r) h l e =
    let s = string_scanned us cs r h in
    let i = suffix_read (c ∷ (s.inside ++ (code "\"" ∷ []))) cs r (record { inside = s.inside; spelled = rw l; resolved = s.resolved }) (skip r) t rest refl e in
    record { term = i.term; spelled = ap (λ x. c ∷ x) (s.spelled ∙ sym (append_assoc s.inside (code "\"" ∷ []) r)) ∙ i.spelled; means = i.means }

-- What is read as an object is one.
pub object-read : (cs : List ℕ) (t : Text) (rest : List ℕ) → read_object cs ≡ read t rest → TermRead cs t rest
unfolding read_object
object-read [] t rest e = nothing-not e
object-read (c ∷ cs) t rest e =
    by_test (eqb c (code "\""))
    (λ p. literal_of_lem c cs t rest (scan string_step outside cs) refl (eqb-true c (code "\"") p) (rw p at e))
    (λ p. let i = subject-read (c ∷ cs) t rest (rw p at e) in record { term = i.term; spelled = i.spelled; means = i.means })

-- Where a term ends: no label and no tag goes on, and no suffix follows.
pub record Ends (r : List ℕ) : Type 0 where
  pub no_label : label r ≡ got [] r
  pub no_tag : NoTag r
  pub no_suffix : (string : List ℕ) (plain : Read) → suffixed string plain (skip r) ≡ plain

-- A string begins a literal.
string_begins : (string cs x : List ℕ) → Quoted string cs → read_object (string ++ x) ≡ suffixed (string_text cs) (read (text 2 (string_text cs)) x) (skip x)
unfolding read_object literal_of codes
string_begins string cs x Q = rw (Q.spelled, append_assoc Q.inside (code "\"" ∷ []) x, scan_string Q.inside cs x Q.resolved)

-- An object by its first character.
object_iri : (u cs r : List ℕ) → Iri u cs → read_object (u ++ r) ≡ read_iri (u ++ r)
unfolding read_object read_subject codes
object_iri u cs r I = rw I.spelled

object_blank : (u ls r : List ℕ) → u ≡ codes "_:" ++ ls → read_object (u ++ r) ≡ read_subject (u ++ r)
unfolding read_object codes
object_blank u ls r s = rw s

-- The tag behind "@".
tag_behind : (ls : List ℕ) → Matches LANGTAG (codes "@" ++ ls) → Matches tag_rest ls
tag_behind ls m = subst (Matches tag_rest) (append_cancel_left (codes "@") m.back ls (ap (λ x. x ++ m.back) (sym m.first) ∙ sym m.spelled)) m.second

-- White space in front of a mark.
skip_mark : (w : List ℕ) (c : ℕ) (r : List ℕ) → Matches WS w → is_one_of (codes "\t ") c ≡ false → skip (w ++ (c ∷ r)) ≡ c ∷ r
skip_mark w c r m h = skip_white w (c ∷ r) m ∙ skip_keeps c r h

read_tagged : (string cs w ls r : List ℕ) → Quoted string cs → Matches WS w → Matches tag_rest ls → NoTag r → read_object (string ++ (w ++ (codes "@" ++ ls)) ++ r) ≡ read (text 2 (tagged_text (string_text cs) (map lower_char ls))) r
unfolding suffixed tagged_of codes is_one_of
read_tagged string cs w ls r Q m n N =
    rw (append_assoc string (w ++ (code "@" ∷ ls)) r, append_assoc w (code "@" ∷ ls) r, string_begins string cs (w ++ (code "@" ∷ (ls ++ r))) Q, skip_mark w (code "@") (ls ++ r) m refl, tag-head ls r n, tag_read ls r n N)

-- A datatype is read behind its string, with white space around "^^".
pub typed_begins : (string cs w w' type later r : List ℕ) → Quoted string cs → Matches WS w → Matches WS w' → type ≡ code "<" ∷ later → read_object (string ++ (w ++ (codes "^^" ++ (w' ++ type))) ++ r) ≡ typed_of (string_text cs) (read_iri (type ++ r))
unfolding suffixed read_type codes is_one_of
typed_begins string cs w w' type later r Q m n e =
    let k : skip (type ++ r) ≡ type ++ r = ap (λ x. skip (x ++ r)) e ∙ skip_keeps (code "<") (later ++ r) refl ∙ ap (λ x. x ++ r) (sym e) in
    rw (append_assoc string (w ++ (code "^" ∷ code "^" ∷ (w' ++ type))) r, append_assoc w (code "^" ∷ code "^" ∷ (w' ++ type)) r, append_assoc w' type r, string_begins string cs (w ++ (code "^" ∷ code "^" ∷ (w' ++ (type ++ r)))) Q, skip_mark w (code "^") (code "^" ∷ (w' ++ (type ++ r))) m refl, skip_white w' (type ++ r) n, k)

read_typed : (string cs w w' type ds r : List ℕ) → Quoted string cs → Matches WS w → Matches WS w' → Iri type ds → read_object (string ++ (w ++ (codes "^^" ++ (w' ++ type))) ++ r) ≡ read (text 2 (typed_text (string_text cs) (iri_text ds))) r
unfolding typed_of codes
read_typed string cs w w' type ds r Q m n I = typed_begins string cs w w' type (I.inside ++ (code ">" ∷ [])) r Q m n I.spelled ∙ rw (read_iri_lem type ds r I)

-- A term is read as what it means, where it ends.
pub read-object : (u : List ℕ) (t : Text) (r : List ℕ) → Means u t → Ends r → read_object (u ++ r) ≡ read t r
read-object u t r (Means.iri cs I e) E = rw e (object_iri u cs r I ∙ read_iri_lem u cs r I)
read-object u t r (Means.blank ls m s e) E = rw e (object_blank u ls r s ∙ read_blank_lem u ls r m s E.no_label)
read-object u t r (Means.plain cs Q e) E = rw e (string_begins u cs r Q ∙ E.no_suffix _ _)
read-object u t r (Means.tagged string cs w ls s Q m n e) E = rw (e, s) (read_tagged string cs w ls r Q m (tag_behind ls n) E.no_tag)
read-object u t r (Means.typed string cs w w' type ds s Q m n I e) E = rw (e, s) (read_typed string cs w w' type ds r Q m n I)

-- ---- subjects and predicates

-- Where a term begins: an IRI, a label or a string.
iri_begins : (u : List ℕ) → Matches IRIREF u → get_or u 0 0 ≡ code "<"
unfolding codes
iri_begins u m = rw (m.spelled, m.first)

blank_begins : (u : List ℕ) → Matches BLANK_NODE_LABEL u → get_or u 0 0 ≡ code "_"
unfolding codes
blank_begins u m = rw (m.spelled, m.first)

literal_begins : (u string cs x : List ℕ) → u ≡ string ++ x → Quoted string cs → get_or u 0 0 ≡ code "\""
unfolding codes
literal_begins u string cs x e Q = rw (e, Q.spelled)

-- A subject is no literal.
pub subject-not : {C : Type 0} (u string cs x : List ℕ) → Matches subject u → u ≡ string ++ x → Quoted string cs → C
subject-not u string cs x m e Q =
    let q = literal_begins u string cs x e Q in
    ⊎_elim (λ i. let p = iri_begins u i in absurd (omega (arith, p, q))) (λ b. let p = blank_begins u b in absurd (omega (arith, p, q))) m

subject_iri : (u cs r : List ℕ) → Iri u cs → read_subject (u ++ r) ≡ read_iri (u ++ r)
unfolding read_subject codes
subject_iri u cs r I = rw I.spelled

-- A subject is read as what it means, where no label goes on behind it.
pub read-subject : (u : List ℕ) (t : Text) (r : List ℕ) → Matches subject u → Means u t → label r ≡ got [] r → read_subject (u ++ r) ≡ read t r
read-subject u t r k (Means.iri cs I e) h = rw e (subject_iri u cs r I ∙ read_iri_lem u cs r I)
read-subject u t r k (Means.blank ls m s e) h = rw e (read_blank_lem u ls r m s h)
read-subject u t r k (Means.plain cs Q e) h = subject-not u u cs [] k (sym (append-nil u)) Q
read-subject u t r k (Means.tagged string cs w ls s Q m n e) h = subject-not u string cs _ k s Q
read-subject u t r k (Means.typed string cs w w' type ds s Q m n I e) h = subject-not u string cs _ k s Q

-- A predicate is read as what it means.
pub read-predicate : (u : List ℕ) (t : Text) (r : List ℕ) → Matches predicate u → Means u t → read_iri (u ++ r) ≡ read t r
read-predicate u t r k (Means.iri cs I e) = rw e (read_iri_lem u cs r I)
read-predicate u t r k (Means.blank ls m s e) = let p = iri_begins u k in let q = blank_begins u m in absurd (omega (arith, p, q))
read-predicate u t r k (Means.plain cs Q e) = subject-not u u cs [] (inl k) (sym (append-nil u)) Q
read-predicate u t r k (Means.tagged string cs w ls s Q m n e) = subject-not u string cs _ (inl k) s Q
read-predicate u t r k (Means.typed string cs w w' type ds s Q m n I e) = subject-not u string cs _ (inl k) s Q

-- The first character of a term.
pub record Begins (u : List ℕ) : Type 0 where
  pub char : ℕ
  pub later : List ℕ
  pub spelled : u ≡ char ∷ later
  pub mark : is_one_of (codes "<_\"") char ≡ true

pub begins : (u : List ℕ) → Matches object u → Begins u
unfolding codes is_one_of
begins u m =
    ⊎_elim
    (λ i. record { char = code "<"; later = i.back; spelled = i.spelled ∙ ap (λ x. x ++ i.back) i.first; mark = refl })
    (λ n. ⊎_elim
    (λ b. record { char = code "_"; later = code ":" ∷ b.back; spelled = b.spelled ∙ ap (λ x. x ++ b.back) b.first; mark = refl })
    (λ l. record { char = code "\""; later = l.first.back ++ l.back; spelled = l.spelled ∙ ap (λ x. x ++ l.back) (l.first.spelled ∙ ap (λ x. x ++ l.first.back) l.first.first); mark = refl })
    n)
    m
