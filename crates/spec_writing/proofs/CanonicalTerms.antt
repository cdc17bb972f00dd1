-- The text of a term, as characters: they mean the term, are canonical and stand in one line (spell_term, at the end). Assumes nothing.
use Prim.Native.Nat.{ℕ, zero, suc, ◌≤◌}
use Prim.Native.Char.{code}
use mathlib.Core.Path.{◌≡◌, refl, sym, ap, ◌∙◌, subst}
use mathlib.Core.Bool.{Bool, true, false, not}
use mathlib.Core.Logic.{inl, inr}
use mathlib.Core.List.{List, [], ◌∷◌, ◌++◌, map}
use native.Mathlib.Omega.{arith}
use lib.Dec.{eqb, ltb}
use borrow.Author.Tests.{eqb-true}
use Rattle.spec.specs.Lists.{all}
use Rattle.spec.proofs.Lists.{cond_elim, by_test}
use Rattle.spec.proofs.TableAll.{all_append}
use Rattle.spec_ntriples.specs.Utf8.{is_between, is_scalar, encode_char, utf8}
use Rattle.spec_ntriples.specs.computed.Decoded.{decoded, decode}
use Rattle.spec_ntriples.specs.Characters.{codes, is_one_of, is_letter, is_letter_or_digit, is_iri_char, is_string_char, is_pn_chars_base, echar}
use Rattle.spec_ntriples.specs.Texts.{lower_char, Text, text, is_same_text, iri_text, blank_text, string_text, tagged_text, xsd_string, typed_text}
use Rattle.spec_ntriples.specs.Expressions.{Expression, Matches, times}
use Rattle.spec_ntriples.specs.Productions.{HEX, UCHAR, ECHAR, IRIREF, STRING_LITERAL_QUOTE, PN_CHARS_U, PN_CHARS, BLANK_NODE_LABEL, LANGTAG, WS, subject, predicate, literal, object}
use Rattle.spec_ntriples.specs.Dictionary.{kind_of}
use Rattle.spec_ntriples.specs.Meaning.{Echar, Resolves, Iri, Quoted, Means, is_one_line}
use Rattle.spec_ntriples.specs.computed.Canonical.{is_canonical}
use Rattle.spec_ntriples.proofs.Decoding.{decode-encode}
use Rattle.spec_ntriples.proofs.Escapes.{test_apart}
use Rattle.spec_ntriples.proofs.Terms.{iri_matches, means-object}
use Rattle.spec_ntriples.proofs.Respelling.{encode-append, encode_ascii, all_front, all_back, Within, within_all, tag-lower, tag_ascii, iri_chars, Respelled, respell_char, respell, string_chars, respell_scalar, respell_bytes, ascii_scalar, respell_term}
use Rattle.spec_ntriples.proofs.Canonical.{canonical_means, means-kind}
use Rattle.spec_writing.specs.CanonicalForm.{CanonicalIri, CanonicalPiece, CanonicalString, CanonicalTerm}

-- ---- characters by their bytes

-- Scalar values are fixed by their bytes.
pub same_chars : (cs ds : List ℕ) → all is_scalar cs ≡ true → all is_scalar ds ≡ true → utf8 cs ≡ utf8 ds → cs ≡ ds
same_chars cs ds h k e =
    let a : decode (utf8 cs) ≡ decoded cs = (decode-encode (utf8 cs) cs).1 (h, refl) in
    let b : decode (utf8 cs) ≡ decoded ds = (decode-encode (utf8 cs) ds).1 (k, e) in
    let c : decoded cs ≡ decoded ds = sym a ∙ b in
    cc

-- ---- IRIs and strings

canonical_iri : (u cs : List ℕ) → all is_scalar u ≡ true → Iri u cs → Respelled CanonicalIri (iri_text cs)
unfolding codes all is_scalar iri_text utf8 encode_char
canonical_iri u cs h I =
    let k = all_front is_scalar I.inside (codes ">") (all_back is_scalar (codes "<") (I.inside ++ codes ">") (rw I.spelled at h)) in
    let c = iri_chars I.inside cs k I.resolved in
    record {
      chars = codes "<" ++ (cs ++ codes ">");
      spells = record { chars = cs; spelled = refl; direct = c.0 };
      scalar = all_append is_scalar cs (codes ">") c.1 refl;
      same = ap (λ x. code "<" ∷ x) (sym (encode-append cs (codes ">")));
    }

-- An escape by a letter.
escaped : (l c : ℕ) → is_one_of (codes "tbnrf\"'\\") l ≡ true → echar l ≡ c → Echar (code "\\" ∷ l ∷ []) c
unfolding codes
escaped l c h e =
    record { matched = record { front = codes "\\"; back = l ∷ []; spelled = refl; first = refl; second = record { char = l; spelled = refl; allowed = h } }; letter = e }

canonical_piece : (c : ℕ) → CanonicalPiece (respell_char c) c
unfolding respell_char codes echar is_one_of is_string_char
canonical_piece c =
    cond_elim (λ p. CanonicalPiece p c) (eqb c 0x22) (λ p. CanonicalPiece.by_echar (escaped (code "\"") c refl (sym (eqb-true c 0x22 p))) (rw p))
    (λ p. cond_elim (λ p. CanonicalPiece p c) (eqb c 0x5C) (λ q. CanonicalPiece.by_echar (escaped (code "\\") c refl (sym (eqb-true c 0x5C q))) (rw (p, q)))
    (λ q. cond_elim (λ p. CanonicalPiece p c) (eqb c 0x0A) (λ r. CanonicalPiece.by_echar (escaped (code "n") c refl (sym (eqb-true c 0x0A r))) (rw (p, q, r)))
    (λ r. cond_elim (λ p. CanonicalPiece p c) (eqb c 0x0D) (λ s. CanonicalPiece.by_echar (escaped (code "r") c refl (sym (eqb-true c 0x0D s))) (rw (p, q, r, s)))
    (λ s. CanonicalPiece.itself refl (rw (p, q, r, s))))))

canonical_pieces : (cs : List ℕ) → Resolves CanonicalPiece (respell cs) cs
unfolding respell
canonical_pieces [] = Resolves.end refl
canonical_pieces (c ∷ cs) = Resolves.more (respell_char c) (respell cs) c refl (canonical_piece c) (canonical_pieces cs)

canonical_string : (u cs : List ℕ) → all is_scalar u ≡ true → Quoted u cs → Respelled CanonicalString (string_text cs)
unfolding codes all is_scalar string_text utf8 encode_char
canonical_string u cs h Q =
    let k = all_front is_scalar Q.inside (codes "\"") (all_back is_scalar (codes "\"") (Q.inside ++ codes "\"") (rw Q.spelled at h)) in
    record {
      chars = codes "\"" ++ (respell cs ++ codes "\"");
      spells = record { inside = respell cs; chars = cs; spelled = refl; resolved = canonical_pieces cs };
      scalar = all_append is_scalar (respell cs) (codes "\"") (respell_scalar cs (string_chars Q.inside cs k Q.resolved)) refl;
      same = ap (λ x. code "\"" ∷ x) (ap (λ x. x ++ codes "\"") (respell_bytes cs) ∙ sym (encode-append (respell cs) (codes "\"")));
    }

-- ---- terms

canonical_tagged : (string cs ls : List ℕ) → all is_scalar string ≡ true → Quoted string cs → Matches LANGTAG (codes "@" ++ ls) → Respelled CanonicalTerm (tagged_text (string_text cs) (map lower_char ls))
unfolding codes tagged_text lower_char
canonical_tagged string cs ls h Q m =
    let q = canonical_string string cs h Q in
    let l = map lower_char ls in
    let n : Matches LANGTAG (codes "@" ++ l) = tag-lower (codes "@" ++ ls) m in
    let a : all (λ c. ltb c 0x80) (codes "@" ++ l) ≡ true = tag_ascii (codes "@" ++ l) n in
    record {
      chars = q.chars ++ (codes "@" ++ l);
      spells = CanonicalTerm.tagged q.chars (codes "@" ++ l) refl q.spells n;
      scalar = all_append is_scalar q.chars (codes "@" ++ l) q.scalar (ascii_scalar (codes "@" ++ l) a);
      same = ap (λ x. x ++ (codes "@" ++ l)) q.same ∙ ap (λ x. utf8 q.chars ++ x) (sym (encode_ascii (codes "@" ++ l) a)) ∙ sym (encode-append q.chars (codes "@" ++ l));
    }

canonical_typed : (string cs type ds : List ℕ) → all is_scalar string ≡ true → all is_scalar type ≡ true → Quoted string cs → Iri type ds → Respelled CanonicalTerm (typed_text (string_text cs) (iri_text ds))
unfolding codes typed_text utf8 encode_char all is_scalar
canonical_typed string cs type ds h k Q I =
    let q = canonical_string string cs h Q in
    let i = canonical_iri type ds k I in
    by_test (is_same_text (iri_text ds) xsd_string)
    (λ p. record { chars = q.chars; spells = CanonicalTerm.plain q.spells; scalar = q.scalar; same = rw p q.same })
    (λ p. record {
      chars = q.chars ++ (codes "^^" ++ i.chars);
      spells = CanonicalTerm.typed q.chars i.chars refl q.spells i.spells;
      scalar = all_append is_scalar q.chars (codes "^^" ++ i.chars) q.scalar i.scalar;
      same = rw p (ap (λ x. x ++ (codes "^^" ++ iri_text ds)) q.same ∙ ap (λ x. utf8 q.chars ++ (codes "^^" ++ x)) i.same ∙ sym (encode-append q.chars (codes "^^" ++ i.chars)));
    })

-- The text that a term means is that of canonical characters.
canonical_term : (u : List ℕ) (t : Text) → all is_scalar u ≡ true → Means u t → Respelled CanonicalTerm t.bytes
unfolding codes blank_text utf8 encode_char
canonical_term u t h (Means.iri cs I e) =
    let i = canonical_iri u cs h I in
    record { chars = i.chars; spells = CanonicalTerm.iri i.spells; scalar = i.scalar; same = ap (λ (x : Text). x.bytes) e ∙ i.same }
canonical_term u t h (Means.blank ls m s e) =
    record { chars = u; spells = CanonicalTerm.blank m; scalar = h; same = ap (λ (x : Text). x.bytes) e ∙ ap utf8 (sym s) }
canonical_term u t h (Means.plain cs Q e) =
    let q = canonical_string u cs h Q in
    record { chars = q.chars; spells = CanonicalTerm.plain q.spells; scalar = q.scalar; same = ap (λ (x : Text). x.bytes) e ∙ q.same }
canonical_term u t h (Means.tagged string cs w ls s Q m n e) =
    rw e (canonical_tagged string cs ls (all_front is_scalar string _ (rw s at h)) Q n)
canonical_term u t h (Means.typed string cs w w' type ds s Q m n I e) =
    let k : all is_scalar (string ++ (w ++ (codes "^^" ++ (w' ++ type)))) ≡ true = rw s at h in
    rw e (canonical_typed string cs type ds (all_front is_scalar string _ k) (all_back is_scalar w' type (all_back is_scalar (codes "^^") (w' ++ type) (all_back is_scalar w _ (all_back is_scalar string _ k)))) Q I)

-- ---- one line

-- A set without CR and LF ends no line.
no_end : (test : ℕ → Bool) → test 10 ≡ false → test 13 ≡ false → (c : ℕ) → test c ≡ true → not (is_one_of (codes "\r\n") c) ≡ true
unfolding codes is_one_of
no_end test h k c e = rw (test_apart test c 13 e k, test_apart test c 10 e h)

-- An expression whose characters end no line.
abbrev Inline : Expression → Type 0
Inline e = Within (λ c. not (is_one_of (codes "\r\n") c)) e

times_inline : (n : ℕ) (e : Expression) → Inline e → Inline (times n e)
unfolding times all
times_inline zero e h = refl
times_inline (suc n) e h = (h, times_inline n e h)

uchar_inline : Inline UCHAR
unfolding codes is_one_of all
uchar_inline =
    let hex : Inline HEX = (no_end (is_between 48 57) refl refl, (no_end (is_between 65 70) refl refl, no_end (is_between 97 102) refl refl)) in
    ((refl, times_inline 4 HEX hex), (refl, times_inline 8 HEX hex))

iri_inline : Inline IRIREF
unfolding codes is_one_of all is_iri_char
iri_inline = (refl, ((no_end is_iri_char refl refl, uchar_inline), refl))

blank_inline : Inline BLANK_NODE_LABEL
unfolding codes is_one_of all is_pn_chars_base
blank_inline =
    let first : Inline PN_CHARS_U = (no_end is_pn_chars_base refl refl, (refl, refl)) in
    let digit = no_end (is_between 48 57) refl refl in
    let later : Inline PN_CHARS =
    (first, (refl, (digit, (refl, (no_end (is_between 0x0300 0x036F) refl refl, no_end (is_between 0x203F 0x2040) refl refl))))) in
    (refl, ((first, digit), (refl, ((later, refl), later))))

literal_inline : Inline literal
unfolding codes is_one_of all is_string_char
literal_inline =
    let echar : Inline ECHAR = (refl, no_end (is_one_of (codes "tbnrf\"'\\")) refl refl) in
    let string : Inline STRING_LITERAL_QUOTE = (refl, ((no_end is_string_char refl refl, (echar, uchar_inline)), refl)) in
    let white : Inline WS = no_end (is_one_of (codes "\t ")) refl refl in
    let letter = no_end is_letter refl refl in
    let other = no_end is_letter_or_digit refl refl in
    let tag : Inline LANGTAG = (refl, ((letter, letter), (refl, (other, other)))) in
    (string, (refl, (white, ((refl, (white, iri_inline)), tag))))

-- The characters of a term end no line.
pub object_one_line : (u : List ℕ) → Matches object u → is_one_line u ≡ true
object_one_line u m = within_all (λ c. not (is_one_of (codes "\r\n") c)) object (iri_inline, (blank_inline, literal_inline)) u m

-- ---- texts

-- The characters of a text.
pub record Spelled (t : Text) : Type 0 where
  pub chars : List ℕ
  pub means : Means chars t
  pub canonical : CanonicalTerm chars
  pub scalar : all is_scalar chars ≡ true
  pub one_line : is_one_line chars ≡ true
  pub same : t.bytes ≡ utf8 chars

spell : (u : List ℕ) (t : Text) → all is_scalar u ≡ true → Means u t → Spelled t
spell u t h m =
    let r = respell_term u t h m in
    let c = canonical_term u t h m in
    let e : c.chars ≡ r.chars = same_chars c.chars r.chars c.scalar r.scalar (sym c.same ∙ r.same) in
    record {
      chars = r.chars;
      means = r.spells;
      canonical = subst CanonicalTerm e c.spells;
      scalar = r.scalar;
      one_line = object_one_line r.chars (means-object r.chars t r.spells);
      same = r.same;
    }

-- A canonical text, with its kind, is that of characters that mean it, are canonical and stand in one line.
pub spell_term : (t : Text) → is_canonical t.bytes ≡ true → kind_of t.bytes ≡ t.kind → Spelled t
spell_term t c k =
    let T = (canonical_means t.bytes).0 c in
    let i : T.term.kind ≡ t.kind = sym (means-kind T.spelling T.term T.means) ∙ ap kind_of T.same ∙ k in
    let e : T.term ≡ t = ap (λ (n : ℕ). text n T.term.bytes) i ∙ ap (text t.kind) T.same in
    subst Spelled e (spell T.spelling T.term T.scalar T.means)

-- ---- subjects and predicates

-- No literal has the kind of a URI or blank node.
no_literal : {C : Type 0} (t : Text) (bs : List ℕ) → t ≡ text 2 bs → t.kind ≤ 1 → C
no_literal t bs e h = let k : t.kind ≡ 2 = ap (λ (x : Text). x.kind) e in absurd (omega (arith, h, k))

pub means-subject : (u : List ℕ) (t : Text) → Means u t → t.kind ≤ 1 → Matches subject u
means-subject u t (Means.iri cs I e) h = inl (iri_matches u cs I)
means-subject u t (Means.blank ls m s e) h = inr m
means-subject u t (Means.plain cs Q e) h = no_literal t _ e h
means-subject u t (Means.tagged string cs w ls s Q m n e) h = no_literal t _ e h
means-subject u t (Means.typed string cs w w' type ds s Q m n I e) h = no_literal t _ e h

pub means-predicate : (u : List ℕ) (t : Text) → Means u t → t.kind ≤ 0 → Matches predicate u
means-predicate u t (Means.iri cs I e) h = iri_matches u cs I
means-predicate u t (Means.blank ls m s e) h = let k : t.kind ≡ 1 = ap (λ (x : Text). x.kind) e in absurd (omega (arith, h, k))
means-predicate u t (Means.plain cs Q e) h = no_literal t _ e (omega (arith, h))
means-predicate u t (Means.tagged string cs w ls s Q m n e) h = no_literal t _ e (omega (arith, h))
means-predicate u t (Means.typed string cs w w' type ds s Q m n I e) h = no_literal t _ e (omega (arith, h))
