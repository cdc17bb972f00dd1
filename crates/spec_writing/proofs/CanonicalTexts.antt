-- A canonical term's bytes are the text that it means exactly where its tag is in lower case and its type is not xsd:string (term_exact,
-- means_normal). Assumes nothing.
use Prim.Native.Nat.{ℕ}
use Prim.Native.Char.{code}
use mathlib.Core.Path.{◌≡◌, refl, sym, ap, ◌∙◌, subst}
use mathlib.Core.Bool.{true, false}
use mathlib.Core.List.{List, [], ◌∷◌, ◌++◌, map, append-nil, append_cancel_left}
use native.Mathlib.Omega.{arith}
use lib.ListN.{length, length-append, get_or}
use Rattle.spec.specs.Lists.{all}
use Rattle.spec.proofs.Lists.{by_test, true-not_false}
use Rattle.spec_ntriples.specs.Utf8.{is_scalar, encode_char, utf8}
use Rattle.spec_ntriples.specs.Characters.{codes, is_one_of, is_string_char, echar}
use Rattle.spec_ntriples.specs.Texts.{lower_char, Text, text, is_same_text, is_absolute, iri_text, blank_text, string_text, tagged_text, xsd_string, typed_text}
use Rattle.spec_ntriples.specs.computed.Terminals.{got}
use Rattle.spec_ntriples.specs.computed.Lines.{read, iri_of, read_iri, typed_of, read_subject, read_object}
use Rattle.spec_ntriples.specs.Expressions.{Matches, Repeated}
use Rattle.spec_ntriples.specs.Productions.{LANGTAG, subject}
use Rattle.spec_ntriples.specs.Meaning.{StringPiece, Resolves, Iri, Quoted, Means}
use Rattle.spec_ntriples.specs.inside.Compute.{compute}
use Rattle.spec_ntriples.proofs.Escapes.{test_apart, each_one, scan_iri}
use Rattle.spec_ntriples.proofs.Terms.{nothing-not, typed_begins, read-object, subject-not}
use Rattle.spec_ntriples.proofs.LineRead.{nil_ends}
use Rattle.spec_ntriples.proofs.Respelling.{encode-append, encode_ascii, all_back, tag_ascii, iri_themselves, respell_char, respell, respell_bytes}
use Rattle.spec_ntriples.proofs.Canonical.{same_bytes}
use Rattle.spec_writing.specs.CanonicalForm.{CanonicalIri, CanonicalPiece, CanonicalString, CanonicalTerm}
use Rattle.spec_writing.specs.WritingPromises.{NormalTerm}
use Rattle.spec_writing.proofs.CanonicalTerms.{same_chars}

-- ---- strings

no : {C : Type 0} → false ≡ true → C
no e = absurd (true-not_false (sym e))

two_not_one : {C : Type 0} {a b c : ℕ} → a ∷ b ∷ [] ≡ c ∷ [] → C
two_not_one e = let z : ◌≡◌ {A = ℕ} 2 1 = ap length e in absurd (omega (arith, z))

-- A tab, a backspace, a form feed and an apostrophe are not escaped.
no_tab : CanonicalPiece (codes "\\t") 0x09 → ⊥
unfolding codes is_one_of
no_tab (CanonicalPiece.itself e a) = two_not_one e
no_tab (CanonicalPiece.by_echar E a) = no a

no_backspace : CanonicalPiece (codes "\\b") 0x08 → ⊥
unfolding codes is_one_of
no_backspace (CanonicalPiece.itself e a) = two_not_one e
no_backspace (CanonicalPiece.by_echar E a) = no a

no_form_feed : CanonicalPiece (codes "\\f") 0x0C → ⊥
unfolding codes is_one_of
no_form_feed (CanonicalPiece.itself e a) = two_not_one e
no_form_feed (CanonicalPiece.by_echar E a) = no a

no_apostrophe : CanonicalPiece (codes "\\'") 0x27 → ⊥
unfolding codes is_one_of
no_apostrophe (CanonicalPiece.itself e a) = two_not_one e
no_apostrophe (CanonicalPiece.by_echar E a) = no a

-- A canonical piece is the spelling of its character.
piece_exact : (p : List ℕ) (c : ℕ) → CanonicalPiece p c → p ≡ respell_char c
unfolding codes is_one_of is_string_char respell_char echar
piece_exact p c (CanonicalPiece.itself e a) = rw (test_apart is_string_char c 0x22 a refl, test_apart is_string_char c 0x5C a refl, test_apart is_string_char c 0x0A a refl, test_apart is_string_char c 0x0D a refl) e
piece_exact p c (CanonicalPiece.by_echar E a) =
    let m = E.matched in
    let s : p ≡ code "\\" ∷ m.second.char ∷ [] = m.spelled ∙ rw (m.first, m.second.spelled) in
    let t : echar m.second.char ≡ c = ap (λ x. echar (get_or x 1 0)) (sym s) ∙ E.letter in
    let P = subst (λ x. CanonicalPiece x (echar m.second.char)) s (subst (CanonicalPiece p) (sym t) (CanonicalPiece.by_echar E a)) in
    s
    ∙ each_one (λ x. CanonicalPiece (code "\\" ∷ x ∷ []) (echar x) → code "\\" ∷ x ∷ [] ≡ respell_char (echar x)) (codes "tbnrf\"'\\") m.second.char
    (λ i. absurd (no_tab i), (λ i. absurd (no_backspace i), (λ _. refl, (λ _. refl, (λ i. absurd (no_form_feed i), (λ _. refl, (λ i. absurd (no_apostrophe i), (λ _. refl, tt)))))))) m.second.allowed P
    ∙ ap respell_char t

pieces_exact : (u cs : List ℕ) → Resolves CanonicalPiece u cs → u ≡ respell cs
unfolding respell
pieces_exact u cs (Resolves.end e) = e
pieces_exact u cs (Resolves.more {cs = ds} p s c e m r) = rw (e, piece_exact p c m, pieces_exact s ds r)

-- The bytes of a canonical string are its text.
string_bytes : (u : List ℕ) (S : CanonicalString u) → string_text S.chars ≡ utf8 u
unfolding codes string_text utf8 encode_char
string_bytes u S =
    rw S.spelled
    (ap (λ x. code "\"" ∷ x)
    (ap (λ x. x ++ codes "\"") (respell_bytes S.chars ∙ ap utf8 (sym (pieces_exact S.inside S.chars S.resolved)))
    ∙ sym (encode-append S.inside (codes "\""))))

-- It is a string with its characters.
canonical_resolves : (u cs : List ℕ) → Resolves CanonicalPiece u cs → Resolves StringPiece u cs
canonical_resolves u cs (Resolves.end e) = Resolves.end e
canonical_resolves u cs (Resolves.more {cs = ds} p s c e m r) = Resolves.more p s c e (piece m) (canonical_resolves s ds r)
  where
    piece : CanonicalPiece p c → StringPiece p c
    piece (CanonicalPiece.itself f a) = StringPiece.itself f a
    piece (CanonicalPiece.by_echar E a) = StringPiece.by_echar E

string-quoted : (u : List ℕ) (S : CanonicalString u) → Quoted u S.chars
string-quoted u S = record { inside = S.inside; spelled = S.spelled; resolved = canonical_resolves S.inside S.chars S.resolved }

-- ---- IRIs

iri_bytes : (u : List ℕ) (I : CanonicalIri u) → iri_text I.chars ≡ utf8 u
unfolding codes iri_text utf8 encode_char
iri_bytes u I = rw I.spelled (ap (λ x. code "<" ∷ x) (sym (encode-append I.chars (codes ">"))))

-- A canonical IRI is read as its characters, where they are absolute.
iri-read_as : (u : List ℕ) (I : CanonicalIri u) → read_iri u ≡ iri_of (got I.chars [])
unfolding codes read_iri
iri-read_as u I = rw (I.spelled, scan_iri I.chars I.chars [] (iri_themselves I.chars I.direct))

object-read_as : (u : List ℕ) (I : CanonicalIri u) → read_object u ≡ iri_of (got I.chars [])
unfolding codes read_object read_subject
object-read_as u I = ap read_object I.spelled ∙ ap read_iri (sym I.spelled) ∙ iri-read_as u I

iri_is : (cs : List ℕ) (t : Text) → iri_of (got cs []) ≡ read t [] → t ≡ text 0 (iri_text cs)
unfolding iri_of
iri_is cs t e = by_test (is_absolute cs) (λ p. let f : read (text 0 (iri_text cs)) [] ≡ read t [] = rw p at e in cc) (λ p. nothing-not (rw p at e))

typed_is : (string cs : List ℕ) (t : Text) → typed_of string (iri_of (got cs [])) ≡ read t [] → t ≡ text 2 (typed_text string (iri_text cs))
unfolding iri_of typed_of
typed_is string cs t e = by_test (is_absolute cs) (λ p. let f : read (text 2 (typed_text string (iri_text cs))) [] ≡ read t [] = rw p at e in cc) (λ p. nothing-not (rw p at e))

-- ---- terms

-- A term means one text.
object_is : (u : List ℕ) (t : Text) → Means u t → read_object u ≡ read t []
object_is u t m = rw (append-nil u) at (read-object u t [] m nil_ends)

means_unique : (u : List ℕ) (t v : Text) → Means u t → Means u v → t ≡ v
means_unique u t v m n = let e : read t [] ≡ read v [] = sym (object_is u t m) ∙ object_is u v n in cc

bytes_of : (t : Text) (k : ℕ) (bs cs : List ℕ) → t ≡ text k bs → bs ≡ cs → t.bytes ≡ cs
bytes_of t k bs cs e f = ap (λ (x : Text). x.bytes) e ∙ f

tagged_exact : (u : List ℕ) (t : Text) (string tag : List ℕ) → u ≡ string ++ tag → (S : CanonicalString string) → Matches LANGTAG tag → NormalTerm u → Means u t → t.bytes ≡ utf8 u
unfolding codes tagged_text
tagged_exact u t string tag e S m N M =
    let ls = m.back in
    let g : tag ≡ codes "@" ++ ls = m.spelled ∙ ap (λ x. x ++ ls) m.first in
    let n : Matches LANGTAG (codes "@" ++ ls) = rw g at m in
    let f : u ≡ string ++ (codes "@" ++ ls) = e ∙ ap (λ x. string ++ x) g in
    let a = means_unique u t _ M (Means.tagged string S.chars [] ls f (string-quoted string S) (Repeated.end refl) n refl) in
    bytes_of t 2 _ (utf8 u) a
    (ap (λ x. string_text S.chars ++ (codes "@" ++ x)) (N.lower_case string ls f S n)
    ∙ ap (λ x. x ++ (codes "@" ++ ls)) (string_bytes string S)
    ∙ ap (λ x. utf8 string ++ x) (sym (encode_ascii (codes "@" ++ ls) (tag_ascii (codes "@" ++ ls) n)))
    ∙ sym (encode-append string (codes "@" ++ ls))
    ∙ ap utf8 (sym f))

typed_exact : (u : List ℕ) (t : Text) (string type : List ℕ) → all is_scalar u ≡ true → u ≡ string ++ (codes "^^" ++ type) → (S : CanonicalString string) → (I : CanonicalIri type) → NormalTerm u → Means u t → t.bytes ≡ utf8 u
unfolding codes typed_text utf8 encode_char all is_scalar
typed_exact u t string type h e S I N M =
    let a : read_object (string ++ ([] ++ (codes "^^" ++ ([] ++ type))) ++ []) ≡ typed_of (string_text S.chars) (read_iri (type ++ [])) =
    typed_begins string S.chars [] [] type (I.chars ++ (code ">" ∷ [])) [] (string-quoted string S) (Repeated.end refl) (Repeated.end refl) I.spelled in
    let b : read_object u ≡ typed_of (string_text S.chars) (read_iri type) =
    ap read_object (e ∙ sym (append-nil (string ++ (codes "^^" ++ type)))) ∙ a ∙ ap (λ x. typed_of (string_text S.chars) (read_iri x)) (append-nil type) in
    let c : t ≡ text 2 (typed_text (string_text S.chars) (iri_text I.chars)) =
    typed_is (string_text S.chars) I.chars t (ap (typed_of (string_text S.chars)) (sym (iri-read_as type I)) ∙ sym b ∙ object_is u t M) in
    bytes_of t 2 _ (utf8 u) c
    (by_test (is_same_text (iri_text I.chars) xsd_string)
    (λ p.
    let k : all is_scalar (string ++ (codes "^^" ++ type)) ≡ true = rw e at h in
    let q : type ≡ xsd_string = same_chars type xsd_string (all_back is_scalar (codes "^^") type (all_back is_scalar string _ k)) refl (sym (iri_bytes type I) ∙ same_bytes (iri_text I.chars) xsd_string p) in
    absurd (N.no_string_type string (e ∙ ap (λ x. string ++ (codes "^^" ++ x)) q) S))
    (λ p.
    rw p
    (ap (λ x. x ++ (codes "^^" ++ iri_text I.chars)) (string_bytes string S)
    ∙ ap (λ x. utf8 string ++ (codes "^^" ++ x)) (iri_bytes type I)
    ∙ sym (encode-append string (codes "^^" ++ type))
    ∙ ap utf8 (sym e))))

-- A canonical term's bytes are the text that it means.
pub term_exact : (u : List ℕ) (t : Text) → all is_scalar u ≡ true → CanonicalTerm u → NormalTerm u → Means u t → t.bytes ≡ utf8 u
unfolding codes blank_text utf8 encode_char
term_exact u t h (CanonicalTerm.iri I) N M = bytes_of t 0 _ (utf8 u) (iri_is I.chars t (sym (object-read_as u I) ∙ object_is u t M)) (iri_bytes u I)
term_exact u t h (CanonicalTerm.blank m) N M =
    let f : u ≡ codes "_:" ++ m.back = m.spelled ∙ ap (λ x. x ++ m.back) m.first in
    bytes_of t 1 _ (utf8 u) (means_unique u t _ M (Means.blank m.back m f refl)) (ap utf8 (sym f))
term_exact u t h (CanonicalTerm.plain S) N M =
    bytes_of t 2 _ (utf8 u) (means_unique u t _ M (Means.plain S.chars (string-quoted u S) refl)) (string_bytes u S)
term_exact u t h (CanonicalTerm.tagged string tag e S m) N M = tagged_exact u t string tag e S m N M
term_exact u t h (CanonicalTerm.typed string type e S I) N M = typed_exact u t string type h e S I N M

-- Subjects and predicates have no tag and no type.
pub subject_normal : (u : List ℕ) → Matches subject u → NormalTerm u
subject_normal u k =
    record {
      lower_case = λ string tag e S m. subject-not u string S.chars (codes "@" ++ tag) k e (string-quoted string S);
      no_string_type = λ string e S. subject-not u string S.chars (codes "^^" ++ xsd_string) k e (string-quoted string S);
    }

-- A term that is spelled by its text has a tag in lower case, and no type xsd:string.
string_iri : Iri xsd_string (codes "http://www.w3.org/2001/XMLSchema#string")
unfolding compute all
string_iri = record { inside = codes "http://www.w3.org/2001/XMLSchema#string"; spelled = refl; resolved = iri_themselves (codes "http://www.w3.org/2001/XMLSchema#string") refl; absolute = refl }

string-type : (string : List ℕ) → typed_text string (iri_text (codes "http://www.w3.org/2001/XMLSchema#string")) ≡ string
unfolding compute
string-type string = refl

tag_normal : (u : List ℕ) (t : Text) → Means u t → t.bytes ≡ utf8 u → (string tag : List ℕ) → u ≡ string ++ (codes "@" ++ tag) → CanonicalString string → Matches LANGTAG (codes "@" ++ tag) → map lower_char tag ≡ tag
unfolding codes tagged_text
tag_normal u t M h string tag e S m =
    let a = means_unique u t _ M (Means.tagged string S.chars [] tag e (string-quoted string S) (Repeated.end refl) m refl) in
    let b : string_text S.chars ++ (codes "@" ++ map lower_char tag) ≡ t.bytes = sym (ap (λ (x : Text). x.bytes) a) in
    let c : utf8 u ≡ string_text S.chars ++ (codes "@" ++ tag) =
    ap utf8 e ∙ encode-append string (codes "@" ++ tag) ∙ ap (λ x. utf8 string ++ x) (encode_ascii (codes "@" ++ tag) (tag_ascii (codes "@" ++ tag) m)) ∙ ap (λ x. x ++ (codes "@" ++ tag)) (sym (string_bytes string S)) in
    let d : code "@" ∷ map lower_char tag ≡ code "@" ∷ tag = append_cancel_left (string_text S.chars) (codes "@" ++ map lower_char tag) (codes "@" ++ tag) (b ∙ h ∙ c) in
    cc

type_normal : (u : List ℕ) (t : Text) → Means u t → t.bytes ≡ utf8 u → (string : List ℕ) → u ≡ string ++ (codes "^^" ++ xsd_string) → CanonicalString string → ⊥
unfolding codes utf8 encode_char
type_normal u t M h string e S =
    let a = means_unique u t _ M (Means.typed string S.chars [] [] xsd_string (codes "http://www.w3.org/2001/XMLSchema#string") e (string-quoted string S) (Repeated.end refl) (Repeated.end refl) string_iri refl) in
    let b : t.bytes ≡ string_text S.chars = ap (λ (x : Text). x.bytes) a ∙ string-type (string_text S.chars) in
    let c : utf8 u ≡ string_text S.chars ++ (codes "^^" ++ xsd_string) =
    ap utf8 e ∙ encode-append string (codes "^^" ++ xsd_string) ∙ ap (λ x. x ++ (codes "^^" ++ xsd_string)) (sym (string_bytes string S)) in
    let d : length (string_text S.chars) ≡ length (string_text S.chars ++ (codes "^^" ++ xsd_string)) = ap length (sym b ∙ h ∙ c) in
    omega (arith, d, length-append (string_text S.chars) (codes "^^" ++ xsd_string))

pub means_normal : (u : List ℕ) (t : Text) → Means u t → t.bytes ≡ utf8 u → NormalTerm u
means_normal u t M h = record { lower_case = tag_normal u t M h; no_string_type = type_normal u t M h }
