-- Laws of terms by their first characters, and of what stands behind what was read. Assumes nothing.
use Prim.Native.Nat.{ℕ, ◌≤◌, ◌<◌}
use Prim.Native.Char.{code}
use mathlib.Core.Path.{◌≡◌, refl, sym, ap, ◌∙◌}
use mathlib.Core.Bool.{Bool, true, false, ◌&&◌, ◌||◌}
use mathlib.Core.List.{List, [], ◌∷◌, ◌++◌, append_assoc}
use native.Mathlib.Omega.{arith}
use lib.Dec.{eqb}
use lib.ListN.{length-append}
use borrow.Author.Tests.{eqb-true}
use Rattle.spec_ntriples.specs.Utf8.{is_between, utf8, encode_char}
use Rattle.spec_ntriples.specs.Characters.{codes, is_one_of, is_letter, is_digit, is_letter_or_digit, is_pn_chars, is_pn_chars_u}
use Rattle.spec_ntriples.specs.computed.Terminals.{State, outside, Step, ends, breaks, leads, gives, Got, none, got, push, iri_step, string_step, after_step, scan, dotted, label, head_is, tag, skip}
use Rattle.spec_ntriples.specs.Texts.{lower_char, Text, text, is_same_text, is_absolute, iri_text, blank_text, canonical_chars, string_text, tagged_text, typed_text, xsd_string}
use Rattle.spec_ntriples.specs.computed.Lines.{Read, nothing, read, iri_of, read_iri, blank_of, read_blank, typed_of, read_type, tagged_of, suffixed, literal_of, read_subject, read_object}
use Rattle.ntriples_bytes.specs.inside.Places.{At}
use Rattle.ntriples_bytes.proofs.Marking.{by_test, and_left, between}
use Rattle.dictionary_bytes.proofs.Same.{same_equal, other_differ}
use Rattle.ntriples_cursor.specs.inside.Coming.{lowered, AreAscii, Typed, Follows, plain, left_off, typed, tagged}
use Rattle.ntriples_cursor.proofs.Readers.{none-not, pushed}
use Rattle.ntriples_cursor.proofs.Widths.{width_some, places_apart}

-- ---- what stands behind

-- Some characters are the last of others, with at least one before them.
pub record Before (cs rest : List ℕ) : Type 0 where
  pub char : ℕ
  pub front : List ℕ
  pub same : cs ≡ char ∷ (front ++ rest)

-- Some characters are the last of others.
pub record Upto (cs rest : List ℕ) : Type 0 where
  pub front : List ℕ
  pub same : cs ≡ front ++ rest

pub upto_none : (cs : List ℕ) → Upto cs cs
upto_none cs = record { front = []; same = refl }

pub before_upto : (cs rest : List ℕ) → Before cs rest → Upto cs rest
before_upto cs rest B = record { front = B.char ∷ B.front; same = B.same }

pub before_one : (c : ℕ) (cs rest : List ℕ) → Upto cs rest → Before (c ∷ cs) rest
before_one c cs rest U = record { char = c; front = U.front; same = ap (λ (l : List ℕ). c ∷ l) U.same }

pub upto_both : (cs ds rest : List ℕ) → Upto cs ds → Upto ds rest → Upto cs rest
upto_both cs ds rest U W = record { front = U.front ++ W.front; same = U.same ∙ ap (λ (l : List ℕ). U.front ++ l) W.same ∙ sym (append_assoc U.front W.front rest) }

pub upto_before : (cs ds rest : List ℕ) → Upto cs ds → Before ds rest → Before cs rest
upto_before cs ds rest U B = go U.front cs U.same
  where
    go : (front cs : List ℕ) → cs ≡ front ++ ds → Before cs rest
    go [] cs e = rw e B
    go (x ∷ xs) cs e = rw e (before_one x (xs ++ ds) rest (upto_both (xs ++ ds) ds rest (record { front = xs; same = refl }) (before_upto ds rest B)))

-- In a line, the last characters stand behind.
pub upto-place : (line : List ℕ) (p q : ℕ) (cs rest : List ℕ) → Upto cs rest → At line p cs → At line q rest → p ≤ q
upto-place line p q cs rest U A B = omega (arith, places_apart line p q U.front rest (rw U.same at A) B)

pub before-place : (line : List ℕ) (p q : ℕ) (cs rest : List ℕ) → Before cs rest → At line p cs → At line q rest → p < q
unfolding utf8
before-place line p q cs rest B A E =
    omega (arith, places_apart line p q (B.char ∷ B.front) rest (rw B.same at A) E, length-append (encode_char B.char) (utf8 B.front), width_some B.char)

-- ---- terminals

-- An IRI or a string.
scan-more
    : (step : State → ℕ → Step) (c : ℕ) (cs ds rest : List ℕ) → ((s : State) (es : List ℕ) → scan step s cs ≡ got es rest → Before cs rest)
    → (t : Step) → after_step t cs (λ s'. scan step s' cs) ≡ got ds rest → Before (c ∷ cs) rest
unfolding after_step
scan-more step c cs ds rest ih ends e = before_one c cs rest (record { front = []; same = cc })
scan-more step c cs ds rest ih breaks e = none-not e
scan-more step c cs ds rest ih (leads s) e = before_one c cs rest (before_upto cs rest (ih s ds e))
scan-more step c cs ds rest ih (gives d) e = let P = pushed d (scan step outside cs) ds rest e in before_one c cs rest (before_upto cs rest (ih outside P.later P.reads))

pub scan_before : (step : State → ℕ → Step) (s : State) (cs ds rest : List ℕ) → scan step s cs ≡ got ds rest → Before cs rest
unfolding scan
scan_before step s [] ds rest e = none-not e
scan_before step s (c ∷ cs) ds rest e = scan-more step c cs ds rest (λ s' es f. scan_before step s' cs es rest f) (step s c) e

-- White space.
pub skip_upto : (cs : List ℕ) → Upto cs (skip cs)
unfolding skip
skip_upto [] = upto_none []
skip_upto (c ∷ cs) =
    by_test (is_one_of (codes "\t ") c) (λ q. rw q (before_upto (c ∷ cs) (skip cs) (before_one c cs (skip cs) (skip_upto cs)))) (λ q. rw q (upto_none (c ∷ cs)))

-- A label is the characters before the others.
front_none : (cs ds rest : List ℕ) → got [] cs ≡ got ds rest → cs ≡ ds ++ rest
front_none cs [] rest e = cc
front_none cs (d ∷ ds) rest e = let z : ◌≡◌ {A = ℕ} 0 1 = cc in absurd (omega arith)

module _ (c : ℕ) (cs ds rest : List ℕ) (ih : (es r : List ℕ) → label cs ≡ got es r → cs ≡ es ++ r) where
  label_more : push c (label cs) ≡ got ds rest → c ∷ cs ≡ ds ++ rest
  label_more e = let P = pushed c (label cs) ds rest e in rw P.same (ap (λ (l : List ℕ). c ∷ l) (ih P.later rest P.reads))

  label_dot : (g : Got) → label cs ≡ g → dotted c cs g ≡ got ds rest → c ∷ cs ≡ ds ++ rest
  unfolding dotted
  label_dot none f e = none-not e
  label_dot (got [] r) f e = front_none (c ∷ cs) ds rest e
  label_dot (got (d ∷ es) r) f e =
      let k : cs ≡ (d ∷ es) ++ r = ih (d ∷ es) r f in
      let p : ds ≡ c ∷ d ∷ es = cc in
      let q : rest ≡ r = cc in
      rw (p, q) (ap (λ (l : List ℕ). c ∷ l) k)

pub label_front : (cs ds rest : List ℕ) → label cs ≡ got ds rest → cs ≡ ds ++ rest
unfolding label
label_front [] ds rest e = front_none [] ds rest e
label_front (c ∷ cs) ds rest e =
    by_test (is_pn_chars c) (λ q. label_more c cs ds rest (label_front cs) (rw q at e))
    (λ q. by_test (eqb c (code ".")) (λ r. label_dot c cs ds rest (label_front cs) (label cs) refl (rw (q, r) at e)) (λ r. front_none (c ∷ cs) ds rest (rw (q, r) at e)))

-- A tag is the characters before the others, in lower case.
pub record TagFront (cs es rest : List ℕ) : Type 0 where
  pub given : List ℕ
  pub same : cs ≡ given ++ rest
  pub ascii : AreAscii given
  pub lower : es ≡ lowered given

letter_ascii : (c : ℕ) → is_letter c ≡ true → c < 0x80
letter_ascii c e = by_test (is_between 65 90 c) (λ q. omega (arith, between 65 c 90 q)) (λ q. omega (arith, between 97 c 122 (rw q at e)))

mark_ascii : (c : ℕ) → is_letter_or_digit c ≡ true → c < 0x80
mark_ascii c e = by_test (is_letter c) (λ q. letter_ascii c q) (λ q. omega (arith, between 48 c 57 (rw q at e)))

tag_none : (cs es rest : List ℕ) → got [] cs ≡ got es rest → TagFront cs es rest
unfolding lowered
tag_none cs es rest e = record { given = []; same = cc; ascii = tt; lower = cc }

tag_more : (c : ℕ) (g : Got) (cs es rest : List ℕ) → c < 0x80 → ((ds : List ℕ) → g ≡ got ds rest → TagFront cs ds rest) → push (lower_char c) g ≡ got es rest → TagFront (c ∷ cs) es rest
unfolding lowered
tag_more c g cs es rest h ih e =
    let P = pushed (lower_char c) g es rest e in
    let F = ih P.later P.reads in
    record { given = c ∷ F.given; same = ap (λ (l : List ℕ). c ∷ l) F.same; ascii = (h, F.ascii); lower = P.same ∙ ap (λ (l : List ℕ). lower_char c ∷ l) F.lower }

lower_hyphen : (c : ℕ) → c ≡ code "-" → c ≡ lower_char c
unfolding lower_char
lower_hyphen c e = rw e refl

pub tag_front : (test : ℕ → Bool) → ((c : ℕ) → test c ≡ true → c < 0x80) → (cs es rest : List ℕ) → tag test cs ≡ got es rest → TagFront cs es rest
unfolding tag
tag_front test h [] es rest e = tag_none [] es rest e
tag_front test h (c ∷ cs) es rest e =
    by_test (test c) (λ q. tag_more c (tag test cs) cs es rest (h c q) (λ ds f. tag_front test h cs ds rest f) (rw q at e))
    (λ q. by_test (eqb c (code "-") && head_is is_letter_or_digit cs)
    (λ r.
    let k : c ≡ code "-" = eqb-true c (code "-") (and_left (eqb c (code "-")) _ r) in
    tag_more c (tag is_letter_or_digit cs) cs es rest (omega arith) (λ ds f. tag_front is_letter_or_digit mark_ascii cs ds rest f) (ap (λ (x : ℕ). push x (tag is_letter_or_digit cs)) (sym (lower_hyphen c k)) ∙ rw (q, r) at e))
    (λ r. tag_none (c ∷ cs) es rest (rw (q, r) at e)))

-- ---- terms

-- Nothing was not a term.
read-not : {C : Type 0} {t : Text} {rest : List ℕ} → nothing ≡ read t rest → C
read-not e = let z : ◌≡◌ {A = ℕ} 0 1 = cc in absurd (omega arith)

-- An IRI that was read.
pub record IriRead (cs rest : List ℕ) (t : Text) : Type 0 where
  pub inner : List ℕ
  pub given : List ℕ
  pub opens : cs ≡ code "<" ∷ inner
  pub scans : scan iri_step outside inner ≡ got given rest
  pub same : t ≡ text 0 (iri_text given)

pub iri-read : (cs rest : List ℕ) (t : Text) → read_iri cs ≡ read t rest → IriRead cs rest t
unfolding read_iri iri_of
iri-read [] rest t e = read-not e
iri-read (c ∷ cs) rest t e = by_test (eqb c (code "<")) (λ q. go (scan iri_step outside cs) refl (eqb-true c (code "<") q) (rw q at e)) (λ q. read-not (rw q at e))
  where
    go : (g : Got) → scan iri_step outside cs ≡ g → c ≡ code "<" → iri_of g ≡ read t rest → IriRead (c ∷ cs) rest t
    go none f k e = read-not e
    go (got ds r) f k e =
        by_test (is_absolute ds)
        (λ q. let y : read (text 0 (iri_text ds)) r ≡ read t rest = rw q at e in record { inner = cs; given = ds; opens = ap (λ (x : ℕ). x ∷ cs) k; scans = f ∙ ap (got ds) (cc); same = cc })
        (λ q. read-not (rw q at e))

-- A term that was read, by its first character.
pub data Opened (cs rest : List ℕ) (t : Text) : Type 0 where
  iri : IriRead cs rest t → Opened cs rest t
  blank : (given : List ℕ) → cs ≡ code "_" ∷ code ":" ∷ (given ++ rest) → t ≡ text 1 (blank_text given) → Opened cs rest t
  literal : (inner given behind more : List ℕ) → cs ≡ code "\"" ∷ inner → scan string_step outside inner ≡ got given behind → Follows behind rest more
      → t ≡ text 2 (code "\"" ∷ (canonical_chars given ++ (code "\"" ∷ more))) → Opened cs rest t

-- A literal behind its string.
record LiteralRead (given behind rest : List ℕ) (t : Text) : Type 0 where
  pub more : List ℕ
  pub follows : Follows behind rest more
  pub same : t ≡ text 2 (code "\"" ∷ (canonical_chars given ++ (code "\"" ∷ more)))

string_more : (given more : List ℕ) → string_text given ++ more ≡ code "\"" ∷ (canonical_chars given ++ (code "\"" ∷ more))
unfolding string_text
string_more given more = ap (λ (l : List ℕ). code "\"" ∷ l) (append_assoc (canonical_chars given) (code "\"" ∷ []) more)

string_none : (given : List ℕ) → string_text given ≡ code "\"" ∷ (canonical_chars given ++ (code "\"" ∷ []))
unfolding string_text
string_none given = refl

literal_plain : (given behind rest : List ℕ) (t : Text) → read (text 2 (string_text given)) behind ≡ read t rest → LiteralRead given behind rest t
unfolding string_text
literal_plain given behind rest t e = record { more = []; follows = plain (cc) refl; same = cc }

literal_tagged : (given behind rest : List ℕ) (t : Text) (cs : List ℕ) → skip behind ≡ code "@" ∷ cs → (g : Got) → tag is_letter cs ≡ g → tagged_of (string_text given) g ≡ read t rest → LiteralRead given behind rest t
unfolding tagged_of tagged_text
literal_tagged given behind rest t cs k none f e = read-not e
literal_tagged given behind rest t cs k (got es r) f e =
    let F = tag_front is_letter letter_ascii cs es r f in
    let p : r ≡ rest = cc in
    let y : text 2 (string_text given ++ (code "@" ∷ es)) ≡ t = cc in
    record {
      more = code "@" ∷ lowered F.given;
      follows = tagged F.given (record { marks = k ∙ ap (λ (l : List ℕ). code "@" ∷ l) (F.same ∙ ap (λ (l : List ℕ). F.given ++ l) p); ascii = F.ascii }) refl;
      same = sym y ∙ ap (text 2) (ap (λ (l : List ℕ). string_text given ++ (code "@" ∷ l)) F.lower ∙ string_more given (code "@" ∷ lowered F.given));
    }

typed_off : (string bytes type : List ℕ) → bytes ≡ type → is_same_text type xsd_string ≡ true → typed_text string bytes ≡ string
unfolding typed_text
typed_off string bytes type e q = rw (e, q)

typed_on : (string bytes type : List ℕ) → bytes ≡ type → is_same_text type xsd_string ≡ false → typed_text string bytes ≡ string ++ (codes "^^" ++ type)
unfolding typed_text
typed_on string bytes type e q = rw (e, q)

literal_typed : (given behind rest : List ℕ) (t : Text) (cs : List ℕ) → skip behind ≡ code "^" ∷ cs → read_type (string_text given) cs ≡ read t rest → LiteralRead given behind rest t
unfolding read_type typed_of
literal_typed given behind rest t [] k e = read-not e
literal_typed given behind rest t (c ∷ cs) k e = by_test (eqb c (code "^")) (λ q. go (read_iri (skip cs)) refl (eqb-true c (code "^") q) (rw q at e)) (λ q. read-not (rw q at e))
  where
    go : (x : Read) → read_iri (skip cs) ≡ x → c ≡ code "^" → typed_of (string_text given) x ≡ read t rest → LiteralRead given behind rest t
    go nothing f j e = read-not e
    go (read u r) f j e =
        let I = iri-read (skip cs) r u f in
        let p : r ≡ rest = cc in
        let y : text 2 (typed_text (string_text given) u.bytes) ≡ t = cc in
        let T : Typed (skip behind) rest I.given = record { behind = cs; marks = k ∙ ap (λ (x : ℕ). code "^" ∷ x ∷ cs) j; inner = I.inner; opens = I.opens; scans = I.scans ∙ ap (got I.given) p } in
        let b : u.bytes ≡ iri_text I.given = ap (λ (w : Text). w.bytes) I.same in
        by_test (is_same_text (iri_text I.given) xsd_string)
        (λ q. record { more = []; follows = left_off I.given T (same_equal _ _ q) refl; same = sym y ∙ ap (text 2) (typed_off (string_text given) u.bytes (iri_text I.given) b q ∙ string_none given) })
        (λ q. record { more = codes "^^" ++ iri_text I.given; follows = typed I.given T (other_differ _ _ q) refl; same = sym y ∙ ap (text 2) (typed_on (string_text given) u.bytes (iri_text I.given) b q ∙ string_more given (codes "^^" ++ iri_text I.given)) })

literal-read : (given behind rest : List ℕ) (t : Text) → (k : List ℕ) → skip behind ≡ k → suffixed (string_text given) (read (text 2 (string_text given)) behind) k ≡ read t rest → LiteralRead given behind rest t
unfolding suffixed
literal-read given behind rest t [] k e = literal_plain given behind rest t e
literal-read given behind rest t (c ∷ cs) k e =
    by_test (eqb c (code "@"))
    (λ q. by_test (head_is is_letter cs)
    (λ r. literal_tagged given behind rest t cs (k ∙ ap (λ (x : ℕ). x ∷ cs) (eqb-true c (code "@") q)) (tag is_letter cs) refl (rw (q, r) at e))
    (λ r. read-not (rw (q, r) at e)))
    (λ q. by_test (eqb c (code "^"))
    (λ r. literal_typed given behind rest t cs (k ∙ ap (λ (x : ℕ). x ∷ cs) (eqb-true c (code "^") r)) (rw (q, r) at e))
    (λ r. literal_plain given behind rest t (rw (q, r) at e)))

-- Each term that was read is one of the three.
object-literal : (inner rest : List ℕ) (t : Text) (g : Got) → scan string_step outside inner ≡ g → literal_of g ≡ read t rest → Opened (code "\"" ∷ inner) rest t
unfolding literal_of
object-literal inner rest t none f e = read-not e
object-literal inner rest t (got ds r) f e = let L = literal-read ds r rest t (skip r) refl e in literal inner ds r L.more refl f L.follows L.same

object_blank : (cs rest : List ℕ) (t : Text) → read_blank cs ≡ read t rest → Opened (code "_" ∷ cs) rest t
unfolding read_blank blank_of
object_blank [] rest t e = read-not e
object_blank (c ∷ []) rest t e = read-not e
object_blank (c ∷ d ∷ cs) rest t e =
    by_test (eqb c (code ":") && (is_pn_chars_u d || is_digit d))
    (λ q. go (label cs) refl (eqb-true c (code ":") (and_left (eqb c (code ":")) _ q)) (rw q at e))
    (λ q. read-not (rw q at e))
  where
    go : (g : Got) → label cs ≡ g → c ≡ code ":" → blank_of d g ≡ read t rest → Opened (code "_" ∷ c ∷ d ∷ cs) rest t
    go none f k e = read-not e
    go (got es r) f k e = let p : r ≡ rest = cc in blank (d ∷ es) (rw (k, ← p) (ap (λ (l : List ℕ). code "_" ∷ code ":" ∷ d ∷ l) (label_front cs es r f))) (cc)

pub open-object : (cs rest : List ℕ) (t : Text) → read_object cs ≡ read t rest → Opened cs rest t
unfolding read_object read_subject
open-object [] rest t e = read-not e
open-object (c ∷ cs) rest t e =
    by_test (eqb c (code "\""))
    (λ q. rw (eqb-true c (code "\"") q) (object-literal cs rest t (scan string_step outside cs) refl (rw q at e)))
    (λ q. by_test (eqb c (code "_"))
    (λ r. rw (eqb-true c (code "_") r) (object_blank cs rest t (rw (q, r) at e)))
    (λ r. iri (iri-read (c ∷ cs) rest t (rw (q, r) at e))))
