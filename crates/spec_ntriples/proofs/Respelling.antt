-- The canonical spelling of a term: one with the same meaning, whose bytes are the term's text. Assumes nothing.
use Prim.Native.Nat.{ℕ, ◌+◌, ◌<◌}
use Prim.Native.Char.{code}
use mathlib.Core.Path.{◌≡◌, refl, sym, ap, ◌∙◌}
use mathlib.Core.Bool.{Bool, true, false, cond}
use mathlib.Core.Logic.{inl, inr, ⊎_elim}
use mathlib.Core.List.{List, [], ◌∷◌, ◌++◌, map, append_assoc, append-nil, map-append}
use native.Mathlib.Omega.{arith}
use lib.ListN.{get_or}
use lib.Dec.{eqb, ltb}
use borrow.Author.Tests.{ltb-true, eqb-true, lt-ltb, le-leb}
use Rattle.spec.specs.Lists.{all}
use Rattle.spec.proofs.Lists.{cond_elim, by_test, or_cases}
use Rattle.spec.proofs.Ascending.{and_left, and_right}
use Rattle.spec.proofs.TableAll.{all_append}
use Rattle.spec_ntriples.specs.Utf8.{is_between, is_scalar, encode_char, utf8}
use Rattle.spec_ntriples.specs.Characters.{codes, is_one_of, is_letter, is_digit, is_letter_or_digit, is_iri_char, is_string_char, echar}
use Rattle.spec_ntriples.specs.Texts.{lower_char, Text, text, is_same_text, iri_text, blank_text, canonical_char, canonical_chars, string_text, tagged_text, xsd_string, typed_text}
use Rattle.spec_ntriples.specs.Expressions.{Expression, Matches, Repeated, set, exactly, ◌then◌, ◌or◌, many}
use Rattle.spec_ntriples.specs.Productions.{LANGTAG}
use Rattle.spec_ntriples.specs.Meaning.{IriPiece, StringPiece, Resolves, Iri, Quoted, Means}
use Rattle.spec_ntriples.proofs.Escapes.{within, above, each_one}

-- ---- bytes of characters

pub encode-append : (a b : List ℕ) → utf8 (a ++ b) ≡ utf8 a ++ utf8 b
unfolding utf8
encode-append [] b = refl
encode-append (c ∷ a) b = rw (encode-append a b) (sym (append_assoc (encode_char c) (utf8 a) (utf8 b)))

-- Characters of ASCII are their bytes.
pub encode_ascii : (cs : List ℕ) → all (λ c. ltb c 0x80) cs ≡ true → utf8 cs ≡ cs
unfolding utf8 encode_char all
encode_ascii [] h = refl
encode_ascii (c ∷ cs) h =
    let p : ltb c 0x80 ≡ true = and_left (ltb c 0x80) (all (λ c. ltb c 0x80) cs) h in
    rw (p, encode_ascii cs (and_right (ltb c 0x80) _ h))

-- What holds of all of two lists holds of all of each.
pub all_front : {A : Type 0} (test : A → Bool) (a b : List A) → all test (a ++ b) ≡ true → all test a ≡ true
unfolding all
all_front test [] b h = refl
all_front test (x ∷ a) b h = rw (and_left (test x) (all test (a ++ b)) h) (all_front test a b (and_right (test x) _ h))

pub all_back : {A : Type 0} (test : A → Bool) (a b : List A) → all test (a ++ b) ≡ true → all test b ≡ true
unfolding all
all_back test [] b h = h
all_back test (x ∷ a) b h = all_back test a b (and_right (test x) _ h)

all_single : (test : ℕ → Bool) (c : ℕ) → test c ≡ true → all test (c ∷ []) ≡ true
unfolding all
all_single test c h = rw h

-- ---- all characters of a match, and matches with each character changed

-- Whether an expression has characters that pass a test alone.
abbrev pub Within : (ℕ → Bool) → Expression → Type 0
Within test (set p) = (c : ℕ) → p c ≡ true → test c ≡ true
Within test (exactly t) = all test t ≡ true
Within test (a then b) = Within test a × Within test b
Within test (a or b) = Within test a × Within test b
Within test (many a) = Within test a

repeated-within : (test : ℕ → Bool) (P : List ℕ → Type 0) → ((s : List ℕ) → P s → all test s ≡ true) → (u : List ℕ) → Repeated P u → all test u ≡ true
unfolding all
repeated-within test P h u (Repeated.end e) = rw e
repeated-within test P h u (Repeated.more s t e m n) = rw e (all_append test s t (h s m) (repeated-within test P h t n))

pub within_all : (test : ℕ → Bool) (e : Expression) → Within test e → (u : List ℕ) → Matches e u → all test u ≡ true
unfolding all
within_all test (set p) h u m = rw (m.spelled, h m.char m.allowed)
within_all test (exactly t) h u m = rw m h
within_all test (a then b) h u m = rw m.spelled (all_append test m.front m.back (within_all test a h.0 m.front m.first) (within_all test b h.1 m.back m.second))
within_all test (a or b) h u m = ⊎_elim (λ x. within_all test a h.0 u x) (λ x. within_all test b h.1 u x) m
within_all test (many a) h u m = repeated-within test (Matches a) (λ s x. within_all test a h s x) u m

-- Whether a change of each character keeps an expression's matches.
abbrev Kept : (ℕ → ℕ) → Expression → Type 0
Kept f (set p) = (c : ℕ) → p c ≡ true → p (f c) ≡ true
Kept f (exactly t) = map f t ≡ t
Kept f (a then b) = Kept f a × Kept f b
Kept f (a or b) = Kept f a × Kept f b
Kept f (many a) = Kept f a

repeated_kept : (f : ℕ → ℕ) (P : List ℕ → Type 0) → ((s : List ℕ) → P s → P (map f s)) → (u : List ℕ) → Repeated P u → Repeated P (map f u)
repeated_kept f P h u (Repeated.end e) = Repeated.end (ap (map f) e)
repeated_kept f P h u (Repeated.more s t e m n) = Repeated.more (map f s) (map f t) (ap (map f) e ∙ map-append f s t) (h s m) (repeated_kept f P h t n)

kept : (f : ℕ → ℕ) (e : Expression) → Kept f e → (u : List ℕ) → Matches e u → Matches e (map f u)
kept f (set p) h u m = record { char = f m.char; spelled = ap (map f) m.spelled; allowed = h m.char m.allowed }
kept f (exactly t) h u m = ap (map f) m ∙ h
kept f (a then b) h u m =
    record { front = map f m.front; back = map f m.back; spelled = ap (map f) m.spelled ∙ map-append f m.front m.back; first = kept f a h.0 m.front m.first; second = kept f b h.1 m.back m.second }
kept f (a or b) h u m = ⊎_elim (λ x. inl (kept f a h.0 u x)) (λ x. inr (kept f b h.1 u x)) m
kept f (many a) h u m = repeated_kept f (Matches a) (λ s x. kept f a h s x) u m

-- ---- tags

-- Lower case once is lower case.
lower_again : (c : ℕ) → lower_char (lower_char c) ≡ lower_char c
unfolding lower_char
lower_again c =
    by_test (is_between 65 90 c)
    (λ p. rw (p, above 65 90 (c + 32) (omega (arith, (within 65 90 c p).0))))
    (λ p. rw (p, p))

lower_twice : (cs : List ℕ) → map lower_char (map lower_char cs) ≡ map lower_char cs
lower_twice [] = refl
lower_twice (c ∷ cs) = rw (lower_again c, lower_twice cs)

-- Letters and digits stay so in lower case, and are ASCII.
lower_letter : (c : ℕ) → is_letter c ≡ true → is_letter (lower_char c) ≡ true
unfolding lower_char
lower_letter c h =
    by_test (is_between 65 90 c)
    (λ p. let r = within 65 90 c p in rw (p, above 65 90 (c + 32) (omega (arith, r.0)), le-leb 97 (c + 32) (omega (arith, r.0)), le-leb (c + 32) 122 (omega (arith, r.1))))
    (λ p. rw (p, p) (rw p at h))

lower_same : (c : ℕ) → is_between 65 90 c ≡ false → lower_char c ≡ c
unfolding lower_char
lower_same c p = rw p

lower_other : (c : ℕ) → is_letter_or_digit c ≡ true → is_letter_or_digit (lower_char c) ≡ true
lower_other c h = by_test (is_between 65 90 c) (λ p. rw (lower_letter c (rw p refl))) (λ p. rw (lower_same c p) h)

ascii_letter : (c : ℕ) → is_letter c ≡ true → ltb c 0x80 ≡ true
ascii_letter c h =
    ⊎_elim (λ p. lt-ltb c 0x80 (omega (arith, (within 65 90 c p).1))) (λ p. lt-ltb c 0x80 (omega (arith, (within 97 122 c p).1))) (or_cases (is_between 65 90 c) (is_between 97 122 c) h)

ascii_other : (c : ℕ) → is_letter_or_digit c ≡ true → ltb c 0x80 ≡ true
ascii_other c h = ⊎_elim (λ p. ascii_letter c p) (λ p. lt-ltb c 0x80 (omega (arith, (within 48 57 c p).1))) (or_cases (is_letter c) (is_digit c) h)

-- A tag in lower case is a tag, of ASCII.
pub tag-lower : (u : List ℕ) → Matches LANGTAG u → Matches LANGTAG (map lower_char u)
unfolding codes lower_char
tag-lower u m = kept lower_char LANGTAG (refl, ((lower_letter, lower_letter), (refl, (lower_other, lower_other)))) u m

pub tag_ascii : (u : List ℕ) → Matches LANGTAG u → all (λ c. ltb c 0x80) u ≡ true
unfolding codes all
tag_ascii u m = within_all (λ c. ltb c 0x80) LANGTAG (refl, ((ascii_letter, ascii_letter), (refl, (ascii_other, ascii_other)))) u m

-- ---- IRIs

-- The characters of an IRI are scalar values that IRIREF allows.
pub iri_chars : (u cs : List ℕ) → all is_scalar u ≡ true → Resolves IriPiece u cs → (all is_iri_char cs ≡ true) × (all is_scalar cs ≡ true)
unfolding all
iri_chars u cs h (Resolves.end e) = (refl, refl)
iri_chars u cs h (Resolves.more {cs = ds} p s c e m r) =
    let k : all is_scalar (p ++ s) ≡ true = rw e at h in
    let i = iri_chars s ds (all_back is_scalar p s k) r in
    let a = allowed m (all_front is_scalar p s k) in
    (rw a.0 i.0, rw a.1 i.1)
  where
    allowed : IriPiece p c → all is_scalar p ≡ true → (is_iri_char c ≡ true) × (is_scalar c ≡ true)
    allowed (IriPiece.itself f a) k = (a, and_left (is_scalar c) true (rw f at k))
    allowed (IriPiece.by_uchar U a) k = (a, U.scalar)

-- Such characters stand for themselves.
pub iri_themselves : (cs : List ℕ) → all is_iri_char cs ≡ true → Resolves IriPiece cs cs
unfolding all
iri_themselves [] h = Resolves.end refl
iri_themselves (c ∷ cs) h =
    Resolves.more (c ∷ []) cs c refl (IriPiece.itself refl (and_left _ (all is_iri_char cs) h)) (iri_themselves cs (and_right (is_iri_char c) _ h))

-- An IRI as its characters are.
pub record Respelled (Spells : List ℕ → Type 0) (bytes : List ℕ) : Type 0 where
  pub chars : List ℕ
  pub spells : Spells chars
  pub scalar : all is_scalar chars ≡ true
  pub same : bytes ≡ utf8 chars

respell_iri : (u cs : List ℕ) → all is_scalar u ≡ true → Iri u cs → Respelled (λ v. Iri v cs) (iri_text cs)
unfolding codes all is_scalar iri_text utf8 encode_char
respell_iri u cs h I =
    let k = all_front is_scalar I.inside (codes ">") (all_back is_scalar (codes "<") (I.inside ++ codes ">") (rw I.spelled at h)) in
    let c = iri_chars I.inside cs k I.resolved in
    record {
      chars = codes "<" ++ (cs ++ codes ">");
      spells = record { inside = cs; spelled = refl; resolved = iri_themselves cs c.0; absolute = I.absolute };
      scalar = all_append is_scalar cs (codes ">") c.1 refl;
      same = ap (λ x. code "<" ∷ x) (sym (encode-append cs (codes ">")));
    }

-- ---- strings

-- The canonical spelling of a string's characters.
unfoldable pub respell_char : ℕ → List ℕ
respell_char c = cond (eqb c 0x22) (codes "\\\"") (cond (eqb c 0x5C) (codes "\\\\") (cond (eqb c 0x0A) (codes "\\n") (cond (eqb c 0x0D) (codes "\\r") (c ∷ []))))

unfoldable pub respell : List ℕ → List ℕ
respell [] = []
respell (c ∷ cs) = respell_char c ++ respell cs

escaped : (l c : ℕ) → is_one_of (codes "tbnrf\"'\\") l ≡ true → echar l ≡ c → StringPiece (code "\\" ∷ l ∷ []) c
unfolding codes
escaped l c h e =
    StringPiece.by_echar (record { matched = record { front = codes "\\"; back = l ∷ []; spelled = refl; first = refl; second = record { char = l; spelled = refl; allowed = h } }; letter = e })

respelled_piece : (c : ℕ) → StringPiece (respell_char c) c
unfolding respell_char codes echar is_one_of is_string_char
respelled_piece c =
    cond_elim (λ p. StringPiece p c) (eqb c 0x22) (λ p. escaped (code "\"") c refl (sym (eqb-true c 0x22 p)))
    (λ p. cond_elim (λ p. StringPiece p c) (eqb c 0x5C) (λ q. escaped (code "\\") c refl (sym (eqb-true c 0x5C q)))
    (λ q. cond_elim (λ p. StringPiece p c) (eqb c 0x0A) (λ r. escaped (code "n") c refl (sym (eqb-true c 0x0A r)))
    (λ r. cond_elim (λ p. StringPiece p c) (eqb c 0x0D) (λ s. escaped (code "r") c refl (sym (eqb-true c 0x0D s)))
    (λ s. StringPiece.itself refl (rw (p, q, r, s))))))

respelled_scalar : (c : ℕ) → is_scalar c ≡ true → all is_scalar (respell_char c) ≡ true
unfolding respell_char codes all is_scalar
respelled_scalar c h =
    cond_elim (λ p. all is_scalar p ≡ true) (eqb c 0x22) (λ p. refl)
    (λ p. cond_elim (λ p. all is_scalar p ≡ true) (eqb c 0x5C) (λ q. refl)
    (λ q. cond_elim (λ p. all is_scalar p ≡ true) (eqb c 0x0A) (λ r. refl)
    (λ r. cond_elim (λ p. all is_scalar p ≡ true) (eqb c 0x0D) (λ s. refl) (λ s. all_single is_scalar c h))))

respelled_bytes : (c : ℕ) → canonical_char c ≡ utf8 (respell_char c)
unfolding respell_char canonical_char codes utf8 encode_char
respelled_bytes c =
    by_test (eqb c 0x22) (λ p. rw p)
    (λ p. by_test (eqb c 0x5C) (λ q. rw (p, q))
    (λ q. by_test (eqb c 0x0A) (λ r. rw (p, q, r))
    (λ r. by_test (eqb c 0x0D) (λ s. rw (p, q, r, s)) (λ s. rw (p, q, r, s) (sym (append-nil (encode_char c)))))))

-- The characters of a string are scalar values.
echar_scalar : (l : ℕ) → is_one_of (codes "tbnrf\"'\\") l ≡ true → is_scalar (echar l) ≡ true
unfolding codes echar is_one_of is_scalar
echar_scalar l h = each_one (λ x. is_scalar (echar x) ≡ true) (codes "tbnrf\"'\\") l (refl, (refl, (refl, (refl, (refl, (refl, (refl, (refl, tt)))))))) h

piece_scalar : (p : List ℕ) (c : ℕ) → StringPiece p c → all is_scalar p ≡ true → is_scalar c ≡ true
unfolding all codes
piece_scalar p c (StringPiece.itself f a) k = and_left (is_scalar c) true (rw f at k)
piece_scalar p c (StringPiece.by_echar E) k =
    let m = E.matched in
    let s : p ≡ code "\\" ∷ m.second.char ∷ [] = m.spelled ∙ rw (m.first, m.second.spelled) in
    let t : echar m.second.char ≡ c = ap (λ x. echar (get_or x 1 0)) (sym s) ∙ E.letter in
    rw t at (echar_scalar m.second.char m.second.allowed)
piece_scalar p c (StringPiece.by_uchar U) k = U.scalar

pub string_chars : (u cs : List ℕ) → all is_scalar u ≡ true → Resolves StringPiece u cs → all is_scalar cs ≡ true
unfolding all
string_chars u cs h (Resolves.end e) = refl
string_chars u cs h (Resolves.more {cs = ds} p s c e m r) =
    let k : all is_scalar (p ++ s) ≡ true = rw e at h in
    rw (piece_scalar p c m (all_front is_scalar p s k)) (string_chars s ds (all_back is_scalar p s k) r)

respelled : (cs : List ℕ) → Resolves StringPiece (respell cs) cs
unfolding respell
respelled [] = Resolves.end refl
respelled (c ∷ cs) = Resolves.more (respell_char c) (respell cs) c refl (respelled_piece c) (respelled cs)

pub respell_scalar : (cs : List ℕ) → all is_scalar cs ≡ true → all is_scalar (respell cs) ≡ true
unfolding respell all
respell_scalar [] h = refl
respell_scalar (c ∷ cs) h =
    all_append is_scalar (respell_char c) (respell cs) (respelled_scalar c (and_left _ (all is_scalar cs) h)) (respell_scalar cs (and_right (is_scalar c) _ h))

pub respell_bytes : (cs : List ℕ) → canonical_chars cs ≡ utf8 (respell cs)
unfolding respell canonical_chars utf8
respell_bytes [] = refl
respell_bytes (c ∷ cs) = rw (respelled_bytes c, respell_bytes cs) (sym (encode-append (respell_char c) (respell cs)))

respell_string : (u cs : List ℕ) → all is_scalar u ≡ true → Quoted u cs → Respelled (λ v. Quoted v cs) (string_text cs)
unfolding codes all is_scalar string_text utf8 encode_char
respell_string u cs h Q =
    let k = all_front is_scalar Q.inside (codes "\"") (all_back is_scalar (codes "\"") (Q.inside ++ codes "\"") (rw Q.spelled at h)) in
    record {
      chars = codes "\"" ++ (respell cs ++ codes "\"");
      spells = record { inside = respell cs; spelled = refl; resolved = respelled cs };
      scalar = all_append is_scalar (respell cs) (codes "\"") (respell_scalar cs (string_chars Q.inside cs k Q.resolved)) refl;
      same = ap (λ x. code "\"" ∷ x) (ap (λ x. x ++ codes "\"") (respell_bytes cs) ∙ sym (encode-append (respell cs) (codes "\"")));
    }

-- ---- terms

pub ascii_scalar : (cs : List ℕ) → all (λ c. ltb c 0x80) cs ≡ true → all is_scalar cs ≡ true
unfolding all is_scalar
ascii_scalar [] h = refl
ascii_scalar (c ∷ cs) h =
    let p : c < 0x80 = ltb-true c 0x80 (and_left (ltb c 0x80) (all (λ c. ltb c 0x80) cs) h) in
    rw (lt-ltb c 0xD800 (omega (arith, p))) (ascii_scalar cs (and_right (ltb c 0x80) _ h))

respell_tagged : (string cs ls : List ℕ) (t : Text) → all is_scalar string ≡ true → Quoted string cs → Matches LANGTAG (codes "@" ++ ls) → t ≡ text 2 (tagged_text (string_text cs) (map lower_char ls)) → Respelled (λ v. Means v t) t.bytes
unfolding codes tagged_text lower_char
respell_tagged string cs ls t h Q m e =
    let q = respell_string string cs h Q in
    let l = map lower_char ls in
    let n : Matches LANGTAG (codes "@" ++ l) = tag-lower (codes "@" ++ ls) m in
    let a : all (λ c. ltb c 0x80) (codes "@" ++ l) ≡ true = tag_ascii (codes "@" ++ l) n in
    record {
      chars = q.chars ++ (codes "@" ++ l);
      spells = Means.tagged q.chars cs [] l refl q.spells (Repeated.end refl) n (e ∙ ap (λ x. text 2 (tagged_text (string_text cs) x)) (sym (lower_twice ls)));
      scalar = all_append is_scalar q.chars (codes "@" ++ l) q.scalar (ascii_scalar (codes "@" ++ l) a);
      same = ap (λ (x : Text). x.bytes) e ∙ ap (λ x. x ++ (codes "@" ++ l)) q.same ∙ ap (λ x. utf8 q.chars ++ x) (sym (encode_ascii (codes "@" ++ l) a)) ∙ sym (encode-append q.chars (codes "@" ++ l));
    }

respell_typed : (string cs type ds : List ℕ) (t : Text) → all is_scalar string ≡ true → all is_scalar type ≡ true → Quoted string cs → Iri type ds → t ≡ text 2 (typed_text (string_text cs) (iri_text ds)) → Respelled (λ v. Means v t) t.bytes
unfolding codes typed_text utf8 encode_char all is_scalar
respell_typed string cs type ds t h k Q I e =
    let q = respell_string string cs h Q in
    let i = respell_iri type ds k I in
    by_test (is_same_text (iri_text ds) xsd_string)
    (λ p. let f : t ≡ text 2 (string_text cs) = e ∙ rw p in
    record { chars = q.chars; spells = Means.plain cs q.spells f; scalar = q.scalar; same = ap (λ (x : Text). x.bytes) f ∙ q.same })
    (λ p. record {
      chars = q.chars ++ (codes "^^" ++ i.chars);
      spells = Means.typed q.chars cs [] [] i.chars ds refl q.spells (Repeated.end refl) (Repeated.end refl) i.spells e;
      scalar = all_append is_scalar q.chars (codes "^^" ++ i.chars) q.scalar i.scalar;
      same = ap (λ (x : Text). x.bytes) e ∙ rw p (ap (λ x. x ++ (codes "^^" ++ iri_text ds)) q.same ∙ ap (λ x. utf8 q.chars ++ (codes "^^" ++ x)) i.same ∙ sym (encode-append q.chars (codes "^^" ++ i.chars)));
    })

-- A term has a spelling with the same meaning whose bytes are its text.
pub respell_term : (u : List ℕ) (t : Text) → all is_scalar u ≡ true → Means u t → Respelled (λ v. Means v t) t.bytes
unfolding codes blank_text utf8 encode_char
respell_term u t h (Means.iri cs I e) =
    let i = respell_iri u cs h I in
    record { chars = i.chars; spells = Means.iri cs i.spells e; scalar = i.scalar; same = ap (λ (x : Text). x.bytes) e ∙ i.same }
respell_term u t h (Means.blank ls m s e) =
    record { chars = u; spells = Means.blank ls m s e; scalar = h; same = ap (λ (x : Text). x.bytes) e ∙ ap utf8 (sym s) }
respell_term u t h (Means.plain cs Q e) =
    let q = respell_string u cs h Q in
    record { chars = q.chars; spells = Means.plain cs q.spells e; scalar = q.scalar; same = ap (λ (x : Text). x.bytes) e ∙ q.same }
respell_term u t h (Means.tagged string cs w ls s Q m n e) = respell_tagged string cs ls t (all_front is_scalar string _ (rw s at h)) Q n e
respell_term u t h (Means.typed string cs w w' type ds s Q m n I e) =
    let k : all is_scalar (string ++ (w ++ (codes "^^" ++ (w' ++ type)))) ≡ true = rw s at h in
    respell_typed string cs type ds t (all_front is_scalar string _ k) (all_back is_scalar w' type (all_back is_scalar (codes "^^") (w' ++ type) (all_back is_scalar w _ (all_back is_scalar string _ k)))) Q I e
