-- Laws of literals behind their strings, and of terms at their first characters. Assumes nothing.
use Prim.Native.Nat.{ℕ, ◌+◌, ◌≤◌}
use Prim.Native.Char.{code}
use mathlib.Core.Path.{◌≡◌, ap}
use mathlib.Core.Bool.{true, false}
use mathlib.Core.List.{List, [], ◌∷◌, ◌++◌}
use native.Mathlib.Omega.{arith}
use Rattle.spec_ntriples.specs.Utf8.{utf8}
use Rattle.spec_ntriples.specs.Characters.{codes}
use Rattle.spec_ntriples.specs.computed.Terminals.{outside, iri_step, skip}
use Rattle.spec_ntriples.specs.Texts.{is_same_text, iri_text, xsd_string}
use Rattle.ntriples_bytes.specs.inside.Places.{At, Marks, chars_at}
use Rattle.ntriples_bytes.specs.declared.Mark.{Mark}
use Rattle.ntriples_bytes.proofs.Decoding.{at_same, chars_are}
use Rattle.dictionary_bytes.proofs.Same.{same_equal, other_differ}
use Rattle.ntriples_cursor.specs.inside.Coming.{Typed, Tagged, Follows, plain, left_off, typed, tagged, lowered, type_tail}
use Rattle.ntriples_cursor.proofs.Widths.{same_place}
use Rattle.ntriples_cursor.proofs.Terms.{Before, Upto, before_upto, before_one, upto_both, upto_before, upto-place, before-place, scan_before, skip_upto}

-- ---- characters at an index

-- The first of the characters that stand at an index is the one marked, and the others stand behind it.
pub mark_front : (line : List ℕ) (at c : ℕ) (cs : List ℕ) (m : Mark) → Marks line at m → At line at (c ∷ cs) → (m.code ≡ c) × (At line m.next cs)
mark_front line at c cs m M A =
    let e : m.code ∷ M.behind ≡ c ∷ cs = at_same line at (m.code ∷ M.behind) (c ∷ cs) M.stands A in
    let f : M.behind ≡ cs = cc in
    (cc, rw f at M.rest)

-- White space at an index.
pub behind-skip : (line : List ℕ) (at r : ℕ) (cs : List ℕ) → At line at cs → At line r (skip (chars_at line at)) → At line r (skip cs)
behind-skip line at r cs A S = rw (chars_are A) at S

-- ---- datatypes and tags

pub typed_before : (cs rest given : List ℕ) → Typed cs rest given → Before cs rest
typed_before cs rest given T =
    let I = scan_before iri_step outside T.inner given rest T.scans in
    let S : Upto (skip T.behind) rest = rw T.opens (before_upto (code "<" ∷ T.inner) rest (before_one (code "<") T.inner rest (before_upto T.inner rest I))) in
    let B : Upto T.behind rest = upto_both T.behind (skip T.behind) rest (skip_upto T.behind) S in
    rw T.marks (before_one (code "^") (code "^" ∷ T.behind) rest (before_upto (code "^" ∷ T.behind) rest (before_one (code "^") T.behind rest B)))

pub tagged_before : (cs rest given : List ℕ) → Tagged cs rest given → Before cs rest
tagged_before cs rest given G = record { char = code "@"; front = given; same = G.marks }

-- A datatype or a tag stands behind a string whose literal ends later.
pub data Marked (cs rest more : List ℕ) : Type 0 where
  with_type : (given : List ℕ) → Typed (skip cs) rest given → (iri_text given ≡ xsd_string → more ≡ []) → ((iri_text given ≡ xsd_string → ⊥) → more ≡ codes "^^" ++ iri_text given) → Marked cs rest more
  with_tag : (given : List ℕ) → Tagged (skip cs) rest given → more ≡ code "@" ∷ lowered given → Marked cs rest more

module _ (line : List ℕ) (end place : ℕ) (cs rest more : List ℕ) (A : At line place cs) (E : At line end rest) where
  -- Where the literal ends there, nothing is to come.
  pub follows_end : place ≡ end → Follows cs rest more → more ≡ []
  follows_end e (plain p q) = q
  follows_end e (left_off given T p q) = q
  follows_end e (typed given T n q) = absurd (omega (arith, before-place line place end cs rest (upto_before cs (skip cs) rest (skip_upto cs) (typed_before (skip cs) rest given T)) A E))
  follows_end e (tagged given G q) = absurd (omega (arith, before-place line place end cs rest (upto_before cs (skip cs) rest (skip_upto cs) (tagged_before (skip cs) rest given G)) A E))

  pub follows_mark : (place ≡ end → ⊥) → Follows cs rest more → Marked cs rest more
  follows_mark n (plain p q) = absurd (n (same_place line place end rest (rw p at A) E))
  follows_mark n (left_off given T p q) = with_type given T (λ x. q) (λ x. absurd (x p))
  follows_mark n (typed given T x q) = with_type given T (λ y. absurd (x y)) (λ y. q)
  follows_mark n (tagged given G q) = with_tag given G q

-- A mark has a character.
pub record SomeChar (cs : List ℕ) : Type 0 where
  pub char : ℕ
  pub behind : List ℕ
  pub same : cs ≡ char ∷ behind

pub marked_char : (cs rest more : List ℕ) → Marked cs rest more → SomeChar (skip cs)
marked_char cs rest more (with_type given T p q) = record { char = code "^"; behind = code "^" ∷ T.behind; same = T.marks }
marked_char cs rest more (with_tag given G q) = record { char = code "@"; behind = given ++ rest; same = G.marks }

-- By its character.
pub record TypeFound (cs rest more : List ℕ) : Type 0 where
  pub given : List ℕ
  pub typed : Typed (skip cs) rest given
  pub off : iri_text given ≡ xsd_string → more ≡ []
  pub on : (iri_text given ≡ xsd_string → ⊥) → more ≡ codes "^^" ++ iri_text given

pub record TagFound (cs rest more : List ℕ) : Type 0 where
  pub given : List ℕ
  pub tagged : Tagged (skip cs) rest given
  pub same : more ≡ code "@" ∷ lowered given

module _ (line : List ℕ) (at : ℕ) (cs rest more : List ℕ) (m : Mark) (M : Marks line at m) (A : At line at (skip cs)) where
  pub marked-type : (m.code ≡ 0x40 → ⊥) → Marked cs rest more → TypeFound cs rest more
  marked-type n (with_type given T p q) = record { given = given; typed = T; off = p; on = q }
  marked-type n (with_tag given G q) = absurd (n (mark_front line at (code "@") (given ++ rest) m M (rw G.marks at A)).0)

  pub marked-tag : m.code ≡ 0x40 → Marked cs rest more → TagFound cs rest more
  marked-tag e (with_type given T p q) = let f : m.code ≡ 0x5E = (mark_front line at (code "^") (code "^" ∷ T.behind) m M (rw T.marks at A)).0 in absurd (omega arith)
  marked-tag e (with_tag given G q) = record { given = given; tagged = G; same = q }

-- ---- xsd:string

pub type_same : (given : List ℕ) → is_same_text (utf8 given ++ (code ">" ∷ [])) type_tail ≡ true → iri_text given ≡ xsd_string
unfolding iri_text codes
type_same given e = ap (λ (l : List ℕ). code "<" ∷ l) (same_equal _ _ e)

pub type_other : (given : List ℕ) → is_same_text (utf8 given ++ (code ">" ∷ [])) type_tail ≡ false → iri_text given ≡ xsd_string → ⊥
unfolding iri_text codes
type_other given e f = other_differ (utf8 given ++ (code ">" ∷ [])) _ e (tail-same _ _ f)
  where
    tail-same : (x y : List ℕ) → code "<" ∷ x ≡ code "<" ∷ y → x ≡ y
    tail-same x y e = cc

-- ---- the place of a datatype

-- Behind two marks, white space and another mark.
pub inner-place
    : (line : List ℕ) (place : ℕ) (cs rest given : List ℕ) → At line place cs → (T : Typed cs rest given) → (m : Mark) (M : Marks line place m) (n : Mark) (N : Marks line m.next n)
    (s : ℕ) → ((ds : List ℕ) → At line n.next ds → At line s (skip ds)) → (o : Mark) (O : Marks line s o) → (At line o.next T.inner) × (place + 3 ≤ o.next)
inner-place line place cs rest given A T m M n N s f o O =
    let B = (mark_front line place (code "^") (code "^" ∷ T.behind) m M (rw T.marks at A)).1 in
    let C = (mark_front line m.next (code "^") T.behind n N B).1 in
    let D = f T.behind C in
    let E = (mark_front line s (code "<") T.inner o O (rw T.opens at D)).1 in
    (E, omega (arith, M.after, N.after, O.after, upto-place line n.next s T.behind (skip T.behind) (skip_upto T.behind) C D))
