-- A byte that stands for itself is the next piece (own-stepped, at the end). Assumes nothing.
use Prim.Native.Nat.{ℕ, ◌+◌, ◌<◌}
use Prim.Native.Char.{code}
use mathlib.Core.Path.{◌≡◌, refl, sym, ap, ◌∙◌}
use mathlib.Core.Bool.{Bool, true, ◌&&◌, not}
use mathlib.Core.List.{List, [], ◌∷◌}
use native.Mathlib.Omega.{arith}
use lib.Dec.{eqb, ltb}
use lib.ListN.{get_or}
use borrow.Author.Tests.{eq-eqb, ltb-true, lt-ltb}
use Rattle.spec.proofs.Lists.{true-not_false}
use Rattle.spec_ntriples.specs.Utf8.{encode_char}
use Rattle.spec_ntriples.specs.Texts.{canonical_char}
use Rattle.spec_ntriples.specs.computed.Terminals.{State, Step, outside, iri_step, string_step}
use Rattle.ntriples_bytes.specs.inside.Places.{Marks}
use Rattle.ntriples_bytes.proofs.Decoding.{some_at, at_same}
use Rattle.ntriples_bytes.proofs.Marking.{and_left, and_right, ascii_marks}
use Rattle.ntriples_cursor.specs.declared.Mode.{Mode}
use Rattle.ntriples_cursor.specs.declared.Mode.TheVariants.{Term, Iri, Label, Quoted, Suffix, Tag}
use Rattle.ntriples_cursor.specs.declared.Cursor.{Cursor}
use Rattle.ntriples_cursor.specs.inside.Readers.{IsReader, Reads, Gives}
use Rattle.ntriples_cursor.specs.inside.Coming.{Coming, ComingIn, Holds, Stepped}
use Rattle.ntriples_own.specs.inside.Own.{is_but, is_own, own_piece}
use Rattle.ntriples_cursor.proofs.Readers.{iri_reader, string_reader, reads-within, outside-plain, outside-sound}
use Rattle.ntriples_cursor.proofs.Stepping.{iri_more, string_more}

-- ---- such a byte

-- What the test says of it.
pub record But (close b : ℕ) : Type 0 where
  pub ascii : b < 0x80
  pub apart : b ≡ close → ⊥
  pub itself : b ≡ 0x5C → ⊥

other : (b d : ℕ) → not (eqb b d) ≡ true → b ≡ d → ⊥
other b d e p = true-not_false (sym e ∙ ap not (eq-eqb b d p))

is_but_lem : (close b : ℕ) → is_but close b ≡ true → But close b
is_but_lem close b e =
    let r : (not (eqb b close) && not (eqb b 0x5C)) ≡ true = and_right (ltb b 0x80) _ e in
    record {
      ascii = ltb-true b 0x80 (and_left (ltb b 0x80) _ e);
      apart = other b close (and_left (not (eqb b close)) _ r);
      itself = other b 0x5C (and_right (not (eqb b close)) _ r);
    }

-- The test in either mode.
pub own_iri : (mode : Mode) (r : Bool) (b : ℕ) → mode ≡ Iri → r ≡ is_but 0x3E b → r ≡ is_own mode b
own_iri mode r b e h = h ∙ sym (ap (λ (m : Mode). is_own m b) e)

pub own_string : (mode : Mode) (r : Bool) (b : ℕ) → mode ≡ Quoted → r ≡ is_but 0x22 b → r ≡ is_own mode b
own_string mode r b e h = h ∙ sym (ap (λ (m : Mode). is_own m b) e)

-- Its bytes in UTF-8.
one_byte : (b : ℕ) → b < 0x80 → encode_char b ≡ b ∷ []
unfolding encode_char
one_byte b h = rw (lt-ltb b 0x80 h)

-- The piece that it is.
own_holds : (c : Cursor) (b : ℕ) (text : List ℕ) → b ∷ [] ≡ text → Holds text (record { place = c.place + 1; mode = c.mode }) (own_piece c b)
own_holds c b text e = record { bytes = e; leads = refl; few = omega arith; four = omega arith }

-- ---- a reader that stands at it

module _ (line : List ℕ) (step : State → ℕ → Step) (close : ℕ) (R : IsReader step close) (ds rest : List ℕ) (at : ℕ) (D : Reads line at step outside ds rest)
    (B : But close (get_or line at 0)) where
  own_mark : Marks line at (record { code = get_or line at 0; next = at + 1 })
  own_mark = ascii_marks line at (some_at D.stands) (reads-within line at step outside ds rest D) B.ascii

  front_same : (a c : ℕ) (xs cs : List ℕ) → a ∷ xs ≡ c ∷ cs → a ≡ c
  front_same a c xs cs e = ap (λ (l : List ℕ). get_or l 0 0) e

  own_gives : Gives line at 0 step ds rest (record { code = get_or line at 0; next = at + 1 })
  own_gives =
      outside-plain line step close R ds rest at (record { code = get_or line at 0; next = at + 1 }) own_mark D
      (λ cs A. B.apart (front_same (get_or line at 0) close own_mark.behind cs (at_same line at (get_or line at 0 ∷ own_mark.behind) (close ∷ cs) own_mark.stands A)))
      B.itself

  own_canonical : canonical_char (get_or line at 0) ≡ encode_char (get_or line at 0)
  own_canonical = (R.plain (get_or line at 0) B.apart B.itself (outside-sound line step close R ds rest at (record { code = get_or line at 0; next = at + 1 }) own_mark D)).1

-- ---- a cursor that stands at it

own_in
    : (mode : Mode) (line : List ℕ) (end place : ℕ) (bytes : List ℕ) → is_own mode (get_or line place 0) ≡ true → ComingIn mode line end place bytes
    → Stepped line end place bytes (own_piece (record { place = place; mode = mode }) (get_or line place 0))
own_in Term line end place bytes e C = absurd (true-not_false (sym e))
own_in Iri line end place bytes e I =
    let b = get_or line place 0 in
    let B : But (code ">") b = is_but_lem (code ">") b e in
    let G = own_gives line iri_step (code ">") iri_reader I.given I.rest place I.reads B in
    let S = iri_more line end place bytes (own_piece (record { place = place; mode = Iri }) b) I (record { code = b; next = place + 1 }) G (own_holds (record { place = place; mode = Iri }) b (encode_char b) (sym (one_byte b B.ascii))) in
    record { later = S.later; splits = S.splits }
own_in Label line end place bytes e C = absurd (true-not_false (sym e))
own_in Quoted line end place bytes e S =
    let b = get_or line place 0 in
    let B : But (code "\"") b = is_but_lem (code "\"") b e in
    let G = own_gives line string_step (code "\"") string_reader S.given S.behind place S.reads B in
    let k = own_canonical line string_step (code "\"") string_reader S.given S.behind place S.reads B in
    string_more line end place bytes (own_piece (record { place = place; mode = Quoted }) b) S (record { code = b; next = place + 1 }) G (own_holds (record { place = place; mode = Quoted }) b (canonical_char b) (sym (k ∙ one_byte b B.ascii)))
own_in Suffix line end place bytes e C = absurd (true-not_false (sym e))
own_in Tag line end place bytes e C = absurd (true-not_false (sym e))

-- A byte that stands for itself, where a cursor stands, is the first piece of what is to come.
pub own-stepped
    : (line : List ℕ) (end : ℕ) (c : Cursor) (bytes : List ℕ) → c.place < end → is_own c.mode (get_or line c.place 0) ≡ true → Coming line end c bytes
    → Stepped line end c.place bytes (own_piece c (get_or line c.place 0))
own-stepped line end c bytes h e C = own_in c.mode line end c.place bytes e C
