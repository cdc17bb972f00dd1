-- Where a cursor stands: never behind the end of its term, and there nothing is to come. Assumes nothing.
use Prim.Native.Nat.{ℕ, ◌≤◌, ◌<◌}
use Prim.Native.Char.{code}
use mathlib.Core.Path.{◌≡◌, refl, sym, ap, ◌∙◌}
use mathlib.Core.List.{List, [], ◌∷◌, ◌++◌, append_assoc}
use native.Mathlib.Omega.{arith}
use Rattle.spec_ntriples.specs.Utf8.{utf8}
use Rattle.spec_ntriples.specs.computed.Terminals.{outside, iri_step, string_step, skip}
use Rattle.spec_ntriples.specs.Texts.{Text}
use Rattle.ntriples_bytes.specs.inside.Places.{At}
use Rattle.ntriples_cursor.specs.declared.Mode.{Mode}
use Rattle.ntriples_cursor.specs.declared.Mode.TheVariants.{Term, Iri, Label, Quoted, Suffix, Tag}
use Rattle.ntriples_cursor.specs.declared.Cursor.{Cursor}
use Rattle.ntriples_cursor.specs.inside.Coming.{Follows, plain, left_off, typed, tagged, lowered, ComingIn, Coming, Shown, typed_at, tagged_at}
use Rattle.ntriples_cursor.proofs.Terms.{Before, Upto, upto_none, before_upto, before_one, upto_both, upto_before, upto-place, before-place, scan_before, skip_upto, IriRead, Opened, iri, blank, literal, open-object}
use Rattle.ntriples_cursor.proofs.Following.{typed_before, tagged_before}

-- A place in a term.
pub record Placed (end place : ℕ) (bytes : List ℕ) : Type 0 where
  pub within : place ≤ end
  pub done : end ≤ place → bytes ≡ []

-- Characters that are followed by others, and by the end of the term.
before-placed : (line : List ℕ) (end place : ℕ) (bytes cs rest : List ℕ) → Before cs rest → At line place cs → At line end rest → Placed end place bytes
before-placed line end place bytes cs rest B A E =
    let h : place < end = before-place line place end cs rest B A E in
    record { within = omega arith; done = λ k. absurd (omega arith) }

given-placed : (line : List ℕ) (end place : ℕ) (f : List ℕ → List ℕ) (given rest bytes : List ℕ) → f [] ≡ [] → bytes ≡ f given → At line place (given ++ rest) → At line end rest → Placed end place bytes
given-placed line end place f [] rest bytes z e A E = record { within = upto-place line place end rest rest (upto_none rest) A E; done = λ k. e ∙ z }
given-placed line end place f (c ∷ cs) rest bytes z e A E = before-placed line end place bytes (c ∷ (cs ++ rest)) rest (record { char = c; front = cs; same = refl }) A E

-- A term is followed.
iri_before : (cs rest : List ℕ) (t : Text) → IriRead cs rest t → Before cs rest
iri_before cs rest t I = rw I.opens (before_one (code "<") I.inner rest (before_upto I.inner rest (scan_before iri_step outside I.inner I.given rest I.scans)))

pub follows_upto : (cs rest more : List ℕ) → Follows cs rest more → Upto cs rest
follows_upto cs rest more (plain p q) = rw p (upto_none rest)
follows_upto cs rest more (left_off given T p q) = before_upto cs rest (upto_before cs (skip cs) rest (skip_upto cs) (typed_before (skip cs) rest given T))
follows_upto cs rest more (typed given T n q) = before_upto cs rest (upto_before cs (skip cs) rest (skip_upto cs) (typed_before (skip cs) rest given T))
follows_upto cs rest more (tagged given G q) = before_upto cs rest (upto_before cs (skip cs) rest (skip_upto cs) (tagged_before (skip cs) rest given G))

opened_before : (cs rest : List ℕ) (t : Text) → Opened cs rest t → Before cs rest
opened_before cs rest t (iri I) = iri_before cs rest t I
opened_before cs rest t (blank given k q) = record { char = code "_"; front = code ":" ∷ given; same = k }
opened_before cs rest t (literal inner given behind more k f F q) =
    rw k (before_one (code "\"") inner rest (upto_both inner behind rest (before_upto inner behind (scan_before string_step outside inner given behind f)) (follows_upto behind rest more F)))

shown_before : (cs rest bytes : List ℕ) → Shown cs rest bytes → Before cs rest
shown_before cs rest bytes (typed_at given T q) = typed_before cs rest given T
shown_before cs rest bytes (tagged_at given G q) = tagged_before cs rest given G

-- In each mode.
placed_in : (mode : Mode) (line : List ℕ) (end place : ℕ) (bytes : List ℕ) → ComingIn mode line end place bytes → Placed end place bytes
unfolding utf8 lowered
placed_in Term line end place bytes T =
    before-placed line end place bytes T.has.chars T.has.rest (opened_before T.has.chars T.has.rest T.text (open-object T.has.chars T.has.rest T.text T.has.reads)) T.has.starts T.has.behind
placed_in Iri line end place bytes I = before-placed line end place bytes I.reads.chars I.rest (scan_before iri_step outside I.reads.chars I.given I.rest I.reads.scans) I.reads.stands I.ends
placed_in Label line end place bytes L = given-placed line end place utf8 L.given L.rest bytes refl L.same L.stands L.ends
placed_in Quoted line end place bytes S =
    let B = scan_before string_step outside S.reads.chars S.given S.behind S.reads.scans in
    let U = follows_upto S.behind S.rest S.more S.follows in
    before-placed line end place bytes S.reads.chars S.rest (record { char = B.char; front = B.front ++ U.front; same = B.same ∙ ap (λ (l : List ℕ). B.char ∷ l) (ap (λ (l : List ℕ). B.front ++ l) U.same ∙ sym (append_assoc B.front U.front S.rest)) }) S.reads.stands S.ends
placed_in Suffix line end place bytes S = before-placed line end place bytes S.chars S.rest (shown_before S.chars S.rest bytes S.shown) S.stands S.ends
placed_in Tag line end place bytes T = given-placed line end place lowered T.given T.rest bytes refl T.same T.stands T.ends

-- A cursor's place.
pub coming-placed : (line : List ℕ) (end : ℕ) (c : Cursor) (bytes : List ℕ) → Coming line end c bytes → Placed end c.place bytes
coming-placed line end c bytes C = placed_in c.mode line end c.place bytes C
