-- Laws of words that are found in a segment. Assumes nothing.
use Prim.Native.Nat.{ℕ, ◌<◌}
use mathlib.Core.Path.{◌≡◌}
use mathlib.Core.Bool.{true, ◌&&◌}
use mathlib.Core.List.{List}
use lib.Dec.{ltb}
use native.Mathlib.Omega.{arith}
use borrow.Author.Tests.{eq-eqb, ne_eqb, ltb-true}
use Rattle.spec.specs.declared.Triple.{Triple}
use Rattle.spec.specs.Terms.{triple}
use Rattle.spec.proofs.Ascending.{and_left, and_right}
use Rattle.spec_ntriples.specs.Texts.{TextTriple}
use Rattle.spec_ntriples.specs.Dictionary.{Entry, term_in}
use Rattle.ntriples_words.specs.inside.Named.{is_named}
use Rattle.ntriples_terms.specs.inside.Words.{found_word, found_row}

module _ (es : List Entry) (t : List ℕ) (w : ℕ) where
  pub found_kept : (w ≡ 0 → ⊥) → w ≡ found_word es t w
  unfolding found_word
  found_kept h = rw (ne_eqb w 0 h)

  pub found_new : (r : ℕ) → w ≡ 0 → r ≡ term_in es t → r ≡ found_word es t w
  unfolding found_word
  found_new r h e = rw (eq-eqb w 0 h) e

pub found-row
    : (es : List Entry) (t : TextTriple) (row : Triple) (s p o : ℕ) → s ≡ found_word es t.subject.bytes row.subject → p ≡ found_word es t.property.bytes row.property → o ≡ found_word es t.object.bytes row.object
    → triple s p o ≡ found_row es t row
unfolding found_row
found-row es t row s p o a b c = rw (a, b, c)

-- The words of a row of which none is 0.
pub record Named (row : Triple) : Type 0 where
  pub subject : 0 < row.subject
  pub property : 0 < row.property
  pub object : 0 < row.object

pub named-words : (row : Triple) → is_named row ≡ true → Named row
unfolding is_named
named-words row h =
    let a = ltb 0 row.subject in
    let b = ltb 0 row.property in
    let c = ltb 0 row.object in
    let k : (b && c) ≡ true = and_right a (b && c) h in
    record {
      subject = ltb-true 0 row.subject (and_left a (b && c) h);
      property = ltb-true 0 row.property (and_left b c k);
      object = ltb-true 0 row.object (and_right b c k);
    }

-- Such a row stays.
pub row_kept : (es : List Entry) (t : TextTriple) (row : Triple) → is_named row ≡ true → row ≡ found_row es t row
row_kept es t row h =
    let N = named-words row h in
    found-row es t row row.subject row.property row.object
    (found_kept es t.subject.bytes row.subject (λ e. omega (arith, N.subject, e)))
    (found_kept es t.property.bytes row.property (λ e. omega (arith, N.property, e)))
    (found_kept es t.object.bytes row.object (λ e. omega (arith, N.object, e)))
