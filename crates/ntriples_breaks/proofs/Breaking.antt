-- Laws of the ends of lines, by index. Assumes nothing.
use Prim.Native.Nat.{ℕ, suc, ◌+◌, ◌≤◌, ◌<◌}
use mathlib.Core.Path.{◌≡◌, refl, sym, ◌∙◌}
use mathlib.Core.Bool.{Bool, true, false, ◌||◌}
use mathlib.Core.List.{List, [], ◌∷◌}
use native.Mathlib.Numerals.{add-one}
use native.Mathlib.Omega.{arith}
use lib.ListN.{length, get_or, drop, drop_of_length-le}
use lib.Seq.{drop-cons}
use lib.Dec.{eqb}
use Rattle.spec_ntriples.specs.Characters.{codes, is_one_of}
use Rattle.ntriples_bytes.proofs.Marking.{by_test}
use Rattle.ntriples_breaks.specs.inside.Breaks.{is_eol, line_length, IsNext}

pub length-within : (bs : List ℕ) → line_length bs ≤ length bs
unfolding line_length
length-within [] = omega arith
length-within (b ∷ bs) = by_test (is_eol b) (λ q. rw q (omega arith)) (λ q. rw q (omega (arith, length-within bs)))

-- The test for the end of a line.
eol_test : (a b : Bool) → (a || b) ≡ (a || (b || false))
eol_test true b = refl
eol_test false true = refl
eol_test false false = refl

module _ (file : List ℕ) (at : ℕ) where
  pub line-all : length file ≤ at → line_length (drop at file) ≡ 0
  unfolding line_length
  line-all h = rw (drop_of_length-le file h)

  module _ (h : at < length file) where
    pub line-stop : (eqb (get_or file at 0) 13 || eqb (get_or file at 0) 10) ≡ true → line_length (drop at file) ≡ 0
    unfolding line_length is_eol is_one_of codes
    line-stop q = rw (drop-cons file at 0 h, sym (eol_test (eqb (get_or file at 0) 13) (eqb (get_or file at 0) 10)) ∙ q)

    pub line-goes : (eqb (get_or file at 0) 13 || eqb (get_or file at 0) 10) ≡ false → line_length (drop at file) ≡ suc (line_length (drop (at + 1) file))
    unfolding line_length is_eol is_one_of codes
    line-goes q = rw (add-one at, drop-cons file at 0 h, sym (eol_test (eqb (get_or file at 0) 13) (eqb (get_or file at 0) 10)) ∙ q)

-- The next line.
pub next_more : (file : List ℕ) (end : ℕ) → end < length file → IsNext file end (end + 1)
next_more file end h = record { within = omega arith; same = rw (add-one end); after = λ from k l. omega arith }

pub next_none : (file : List ℕ) (end : ℕ) → length file ≤ end → IsNext file end (length file)
next_none file end h =
    let a : length file ≤ length file = omega arith in
    let b : length file ≤ suc end = omega arith in
    record { within = a; same = drop_of_length-le file a ∙ sym (drop_of_length-le file b); after = λ from k l. l }
