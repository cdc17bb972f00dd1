-- Laws of the words of a table's rows, one by one: whether they have texts. Assumes nothing.
use Prim.Native.Nat.{ℕ, ◌+◌, ◌-◌, ◌*◌, ◌≤◌, ◌<◌}
use mathlib.Core.Path.{◌≡◌, refl}
use mathlib.Core.Bool.{Bool, true, false, ◌&&◌}
use mathlib.Core.List.{List, [], ◌∷◌}
use native.Mathlib.Omega.{arith}
use lib.ListN.{length, get_or, take, drop, length-drop, drop_of_length-le}
use lib.Seq.{drop-cons}
use native.Mathlib.Numerals.{add-one}
use Rattle.spec.specs.declared.Triple.{Triple}
use Rattle.spec.specs.Lists.{all}
use Rattle.spec.specs.Tables.{count, flatten, rows}
use Rattle.spec.specs.inside.Laid.{Laid}
use Rattle.spec.proofs.TableRows.{flatten-first_rows}
use Rattle.spec_ntriples.specs.Dictionary.{Entry}
use Rattle.spec_writing.specs.Writing.{has_text, has_texts}

-- ---- the words of rows

-- The words of a table's rows are those behind its count.
pub table-words : (ws : List ℕ) → Laid ws → flatten (rows ws) ≡ take (count ws * 3) (drop 1 ws)
unfolding rows
table-words ws L = flatten-first_rows (count ws) (drop 1 ws) (omega (arith, L.counted, L.fits, length-drop 1 ws))

-- All words of rows have texts exactly when all rows have.
pub all_words : (es : List Entry) (ts : List Triple) → all (has_text es) (flatten ts) ≡ all (has_texts es) ts
unfolding all flatten has_texts
all_words es [] = refl
all_words es (t ∷ ts) = go (has_text es t.subject) (has_text es t.property) (has_text es t.object) (all_words es ts)
  where
    go : {x y : Bool} (a b c : Bool) → x ≡ y → (a && (b && (c && x))) ≡ ((a && (b && c)) && y)
    go true true true e = e
    go true true false e = refl
    go true false c e = refl
    go false b c e = refl

-- ---- the loop that asks for texts

-- The words of the rows are asked, one by one.
pub texts_first
    : (es : List Entry) (ws : List ℕ) (end : ℕ) → Laid ws → end ≡ count ws * 3 + 1
    → all (has_text es) (take (end - 1) (drop 1 ws)) ≡ all (has_texts es) (rows ws)
texts_first es ws end L e = let k : end - 1 ≡ count ws * 3 = omega arith in rw (k, ← table-words ws L) (all_words es (rows ws))

module _ (es : List Entry) (xs : List ℕ) (i : ℕ) where
  pub texts_stop : i < length xs → has_text es (get_or xs i 0) ≡ false → all (has_text es) (drop i xs) ≡ false
  unfolding all
  texts_stop h e = rw (drop-cons xs i 0 h, e)

  pub texts_more : i < length xs → has_text es (get_or xs i 0) ≡ true → all (has_text es) (drop (i + 1) xs) ≡ all (has_text es) (drop i xs)
  unfolding all
  texts_more h e = rw (add-one i, drop-cons xs i 0 h, e)

  pub texts_end : length xs ≤ i → all (has_text es) (drop i xs) ≡ true
  unfolding all
  texts_end h = rw (drop_of_length-le xs h)
