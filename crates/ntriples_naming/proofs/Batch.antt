-- Laws of naming the texts of lines. Assumes nothing.
use Prim.Native.Nat.{ℕ, zero, suc, ◌+◌, ◌*◌}
use mathlib.Core.Path.{◌≡◌, refl, sym, ◌∙◌}
use mathlib.Core.Bool.{Bool, true}
use mathlib.Core.List.{List, [], ◌∷◌, append-nil, flat_map}
use native.Mathlib.Omega.{arith}
use lib.ListN.{length, get_or}
use Rattle.spec.specs.declared.Triple.{Triple}
use Rattle.spec.specs.Tables.{triple_from}
use Rattle.spec_ntriples.specs.Texts.{Text, TextTriple}
use Rattle.spec_ntriples.specs.Dictionary.{Entry}
use Rattle.ntriples_lines.specs.declared.Tokens.{Tokens}
use Rattle.ntriples_batch.specs.inside.Batches.{no_triple, HaveTexts}
use Rattle.ntriples_words.specs.inside.Named.{is_named}
use Rattle.ntriples_terms.proofs.Found.{Named, named-words}
use Rattle.ntriples_naming.specs.declared.Last.{Last}
use Rattle.std.specs.Prelude.{Ok}
use Rattle.ntriples_naming.specs.inside.Progress.{line_texts, lines_texts, no_text, NamedTo, Reached, TextsIn, Begins}
use Rattle.ntriples_naming.proofs.Steps.{named_more}

-- ---- the texts of lines

pub lines-length : (ts : List TextTriple) → length (lines_texts ts) ≡ length ts * 3
unfolding lines_texts line_texts flat_map
lines-length [] = refl
lines-length (t ∷ ts) = omega (arith, lines-length ts)

-- The three texts of a line.
pub record TextsAt (xs : List Text) (j : ℕ) (t : TextTriple) : Type 0 where
  pub subject : get_or xs j no_text ≡ t.subject
  pub property : get_or xs (j + 1) no_text ≡ t.property
  pub object : get_or xs (j + 2) no_text ≡ t.object

pub texts-at : (ts : List TextTriple) (i : ℕ) → TextsAt (lines_texts ts) (i * 3) (get_or ts i no_triple)
unfolding lines_texts line_texts flat_map
texts-at [] i = record { subject = refl; property = refl; object = refl }
texts-at (t ∷ ts) zero = record { subject = refl; property = refl; object = refl }
texts-at (t ∷ ts) (suc i) =
    let T = texts-at ts i in
    let e : suc i * 3 ≡ suc (suc (suc (i * 3))) = omega arith in
    let f : suc i * 3 + 1 ≡ suc (suc (suc (i * 3 + 1))) = omega arith in
    let g : suc i * 3 + 2 ≡ suc (suc (suc (i * 3 + 2))) = omega arith in
    record { subject = rw e T.subject; property = rw f T.property; object = rw g T.object }

pub texts_in : (line : List ℕ) (k : Tokens) (ts : List TextTriple) (i : ℕ) → HaveTexts line k (get_or ts i no_triple) → TextsIn line k (lines_texts ts) (i * 3)
texts_in line k ts i H =
    let T = texts-at ts i in
    record { subject = rw T.subject H.subject; property = rw T.property H.property; object = rw T.object H.object }

-- ---- rows

module _ (ds es : List Entry) (xs : List Text) (slots bs : List ℕ) (first : ℕ) (ws : List ℕ) where
  -- A row of which no word is 0 is passed over.
  row_passed : (j : ℕ) → NamedTo j ws → is_named (triple_from ws j) ≡ true → NamedTo (j + 3) ws
  row_passed j N q =
      let M : Named (triple_from ws j) = named-words (triple_from ws j) q in
      let a = named_more j ws N M.subject in
      let b = named_more (j + 1) ws a M.property in
      let e : j + 1 + 1 ≡ j + 2 = omega arith in
      let f : j + 2 + 1 ≡ j + 3 = omega arith in
      rw f at (named_more (j + 2) ws (rw e at b) M.object)

  pub passed_over : (l : Last) (j : ℕ) (r : Triple) (q : Bool) → r ≡ triple_from ws j → q ≡ is_named r → q ≡ true → Reached ds es xs j slots bs first ws (Ok l) → Reached ds es xs (j + 3) slots bs first ws (Ok l)
  passed_over l j r q a b c R = (R.0, row_passed j R.1 (rw (← a) (sym b ∙ c)))

-- Before naming.
pub begin-reached
    : (ds es : List Entry) (ts : List TextTriple) (slots bs : List ℕ) (first : ℕ) (l : Last) (file lines : List ℕ) (n : ℕ) (ws : List ℕ)
    → Begins ds es ts slots bs first l file lines n ws → Reached ds es (lines_texts ts) 0 slots bs first ws (Ok l)
begin-reached ds es ts slots bs first l file lines n ws B = (
  record { entries = es; more = []; grown = sym (append-nil es); last = B.last; same = refl; words = B.words },
  λ i h. absurd (omega (arith, h)),
)
