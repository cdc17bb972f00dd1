-- Words for the texts of lines. Definitions only.
use Rattle.std.specs.Prelude.{ℕ, ◌*◌, ◌≤◌, ◌<◌, ◌≡◌, cond, List, length, get_or, eqb}
use Rattle.spec.specs.declared.Triple.{Triple}
use Rattle.spec.specs.Terms.{triple}
use Rattle.spec.specs.Tables.{triple_from}
use Rattle.spec_ntriples.specs.Texts.{TextTriple}
use Rattle.spec_ntriples.specs.Dictionary.{Entry, term_in}
use Rattle.ntriples_lines.specs.declared.Tokens.{Tokens}
use Rattle.ntriples_batch.specs.inside.Batches.{LineAt, no_triple, HaveTexts}

-- ---- words

-- The row of a line whose texts have the words that a function gives.
unfoldable pub triple_by : (List ℕ → ℕ) → TextTriple → Triple
triple_by f t = triple (f t.subject.bytes) (f t.property.bytes) (f t.object.bytes)

-- A text's word: as it is; or where it is 0, the term of the text among some entries, 0 where none has it.
unfoldable pub found_word : List Entry → List ℕ → ℕ → ℕ
found_word es t w = cond (eqb w 0) (term_in es t) w

-- The same for the three words of a line.
unfoldable pub found_row : List Entry → TextTriple → Triple → Triple
found_row es t r =
    triple
    (found_word es t.subject.bytes r.subject)
    (found_word es t.property.bytes r.property)
    (found_word es t.object.bytes r.object)

-- ---- lines

-- A line with a triple begins at an index.
pub record IsTripleAt (file : List ℕ) (begin : ℕ) : Type 0 where
  pub triple : TextTriple
  pub line : LineAt file begin triple

-- The places of a triple's terms in a line.
pub record AreTokens (line : List ℕ) (k : Tokens) : Type 0 where
  pub triple : TextTriple
  pub texts : HaveTexts line k triple

-- The first n lines that are noted are those of some triples.
abbrev pub LinesAt : List ℕ → List ℕ → ℕ → List TextTriple → Type 0
LinesAt file lines n ts = (i : ℕ) → i < n → LineAt file (get_or lines i 0) (get_or ts i no_triple)

-- They are, and there are three words for each.
pub record CanBeNamed (file lines : List ℕ) (n : ℕ) (terms : List ℕ) : Type 0 where
  pub triples : List TextTriple
  pub stand : LinesAt file lines n triples
  pub noted : n ≤ length lines
  pub room : n * 3 ≤ length terms

-- Each of the first n rows is what a function gives for its line and the row before.
abbrev pub RowsBy : (TextTriple → Triple → Triple) → List TextTriple → ℕ → List ℕ → List ℕ → Type 0
RowsBy g ts n ws vs = (i : ℕ) → i < n → triple_from vs (i * 3) ≡ g (get_or ts i no_triple) (triple_from ws (i * 3))
