-- Laws of the rows of terms, written line by line. Assumes nothing.
use Prim.Native.Nat.{ℕ, suc, ◌+◌, ◌-◌, ◌*◌, ◌≤◌, ◌<◌}
use mathlib.Core.Path.{◌≡◌, refl, ap, ◌∙◌}
use mathlib.Core.Logic.{⊎_elim}
use mathlib.Core.List.{List, [], ◌∷◌}
use native.Mathlib.Numerals.{add-one}
use native.Mathlib.Omega.{arith}
use lib.ListN.{length, get_or, drop, set, length-set}
use lib.Seq.{sets, get_or-set_same, get_or-set_other}
use Rattle.spec.specs.declared.Triple.{Triple}
use Rattle.spec.specs.Terms.{triple}
use Rattle.spec.specs.Tables.{triple_from}
use Rattle.spec.specs.inside.Comparison.{triple_eq}
use Rattle.spec.proofs.Lists.{le_or}
use Rattle.spec_ntriples.specs.Texts.{TextTriple}
use Rattle.ntriples_lines.specs.declared.Tokens.{Tokens}
use Rattle.ntriples_text.specs.inside.Tokens.{IsToken}
use Rattle.ntriples_breaks.specs.inside.Breaks.{line_length}
use Rattle.ntriples_batch.specs.inside.Batches.{IsLineOfTriple, no_triple}
use Rattle.ntriples_terms.specs.inside.Words.{triple_by, IsTripleAt, AreTokens, RowsBy}

-- ---- one row

-- The words of a row.
abbrev pub words : Triple → List ℕ
words t = t.subject ∷ t.property ∷ t.object ∷ []

module _ (ws : List ℕ) (at : ℕ) (t : Triple) (h : at + 3 ≤ length ws) where
  abbrev after : List ℕ
  after = sets ws at (words t)

  first-put : get_or after at 0 ≡ t.subject
  first-put =
      get_or-set_other (set (set ws at t.subject) (suc at) t.property) (suc (suc at)) at t.object 0 (λ e. omega arith)
      ∙ get_or-set_other (set ws at t.subject) (suc at) at t.property 0 (λ e. omega arith)
      ∙ get_or-set_same ws at t.subject 0 (omega arith)

  second-put : get_or after (at + 1) 0 ≡ t.property
  second-put =
      rw (add-one at)
      (get_or-set_other (set (set ws at t.subject) (suc at) t.property) (suc (suc at)) (suc at) t.object 0 (λ e. omega arith)
      ∙ get_or-set_same (set ws at t.subject) (suc at) t.property 0 (simp length-set (omega arith)))

  third-put : get_or after (at + 2) 0 ≡ t.object
  third-put =
      let e : at + 2 ≡ suc (suc at) = omega arith in
      rw e (get_or-set_same (set (set ws at t.subject) (suc at) t.property) (suc (suc at)) t.object 0 (simp length-set (omega arith)))

  row_same : triple_from after at ≡ t
  row_same = triple_eq (triple_from after at) t first-put second-put third-put

  word_other : (w : ℕ) → (w ≡ at → ⊥) → (w ≡ suc at → ⊥) → (w ≡ suc (suc at) → ⊥) → get_or after w 0 ≡ get_or ws w 0
  word_other w p q r =
      get_or-set_other (set (set ws at t.subject) (suc at) t.property) (suc (suc at)) w t.object 0 r
      ∙ get_or-set_other (set ws at t.subject) (suc at) w t.property 0 q
      ∙ get_or-set_other ws at w t.subject 0 p

-- Another row stays.
row_before : (ws : List ℕ) (i j : ℕ) (t : Triple) → i * 3 + 3 ≤ length ws → j < i → triple_from (sets ws (i * 3) (words t)) (j * 3) ≡ triple_from ws (j * 3)
row_before ws i j t h k =
    triple_eq (triple_from (sets ws (i * 3) (words t)) (j * 3)) (triple_from ws (j * 3))
    (word_other ws (i * 3) t h (j * 3) (λ e. omega arith) (λ e. omega arith) (λ e. omega arith))
    (word_other ws (i * 3) t h (j * 3 + 1) (λ e. omega arith) (λ e. omega arith) (λ e. omega arith))
    (word_other ws (i * 3) t h (j * 3 + 2) (λ e. omega arith) (λ e. omega arith) (λ e. omega arith))

row_behind : (ws : List ℕ) (i j : ℕ) (t : Triple) → i * 3 + 3 ≤ length ws → i < j → triple_from (sets ws (i * 3) (words t)) (j * 3) ≡ triple_from ws (j * 3)
row_behind ws i j t h k =
    triple_eq (triple_from (sets ws (i * 3) (words t)) (j * 3)) (triple_from ws (j * 3))
    (word_other ws (i * 3) t h (j * 3) (λ e. omega arith) (λ e. omega arith) (λ e. omega arith))
    (word_other ws (i * 3) t h (j * 3 + 1) (λ e. omega arith) (λ e. omega arith) (λ e. omega arith))
    (word_other ws (i * 3) t h (j * 3 + 2) (λ e. omega arith) (λ e. omega arith) (λ e. omega arith))

-- ---- all rows

-- The first i rows are written, and the others are as they were.
pub record Written (g : TextTriple → Triple → Triple) (ts : List TextTriple) (i : ℕ) (ws vs : List ℕ) : Type 0 where
  pub done : RowsBy g ts i ws vs
  pub rest : (j : ℕ) → i ≤ j → triple_from vs (j * 3) ≡ triple_from ws (j * 3)

pub written_none : (g : TextTriple → Triple → Triple) (ts : List TextTriple) (ws : List ℕ) → Written g ts 0 ws ws
written_none g ts ws = record { done = λ j h. absurd (omega (arith, h)); rest = λ j h. refl }

module _ (g : TextTriple → Triple → Triple) (ts : List TextTriple) (i : ℕ) (ws vs : List ℕ) (W : Written g ts i ws vs) where
  pub written_more : (r : Triple) (next : List ℕ) → i * 3 + 3 ≤ length vs → r ≡ g (get_or ts i no_triple) (triple_from vs (i * 3)) → next ≡ sets vs (i * 3) (words r) → Written g ts (i + 1) ws next
  written_more r next h e f =
      rw f
      record {
        done = λ j k. ⊎_elim
            (λ (q : i ≤ j). let d : j ≡ i = omega arith in rw d (row_same vs (i * 3) r h ∙ e ∙ ap (g (get_or ts i no_triple)) (W.rest i (omega arith))))
            (λ (q : j < i). row_before vs i j r h q ∙ W.done j q)
            (le_or i j);
        rest = λ j k. row_behind vs i j r h (omega arith) ∙ W.rest j (omega arith);
      }

  pub written_all : (n : ℕ) → n ≤ i → RowsBy g ts n ws vs
  written_all n h j k = W.done j (omega arith)

-- ---- lines

-- The tokens of a line.
module _ (line : List ℕ) (k : Tokens) (A : AreTokens line k) where
  pub subject_token : IsToken line k.subject.from k.subject.end
  subject_token = record { text = A.triple.subject; has = A.texts.subject }

  pub property_token : IsToken line k.property.from k.property.end
  property_token = record { text = A.triple.property; has = A.texts.property }

  pub object_token : IsToken line k.object.from k.object.end
  object_token = record { text = A.triple.object; has = A.texts.object }

pub by_words : (f : List ℕ → ℕ) (t : TextTriple) (s p o : ℕ) → s ≡ f t.subject.bytes → p ≡ f t.property.bytes → o ≡ f t.object.bytes → triple s p o ≡ triple_by f t
unfolding triple_by
by_words f t s p o a b c = rw (a, b, c)

-- The line that begins at an index, up to its end.
pub line_there : (file : List ℕ) (begin end : ℕ) → IsTripleAt file begin → end ≡ begin + line_length (drop begin file) → IsLineOfTriple file begin end
line_there file begin end T e = record { triple = T.triple; line = T.line; ends = e }
