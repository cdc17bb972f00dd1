-- What looking for the texts of lines means for their words (words_vocabulary, words-found). Assumes nothing.
use Prim.Native.Nat.{ℕ, zero, suc, ◌+◌, ◌*◌, ◌<◌}
use mathlib.Core.Path.{◌≡◌, sym, ap, ◌∙◌}
use mathlib.Core.List.{List, [], ◌∷◌, ◌++◌, flat_map}
use native.Mathlib.Omega.{arith}
use lib.Dec.{eqb}
use lib.ListN.{length, get_or, drop}
use lib.Seq.{get_or-drop}
use borrow.Author.Tests.{eqb-true, eqb-false}
use Rattle.spec.specs.declared.Triple.{Triple}
use Rattle.spec.specs.Tables.{triple_from}
use Rattle.spec.proofs.Lists.{by_test}
use Rattle.spec.proofs.TableRows.{triple_from-drop}
use Rattle.spec.specs.inside.Each.{Each}
use Rattle.spec_ntriples.specs.Texts.{TextTriple}
use Rattle.spec_ntriples.specs.Dictionary.{Entry, vocabulary_of, term_in, term_of}
use Rattle.spec_ntriples.proofs.KnownTexts.{HasTerm, term_more}
use Rattle.ntriples_batch.specs.inside.Batches.{no_triple}
use Rattle.ntriples_terms.specs.inside.Words.{triple_by, found_word, found_row, RowsBy}
use Rattle.ntriples_naming.specs.inside.Progress.{line_texts, lines_texts, IsWord, AreWords}
use Rattle.ntriples_naming.proofs.Entries.{term_behind}
use Rattle.ntriples_naming.proofs.Batch.{lines-length, TextsAt, texts-at}

-- ---- rows and words

-- The three words of a line.
record IsRow (ds all : List Entry) (t : TextTriple) (r : Triple) : Type 0 where
  pub subject : IsWord ds all t.subject.bytes r.subject
  pub property : IsWord ds all t.property.bytes r.property
  pub object : IsWord ds all t.object.bytes r.object

rows_words : (ds all : List Entry) (ts : List TextTriple) (ws : List ℕ) → ((i : ℕ) → i < length ts → IsRow ds all (get_or ts i no_triple) (triple_from ws (i * 3))) → AreWords ds all (lines_texts ts) ws
unfolding lines_texts line_texts flat_map
rows_words ds all [] ws h j k = absurd (omega (arith, k))
rows_words ds all (t ∷ ts) ws h zero k = (h 0 (omega arith)).subject
rows_words ds all (t ∷ ts) ws h (suc zero) k = (h 0 (omega arith)).property
rows_words ds all (t ∷ ts) ws h (suc (suc zero)) k = (h 0 (omega arith)).object
rows_words ds all (t ∷ ts) ws h (suc (suc (suc j))) k =
    let m : 3 + j ≡ suc (suc (suc j)) = omega arith in
    let e : get_or (drop 3 ws) j 0 ≡ get_or ws (suc (suc (suc j))) 0 = get_or-drop 3 ws j 0 ∙ ap (λ (i : ℕ). get_or ws i 0) m in
    rw (← e)
    (rows_words ds all ts (drop 3 ws)
    (λ i n. rw (triple_from-drop 3 ws (i * 3) (suc i * 3) (omega arith)) (h (suc i) (omega arith)))
    j (omega arith))

words_row : (ds all : List Entry) (ts : List TextTriple) (ws : List ℕ) (i : ℕ) → i < length ts → AreWords ds all (lines_texts ts) ws → IsRow ds all (get_or ts i no_triple) (triple_from ws (i * 3))
words_row ds all ts ws i h A =
    let T : TextsAt (lines_texts ts) (i * 3) (get_or ts i no_triple) = texts-at ts i in
    record {
      subject = rw T.subject at (A (i * 3) (omega (arith, lines-length ts)));
      property = rw T.property at (A (i * 3 + 1) (omega (arith, lines-length ts)));
      object = rw T.object at (A (i * 3 + 2) (omega (arith, lines-length ts)));
    }

-- ---- the vocabulary

word_vocabulary : (all : List Entry) (t : List ℕ) → IsWord [] all t (vocabulary_of t)
unfolding term_of term_in
word_vocabulary all t =
    by_test (eqb (vocabulary_of t) 0)
    (λ p. record { right = λ h. absurd (omega (arith, h, eqb-true (vocabulary_of t) 0 p)); new = λ z. rw p })
    (λ p. record { right = λ h. rw p; new = λ z. absurd (eqb-false (vocabulary_of t) 0 p z) })

-- The vocabulary's terms are the words of the lines before any entry was looked at.
pub words_vocabulary : (all : List Entry) (ts : List TextTriple) (ws vs : List ℕ) → RowsBy (λ t r. triple_by vocabulary_of t) ts (length ts) ws vs → AreWords [] all (lines_texts ts) vs
unfolding triple_by
words_vocabulary all ts ws vs R =
    rows_words [] all ts vs
    (λ i h.
    let t : TextTriple = get_or ts i no_triple in
    rw (R i h) record { subject = word_vocabulary all t.subject.bytes; property = word_vocabulary all t.property.bytes; object = word_vocabulary all t.object.bytes })

-- ---- a segment

module _ (ds es rest : List Entry) (h : Each HasTerm ds) where
  word_found : (t : List ℕ) (w : ℕ) → IsWord ds (ds ++ es ++ rest) t w → IsWord (ds ++ es) (ds ++ es ++ rest) t (found_word es t w)
  unfolding found_word
  word_found t w W =
      by_test (eqb w 0)
      (λ p.
      let e : term_of (ds ++ es) t ≡ term_in es t = term_behind ds es t h (W.new (eqb-true w 0 p)) in
      rw p record { right = λ q. sym e ∙ sym (term_more t (ds ++ es) rest (omega (arith, q, e))); new = λ z. e ∙ z })
      (λ p. rw p record { right = W.right; new = λ z. absurd (eqb-false w 0 p z) })

  -- Where the words of the lines were looked for in the entries ds, and then in the segment of es behind them, they were in both.
  pub words-found
      : (ts : List TextTriple) (ws vs : List ℕ) → AreWords ds (ds ++ es ++ rest) (lines_texts ts) ws → RowsBy (found_row es) ts (length ts) ws vs
      → AreWords (ds ++ es) (ds ++ es ++ rest) (lines_texts ts) vs
  unfolding found_row
  words-found ts ws vs A R =
      rows_words (ds ++ es) (ds ++ es ++ rest) ts vs
      (λ i k.
      let t : TextTriple = get_or ts i no_triple in
      let r : Triple = triple_from ws (i * 3) in
      let W : IsRow ds (ds ++ es ++ rest) t r = words_row ds (ds ++ es ++ rest) ts ws i k A in
      rw (R i k)
      record {
        subject = word_found t.subject.bytes r.subject W.subject;
        property = word_found t.property.bytes r.property W.property;
        object = word_found t.object.bytes r.object W.object;
      })
