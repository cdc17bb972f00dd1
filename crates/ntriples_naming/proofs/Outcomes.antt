-- What naming the lines of a batch means for reading (all_entered, all-rows, lacks-ground). Assumes nothing.
use Prim.Native.Nat.{ℕ, suc, ◌+◌, ◌*◌, ◌<◌}
use mathlib.Core.Path.{◌≡◌, refl, sym, ap, ◌∙◌}
use mathlib.Core.Bool.{false, ◌&&◌}
use mathlib.Core.List.{List, [], ◌∷◌, ◌++◌, map, append-nil, append_assoc}
use native.Mathlib.Omega.{arith}
use lib.Dec.{eqb, leb}
use lib.ListN.{length, get_or, drop}
use lib.Seq.{append_snoc}
use Rattle.spec.specs.declared.Triple.{Triple}
use Rattle.spec.specs.Tables.{triple_from, first_rows}
use Rattle.spec.specs.inside.Comparison.{triple_eq}
use Rattle.spec.proofs.Lists.{by_test}
use Rattle.spec.proofs.TableRows.{triple_from-drop}
use Rattle.spec.specs.inside.Each.{Each}
use Rattle.spec_ntriples.specs.Texts.{Text, TextTriple}
use Rattle.spec_ntriples.specs.Dictionary.{Entry, entry, bytes_of_entries, term_of, next_term, are_numbers_enough}
use Rattle.spec_ntriples.specs.Reading.{with_text, with_all, triple_of}
use Rattle.spec_ntriples.proofs.KnownTexts.{HasTerm}
use Rattle.dictionary_names.proofs.Reading.{no_space}
use Rattle.ntriples_batch.specs.inside.Batches.{no_triple}
use Rattle.ntriples_naming.specs.declared.Last.{Last}
use Rattle.ntriples_naming.specs.inside.Progress.{lines_texts, no_text, with_each, NamedTo, Stands, LacksSpace}
use Rattle.ntriples_naming.proofs.Entries.{with_known, with_new, added-first, each-lines}
use Rattle.ntriples_naming.proofs.Batch.{lines-length, TextsAt, texts-at}

-- ---- all texts are named

-- Texts that have terms add nothing.
each_known : (es : List Entry) (xs : List Text) → ((i : ℕ) → i < length xs → 0 < term_of es (get_or xs i no_text).bytes) → with_each es xs ≡ es
unfolding with_each
each_known es [] h = refl
each_known es (x ∷ xs) h = rw (with_known es x (h 0 (omega arith))) (each_known es xs (λ i k. h (suc i) (omega arith)))

-- Rows, one by one.
rows-each
    : (f : TextTriple → Triple) (ts : List TextTriple) (ws : List ℕ) → ((i : ℕ) → i < length ts → triple_from ws (i * 3) ≡ f (get_or ts i no_triple))
    → first_rows (length ts) ws ≡ map f ts
unfolding first_rows
rows-each f [] ws h = refl
rows-each f (t ∷ ts) ws h =
    let a : triple_from ws 0 ≡ f t = h 0 (omega arith) in
    rw (a, rows-each f ts (drop 3 ws) (λ i k. triple_from-drop 3 ws (i * 3) (suc i * 3) (omega arith) ∙ h (suc i) (omega arith)))

module _ (ds es : List Entry) (ts : List TextTriple) (slots bs : List ℕ) (first : ℕ) (ws : List ℕ) (l : Last) (S : Stands ds es (lines_texts ts) slots bs first ws l) (N : NamedTo (length ts * 3) ws) where
  abbrev after : List Entry
  after = ds ++ S.entries

  term_is : (i : ℕ) → i < length ts * 3 → get_or ws i 0 ≡ term_of after (get_or (lines_texts ts) i no_text).bytes
  term_is i h = (S.words i (omega (arith, lines-length ts))).right (N i h)

  -- Where naming went to the end, the entries are those with all texts of the lines.
  pub all_entered : after ≡ with_all (ds ++ es) ts
  all_entered =
      sym (each_known after (lines_texts ts) (λ i h. let k : i < length ts * 3 = omega (arith, lines-length ts) in omega (arith, N i k, term_is i k)))
      ∙ S.same
      ∙ each-lines (ds ++ es) ts

  -- And the words are their terms.
  row_is : (i : ℕ) → i < length ts → triple_from ws (i * 3) ≡ triple_of after (get_or ts i no_triple)
  unfolding triple_of
  row_is i h =
      let T : TextsAt (lines_texts ts) (i * 3) (get_or ts i no_triple) = texts-at ts i in
      triple_eq (triple_from ws (i * 3)) (triple_of after (get_or ts i no_triple))
      (term_is (i * 3) (omega arith) ∙ ap (λ (x : Text). term_of after x.bytes) T.subject)
      (term_is (i * 3 + 1) (omega arith) ∙ ap (λ (x : Text). term_of after x.bytes) T.property)
      (term_is (i * 3 + 2) (omega arith) ∙ ap (λ (x : Text). term_of after x.bytes) T.object)

  pub all-rows : first_rows (length ts) ws ≡ map (triple_of after) ts
  all-rows = rows-each (triple_of after) ts ws row_is

-- ---- a text has no space

-- Entries with texts are those before, and others.
record Grows (es fs : List Entry) : Type 0 where
  pub more : List Entry
  pub grown : fs ≡ es ++ more

with_grows : (es : List Entry) (x : Text) → Grows es (with_text es x)
unfolding with_text
with_grows es x =
    by_test (eqb (term_of es x.bytes) 0)
    (λ p. record { more = entry (next_term x.kind es) x.bytes ∷ []; grown = rw p })
    (λ p. record { more = []; grown = rw p (sym (append-nil es)) })

each_grows : (es : List Entry) (xs : List Text) → Grows es (with_each es xs)
unfolding with_each
each_grows es [] = record { more = []; grown = sym (append-nil es) }
each_grows es (x ∷ xs) =
    let A = with_grows es x in
    let B = each_grows (with_text es x) xs in
    record { more = A.more ++ B.more; grown = B.grown ∙ ap (λ (fs : List Entry). fs ++ B.more) A.grown ∙ append_assoc es A.more B.more }

-- Then question 14 says no to the entries with all texts.
pub lacks-ground
    : (len : ℕ) (es : List Entry) (xs : List Text) → Each HasTerm es → LacksSpace len es xs
    → (leb (length (bytes_of_entries (with_each es xs))) len && are_numbers_enough (with_each es xs)) ≡ false
lacks-ground len es xs h L =
    let t : Text = get_or xs L.place no_text in
    let e : Entry = entry (next_term t.kind es) t.bytes in
    let G : Grows (es ++ (e ∷ [])) (with_each (es ++ (e ∷ [])) xs) = each_grows (es ++ (e ∷ [])) xs in
    let q : with_each es xs ≡ es ++ (e ∷ G.more) =
    sym (added-first es xs L.place h L.within L.first L.kind)
    ∙ ap (λ (fs : List Entry). with_each fs xs) (with_new es t L.new)
    ∙ G.grown
    ∙ append_snoc es e G.more in
    rw q (no_space len es G.more e t refl L.kind L.lacks)
