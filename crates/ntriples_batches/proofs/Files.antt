-- Laws of naming a file in one batch more. Assumes nothing.
use Prim.Native.Nat.{ℕ, ◌-◌, ◌^◌, ◌≤◌, ◌<◌}
use mathlib.Core.Path.{◌≡◌, refl, sym, ap, ◌∙◌}
use mathlib.Core.List.{List, [], ◌∷◌, ◌++◌, map, append_assoc, append-nil}
use mathlib.Core.Bool.{true, ◌&&◌}
use mathlib.Core.Logic.{◌⊎◌, inl, inr, ⊎_elim}
use native.Mathlib.Omega.{arith}
use lib.ListN.{length, take, drop, length-drop, take-append-drop}
use lib.Seq.{get_or-take, length-take-le, take-length}
use lib.Dec.{leb}
use borrow.Author.Tests.{le-leb, leb-true}
use Rattle.spec.specs.Tables.{first_rows}
use Rattle.spec.proofs.Lists.{by_test, true-not_false}
use Rattle.spec.proofs.Ascending.{and_left, and_right}
use Rattle.spec.specs.inside.Each.{Each}
use Rattle.spec_ntriples.specs.Texts.{TextTriple}
use Rattle.spec_ntriples.specs.computed.Lines.{triples, document}
use Rattle.spec_ntriples.specs.Dictionary.{Entry, bytes_of_entries, first_number, next_number, are_numbers_enough}
use Rattle.spec_ntriples.specs.Reading.{with_all, triple_of}
use Rattle.spec.proofs.Each.{each_front, each_back}
use Rattle.spec_ntriples.proofs.Numbers.{texts_of_kind, Enough, numbers_enough, enough_front}
use Rattle.spec_ntriples.specs.Sights.{first_sights, known_texts, file_texts}
use Rattle.spec_ntriples.proofs.KnownTexts.{HasTerm, next_entries, first_sights_lem, has_kept}
use Rattle.spec_ntriples.proofs.ReadingDictionary.{with_all_lem}
use Rattle.spec_ntriples.proofs.ReadingAgain.{with_then}
use Rattle.spec_ntriples.proofs.TripleTexts.{TextsRight, document_texts}
use Rattle.dictionary_entries.proofs.Standing.{entries-length}
use Rattle.dictionary_bytes.specs.declared.Filled.{Filled}
use Rattle.dictionary_bytes.specs.inside.Entries.{FilledBy}
use Rattle.ntriples_batch.specs.declared.Batch.{Batch}
use Rattle.ntriples_batch.specs.inside.Batches.{no_triple, Gathered}
use Rattle.ntriples_naming.proofs.Entries.{have_terms}
use Rattle.std.specs.Prelude.{Result, Ok, Err}
use Rattle.ntriples_segments.specs.declared.NoSpace.{NoSpace}
use Rattle.ntriples_last.specs.inside.Segments.{IsBatch, AllNamed, DoNotFit, TextsLackSpace}
use Rattle.ntriples_segments.specs.inside.Batches.{IsBatched, CanNameBatch}
use Rattle.ntriples_batches.specs.inside.Batches.{FileNamed}

-- ---- entries with the texts of triples

-- The entries with the texts of some triples are those before, and more behind them.
pub record Grown (es fs : List Entry) : Type 0 where
  pub more : List Entry
  pub same : fs ≡ es ++ more

module _ (es : List Entry) (ts : List TextTriple) (h : Each HasTerm es) (k : Each TextsRight ts) where
  pub all_grown : Grown es (with_all es ts)
  all_grown = record { more = next_entries es (first_sights (known_texts es) (file_texts ts)); same = with_all_lem es ts k ∙ first_sights_lem es (file_texts ts) h }

  all_terms : Each HasTerm (with_all es ts)
  all_terms = rw (with_all_lem es ts k) (has_kept es (file_texts ts) h)

-- Fewer entries have enough numbers where more have.
are_enough : (es : List Entry) → Enough es → are_numbers_enough es ≡ true
unfolding are_numbers_enough next_number first_number texts_of_kind
are_enough es E = rw (le-leb (next_number 0 es) (2 ^ 30) E.uris, le-leb (next_number 1 es) (2 ^ 30) E.blanks, le-leb (next_number 2 es) (2 ^ 30) E.literals)

-- Entries that do not fit, do not with more behind them.
fit-less : (len : ℕ) (es fs : List Entry) → DoNotFit len es → DoNotFit len (es ++ fs)
fit-less len es fs N =
    let a = leb (length (bytes_of_entries (es ++ fs))) len in
    let b = are_numbers_enough (es ++ fs) in
    by_test (a && b)
    (λ p.
    let s : length (bytes_of_entries es) ≤ len = omega (arith, entries-length es fs, leb-true (length (bytes_of_entries (es ++ fs))) len (and_left a b p)) in
    let q : are_numbers_enough es ≡ true = are_enough es (enough_front es fs (numbers_enough (es ++ fs) (and_right a b p))) in
    let t : (leb (length (bytes_of_entries es)) len && are_numbers_enough es) ≡ true = rw (le-leb (length (bytes_of_entries es)) len s, q) in
    absurd (true-not_false (sym t ∙ N)))
    (λ p. p)

-- ---- batches

-- The batches before a byte index are named: the dictionary has the entries es with the texts of the triples done; left stand behind. Where
-- all triples are one batch, the rows are theirs once it is named.
pub record Underway (file : List ℕ) (es : List Entry) (ts : List TextTriple) (bs : List ℕ) (from left : ℕ) (f : Filled) (ws : List ℕ) : Type 0 where
  pub done : List TextTriple
  pub rest : List TextTriple
  pub parts : ts ≡ done ++ rest
  pub behind : document (drop from file) ≡ triples rest
  pub counted : left ≡ length rest
  pub filled : FilledBy bs f (with_all es done)
  pub rows : (done ≡ []) ⊎ (length ts ≤ 5460 → (left ≡ 0) × (first_rows (length ts) ws ≡ map (triple_of (with_all es ts)) ts))

pub none_done
    : (file : List ℕ) (es : List Entry) (ts : List TextTriple) (bs : List ℕ) (n : ℕ) (f : Filled) (ws : List ℕ) → document file ≡ triples ts → n ≡ length ts → FilledBy bs f es
    → Underway file es ts bs 0 n f ws
unfolding with_all
none_done file es ts bs n f ws e c F = record { done = []; rest = ts; parts = refl; behind = e; counted = c; filled = F; rows = inl refl }

no_list : {A : Type 0} (l : List A) → length l ≡ 0 → l ≡ []
no_list [] e = refl
no_list (x ∷ l) e = absurd (omega (arith, e))

module _ (file : List ℕ) (es : List Entry) (ts : List TextTriple) (bs : List ℕ) (from left : ℕ) (f : Filled) (ws : List ℕ) (G : Underway file es ts bs from left f ws) where
  -- All are done.
  pub all_done : left ≤ 0 → FileNamed es ts bs f ws
  unfolding with_all first_rows
  all_done z =
      let r : G.rest ≡ [] = no_list G.rest (omega (arith, z, G.counted)) in
      let e : ts ≡ G.done = G.parts ∙ ap (λ (l : List TextTriple). G.done ++ l) r ∙ append-nil G.done in
      record {
        filled = rw e G.filled;
        rows = λ few. ⊎_elim (λ (q : G.done ≡ []). let t : ts ≡ [] = e ∙ q in rw t refl) (λ h. (h few).1) G.rows;
      }

  module _ (said : document file ≡ triples ts) (lines : List ℕ) (r : Batch) (long : length lines ≡ 5460) (H : Gathered file G.rest lines r) where
    -- The next batch, and what stands behind it.
    abbrev pub here : List TextTriple
    here = take r.count G.rest

    abbrev pub later : List TextTriple
    later = drop r.count G.rest

    here_later : here ++ later ≡ G.rest
    here_later = take-append-drop r.count G.rest

    all_parts : ts ≡ G.done ++ here ++ later
    all_parts = G.parts ∙ ap (λ (l : List TextTriple). G.done ++ l) (sym here_later) ∙ sym (append_assoc G.done here later)

    texts_right : Each TextsRight (G.done ++ here ++ later)
    texts_right = rw all_parts at (document_texts file ts said)

    done-right : Each TextsRight G.done
    done-right = each_front TextsRight G.done here (each_front TextsRight (G.done ++ here) later texts_right)

    here-right : Each TextsRight here
    here-right = each_back TextsRight G.done here (each_front TextsRight (G.done ++ here) later texts_right)

    later-right : Each TextsRight later
    later-right = each_back TextsRight (G.done ++ here) later texts_right

    pub count-few : r.count ≤ left
    count-few = omega (arith, H.counted, G.counted)

    pub count_most : r.count ≤ 5460
    count_most = omega (arith, H.counted, long)

    pub count-some : 0 < left → 0 < r.count
    count-some h = omega (arith, H.counted, G.counted, long, h)

    here-long : length here ≡ r.count
    here-long = length-take-le r.count G.rest (omega (arith, count-few, G.counted))

    here-batch : IsBatch file lines r.count here
    here-batch =
        record {
          counted = sym here-long;
          stand = λ i h. rw (get_or-take r.count G.rest i no_triple h) (H.begins i h);
        }

    pub can_name : 16380 ≤ length ws → CanNameBatch bs f file lines r.count ws
    can_name h =
        record {
          old = with_all es G.done;
          triples = here;
          batch = here-batch;
          filled = G.filled;
          noted = omega (arith, count_most, long);
          room = omega (arith, count_most, h);
        }

    module _ (bs' ws' : List ℕ) (b : Result Filled NoSpace) (N : (es : List Entry) (us : List TextTriple) → IsBatch file lines r.count us → FilledBy bs f es → IsBatched es us bs' ws' b) (F : Each HasTerm es) where
      -- It is named.
      pub more-done : (g : Filled) → b ≡ Ok g → 0 < left → Underway file es ts bs' r.next (left - r.count) g ws'
      unfolding with_all
      more-done g e some =
          let A : AllNamed (with_all es G.done) here bs' g ws' = rw e at (N (with_all es G.done) here here-batch G.filled) in
          record {
            done = G.done ++ here;
            rest = later;
            parts = all_parts;
            behind = H.behind;
            counted = ap (λ (n : ℕ). n - r.count) G.counted ∙ sym (length-drop r.count G.rest);
            filled = rw (with_then es G.done here) A.filled;
            rows =
                inr
                (λ few.
                ⊎_elim
                (λ (q : G.done ≡ []).
                let p : ts ≡ G.rest = G.parts ∙ ap (λ (l : List TextTriple). l ++ G.rest) q in
                let c : r.count ≡ length G.rest = omega (arith, H.counted, long, few, ap length p) in
                let u : here ≡ ts = ap (λ (k : ℕ). take k G.rest) c ∙ take-length G.rest ∙ sym p in
                let w : with_all (with_all es G.done) here ≡ with_all es ts = ap (λ (l : List TextTriple). with_all (with_all es l) here) q ∙ ap (with_all es) u in
                (omega (arith, c, G.counted), rw (w, u) at A.rows))
                (λ h. absurd (omega (arith, (h few).0, some)))
                G.rows);
          }

      -- A text of it has no space.
      pub more-lacks : (s : NoSpace) → b ≡ Err s → TextsLackSpace es ts bs' s.filled
      more-lacks s e =
          let A : TextsLackSpace (with_all es G.done) here bs' s.filled = rw e at (N (with_all es G.done) here here-batch G.filled) in
          let D = all_grown es G.done F done-right in
          let K = all_terms es G.done F done-right in
          let X = all_grown (with_all (with_all es G.done) here) later (all_terms (with_all es G.done) here K here-right) later-right in
          let x : with_all es ts ≡ with_all (with_all (with_all es G.done) here) later =
          ap (with_all es) all_parts ∙ with_then es (G.done ++ here) later ∙ ap (λ (l : List Entry). with_all l later) (with_then es G.done here) in
          record {
            more = D.more ++ A.more;
            filled = rw (ap (λ (l : List Entry). l ++ A.more) D.same ∙ append_assoc es D.more A.more) at A.filled;
            lacks = rw (x, X.same) (fit-less (length bs') (with_all (with_all es G.done) here) X.more A.lacks);
          }

pub filled_have : (bs : List ℕ) (f : Filled) (es : List Entry) → FilledBy bs f es → Each HasTerm es
filled_have bs f es F = have_terms es F.holds.writable
