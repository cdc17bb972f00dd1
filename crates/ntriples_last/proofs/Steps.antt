-- Laws of naming a batch in one segment more. Assumes nothing.
use Prim.Native.Nat.{ℕ, ◌+◌, ◌*◌, ◌≤◌, ◌<◌}
use mathlib.Core.Path.{◌≡◌, refl, sym, ap, ◌∙◌}
use mathlib.Core.List.{List, [], ◌++◌, append_assoc, append-nil}
use native.Mathlib.Omega.{arith}
use lib.ListN.{length, take, drop, take-append-drop}
use Rattle.spec.specs.inside.Each.{Each}
use Rattle.spec_ntriples.specs.Texts.{Text, TextTriple}
use Rattle.spec_ntriples.specs.Dictionary.{Entry, bytes_of_entries, vocabulary_of}
use Rattle.spec_ntriples.specs.Reading.{with_all}
use Rattle.spec_ntriples.proofs.EntryBytes.{length-entries}
use Rattle.spec.proofs.Each.{each_front}
use Rattle.spec_ntriples.proofs.KnownTexts.{HasTerm}
use Rattle.dictionary_bytes.specs.declared.Filled.{Filled}
use Rattle.dictionary_bytes.specs.inside.Entries.{place_at, FilledBy}
use Rattle.dictionary_bytes.proofs.Entry.{places-ascend}
use Rattle.dictionary_entries.proofs.Standing.{entries-length}
use Rattle.dictionary_entries.proofs.Held.{held-within, held_last}
use Rattle.dictionary_index.specs.declared.Segment.{Segment}
use Rattle.dictionary_index.specs.inside.Index.{LeadWithin, AreEntries, IsSegment}
use Rattle.dictionary_index.proofs.Indexing.{index-within, first_before}
use Rattle.dictionary_search.specs.inside.IndexOf.{IndexOf}
use Rattle.dictionary_names.specs.inside.Naming.{LastSegment}
use Rattle.dictionary_names.proofs.Segments.{segment_index, segment_ends, segment_last}
use Rattle.ntriples_terms.specs.inside.Words.{triple_by, found_row, RowsBy}
use Rattle.ntriples_naming.specs.declared.Last.{Last}
use Rattle.std.specs.Prelude.{Result, Ok, Err}
use Rattle.ntriples_naming.specs.declared.Stopped.{Stopped}
use Rattle.ntriples_naming.specs.declared.Stopped.TheVariants.{Full, NoSpace}
use Rattle.ntriples_naming.specs.inside.Progress.{lines_texts, with_each, Stands, Reached, Begins}
use Rattle.ntriples_naming.proofs.Entries.{have_terms, each-lines}
use Rattle.ntriples_naming.proofs.Outcomes.{all_entered, all-rows, lacks-ground}
use Rattle.ntriples_naming.proofs.Looking.{words_vocabulary, words-found}
use Rattle.ntriples_last.specs.inside.Segments.{IsBatch, AllNamed, TextsLackSpace, Looked, IsSegmentStep}
use Rattle.ntriples_last.specs.declared.Step.TheVariants.{Done, Lacks, Next}

-- ---- before any segment

pub looked-none
    : (es : List Entry) (ts : List TextTriple) (bs : List ℕ) (f : Filled) (file lines : List ℕ) (n : ℕ) (ws vs : List ℕ)
    → IsBatch file lines n ts → FilledBy bs f es → RowsBy (λ t r. triple_by vocabulary_of t) ts n ws vs → Looked es ts bs 0 f vs
unfolding bytes_of_entries
looked-none es ts bs f file lines n ws vs B F R =
    record {
      before = [];
      behind = es;
      more = [];
      filled = F;
      starts = refl;
      grown = sym (append-nil es);
      same = refl;
      words = words_vocabulary es ts ws vs (rw B.counted at R);
    }

pub index_leads : (slots bs : List ℕ) (first : ℕ) (es : List Entry) → IndexOf slots bs first es → LeadWithin slots bs first
index_leads slots bs first es X = index-within slots bs first (length es) X.index

module _ (es : List Entry) (ts : List TextTriple) (bs : List ℕ) (first : ℕ) (f : Filled) (ws : List ℕ) (L : Looked es ts bs first f ws) where
  -- ---- a segment that is not the last

  -- The bytes behind the index are the entries that are left.
  pub left-entries : AreEntries bs first f.end
  left-entries =
      record {
        count = length L.behind;
        ends = held_last bs f.end L.before L.behind L.filled.holds first L.starts;
        within = held-within bs f.end (L.before ++ L.behind) L.filled.holds;
      }

  module _ (slots : List ℕ) (g : Segment) (G : IsSegment slots bs first f.end g) where
    -- Its entries, and those behind it.
    abbrev pub here : List Entry
    here = take g.count L.behind

    abbrev pub rest : List Entry
    rest = drop g.count L.behind

    pub here-index : IndexOf slots bs first here
    here-index = segment_index slots bs f.end first L.before L.behind g L.filled.holds L.starts G

    here-rest : L.before ++ L.behind ≡ L.before ++ here ++ rest
    here-rest = ap (λ (x : List Entry). L.before ++ x) (sym (take-append-drop g.count L.behind)) ∙ sym (append_assoc L.before here rest)

    pub here-some : g.end < f.end → first < g.end
    unfolding place_at
    here-some h =
        let c : 0 < g.count = G.some (omega (arith, h, G.ends, first_before bs first g.count)) in
        let e : 0 + g.count ≡ g.count = omega arith in
        omega (arith, G.ends, rw e at (places-ascend bs first 0 g.count), c)

    pub here-within : g.end ≤ length bs
    here-within = omega (arith, G.within, left-entries.within)

    pub looked-on : (file lines : List ℕ) (n : ℕ) (vs : List ℕ) → IsBatch file lines n ts → RowsBy (found_row here) ts n ws vs → Looked es ts bs g.end f vs
    looked-on file lines n vs B R =
        let T : Each HasTerm (L.before ++ L.behind) = have_terms (L.before ++ L.behind) L.filled.holds.writable in
        record {
          before = L.before ++ here;
          behind = rest;
          more = L.more;
          filled = rw here-rest at L.filled;
          starts = segment_ends slots bs f.end first L.before L.behind g L.filled.holds L.starts G;
          grown = sym here-rest ∙ L.grown;
          same = rw here-rest at L.same;
          words = words-found L.before here rest (each_front HasTerm L.before L.behind T) ts ws vs (rw here-rest at L.words) (rw B.counted at R);
        }

    -- The last segment.
    pub here-last : f.end ≤ g.end → LastSegment slots bs first g.count f L.before L.behind
    here-last h = segment_last slots bs f.end first L.before L.behind g L.filled.holds L.starts G f L.filled (omega (arith, h, G.within))

  -- ---- the last segment

  begins
      : (slots file lines : List ℕ) (n : ℕ) (l : Last) → IsBatch file lines n ts → LastSegment slots bs first l.count l.filled L.before L.behind
      → Begins L.before L.behind ts slots bs first l file lines n ws
  begins slots file lines n l B S = record { last = S; counted = B.counted; stand = B.stand; words = L.words }

  module _ (file lines : List ℕ) (n : ℕ) (B : IsBatch file lines n ts) (slots' bs' ws' : List ℕ) where
    abbrev texts : List Text
    texts = lines_texts ts

    module _ (l : Last) (S : Stands L.before L.behind texts slots' bs' first ws' l) where
      abbrev all : List Entry
      all = L.before ++ S.entries

      -- With all texts, the entries are those that es are.
      all_same : with_all all ts ≡ with_all es ts
      all_same = sym (each-lines all ts) ∙ S.same ∙ each-lines (L.before ++ L.behind) ts ∙ L.same

      all_grown : all ≡ es ++ (L.more ++ S.more)
      all_grown =
          ap (λ (x : List Entry). L.before ++ x) S.grown
          ∙ sym (append_assoc L.before L.behind S.more)
          ∙ ap (λ (x : List Entry). x ++ S.more) L.grown
          ∙ append_assoc es L.more S.more

      all_terms : Each HasTerm all
      all_terms = have_terms all S.last.filled.holds.writable

      -- The texts were looked for in it too.
      looked-last : (vs : List ℕ) → RowsBy (found_row S.entries) ts n ws' vs → Looked es ts bs' l.filled.end l.filled vs
      looked-last vs R =
          let e : all ++ [] ≡ all = append-nil all in
          record {
            before = all;
            behind = [];
            more = L.more ++ S.more;
            filled = rw e S.last.filled;
            starts = S.last.filled.holds.ends;
            grown = e ∙ all_grown;
            same = rw e all_same;
            words = words-found L.before S.entries [] (each_front HasTerm L.before S.entries all_terms) ts ws' vs (rw e S.words) (rw B.counted at R);
          }

      last_some : 0 < length S.entries → first < l.filled.end
      last_some h = omega (arith, h, L.starts, S.last.filled.holds.ends, entries-length L.before S.entries, length-entries S.entries)

      last_within : l.filled.end ≤ length bs'
      last_within = held-within bs' l.filled.end all S.last.filled.holds

    -- What naming did.
    reached-all : (l : Last) → Reached L.before L.behind texts (n * 3) slots' bs' first ws' (Ok l) → AllNamed es ts bs' l.filled ws'
    reached-all l (S, N) =
        let m : n * 3 ≡ length ts * 3 = ap (λ (k : ℕ). k * 3) B.counted in
        let N' = rw m at N in
        let e : all l S ≡ with_all es ts = all_entered L.before L.behind ts slots' bs' first ws' l S N' ∙ L.same in
        record {
          filled = rw e at S.last.filled;
          rows = rw e at (all-rows L.before L.behind ts slots' bs' first ws' l S N');
        }

    reached-lacks : (l : Last) → Reached L.before L.behind texts (n * 3) slots' bs' first ws' (Err (NoSpace l)) → TextsLackSpace es ts bs' l.filled
    reached-lacks l (S, K) =
        let e : with_each (all l S) texts ≡ with_all es ts = each-lines (all l S) ts ∙ all_same l S in
        record {
          more = L.more ++ S.more;
          filled = rw (all_grown l S) at S.last.filled;
          lacks = rw e at (lacks-ground (length bs') (all l S) texts (all_terms l S) K);
        }

-- What naming in the last segment did, by how far it came.
module _ (es : List Entry) (ts : List TextTriple) (bs : List ℕ) (first : ℕ) (ws : List ℕ) (l : Last) (L : Looked es ts bs first l.filled ws)
    (slots file lines : List ℕ) (n : ℕ) (B : IsBatch file lines n ts) (S : LastSegment slots bs first l.count l.filled L.before L.behind) where
  pub last_begins : Begins L.before L.behind ts slots bs first l file lines n ws
  last_begins = begins es ts bs first l.filled ws L slots file lines n l B S

  module _ (slots' bs' ws' : List ℕ) (p : Result Last Stopped) (R : Reached L.before L.behind (lines_texts ts) (n * 3) slots' bs' first ws' p) (k : Last) where
    pub last_done : p ≡ Ok k → IsSegmentStep es ts bs' first ws' (Done k.filled)
    last_done e = reached-all es ts bs first l.filled ws L file lines n B slots' bs' ws' k (rw e at R)

    pub last-lacks : p ≡ Err (NoSpace k) → IsSegmentStep es ts bs' first ws' (Lacks k.filled)
    last-lacks e = reached-lacks es ts bs first l.filled ws L file lines n B slots' bs' ws' k (rw e at R)

    pub full-leads : p ≡ Err (Full k) → LeadWithin slots' bs' first
    full-leads e =
        let F : Reached L.before L.behind (lines_texts ts) (n * 3) slots' bs' first ws' (Err (Full k)) = rw e at R in
        index_leads slots' bs' first F.0.entries F.0.last.index

    pub last-next : p ≡ Err (Full k) → (vs : List ℕ) → ((fs : List Entry) → IndexOf slots' bs' first fs → RowsBy (found_row fs) ts n ws' vs) → IsSegmentStep es ts bs' first vs (Next k.filled.end k.filled)
    last-next e vs f =
        let F : Reached L.before L.behind (lines_texts ts) (n * 3) slots' bs' first ws' (Err (Full k)) = rw e at R in (
          last_some es ts bs first l.filled ws L file lines n B slots' bs' ws' k F.0 F.1,
          last_within es ts bs first l.filled ws L file lines n B slots' bs' ws' k F.0,
          looked-last es ts bs first l.filled ws L file lines n B slots' bs' ws' k F.0 vs (f F.0.entries F.0.last.index),
        )
