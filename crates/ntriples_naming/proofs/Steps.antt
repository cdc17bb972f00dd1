-- Laws of naming one text more. Assumes nothing.
use Prim.Native.Nat.{ℕ, ◌+◌, ◌≤◌, ◌<◌}
use mathlib.Core.Path.{◌≡◌, sym, ap, ◌∙◌}
use mathlib.Core.Logic.{⊎_elim}
use mathlib.Core.List.{List, [], ◌∷◌, ◌++◌, append_assoc, append-nil}
use native.Mathlib.Omega.{arith}
use lib.ListN.{length, get_or, set}
use lib.Seq.{get_or-set_same, get_or-set_other}
use lib.Dec.{eqb}
use borrow.Author.Tests.{eqb-true, eqb-false}
use Rattle.spec.proofs.Lists.{by_test, le_or}
use Rattle.spec.specs.inside.Each.{Each}
use Rattle.spec_ntriples.specs.Texts.{Text}
use Rattle.spec_ntriples.specs.Dictionary.{Entry, entry, term_in, term_of, next_term, kind_of}
use Rattle.spec_ntriples.specs.Reading.{with_text}
use Rattle.spec_ntriples.specs.inside.Entries.{Writable}
use Rattle.spec_ntriples.proofs.EntryBytes.{length-entries}
use Rattle.spec.proofs.Each.{each_front, each_back}
use Rattle.spec_ntriples.proofs.KnownTexts.{HasTerm, term_more}
use Rattle.dictionary_bytes.specs.declared.Filled.{Filled}
use Rattle.dictionary_names.specs.declared.Named as names
use Rattle.dictionary_names.specs.declared.Named.TheVariants as named
use Rattle.dictionary_names.specs.inside.Naming.{LastSegment, NamedIn, HasNoSpace}
use Rattle.dictionary_names.proofs.Naming.{last_ends, last_within}
use Rattle.ntriples_naming.specs.declared.Last.{Last}
use Rattle.std.specs.Prelude.{Result, Ok, Err}
use Rattle.ntriples_naming.specs.declared.Stopped.{Stopped}
use Rattle.ntriples_naming.specs.declared.Stopped.TheVariants.{Full, NoSpace}
use Rattle.ntriples_naming.specs.inside.Progress.{no_text, with_each, IsWord, AreWords, NamedTo, Stands, LacksSpace, Reached}
use Rattle.ntriples_naming.proofs.Entries.{have_terms, term_behind, term-added, with_new, added-first}

-- ---- words

-- One word more is not 0.
pub named_more : (j : ℕ) (ws : List ℕ) → NamedTo j ws → 0 < get_or ws j 0 → NamedTo (j + 1) ws
named_more j ws N p i h =
    ⊎_elim (λ (q : j ≤ i). let k : i ≡ j = omega arith in rw k p) (λ (q : i < j). N i q) (le_or j i)

set_named : (j : ℕ) (ws : List ℕ) (w : ℕ) → j < length ws → NamedTo j ws → 0 < w → NamedTo (j + 1) (set ws j w)
set_named j ws w r N p =
    named_more j (set ws j w)
    (λ i h. rw (get_or-set_other ws j i w 0 (λ e. omega arith)) (N i h))
    (rw (get_or-set_same ws j w 0 r) p)

-- A word stays right where the terms stay.
word_grown : (ds all more : List Entry) (t : List ℕ) (w : ℕ) → IsWord ds all t w → IsWord ds (all ++ more) t w
word_grown ds all more t w W =
    record { right = λ p. let e = W.right p in e ∙ sym (term_more t all more (omega (arith, p, e))); new = W.new }

-- The words with one more.
words-set
    : (ds all more : List Entry) (xs : List Text) (ws : List ℕ) (j w : ℕ) → AreWords ds all xs ws → j < length ws → 0 < w → w ≡ term_of (all ++ more) (get_or xs j no_text).bytes
    → AreWords ds (all ++ more) xs (set ws j w)
words-set ds all more xs ws j w A r p e i h =
    by_test (eqb i j)
    (λ q.
    let k : i ≡ j = eqb-true i j q in
    rw (k, get_or-set_same ws j w 0 r) record { right = λ x. e; new = λ z. absurd (omega (arith, z, p)) })
    (λ q. rw (get_or-set_other ws j i w 0 (eqb-false i j q)) (word_grown ds all more (get_or xs i no_text).bytes (get_or ws i 0) (A i h)))

-- ---- one text

module _ (ds es : List Entry) (xs : List Text) (slots bs : List ℕ) (first : ℕ) (ws : List ℕ) (l : Last) (S : Stands ds es xs slots bs first ws l) where
  abbrev all : List Entry
  all = ds ++ S.entries

  all_terms : Each HasTerm all
  all_terms = have_terms all S.last.filled.holds.writable

  -- There are fewer entries than bytes.
  pub few-entries : l.count ≤ length bs
  few-entries =
      omega (
        arith,
        S.last.counts,
        length-entries S.entries,
        last_ends slots bs first l.count l.filled ds S.entries S.last,
        last_within slots bs first l.count l.filled ds S.entries S.last,
      )

  -- Texts that are named have terms.
  before_known : (j : ℕ) → j < length xs → NamedTo j ws → (i : ℕ) → i < j → 0 < term_of all (get_or xs i no_text).bytes
  before_known j h N i m = omega (arith, N i m, (S.words i (omega arith)).right (N i m))

  module _ (j : ℕ) (h : j < length xs) (z : get_or ws j 0 ≡ 0) where
    abbrev bytes : List ℕ
    bytes = (get_or xs j no_text).bytes

    term-here : term_of all bytes ≡ term_in S.entries bytes
    term-here = term_behind ds S.entries bytes (each_front HasTerm ds S.entries all_terms) ((S.words j h).new z)

    pub lacks-space
        : (len : ℕ) → NamedTo j ws → kind_of bytes ≡ (get_or xs j no_text).kind → term_in S.entries bytes ≡ 0 → HasNoSpace len all (get_or xs j no_text)
        → LacksSpace len all xs
    lacks-space len N k e n = record { place = j; within = h; first = before_known j h N; new = term-here ∙ e; kind = k; lacks = n }

    module _ (r : j < length ws) (N : NamedTo j ws) (w : ℕ) (p : 0 < w) where
      pub stands-known : w ≡ term_in S.entries bytes → Stands ds es xs slots bs first (set ws j w) l
      stands-known e =
          record {
            entries = S.entries;
            more = S.more;
            grown = S.grown;
            last = S.last;
            same = S.same;
            words = rw (append-nil all) at (words-set ds all [] xs ws j w S.words r p (rw (append-nil all) (e ∙ sym term-here)));
          }

      -- The entries with the text.
      abbrev added : List Entry
      added = entry w bytes ∷ []

      all-added : ds ++ (S.entries ++ added) ≡ all ++ added
      all-added = sym (append_assoc ds S.entries added)

      module _ (e : term_in S.entries bytes ≡ 0) (q : w ≡ next_term (get_or xs j no_text).kind all) (k : kind_of bytes ≡ (get_or xs j no_text).kind) where
        with_it : with_text all (get_or xs j no_text) ≡ all ++ added
        with_it = with_new all (get_or xs j no_text) (term-here ∙ e) ∙ ap (λ (x : ℕ). all ++ (entry x bytes ∷ [])) (sym q)

        pub stands-new
            : (slots' bs' : List ℕ) (f : Filled) → LastSegment slots' bs' first (l.count + 1) f ds (S.entries ++ added)
            → Stands ds es xs slots' bs' first (set ws j w) (record { count = l.count + 1; filled = f })
        stands-new slots' bs' f L =
            record {
              entries = S.entries ++ added;
              more = S.more ++ added;
              grown = ap (λ (x : List Entry). x ++ added) S.grown ∙ append_assoc es S.more added;
              last = L;
              same =
                  ap (λ (x : List Entry). with_each x xs) (all-added ∙ sym with_it)
                  ∙ added-first all xs j all_terms h (before_known j h N) k
                  ∙ S.same;
              words = rw all-added (words-set ds all added xs ws j w S.words r p (sym (term-added all w bytes all_terms (term-here ∙ e))));
            }

-- ---- what naming it did

-- The last entry has a term.
last_term : (ds es : List Entry) (e : Entry) → Each Writable (ds ++ (es ++ (e ∷ []))) → 0 < e.term
last_term ds es e h = (each_back Writable es (e ∷ []) (each_back Writable ds (es ++ (e ∷ [])) h)).0.some

Stands-same
    : (ds es : List Entry) (xs : List Text) (slots bs slots' bs' : List ℕ) (first : ℕ) (ws : List ℕ) (p : Result Last Stopped) (n : ℕ)
    → slots' ≡ slots → bs' ≡ bs → Reached ds es xs n slots bs first ws p → Reached ds es xs n slots' bs' first ws p
Stands-same ds es xs slots bs slots' bs' first ws p n a b R = rw (a, b) R

module _ (ds es : List Entry) (xs : List Text) (slots bs slots' bs' : List ℕ) (first : ℕ) (ws : List ℕ) (l : Last) (j : ℕ) (R : Reached ds es xs j slots bs first ws (Ok l)) (h : j < length xs) (r : j < length ws) where
  -- It had its word.
  pub had-word : 0 < get_or ws j 0 → Reached ds es xs (j + 1) slots bs first ws (Ok l)
  had-word p = (R.0, named_more j ws R.1 p)

  abbrev text : Text
  text = get_or xs j no_text

  module _ (z : get_or ws j 0 ≡ 0) (a : names.Named) (M : NamedIn slots slots' bs bs' first l.count ds R.0.entries text a) where
    pub reached-known : (w : ℕ) → a ≡ named.Known w → Reached ds es xs (j + 1) slots' bs' first (set ws j w) (Ok l)
    reached-known w e =
        let K : NamedIn slots slots' bs bs' first l.count ds R.0.entries text (named.Known w) = rw e at M in
        Stands-same ds es xs slots bs slots' bs' first (set ws j w) (Ok l) (j + 1) K.2 K.3
        (stands-known ds es xs slots bs first ws l R.0 j h z r R.1 w K.1 K.0, set_named j ws w r R.1 K.1)

    pub reached-new : (w : ℕ) (f : Filled) → a ≡ named.New w f → kind_of text.bytes ≡ text.kind → Reached ds es xs (j + 1) slots' bs' first (set ws j w) (Ok (record { count = l.count + 1; filled = f }))
    reached-new w f e k =
        let K : NamedIn slots slots' bs bs' first l.count ds R.0.entries text (named.New w f) = rw e at M in
        let p : 0 < w = last_term ds R.0.entries (entry w text.bytes) K.2.filled.holds.writable in
        (stands-new ds es xs slots bs first ws l R.0 j h z r R.1 w p K.0 K.1 k slots' bs' f K.2, set_named j ws w r R.1 p)

    pub reached-full : a ≡ named.Full → Reached ds es xs (j + 1) slots' bs' first ws (Err (Full l))
    reached-full e =
        let K : NamedIn slots slots' bs bs' first l.count ds R.0.entries text named.Full = rw e at M in
        Stands-same ds es xs slots bs slots' bs' first ws (Err (Full l)) (j + 1) K.2 K.3 (R.0, K.1)

    pub reached-no-space : a ≡ named.NoSpace → kind_of text.bytes ≡ text.kind → Reached ds es xs (j + 1) slots' bs' first ws (Err (NoSpace l))
    reached-no-space e k =
        let K : NamedIn slots slots' bs bs' first l.count ds R.0.entries text named.NoSpace = rw e at M in
        Stands-same ds es xs slots bs slots' bs' first ws (Err (NoSpace l)) (j + 1) K.2 K.3
        (R.0, lacks-space ds es xs slots bs first ws l R.0 j h z (length bs) R.1 k K.0 K.1)

-- ---- further texts

-- Where naming has stopped, it has for further texts too.
pub stopped : (ds es : List Entry) (xs : List Text) (slots bs : List ℕ) (first : ℕ) (ws : List ℕ) (s : Stopped) (n m : ℕ) → Reached ds es xs n slots bs first ws (Err s) → Reached ds es xs m slots bs first ws (Err s)
stopped ds es xs slots bs first ws (Full l) n m R = R
stopped ds es xs slots bs first ws (NoSpace l) n m R = R
