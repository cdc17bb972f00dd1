-- Laws of a text that gets its term in the last segment of a dictionary. Assumes nothing.
use Prim.Native.Nat.{ℕ, suc, ◌+◌, ◌-◌, ◌*◌, ◌^◌, ◌≤◌, ◌<◌}
use mathlib.Core.Path.{◌≡◌, refl, sym, ap, ◌∙◌}
use mathlib.Core.Logic.{inl, inr}
use mathlib.Core.Bool.{true, false, ◌||◌}
use mathlib.Core.List.{List, [], ◌∷◌, ◌++◌, append_assoc, append-nil}
use native.Mathlib.Omega.{arith}
use lib.Dec.{eqb, ltb, leb}
use lib.ListN.{length, get_or, take, drop, set, length-append}
use lib.Seq.{take-append_seam, get_or-append_seam}
use borrow.Author.Tests.{eqb-true, ltb-true, ltb-false, leb-false}
use Rattle.spec_ntriples.specs.Texts.{Text}
use Rattle.spec_ntriples.specs.Dictionary.{Entry, entry, bytes_of_entries, front_term, next_number, kind_of}
use Rattle.spec_ntriples.specs.inside.Entries.{Writable, Holds}
use Rattle.spec.proofs.Each.{each_back}
use Rattle.spec_ntriples.proofs.Numbers.{kind_least}
use Rattle.spec_ntriples.proofs.Canonical.{text-kind}
use Rattle.ntriples_bytes.specs.inside.Places.{HasText}
use Rattle.dictionary_bytes.specs.declared.Filled.{Filled}
use Rattle.dictionary_bytes.specs.inside.Entries.{text_at, place_at}
use Rattle.dictionary_hash.specs.inside.Hashes.{home_of}
use Rattle.dictionary_entries.proofs.Standing.{entries-length}
use Rattle.dictionary_entries.proofs.Held.{held-within, held_front, held-entries, held_place, held_last, held-text}
use Rattle.dictionary_index.specs.inside.Index.{Passed, FoundAt, FreeAt, Index}
use Rattle.dictionary_index.proofs.Indexing.{leads-place, free_new, past-some, index_more}
use Rattle.dictionary_index.proofs.Segments.{limit_none, limit-some}
use Rattle.dictionary_names.specs.declared.Named.TheVariants.{Known, New, Full, NoSpace}
use Rattle.dictionary_search.specs.inside.IndexOf.{IndexOf}
use Rattle.dictionary_numbers.specs.inside.Numbers.{number_of, raised}
use Rattle.dictionary_names.specs.inside.Naming.{LastSegment, CanAdd, NamedIn}
use Rattle.dictionary_search.proofs.Finding.{nothing, text_is, found_term, found_some, free_none, past_none}
use Rattle.dictionary_names.proofs.Staying.{index_stays}
use Rattle.dictionary_numbers.proofs.Numbering.{filled-number, filled_more}

-- The kind of a term in a line.
pub has-kind : (line : List ℕ) (from to : ℕ) (t : Text) → HasText line from to t → kind_of t.bytes ≡ t.kind
has-kind line from to t H = text-kind H.chars t H.rest H.reads

pub kind_most : (line : List ℕ) (from to : ℕ) (t : Text) → HasText line from to t → t.kind ≤ 2
kind_most line from to t H = omega (arith, has-kind line from to t H, kind_least t.bytes)

-- An empty slot for a text stays one where the index stays.
free_stays : (slots bs cs : List ℕ) (first : ℕ) (es : List Entry) (text : List ℕ) (s : ℕ) → IndexOf slots bs first es → IndexOf slots cs first es → FreeAt slots bs first text (home_of text) s → FreeAt slots cs first text (home_of text) s
free_stays slots bs cs first es text s X Y A =
    record {
      from = A.from;
      within = A.within;
      empty = A.empty;
      passed = λ j h l.
          let t : 0 < get_or slots j 0 = (A.passed j h l).0 in
          let L = Y.index.leads j t in (
            t,
            λ e.
                free_new slots bs first (length es) X.index text s A L.number L.below
                (sym (text_is slots bs first es X L.number L.below)
                ∙ text_is slots cs first es Y L.number L.below
                ∙ ap (text_at cs) (sym (leads-place slots cs first (length es) Y.index j t))
                ∙ e),
          );
    }

module _ (slots bs : List ℕ) (first count : ℕ) (f : Filled) (ds es : List Entry) (L : LastSegment slots bs first count f ds es) where
  pub last_ends : f.end ≡ first + length (bytes_of_entries es)
  last_ends = omega (arith, L.filled.holds.ends, L.starts, entries-length ds es)

  pub last_within : f.end ≤ length bs
  last_within = held-within bs f.end (ds ++ es) L.filled.holds

  -- ---- nothing changes

  module _ (t : Text) where
    pub named-known : (home at w : ℕ) → FoundAt slots bs first t.bytes home at → w ≡ front_term (drop at bs) → NamedIn slots slots bs bs first count ds es t (Known w)
    named-known home at w F q =
        let W = each_back Writable ds es L.filled.holds.writable in
        (q ∙ found_term slots bs first es L.index t.bytes home at F, omega (arith, q, found_some slots bs first es L.index t.bytes home at W F), refl, refl)

    pub named_past : 65536 ≤ length slots → Passed slots bs first t.bytes (home_of t.bytes) (length slots) → NamedIn slots slots bs bs first count ds es t Full
    named_past h P = (past_none slots bs first es L.index t.bytes P, past-some slots bs first t.bytes P (length es) L.index.index h, refl, refl)

    -- The limits of a segment.
    far_some : (fs : List Entry) → f.end ≡ first + length (bytes_of_entries fs) → 4294967294 < f.end - first → 0 < length fs
    unfolding bytes_of_entries
    far_some [] p h = absurd (omega arith)
    far_some (x ∷ fs) p h = omega arith

    pub named-limit : (s : ℕ) → FreeAt slots bs first t.bytes (home_of t.bytes) s → (eqb count 49152 || ltb 4294967294 (f.end - first)) ≡ true → NamedIn slots slots bs bs first count ds es t Full
    named-limit s A e = (
      free_none slots bs first es L.index t.bytes s A,
      limit-some (eqb count 49152) (ltb 4294967294 (f.end - first)) (length es) e (λ q. omega (arith, eqb-true count 49152 q, L.counts)) (λ q. far_some es last_ends (ltb-true 4294967294 (f.end - first) q)),
      refl,
      refl,
    )

    pub can-add : (s : ℕ) (line : List ℕ) (from to : ℕ) → HasText line from to t → FreeAt slots bs first t.bytes (home_of t.bytes) s → (eqb count 49152 || ltb 4294967294 (f.end - first)) ≡ false → CanAdd slots bs first s line from to f
    can-add s line from to H A e =
        record {
          count = count;
          before = ds;
          entries = es;
          last = L;
          near = omega (arith, ltb-false 4294967294 (f.end - first) (limit_none (eqb count 49152) (ltb 4294967294 (f.end - first)) e).1);
          text = t;
          has = H;
          free = A;
        }

    -- No number is left, or no room.
    module _ (s : ℕ) (A : FreeAt slots bs first t.bytes (home_of t.bytes) s) where
      pub named-numbers : (kind number : ℕ) → kind ≡ t.kind → t.kind ≤ 2 → number ≡ number_of f kind → number ≡ 1073741824 → NamedIn slots slots bs bs first count ds es t NoSpace
      named-numbers kind number k l n e =
          let q : next_number t.kind (ds ++ es) ≡ 2 ^ 30 = sym (filled-number bs f (ds ++ es) L.filled t.kind l) ∙ ap (number_of f) (sym k) ∙ sym n ∙ e in
          (free_none slots bs first es L.index t.bytes s A, inr q, refl, refl)

      pub named-room : (n : ℕ) → n ≡ length t.bytes → leb (f.end + 12 + n) (length bs) ≡ false → NamedIn slots slots bs bs first count ds es t NoSpace
      named-room n q e = (free_none slots bs first es L.index t.bytes s A, inl (omega (arith, leb-false (f.end + 12 + n) (length bs) e, L.filled.holds.ends)), refl, refl)

  -- ---- a text is entered

  -- The bytes with an entry more behind the others.
  module _ (cs : List ℕ) (end : ℕ) (e : Entry) (H : Holds cs end ((ds ++ es) ++ (e ∷ []))) (l : length cs ≡ length bs) where
    more : Holds cs end (ds ++ (es ++ (e ∷ [])))
    more = rw (append_assoc ds es (e ∷ [])) at H

    -- The others stand as before.
    last-place : place_at bs first (length es) ≡ f.end
    last-place = held_last bs f.end ds es L.filled.holds first L.starts

    same_front : take (place_at bs first (length es)) cs ≡ take (place_at bs first (length es)) bs
    same_front =
        let a : take f.end cs ≡ bytes_of_entries (ds ++ es) = held_front cs end (ds ++ es) (e ∷ []) H f.end L.filled.holds.ends in
        let n : Holds bs f.end ((ds ++ es) ++ []) = rw (append-nil (ds ++ es)) L.filled.holds in
        let b : take f.end bs ≡ bytes_of_entries (ds ++ es) = held_front bs f.end (ds ++ es) [] n f.end L.filled.holds.ends in
        rw last-place (a ∙ sym b)

    stays : IndexOf slots cs first es
    stays = index_stays slots bs cs first es L.index same_front l

    -- The new one stands behind them.
    new-place : place_at cs first (length es) ≡ f.end
    new-place =
        held_place cs end ds (es ++ (e ∷ [])) more first L.starts (length es) (omega (arith, length-append es (e ∷ [])))
        ∙ ap (λ (fs : List Entry). first + length (bytes_of_entries fs)) (take-append_seam es (e ∷ []))
        ∙ sym last_ends

    new-text : text_at cs (place_at cs first (length es)) ≡ e.text
    new-text = held-text cs end ds (es ++ (e ∷ [])) more first L.starts (length es) nothing (omega (arith, length-append es (e ∷ []))) ∙ ap (λ (x : Entry). x.text) (get_or-append_seam es e [] nothing)

    one_more_lem : length (es ++ (e ∷ [])) ≡ suc (length es)
    one_more_lem = omega (arith, length-append es (e ∷ []))

    new-within : place_at cs first (suc (length es)) ≤ length cs
    new-within = omega (arith, ap (place_at cs first) one_more_lem, held_last cs end ds (es ++ (e ∷ [])) more first L.starts, held-within cs end (ds ++ (es ++ (e ∷ []))) more)

    new-index : (s : ℕ) → FreeAt slots bs first e.text (home_of e.text) s → IndexOf (set slots s (f.end - first + 1)) cs first (es ++ (e ∷ []))
    new-index s A =
        let B : FreeAt slots cs first (text_at cs (place_at cs first (length es))) (home_of (text_at cs (place_at cs first (length es)))) s = rw new-text (free_stays slots bs cs first es e.text s L.index stays A) in
        let X : Index (set slots s (place_at cs first (length es) - first + 1)) cs first (suc (length es)) = index_more slots cs first (length es) s stays.index new-within B in
        record {
          index = rw one_more_lem (rw new-place at X);
          same = held-entries cs end ds (es ++ (e ∷ [])) more first L.starts;
        }

    pub last_more : (s kind : ℕ) → FreeAt slots bs first e.text (home_of e.text) s → kind_of e.text ≡ kind → kind ≤ 2 → number_of f kind < 2 ^ 30 → LastSegment (set slots s (f.end - first + 1)) cs first (count + 1) (raised f kind end) ds (es ++ (e ∷ []))
    last_more s kind A k h n =
        record {
          filled = rw (append_assoc ds es (e ∷ [])) at (filled_more bs f (ds ++ es) L.filled cs end e H kind k h n);
          starts = L.starts;
          counts = omega (arith, one_more_lem, L.counts);
          index = new-index s A;
        }

  -- A text with the next term of its kind.
  pub named_new : (t : Text) (cs : List ℕ) (s end kind number w : ℕ) (g : Filled) → FreeAt slots bs first t.bytes (home_of t.bytes) s → kind_of t.bytes ≡ t.kind → kind ≡ t.kind → number ≡ number_of f kind → number < 2 ^ 30
      → w ≡ kind * 1073741824 + number → Holds cs end ((ds ++ es) ++ (entry w t.bytes ∷ [])) → length cs ≡ length bs → g ≡ raised f kind end
      → NamedIn slots (set slots s (f.end - first + 1)) bs cs first count ds es t (New w g)
  named_new t cs s end kind number w g A k q n l v H m r =
      let h : t.kind ≤ 2 = omega (arith, k, kind_least t.bytes) in
      let i : number ≡ next_number t.kind (ds ++ es) = n ∙ ap (number_of f) q ∙ filled-number bs f (ds ++ es) L.filled t.kind h in (
        free_none slots bs first es L.index t.bytes s A,
        omega (arith, v, q, i),
        rw r (last_more cs end (entry w t.bytes) H m s kind A (k ∙ sym q) (omega arith) (omega arith)),
      )
