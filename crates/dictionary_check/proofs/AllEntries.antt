-- Laws of a dictionary whose entries were all asked. Assumes nothing.
use Prim.Native.Nat.{ℕ, ◌-◌, ◌^◌, ◌<◌}
use mathlib.Core.Path.{◌≡◌, sym, ap, ◌∙◌}
use mathlib.Core.Bool.{true, false}
use mathlib.Core.List.{List, [], ◌++◌, append-nil}
use native.Mathlib.Omega.{arith}
use lib.ListN.{length, drop, replicate, take-append-drop, length-drop}
use Rattle.spec.specs.Tables.{are_zero}
use Rattle.spec.proofs.TableAll.{replicate_of}
use Rattle.spec_ntriples.specs.Dictionary.{Entry, bytes_of_entries, dictionary_bytes, entries, are_numbers_enough, are_numbered, are_texts, is_dictionary}
use Rattle.spec_ntriples.specs.inside.Entries.{Holds}
use Rattle.spec_ntriples.proofs.Numbers.{numbers_enough, numbered-entries}
use Rattle.spec_ntriples.proofs.KnownTexts.{numbered_has}
use Rattle.spec_ntriples.proofs.EntryBytes.{writable}
use Rattle.dictionary_bytes.specs.inside.Entries.{entries_at, FilledBy}
use Rattle.dictionary_bytes.specs.declared.Filled.{Filled}
use Rattle.dictionary_bytes.proofs.Same.{equal_same}
use Rattle.dictionary_bytes.proofs.Entry.{place_before}
use Rattle.dictionary_numbers.proofs.Numbering.{counts-filled}
use Rattle.dictionary_index.specs.inside.Index.{AreEntries}
use Rattle.dictionary_distinct.specs.inside.Distinct.{Repeat, Distinct}
use Rattle.dictionary_repeats.proofs.Repeating.{place-less}
use Rattle.dictionary_step.specs.inside.Filling.{Filling}
use Rattle.dictionary_step.proofs.Steps.{not_texts, all_parts, ends}
use Rattle.dictionary_step.proofs.Texts.{texts_right, texts_repeat}
use Rattle.dictionary_walk.specs.inside.Walked.{Walked}

module _ (bs : List ℕ) (f : Filled) (W : Walked bs f) where
  abbrev F : Filling bs f
  F = W.filling

  all_read : entries bs ≡ entries_at bs 0 F.count
  all_read = F.read ∙ ap (λ (l : List Entry). entries_at bs 0 F.count ++ l) W.none ∙ append-nil (entries_at bs 0 F.count)

  pub all-entries : AreEntries bs 0 f.end
  all-entries = record { count = F.count; ends = sym F.place; within = F.within }

  -- A text repeats.
  pub text_repeats : Repeat bs 0 f.end → is_dictionary bs ≡ false
  text_repeats R =
      not_texts bs
      (ap are_texts all_read
      ∙ texts_repeat bs 0 F.count R.earlier R.later (numbered_has [] (entries_at bs 0 F.count) F.numbered) R.before (place-less bs 0 R.later F.count (omega (arith, R.within, F.place))) R.same)

  module _ (z : are_zero (drop f.end bs) ≡ true) (D : Distinct bs f.end) where
    written : dictionary_bytes (length bs) (entries bs) ≡ bs
    unfolding dictionary_bytes
    written =
        let n : ℕ = length bs - length (bytes_of_entries (entries_at bs 0 F.count)) in
        let d : drop f.end bs ≡ replicate n 0 = replicate_of (drop f.end bs) n z (omega (arith, length-drop f.end bs, ends bs f F)) in
        rw (all_read, ← d, ← F.written) (take-append-drop f.end bs)

    -- The bytes are a dictionary.
    pub is_dictionary_lem : is_dictionary bs ≡ true
    is_dictionary_lem =
        let es : List Entry = entries_at bs 0 F.count in
        all_parts bs (equal_same _ _ written) (ap (are_numbered []) all_read ∙ F.numbered) (ap are_numbers_enough all_read ∙ F.counts.enough)
        (ap are_texts all_read ∙ texts_right bs 0 F.count F.texts (λ i j l m e. D i j l (omega (arith, place_before bs 0 j F.count m, F.place)) e))

    -- It is filled so far.
    pub is-filled : f.end < 2 ^ 64 → FilledBy bs f (entries bs)
    is-filled h =
        let es : List Entry = entries_at bs 0 F.count in
        let H : Holds bs f.end (entries bs) =
        record {
          same = sym written;
          ends = ends bs f F ∙ ap (λ (l : List Entry). length (bytes_of_entries l)) (sym all_read);
          writable = rw all_read (writable es es (numbered-entries es F.numbered (numbers_enough es F.counts.enough)) (omega (arith, ends bs f F, h)));
        } in
        counts-filled bs f (entries bs) H (rw all_read F.counts)
