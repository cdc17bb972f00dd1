-- Laws of a reading by its questions. Assumes nothing.
use Rattle.std.specs.Prelude.{Option, Some, None, Result, Ok, Err}
use Prim.Native.Nat.{ℕ, ◌+◌, ◌-◌, ◌*◌, ◌≤◌, ◌<◌, min}
use mathlib.Core.Path.{◌≡◌, refl, sym, ap, ◌∙◌}
use mathlib.Core.Bool.{true, false, ◌&&◌}
use mathlib.Core.List.{List, ◌++◌, map}
use native.Mathlib.Omega.{arith}
use lib.ListN.{length, replicate}
use lib.Dec.{leb}
use borrow.Author.Tests.{le-leb, lt-leb, leb-true, leb-false}
use Rattle.spec.proofs.Lists.{by_test}
use Rattle.spec.specs.declared.Triple.{Triple}
use Rattle.spec.specs.Tables.{first_rows}
use Rattle.spec.specs.Lists.{padded}
use Rattle.spec.specs.Messages.{most_bytes, encode}
use Rattle.spec_ntriples.specs.Texts.{TextTriple}
use Rattle.spec_ntriples.specs.computed.Lines.{Document, refused, triples, document}
use Rattle.spec_ntriples.specs.Dictionary.{Entry, bytes_of_entries, dictionary_bytes, entries, are_numbers_enough, is_dictionary}
use Rattle.spec_ntriples.specs.Reading.{with_all, triple_of, additions, read_file, conclude_reading, read_nTriples}
use Rattle.spec_ntriples.specs.Promises.{RefusedBy, Accepted}
use Rattle.spec_ntriples.specs.inside.Entries.{Holds}
use Rattle.spec_ntriples.proofs.TripleTexts.{document_texts}
use Rattle.spec_ntriples.proofs.ReadingRefused.{additions-length, length-map, accepted_is, reading_refused, reading_refused_leaves}
use Rattle.dictionary_bytes.specs.declared.Filled.{Filled}
use Rattle.dictionary_bytes.specs.inside.Entries.{FilledBy}
use Rattle.dictionary_entries.proofs.Held.{held-within}
use Rattle.ntriples_document.specs.inside.Bytes.{count_of}
use Rattle.ntriples_segments.specs.declared.NoSpace.{NoSpace}
use Rattle.ntriples_last.specs.inside.Segments.{TextsLackSpace}
use Rattle.ntriples_batches.specs.inside.Batches.{CanNameFile, FileNamed, IsFile}
use Rattle.ntriples_batches.proofs.Files.{Grown, all_grown, filled_have}
use Rattle.ntriples_read.specs.inside.Reading.{CanRead}

-- ---- room

-- 5,460 triples fit 65,536 bytes, and no more.
pub room_none : (n len : ℕ) → 5460 < n → false ≡ leb (10 + 12 * n) (min len most_bytes)
room_none n len h = sym (lt-leb (10 + 12 * n) (min len most_bytes) (omega arith))

pub room-some : (n len : ℕ) → n ≤ 5460 → leb (10 + 12 * n) len ≡ leb (10 + 12 * n) (min len most_bytes)
room-some n len h =
    by_test (leb (10 + 12 * n) len)
    (λ p. p ∙ sym (le-leb (10 + 12 * n) (min len most_bytes) (omega (arith, leb-true (10 + 12 * n) len p))))
    (λ p. p ∙ sym (lt-leb (10 + 12 * n) (min len most_bytes) (omega (arith, leb-false (10 + 12 * n) len p))))

-- ---- documents

pub wrong-document : (d : Document) → count_of d ≡ None → d ≡ refused
unfolding count_of
wrong-document refused e = refl
wrong-document (triples ts) e = let z : ◌≡◌ {A = ℕ} 0 1 = cc in absurd (omega arith)

-- The triples of a document that were counted.
pub record Lines (d : Document) (n : ℕ) : Type 0 where
  pub lines : List TextTriple
  pub said : d ≡ triples lines
  pub counted : n ≡ length lines

pub counted-lines : (d : Document) (n : ℕ) → count_of d ≡ Some n → Lines d n
unfolding count_of
counted-lines refused n e = let z : ◌≡◌ {A = ℕ} 0 1 = cc in absurd (omega arith)
counted-lines (triples ts) n e = record { lines = ts; said = refl; counted = cc }

-- ---- refusals

pub refused-reading
    : (dictionary file : List ℕ) (len n : ℕ) (d m : List ℕ) → RefusedBy dictionary file len n → d ≡ dictionary → m ≡ replicate len 0
    → read_file (Err n) d m ≡ read_nTriples dictionary file len
refused-reading dictionary file len n d m R e z = rw (e, z) (sym (reading_refused_leaves dictionary file len n ((reading_refused dictionary file len n).1 R)))

pub refused_1 : (dictionary file : List ℕ) (len : ℕ) (m : List ℕ) → is_dictionary dictionary ≡ false → m ≡ replicate len 0 → read_file (Err 1) dictionary m ≡ read_nTriples dictionary file len
refused_1 dictionary file len m h z = refused-reading dictionary file len 1 dictionary m (RefusedBy.no_dictionary refl h) refl z

pub refused_13 : (dictionary file : List ℕ) (len : ℕ) (m : List ℕ) → is_dictionary dictionary ≡ true → count_of (document file) ≡ None → m ≡ replicate len 0 → read_file (Err 13) dictionary m ≡ read_nTriples dictionary file len
refused_13 dictionary file len m h c z = refused-reading dictionary file len 13 dictionary m (RefusedBy.wrong_line refl h (wrong-document (document file) c)) refl z

-- The bytes that hold a dictionary's entries are its bytes.
same_bytes : (bs cs : List ℕ) (f : Filled) → FilledBy bs f (entries bs) → Holds cs f.end (entries bs) → length cs ≡ length bs → cs ≡ bs
same_bytes bs cs f F H l = H.same ∙ ap (λ (n : ℕ). dictionary_bytes n (entries bs)) l ∙ sym F.holds.same

module _ (file : List ℕ) (n : ℕ) (bs : List ℕ) (f : Filled) (delivery : List ℕ) (C : CanRead file n bs f delivery) where
  abbrev es : List Entry
  es = with_all (entries bs) C.lines

  pub can_name : (ws : List ℕ) → length ws ≡ 16380 → CanNameFile file n bs f ws
  can_name ws e = record { lines = C.lines; said = C.said; counted = C.counted; old = entries bs; filled = C.filled; room = omega (arith, e) }

  module _ (bs' ws : List ℕ) (b : Result Filled NoSpace) (N : IsFile (entries bs) C.lines bs' ws b) (long : length bs' ≡ length bs) where
    -- ---- question 14

    module _ (s : NoSpace) (e : b ≡ Err s) where
      lacking : TextsLackSpace (entries bs) C.lines bs' s.filled
      lacking = rw e at N

      pub lacking-within : s.filled.end ≤ length bs'
      lacking-within = held-within bs' s.filled.end (entries bs ++ lacking.more) lacking.filled.holds

      no_space : RefusedBy bs file (length delivery) 14
      no_space =
          let a = leb (length (bytes_of_entries es)) (length bs) in
          let h : (a && are_numbers_enough es) ≡ false = rw long at lacking.lacks in
          by_test a
          (λ p. RefusedBy.no_number refl C.formed C.lines C.said (rw p at h))
          (λ p. RefusedBy.no_space refl C.formed C.lines C.said (leb-false (length (bytes_of_entries es)) (length bs) p))

      pub refused-14
          : (cs : List ℕ) → length cs ≡ length bs' → ((ds fs : List Entry) → Holds bs' s.filled.end (ds ++ fs) → f.end ≡ length (bytes_of_entries ds) → Holds cs f.end ds)
          → read_file (Err 14) cs delivery ≡ read_nTriples bs file (length delivery)
      refused-14 cs l T =
          refused-reading bs file (length delivery) 14 cs delivery no_space
          (same_bytes bs cs f C.filled (T (entries bs) lacking.more lacking.filled.holds C.filled.holds.ends) (l ∙ long))
          C.zeros

    -- ---- question 15

    module _ (g : Filled) (e : b ≡ Ok g) where
      named : FileNamed (entries bs) C.lines bs' g ws
      named = rw e at N

      pub named-within : g.end ≤ length bs'
      named-within = held-within bs' g.end es named.filled.holds

      fits : length (bytes_of_entries es) ≤ length bs
      fits = omega (arith, named-within, named.filled.holds.ends, long)

      grown : Grown (entries bs) es
      grown = all_grown (entries bs) C.lines (filled_have bs f (entries bs) C.filled) (document_texts file C.lines C.said)

      pub refused-15
          : (room : leb (10 + 12 * n) (min (length delivery) most_bytes) ≡ false) (cs : List ℕ) → length cs ≡ length bs'
          → ((ds fs : List Entry) → Holds bs' g.end (ds ++ fs) → f.end ≡ length (bytes_of_entries ds) → Holds cs f.end ds)
          → read_file (Err 15) cs delivery ≡ read_nTriples bs file (length delivery)
      refused-15 room cs l T =
          let r : min (length delivery) most_bytes < 10 + 12 * length C.lines = rw C.counted at (leb-false (10 + 12 * n) (min (length delivery) most_bytes) room) in
          refused-reading bs file (length delivery) 15 cs delivery
          (RefusedBy.no_room refl C.formed C.lines C.said fits named.filled.enough r)
          (same_bytes bs cs f C.filled (T (entries bs) grown.more (rw grown.same at named.filled.holds) C.filled.holds.ends) (l ∙ long))
          C.zeros

      -- ---- the delivery

      module _ (room : leb (10 + 12 * n) (min (length delivery) most_bytes) ≡ true) where
        in_room : 10 + 12 * n ≤ min (length delivery) most_bytes
        in_room = leb-true (10 + 12 * n) (min (length delivery) most_bytes) room

        pub few : n ≤ 5460
        few = omega (arith, in_room)

        pub room-there : 10 + 12 * n ≤ length delivery
        room-there = omega (arith, in_room)

        accepted : Accepted bs file (length delivery) (10 + 12 * n)
        accepted =
            record {
              lines = C.lines;
              formed = C.formed;
              said = C.said;
              space = fits;
              numbers = named.filled.enough;
              room = rw C.counted at in_room;
              size = ap (λ (k : ℕ). 10 + 12 * k) C.counted;
            }

        abbrev ts : List Triple
        ts = map (triple_of es) C.lines

        rows_are : first_rows n ws ≡ ts
        rows_are = rw C.counted (named.rows (omega (arith, few, C.counted)))

        bytes-long : length (encode (additions ts)) ≡ 10 + 12 * n
        bytes-long = additions-length ts ∙ ap (λ (k : ℕ). 10 + 12 * k) (length-map (triple_of es) C.lines ∙ sym C.counted)

        pub read_whole
            : (r : ℕ) (m : List ℕ) → r ≡ 10 + 12 * n → m ≡ padded (length delivery) (encode (additions (first_rows n ws)))
            → read_file (Ok r) bs' m ≡ read_nTriples bs file (length delivery)
        unfolding conclude_reading accepted
        read_whole r m q w =
            let a : r ≡ length (encode (additions ts)) = q ∙ sym bytes-long in
            let d : bs' ≡ dictionary_bytes (length bs) es = named.filled.holds.same ∙ ap (λ (k : ℕ). dictionary_bytes k es) long in
            let p : m ≡ padded (length delivery) (encode (additions ts)) = w ∙ ap (λ (l : List Triple). padded (length delivery) (encode (additions l))) rows_are in
            ap (λ (k : ℕ). read_file (Ok k) bs' m) a
            ∙ ap (λ (l : List ℕ). read_file (Ok (length (encode (additions ts)))) l m) d
            ∙ ap (λ (l : List ℕ). read_file (Ok (length (encode (additions ts)))) (dictionary_bytes (length bs) es) l) p
            ∙ sym (accepted_is bs file (length delivery) (10 + 12 * n) accepted)

-- ---- the delivery's bytes
