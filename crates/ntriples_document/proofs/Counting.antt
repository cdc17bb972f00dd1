-- Laws of counting the triples of a document. Assumes nothing.
use Prim.Native.Nat.{ℕ, suc, ◌+◌, ◌-◌, ◌≤◌, ◌<◌}
use mathlib.Core.Path.{◌≡◌, refl, sym, ap, ◌∙◌}
use mathlib.Core.Bool.{true, false}
use mathlib.Core.List.{List}
use native.Mathlib.Omega.{arith}
use lib.ListN.{length, take, drop, drop_of_length-le, length-drop}
use lib.Seq.{drop-drop}
use Rattle.spec_ntriples.specs.computed.Decoded.{Decoded, broken, decoded, decode}
use Rattle.spec_ntriples.specs.Texts.{TextTriple}
use Rattle.spec_ntriples.specs.computed.Lines.{wrong, empty, full, read_line, Document, refused, triples, with_triple, with_line, document}
use Rattle.ntriples_bytes.specs.inside.Places.{Utf8From}
use Rattle.ntriples_bytes.specs.inside.Whole.{are_chars}
use Rattle.ntriples_bytes.proofs.Decoding.{at_start}
use Rattle.std.specs.Prelude.{Option, Some, None}
use Rattle.ntriples_breaks.specs.inside.Breaks.{line_length, IsNext}
use Rattle.ntriples_breaks.proofs.Breaking.{length-within}
use Rattle.ntriples_document.specs.inside.Bytes.{line_of, count_of, added}
use Rattle.ntriples_document.proofs.Parts.{document_line, document_none}

-- ---- the line of some bytes

-- Decoded bytes have characters.
pub record CharsOf (d : Decoded) : Type 0 where
  pub chars : List ℕ
  pub same : d ≡ decoded chars

pub chars_of_lem : (d : Decoded) → are_chars d ≡ true → CharsOf d
unfolding are_chars
chars_of_lem broken e = let z : ◌≡◌ {A = ℕ} 0 1 = cc in absurd (omega arith)
chars_of_lem (decoded cs) e = record { chars = cs; same = refl }

pub utf8_whole : (bs : List ℕ) → are_chars (decode bs) ≡ true → Utf8From bs 0
utf8_whole bs e = let k = chars_of_lem (decode bs) e in record { chars = k.chars; stands = at_start bs k.chars k.same }

pub line_decoded : (d : Decoded) (l : List ℕ) → d ≡ decoded l → line_of d ≡ read_line l
unfolding line_of
line_decoded d l e = rw e

pub line_broken : (d : Decoded) → are_chars d ≡ false → line_of d ≡ wrong
unfolding are_chars line_of
line_broken broken e = refl
line_broken (decoded cs) e = let z : ◌≡◌ {A = ℕ} 0 1 = cc in absurd (omega arith)

-- ---- one line more

count_full : (t : TextTriple) (d : Document) → count_of (with_triple t d) ≡ added 1 (count_of d)
unfolding count_of with_triple added
count_full t refused = refl
count_full t (triples ts) = let e : 1 + length ts ≡ suc (length ts) = omega arith in rw e

added_one : (n : ℕ) (x : Option ℕ) → added n (added 1 x) ≡ added (n + 1) x
unfolding added
added_one n None = refl
added_one n (Some m) = let e : n + (1 + m) ≡ n + 1 + m = omega arith in rw e

added_zero : (x : Option ℕ) → x ≡ added 0 x
unfolding added
added_zero None = refl
added_zero (Some m) = let e : 0 + m ≡ m = omega arith in rw e

-- ---- the walk

-- So many triples stand before an index, and the others behind it.
pub record Counts (file : List ℕ) (from count : ℕ) : Type 0 where
  pub few : count ≤ from
  pub within : from ≤ length file
  pub same : count_of (document file) ≡ added count (count_of (document (drop from file)))

pub none-counted : (file : List ℕ) → Counts file 0 0
none-counted file = record { few = omega arith; within = omega arith; same = added_zero (count_of (document file)) }

pub all-counted : (file : List ℕ) (from count : ℕ) → Counts file from count → length file ≤ from → Some count ≡ count_of (document file)
unfolding count_of added
all-counted file from count C h =
    let e : count + 0 ≡ count = omega arith in
    sym (C.same ∙ rw (drop_of_length-le file h, document_none, e))

pub end-within : (file : List ℕ) (from : ℕ) → from ≤ length file → from + line_length (drop from file) ≤ length file
end-within file from h = omega (arith, length-within (drop from file), length-drop from file)

-- The document from the begin of a line on: that line, and the document behind.
pub first-line
    : (file : List ℕ) (from end : ℕ) → end ≡ from + line_length (drop from file)
    → document (drop from file) ≡ with_line (line_of (decode (take (end - from) (drop from file)))) (document (drop (suc end) file))
first-line file from end e =
    let k : end - from ≡ line_length (drop from file) = omega arith in
    let n : from + suc (line_length (drop from file)) ≡ suc end = omega arith in
    let d : drop (suc (line_length (drop from file))) (drop from file) ≡ drop (suc end) file = drop-drop (suc (line_length (drop from file))) from file ∙ rw n in
    rw (k, ← d) (document_line (drop from file))

module _ (file : List ℕ) (from count : ℕ) (C : Counts file from count) (h : from < length file) (end : ℕ) (e : end ≡ from + line_length (drop from file)) where
  counted : count_of (document file) ≡ added count (count_of (with_line (line_of (decode (take (end - from) (drop from file)))) (document (drop (suc end) file))))
  counted = C.same ∙ ap (λ (d : Document). added count (count_of d)) (first-line file from end e)

  pub wrong_line : line_of (decode (take (end - from) (drop from file))) ≡ wrong → None ≡ count_of (document file)
  unfolding with_line count_of added
  wrong_line q = sym (counted ∙ rw q)

  module _ (next : ℕ) (N : IsNext file end next) where
    pub beyond : from < next
    beyond = N.after from (omega arith) h

    pub empty_line_lem : line_of (decode (take (end - from) (drop from file))) ≡ empty → Counts file next count
    unfolding with_line
    empty_line_lem q = record { few = omega (arith, C.few, beyond); within = N.within; same = counted ∙ rw (q, N.same) }

    pub full_line : (t : TextTriple) → line_of (decode (take (end - from) (drop from file))) ≡ full t → Counts file next (count + 1)
    unfolding with_line
    full_line t q =
        record { few = omega (arith, C.few, beyond); within = N.within; same = counted ∙ rw (q, N.same) (ap (added count) (count_full t (document (drop (suc end) file))) ∙ added_one count (count_of (document (drop (suc end) file)))) }
