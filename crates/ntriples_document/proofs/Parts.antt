-- Laws of the lines of a document in bytes. Assumes nothing.
use Prim.Native.Nat.{ℕ, suc, ◌≤◌, ◌<◌}
use mathlib.Core.Path.{◌≡◌, refl, sym, ◌∙◌}
use mathlib.Core.Bool.{Bool, true, false, ◌||◌}
use mathlib.Core.List.{List, [], ◌∷◌, ◌++◌}
use native.Mathlib.Omega.{arith}
use lib.ListN.{take, drop}
use lib.Dec.{ltb}
use borrow.Author.Tests.{ne_eqb, ltb-true, ltb-false}
use Rattle.spec_ntriples.specs.computed.Decoded.{Decoded, broken, decoded, with_char, decode}
use Rattle.spec_ntriples.specs.Characters.{codes, is_one_of}
use Rattle.spec_ntriples.specs.computed.Terminals.{skip}
use Rattle.spec_ntriples.specs.computed.Lines.{Line, wrong, empty, full, is_rest, read_line, add_to_line, lines, refused, triples, with_triple, with_line, read_lines, document_of, document}
use Rattle.ntriples_bytes.specs.inside.Parts.{joined, has_any}
use Rattle.ntriples_bytes.proofs.Parting.{decode_parts, none_passes}
use Rattle.ntriples_bytes.proofs.Marking.{by_test}
use Rattle.ntriples_breaks.specs.inside.Breaks.{is_eol, line_length}
use Rattle.ntriples_document.specs.inside.Bytes.{line_of}

-- ---- ends of lines

-- Only bytes of ASCII end a line.
eol_ascii : (c : ℕ) → 0x80 ≤ c → is_eol c ≡ false
unfolding is_eol is_one_of codes
eol_ascii c h = rw (ne_eqb c 13 (λ x. omega arith), ne_eqb c 10 (λ x. omega arith))

false-not : {C : Type 0} → false ≡ true → C
false-not e = let z : ◌≡◌ {A = ℕ} 0 1 = cc in absurd (omega arith)

eol_small : (c : ℕ) → is_eol c ≡ true → c < 0x80
eol_small c q = by_test (ltb c 0x80) (λ t. ltb-true c 0x80 t) (λ t. false-not (sym (eol_ascii c (ltb-false c 0x80 t)) ∙ q))

or_left : (a b : Bool) → (a || b) ≡ false → a ≡ false
or_left true b e = e
or_left false b e = refl

or_right : (a b : Bool) → (a || b) ≡ false → b ≡ false
or_right true b e = false-not (sym e)
or_right false b e = e

-- ---- lines of characters

lines_one : (l : List ℕ) → has_any is_eol l ≡ false → lines l ≡ l ∷ []
unfolding lines has_any is_eol add_to_line
lines_one [] h = refl
lines_one (c ∷ l) h = rw (or_left (is_eol c) (has_any is_eol l) h, lines_one l (or_right (is_eol c) (has_any is_eol l) h))

lines_more : (l : List ℕ) (c : ℕ) (m : List ℕ) → has_any is_eol l ≡ false → is_eol c ≡ true → lines (l ++ (c ∷ m)) ≡ l ∷ lines m
unfolding lines has_any is_eol add_to_line
lines_more [] c m h q = rw q
lines_more (d ∷ l) c m h q = rw (or_left (is_eol d) (has_any is_eol l) h, lines_more l c m (or_right (is_eol d) (has_any is_eol l) h) q)

-- ---- documents

-- A document stays refused with one line more.
refused_stays : (w : Line) → refused ≡ with_line w refused
unfolding with_line with_triple
refused_stays wrong = refl
refused_stays empty = refl
refused_stays (full t) = refl

-- No byte is no triple.
pub document_none : document [] ≡ triples []
unfolding document document_of decode lines read_lines read_line skip is_rest with_line
document_none = refl

-- A document of one line.
document_last : (xs : List ℕ) → has_any is_eol xs ≡ false → document xs ≡ with_line (line_of (decode xs)) (triples [])
unfolding document document_of line_of read_lines with_line
document_last xs h = go (decode xs) refl
  where
    go : (d : Decoded) → decode xs ≡ d → document_of d ≡ with_line (line_of d) (triples [])
    go broken e = refl
    go (decoded l) e = rw (lines_one l (none_passes is_eol eol_ascii xs l h e))

-- One of more lines.
document-more
    : (xs : List ℕ) (c : ℕ) (ys : List ℕ) → has_any is_eol xs ≡ false → is_eol c ≡ true
    → document (xs ++ (c ∷ ys)) ≡ with_line (line_of (decode xs)) (document ys)
unfolding document document_of line_of joined with_char read_lines with_line
document-more xs c ys h q = rw (decode_parts xs c ys (eol_small c q)) (go (decode xs) (decode ys) refl)
  where
    go : (d e : Decoded) → decode xs ≡ d → document_of (joined d (with_char c e)) ≡ with_line (line_of d) (document_of e)
    go broken e f = refl
    go (decoded l) broken f = refused_stays (read_line l)
    go (decoded l) (decoded m) f = rw (lines_more l c m (none_passes is_eol eol_ascii xs l h f) q)

-- ---- the first line of bytes

-- Bytes are one line; or a line, a byte that ends it, and others behind.
data Parted (bs : List ℕ) : Type 0 where
  last : has_any is_eol bs ≡ false → take (line_length bs) bs ≡ bs → drop (suc (line_length bs)) bs ≡ [] → Parted bs
  more : (xs : List ℕ) (c : ℕ) (ys : List ℕ) → bs ≡ xs ++ (c ∷ ys) → has_any is_eol xs ≡ false → is_eol c ≡ true → take (line_length bs) bs ≡ xs → drop (suc (line_length bs)) bs ≡ ys → Parted bs

part-cons : (b : ℕ) (bs : List ℕ) → is_eol b ≡ false → Parted bs → Parted (b ∷ bs)
unfolding line_length has_any
part-cons b bs q (last h t d) = last (rw q h) (rw (q, t)) (rw q d)
part-cons b bs q (more xs c ys e h i t d) = more (b ∷ xs) c ys (rw e) (rw q h) i (rw (q, t)) (rw q d)

parted : (bs : List ℕ) → Parted bs
unfolding line_length has_any
parted [] = last refl refl refl
parted (b ∷ bs) = by_test (is_eol b) (λ q. more [] b bs refl refl q (rw q) (rw q)) (λ q. part-cons b bs q (parted bs))

-- A document is its first line and the document behind.
pub document_line : (bs : List ℕ) → document bs ≡ with_line (line_of (decode (take (line_length bs) bs))) (document (drop (suc (line_length bs)) bs))
document_line bs = go (parted bs)
  where
    go : Parted bs → document bs ≡ with_line (line_of (decode (take (line_length bs) bs))) (document (drop (suc (line_length bs)) bs))
    go (last h t d) = rw (t, d, document_none) (document_last bs h)
    go (more xs c ys e h i t d) = rw (t, d) (rw e (document-more xs c ys h i))
