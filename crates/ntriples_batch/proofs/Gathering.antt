-- Laws of lines that have a triple. Assumes nothing.
use Prim.Native.Nat.{ℕ, zero, suc, ◌+◌, ◌-◌, ◌≤◌, ◌<◌, min}
use mathlib.Core.Path.{◌≡◌, refl, sym, ap, ◌∙◌}
use mathlib.Core.Bool.{Bool, true, false, ◌&&◌}
use mathlib.Core.Logic.{⊎_elim}
use mathlib.Core.List.{List, [], ◌∷◌}
use native.Mathlib.Omega.{arith}
use lib.ListN.{length, get_or, take, drop, set, drop_of_length-le, length-drop}
use lib.Seq.{get_or-set_same, get_or-set_other}
use lib.Dec.{ltb}
use borrow.Author.Tests.{ltb-true, ltb-false, lt-ltb}
use Rattle.spec.proofs.Lists.{le_or}
use Rattle.spec_ntriples.specs.computed.Decoded.{Decoded, broken, decoded, decode}
use Rattle.spec_ntriples.specs.Texts.{TextTriple}
use Rattle.spec_ntriples.specs.computed.Lines.{Line, wrong, empty, full, read_line, Document, refused, triples, with_triple, with_line, document}
use Rattle.ntriples_bytes.specs.inside.Places.{Utf8From}
use Rattle.ntriples_bytes.proofs.Decoding.{at_start}
use Rattle.ntriples_lines.specs.declared.Tokens.{Tokens}
use Rattle.ntriples_lines.specs.declared.Line as code-line
use Rattle.ntriples_lines.specs.declared.Line.TheVariants.{Wrong, Empty, Full}
use Rattle.ntriples_lines.specs.inside.Reading.{IsFull, IsLine}
use Rattle.ntriples_lines.proofs.Lines.{line_same}
use Rattle.ntriples_breaks.specs.inside.Breaks.{line_length, IsNext}
use Rattle.ntriples_document.specs.inside.Bytes.{line_of}
use Rattle.ntriples_document.proofs.Parts.{document_none}
use Rattle.ntriples_document.proofs.Counting.{CharsOf, line_decoded, first-line, end-within}
use Rattle.ntriples_batch.specs.inside.Batches.{has_triple, LineAt, IsLineOfTriple, no_triple, Gathered, HaveTexts}

-- ---- lines

true-not : {C : Type 0} → true ≡ false → C
true-not e = let z : ◌≡◌ {A = ℕ} 0 1 = cc in absurd (omega arith)

-- A line with a triple has one.
pub record FullLine (l : Line) : Type 0 where
  pub triple : TextTriple
  pub same : l ≡ full triple

pub full_line : (l : Line) → has_triple l ≡ true → FullLine l
unfolding has_triple
full_line wrong e = true-not (sym e)
full_line empty e = true-not (sym e)
full_line (full t) e = record { triple = t; same = refl }

-- A line that is the same has a triple or has none.
pub none-full : (bytes : List ℕ) (l : Line) (r : code-line.Line) → IsLine bytes l r → ((k : Tokens) → r ≡ Full k → ⊥) → false ≡ has_triple l
unfolding has_triple
none-full bytes l Wrong q n = rw q
none-full bytes l Empty q n = rw q
none-full bytes l (Full k) q n = absurd (n k refl)

pub full-some : (l : Line) (t : TextTriple) → l ≡ full t → true ≡ has_triple l
unfolding has_triple
full-some l t e = rw e

-- Two tests that both hold, or do not.
and_left : (a b : Bool) → (a && b) ≡ true → a ≡ true
and_left true b e = refl
and_left false b e = e

and_right : (a b : Bool) → (a && b) ≡ true → b ≡ true
and_right true b e = e
and_right false b e = true-not (sym e)

and_not : (a b : Bool) → (a && b) ≡ false → b ≡ true → a ≡ false
and_not true b e q = sym q ∙ e
and_not false b e q = refl

pub lines_left : (a b c d : ℕ) → (ltb a b && ltb c d) ≡ true → a < b
lines_left a b c d e = ltb-true a b (and_left (ltb a b) (ltb c d) e)

pub places_left : (a b c d : ℕ) → (ltb a b && ltb c d) ≡ true → c < d
places_left a b c d e = ltb-true c d (and_right (ltb a b) (ltb c d) e)

pub nothing_left : (a b c d : ℕ) → (ltb a b && ltb c d) ≡ false → c < d → b ≤ a
nothing_left a b c d e h = ltb-false a b (and_not (ltb a b) (ltb c d) e (lt-ltb c d h))

-- ---- documents

refused-not : {C : Type 0} {ts : List TextTriple} → refused ≡ triples ts → C
refused-not e = let z : ◌≡◌ {A = ℕ} 0 1 = cc in absurd (omega arith)

triples_same : (ts us : List TextTriple) → triples ts ≡ triples us → ts ≡ us
triples_same ts us e = cc

-- A document without its first line, where that has no triple.
without_line : (l : Line) (d : Document) (ts : List TextTriple) → has_triple l ≡ false → with_line l d ≡ triples ts → d ≡ triples ts
unfolding with_line has_triple
without_line wrong d ts q e = refused-not e
without_line empty d ts q e = e
without_line (full t) d ts q e = true-not q

-- And where it has one: that is the first.
record FirstOf (t : TextTriple) (d : Document) (ts : List TextTriple) : Type 0 where
  pub rest : List TextTriple
  pub first : ts ≡ t ∷ rest
  pub others : d ≡ triples rest

without-triple : (t : TextTriple) (d : Document) (ts : List TextTriple) → with_triple t d ≡ triples ts → FirstOf t d ts
unfolding with_triple
without-triple t refused ts e = refused-not e
without-triple t (triples us) ts e = record { rest = us; first = sym (triples_same (t ∷ us) ts e); others = refl }

-- ---- the walk

-- So many of some triples stand in the lines that are noted, and the others from an index on.
pub record Gathering (file : List ℕ) (ts : List TextTriple) (lines : List ℕ) (count at : ℕ) : Type 0 where
  pub few : count ≤ length ts
  pub begins : (i : ℕ) → i < count → LineAt file (get_or lines i 0) (get_or ts i no_triple)
  pub behind : document (drop at file) ≡ triples (drop count ts)

pub none-gathered : (file : List ℕ) (ts : List TextTriple) (lines : List ℕ) (from : ℕ) → document (drop from file) ≡ triples ts → Gathering file ts lines 0 from
none-gathered file ts lines from e = record { few = omega arith; begins = λ i h. absurd (omega (arith, h)); behind = e }

-- The rest of a list that begins with an element.
record RestOf (ts : List TextTriple) (count : ℕ) (t : TextTriple) (us : List TextTriple) : Type 0 where
  pub more : count < length ts
  pub element : t ≡ get_or ts count no_triple
  pub others : us ≡ drop (count + 1) ts

rest_of : (ts : List TextTriple) (count : ℕ) (t : TextTriple) (us : List TextTriple) → drop count ts ≡ t ∷ us → RestOf ts count t us
rest_of [] zero t us e = let z : ◌≡◌ {A = ℕ} 0 1 = cc in absurd (omega arith)
rest_of [] (suc n) t us e = let z : ◌≡◌ {A = ℕ} 0 1 = cc in absurd (omega arith)
rest_of (x ∷ ts) zero t us e = let f : x ≡ t = cc in let g : ts ≡ us = cc in record { more = omega arith; element = sym f; others = sym g }
rest_of (x ∷ ts) (suc n) t us e =
    let R = rest_of ts n t us e in
    let s : suc n + 1 ≡ suc (n + 1) = omega arith in
    record { more = omega (arith, R.more); element = R.element; others = R.others ∙ ap (λ (k : ℕ). drop k (x ∷ ts)) (sym s) }

module _ (file : List ℕ) (ts : List TextTriple) (lines : List ℕ) (count at : ℕ) (G : Gathering file ts lines count at) (h : at < length file) (end : ℕ) (e : end ≡ at + line_length (drop at file)) (next : ℕ) (N : IsNext file end next) where
  abbrev line : Line
  line = line_of (decode (take (end - at) (drop at file)))

  parted : with_line line (document (drop (suc end) file)) ≡ triples (drop count ts)
  parted = sym (first-line file at end e) ∙ G.behind

  pub no_triple_lem : has_triple line ≡ false → Gathering file ts lines count next
  no_triple_lem q =
      record { few = G.few; begins = G.begins; behind = rw N.same (without_line line (document (drop (suc end) file)) (drop count ts) q parted) }

  line_at : (t : TextTriple) → line ≡ full t → LineAt file at t
  line_at t q =
      let k : end - at ≡ line_length (drop at file) = omega arith in
      record { within = omega arith; reads = rw k at q }

  with_triple_lem : (t : TextTriple) → line ≡ full t → FirstOf t (document (drop (suc end) file)) (drop count ts)
  unfolding with_line
  with_triple_lem t q = without-triple t (document (drop (suc end) file)) (drop count ts) (rw q at parted)

  begin-noted
      : (t : TextTriple) → LineAt file at t → t ≡ get_or ts count no_triple → count < length lines
      → (i : ℕ) → i < count + 1 → LineAt file (get_or (set lines count at) i 0) (get_or ts i no_triple)
  begin-noted t L f w i b =
      ⊎_elim
      (λ (q : count ≤ i). let k : i ≡ count = omega arith in rw (k, get_or-set_same lines count at 0 w, ← f) L)
      (λ (q : i < count). rw (get_or-set_other lines count i at 0 (λ x. omega arith)) (G.begins i q))
      (le_or count i)

  pub one_triple : count < length lines → has_triple line ≡ true → Gathering file ts (set lines count at) (count + 1) next
  one_triple w q =
      let F = full_line line q in
      let P = with_triple_lem F.triple F.same in
      let R = rest_of ts count F.triple P.rest P.first in
      record {
        few = omega (arith, R.more);
        begins = begin-noted F.triple (line_at F.triple F.same) R.element w;
        behind = rw N.same (P.others ∙ ap triples R.others);
      }

-- No triple is left at the end of the file.
none_left : (file : List ℕ) (at : ℕ) (us : List TextTriple) → length file ≤ at → document (drop at file) ≡ triples us → us ≡ []
none_left file at us h e = triples_same us [] (sym e ∙ ap document (drop_of_length-le file h) ∙ document_none)

all-counted : (file : List ℕ) (ts : List TextTriple) (count at size : ℕ) → count ≤ length ts → document (drop at file) ≡ triples (drop count ts) → count ≤ size → (count < size → length file ≤ at) → count ≡ min size (length ts)
all-counted file ts count at size f e w k =
    ⊎_elim
    (λ (h : size ≤ count). omega (arith, h, f, w))
    (λ (h : count < size). omega (arith, h, f, ap length (none_left file at (drop count ts) (k h) e), length-drop count ts))
    (le_or size count)

-- A walk goes on where there is a line and a place for it.
pub went_on : (from size at count next : ℕ) → from + count ≤ next → count ≤ size → (count < size → at ≤ next) → from < at → 0 < size → from < next
went_on from size at count next a w k h z =
    ⊎_elim (λ (q : size ≤ count). omega (arith, q, a, w)) (λ (q : count < size). omega (arith, k q)) (le_or size count)

-- At the end of the file, or with no place left.
pub all-gathered : (file : List ℕ) (ts : List TextTriple) (lines : List ℕ) (count at : ℕ) → Gathering file ts lines count at → count ≤ length lines → (count < length lines → length file ≤ at) → Gathered file ts lines (record { count = count; next = at })
all-gathered file ts lines count at G w k = record { counted = all-counted file ts count at (length lines) G.few G.behind w k; begins = G.begins; behind = G.behind }

-- ---- the places of a triple's terms

full-not : {C : Type 0} {t : TextTriple} → wrong ≡ full t → C
full-not e = let z : ◌≡◌ {A = ℕ} 0 1 = cc in absurd (omega arith)

full-not_empty : {C : Type 0} {t : TextTriple} → full t ≡ empty → C
full-not_empty e = let z : ◌≡◌ {A = ℕ} 0 1 = cc in absurd (omega arith)

-- A line with a triple is read as one.
not_other : (bytes : List ℕ) (t : TextTriple) (r : code-line.Line) → IsLine bytes (full t) r → ((k : Tokens) → r ≡ Full k → ⊥) → ⊥
not_other bytes t Wrong q n = full-not (sym q)
not_other bytes t Empty q n = full-not_empty q
not_other bytes t (Full k) q n = n k refl

full_same : (t u : TextTriple) → full t ≡ full u → t ≡ u
full_same t u e = cc

-- Bytes that are a line with a triple are characters.
chars_full : (d : Decoded) (t : TextTriple) → line_of d ≡ full t → CharsOf d
unfolding line_of
chars_full broken t e = full-not e
chars_full (decoded cs) t e = record { chars = cs; same = refl }

module _ (file : List ℕ) (begin end : ℕ) (I : IsLineOfTriple file begin end) where
  abbrev bytes : List ℕ
  bytes = take (end - begin) (drop begin file)

  read_as : (t : TextTriple) → LineAt file begin t → line_of (decode bytes) ≡ full t
  read_as t L = let k : end - begin ≡ line_length (drop begin file) = omega (arith, I.ends) in rw k L.reads

  chars_there : CharsOf (decode bytes)
  chars_there = chars_full (decode bytes) I.triple (read_as I.triple I.line)

  pub line-utf8 : Utf8From bytes 0
  line-utf8 = record { chars = chars_there.chars; stands = at_start bytes chars_there.chars chars_there.same }

  pub line_inside : end ≤ length file
  line_inside = omega (arith, I.ends, end-within file begin I.line.within)

  module _ (r : code-line.Line) (E : (l : List ℕ) → decode bytes ≡ decoded l → IsLine bytes (read_line l) r) (t : TextTriple) (L : LineAt file begin t) where
    pub is-line : IsLine bytes (full t) r
    is-line =
        line_same bytes (full t) (read_line chars_there.chars) r
        (sym (read_as t L) ∙ line_decoded (decode bytes) chars_there.chars chars_there.same)
        (E chars_there.chars chars_there.same)

    pub only-full : ((k : Tokens) → r ≡ Full k → ⊥) → ⊥
    only-full n = not_other bytes t r is-line n

    pub have-texts : (k : Tokens) → r ≡ Full k → HaveTexts bytes k t
    have-texts k q =
        let F : IsFull bytes (full t) k = rw q at is-line in
        let s : F.triple ≡ t = sym (full_same t F.triple F.same) in
        record { subject = rw s at F.subject; property = rw s at F.property; object = rw s at F.object }
