-- Laws of lines that are written one behind the other, as long as they fit. Assumes nothing.
use Rattle.std.specs.Prelude.{Ok, Err}
use Prim.Native.Nat.{ℕ, ◌+◌, ◌-◌, ◌≤◌, ◌<◌}
use mathlib.Core.Path.{◌≡◌, refl, sym, ap, subst, ◌∙◌}
use mathlib.Core.Bool.{true}
use mathlib.Core.List.{List, [], ◌∷◌, ◌++◌, append_assoc, append-nil}
use native.Mathlib.Numerals.{add-one}
use native.Mathlib.Omega.{arith}
use borrow.Author.Tests.{le-leb, lt-leb}
use lib.ListN.{length, drop, replicate, length-append, length-replicate, drop_of_length-le}
use lib.Seq.{sets, sets-eq, length-sets, drop-cons}
use Rattle.spec.proofs.Ascending.{and_left, and_right}
use Rattle.spec.proofs.TableRows.{get_d_rows}
use Rattle.spec.specs.declared.Triple.{Triple}
use Rattle.spec.specs.Lists.{all, padded}
use Rattle.spec.specs.Tables.{count, row_at, rows}
use Rattle.spec.specs.inside.Laid.{Laid}
use Rattle.spec_ntriples.specs.Characters.{codes}
use Rattle.spec_ntriples.specs.Dictionary.{Entry}
use Rattle.spec_ntriples.specs.Sights.{text_of}
use Rattle.spec_writing.specs.Writing.{line_bytes, document_bytes, row_texts, rows_bytes, has_texts, written, give_bytes}
use Rattle.ntriples_text.proofs.Writing.{sets-append}
use Rattle.ntriples_room.specs.inside.Put.{Put}
use Rattle.ntriples_room.proofs.Putting.{put_stop, put_then}
use Rattle.ntriples_rows.specs.inside.Fitting.{given_room}

-- ---- a line

-- The text of a term with its space.
abbrev pub spaced : List Entry → ℕ → List ℕ
spaced es w = text_of es w ++ codes " "

-- Three of them, and the end of the line.
line_is : (es : List Entry) (t : Triple) → line_bytes (row_texts es t) ≡ spaced es t.subject ++ (spaced es t.property ++ (spaced es t.object ++ codes ".\n"))
unfolding line_bytes row_texts codes
line_is es t =
    let s = text_of es t.subject in
    let p = text_of es t.property in
    let o = text_of es t.object in
    sym
    (ap (λ (l : List ℕ). spaced es t.subject ++ (spaced es t.property ++ l)) (append_assoc o (codes " ") (codes ".\n"))
    ∙ ap (λ (l : List ℕ). spaced es t.subject ++ l) (append_assoc p (codes " ") (o ++ codes " .\n"))
    ∙ append_assoc s (codes " ") (p ++ (codes " " ++ (o ++ codes " .\n"))))

-- A text of a row that does not fit, and the whole line.
module _ (es : List Entry) (t : Triple) {out o₁ : List ℕ} {at a : ℕ} (s : Put out o₁ at (spaced es t.subject) a) where
  pub no_subject : a ≡ 0 → Put out o₁ at (line_bytes (row_texts es t)) 0
  no_subject e = rw (line_is es t) (put_stop o₁ (spaced es t.subject) (spaced es t.property ++ (spaced es t.object ++ codes ".\n")) s e)

  module _ (h : 0 < a) {o₂ : List ℕ} {b : ℕ} (p : Put o₁ o₂ a (spaced es t.property) b) where
    pub no_property : b ≡ 0 → Put out o₂ at (line_bytes (row_texts es t)) 0
    no_property e =
        rw
        (line_is es t)
        (put_then (spaced es t.subject) (spaced es t.property ++ (spaced es t.object ++ codes ".\n")) s h (put_stop o₂ (spaced es t.property) (spaced es t.object ++ codes ".\n") p e))

    module _ (k : 0 < b) {o₃ : List ℕ} {c : ℕ} (o : Put o₂ o₃ b (spaced es t.object) c) where
      pub no_object : c ≡ 0 → Put out o₃ at (line_bytes (row_texts es t)) 0
      no_object e =
          rw
          (line_is es t)
          (put_then
          (spaced es t.subject)
          (spaced es t.property ++ (spaced es t.object ++ codes ".\n"))
          s
          h
          (put_then (spaced es t.property) (spaced es t.object ++ codes ".\n") p k (put_stop o₃ (spaced es t.object) (codes ".\n") o e)))

      pub line-put : 0 < c → {o₄ : List ℕ} {d : ℕ} → Put o₃ o₄ c (codes ".\n") d → Put out o₄ at (line_bytes (row_texts es t)) d
      line-put l {o₄} {d} e =
          rw
          (line_is es t)
          (put_then
          (spaced es t.subject)
          (spaced es t.property ++ (spaced es t.object ++ codes ".\n"))
          s
          h
          (put_then (spaced es t.property) (spaced es t.object ++ codes ".\n") p k (put_then (spaced es t.object) (codes ".\n") o l e)))

-- ---- rows

-- The rows of a table from row i on.
rows_from : (ws : List ℕ) (i : ℕ) (t : Triple) → Laid ws → i < count ws → t ≡ row_at ws i → drop i (rows ws) ≡ t ∷ drop (i + 1) (rows ws)
rows_from ws i t L h e =
    let k : i < length (rows ws) = omega (arith, L.counted) in
    rw e (drop-cons (rows ws) i (row_at ws i) k ∙ rw (get_d_rows ws i (row_at ws i) k, add-one i))

pub rows_none : (ws : List ℕ) (i : ℕ) → Laid ws → count ws ≤ i → drop i (rows ws) ≡ []
rows_none ws i L h = drop_of_length-le (rows ws) {i = i} (omega (arith, L.counted))

-- Rows ts are left to be written of all, from an index on: with them all would be written.
pub record Left (es : List Entry) (every ts : List Triple) (out₀ out : List ℕ) (at : ℕ) : Type 0 where
  pub have : all (has_texts es) ts ≡ true
  pub place : at + length (rows_bytes es ts) ≡ length (rows_bytes es every)
  pub words : sets out at (rows_bytes es ts) ≡ sets out₀ 0 (rows_bytes es every)
  pub long : length out ≡ length out₀
  pub inside : at ≤ length out

pub left_first : (es : List Entry) (ts : List Triple) (out : List ℕ) → all (has_texts es) ts ≡ true → Left es ts ts out out 0
left_first es ts out h = record { have = h; place = omega arith; words = refl; long = refl; inside = omega arith }

-- The next of a table's rows.
pub left-next : {es : List Entry} {out₀ out : List ℕ} {at : ℕ} (ws : List ℕ) (i : ℕ) (t : Triple) → Laid ws → i < count ws → t ≡ row_at ws i
    → Left es (rows ws) (drop i (rows ws)) out₀ out at → Left es (rows ws) (t ∷ drop (i + 1) (rows ws)) out₀ out at
left-next {es} {out₀} {out} {at} ws i t L h e l = subst (λ (ts : List Triple). Left es (rows ws) ts out₀ out at) (rows_from ws i t L h e) l

-- It has texts, and does not fit, or is put.
module _ {es : List Entry} {every ts : List Triple} {out₀ out : List ℕ} {at : ℕ} (t : Triple) (L : Left es every (t ∷ ts) out₀ out at) where
  pub left_has : has_texts es t ≡ true
  unfolding all
  left_has = and_left (has_texts es t) (all (has_texts es) ts) L.have

  module _ {out' : List ℕ} {r : ℕ} (p : Put out out' at (line_bytes (row_texts es t)) r) where
    pub left-full : r ≡ 0 → length out₀ < length (rows_bytes es every)
    unfolding rows_bytes document_bytes
    left-full e = omega (arith, p.full e, L.place, L.long, length-append (line_bytes (row_texts es t)) (rows_bytes es ts))

    pub left_more : 0 < r → Left es every ts out₀ out' r
    unfolding rows_bytes document_bytes all
    left_more h =
        let line = line_bytes (row_texts es t) in
        let k : length out' ≡ length out = ap length (p.put h) ∙ length-sets out at line in
        record {
          have = and_right (has_texts es t) (all (has_texts es) ts) L.have;
          place = omega (arith, p.behind h, L.place, length-append line (rows_bytes es ts));
          words = rw (p.put h, p.behind h) (sym (sets-append out at line (rows_bytes es ts)) ∙ L.words);
          long = k ∙ L.long;
          inside = omega (arith, p.fits h, k);
        }

-- None is left.
module _ {es : List Entry} {every ts : List Triple} {out₀ out : List ℕ} {at : ℕ} (L : Left es every ts out₀ out at) (e : ts ≡ []) where
  pub left_done : out ≡ sets out₀ 0 (rows_bytes es every)
  unfolding rows_bytes document_bytes
  left_done = rw e at L.words

  pub left_end : at ≡ length (rows_bytes es every)
  unfolding rows_bytes document_bytes
  left_end = let p : at + length (rows_bytes es []) ≡ length (rows_bytes es every) = rw e at L.place in omega (arith, p)

-- ---- the output as it is left

-- All bytes are stored.
all_stored : (out vs : List ℕ) → length vs ≡ length out → sets out 0 vs ≡ vs
all_stored out vs e = sets-eq vs out 0 (omega arith) ∙ ap (λ (l : List ℕ). vs ++ l) (drop_of_length-le out {i = 0 + length vs} (omega arith)) ∙ append-nil vs

-- Bytes that do not fit an output, which became zero from its first byte on.
pub given_none : (bs out out' after : List ℕ) → length out < length bs → length out' ≡ length out → after ≡ sets out' 0 (replicate (length out' - 0) 0) → written (Err 8) after ≡ given_room bs (length out)
unfolding given_room give_bytes
given_none bs out out' after h k e =
    let z : length out' - 0 ≡ length out = omega arith in
    let n : length (replicate {A = ℕ} (length out) 0) ≡ length out' = length-replicate {A = ℕ} (length out) 0 ∙ sym k in
    rw (lt-leb (length bs) (length out) h) (ap (written (Err 8)) (e ∙ ap (λ (m : ℕ). sets out' 0 (replicate m 0)) z ∙ all_stored out' (replicate (length out) 0) n))

-- Bytes that fit, with zeros behind them.
pub given-all : (bs out out' after : List ℕ) (at : ℕ) → out' ≡ sets out 0 bs → at ≡ length bs → at ≤ length out' → after ≡ sets out' at (replicate (length out' - at) 0)
    → written (Ok at) after ≡ given_room bs (length out)
unfolding given_room give_bytes
given-all bs out out' after at p e h f =
    let k : length out' ≡ length out = ap length p ∙ length-sets out 0 bs in
    let l : length bs ≤ length out = omega arith in
    let zs : List ℕ = replicate (length out - length bs) 0 in
    let n : length (bs ++ zs) ≡ length out = omega (arith, length-append bs zs, length-replicate {A = ℕ} (length out - length bs) 0) in
    let z : 0 + length bs ≡ length bs = omega arith in
    let s : sets out 0 (bs ++ zs) ≡ sets (sets out 0 bs) (length bs) zs = sets-append out 0 bs zs ∙ ap (λ (i : ℕ). sets (sets out 0 bs) i zs) z in
    let g : after ≡ padded (length out) bs = f ∙ rw (k, e, p) (sym s ∙ all_stored out (bs ++ zs) n) in
    rw (le-leb (length bs) (length out) l, e, g)
