-- Laws of texts that are compared piece by piece. Assumes nothing.
use Prim.Native.Nat.{ℕ, ◌+◌, ◌-◌, ◌≤◌, ◌<◌}
use mathlib.Core.Path.{◌≡◌, refl, sym, ap, ◌∙◌}
use mathlib.Core.Bool.{Bool, true, false, ◌&&◌}
use mathlib.Core.List.{List, [], ◌∷◌, ◌++◌}
use native.Mathlib.Nat.{sub-zero}
use native.Mathlib.Omega.{arith}
use lib.Dec.{eqb}
use lib.ListN.{length, take, drop}
use lib.Seq.{length-take-le, take-length}
use borrow.Author.Tests.{eq-eqb, ne_eqb}
use Rattle.spec_ntriples.specs.Texts.{is_same_text}
use Rattle.dictionary_bytes.proofs.Same.{part_split, part_length}
use Rattle.ntriples_cursor.specs.declared.Mode.TheVariants.{Iri}
use Rattle.ntriples_cursor.specs.declared.Piece.{Piece}
use Rattle.ntriples_cursor.specs.inside.Coming.{IriComing, IriStepped}
use Rattle.ntriples_cursor.proofs.Placing.{coming-placed}

-- A text behind another of the same length.
append_same : (x y a b : List ℕ) → length x ≡ length a → is_same_text (x ++ y) (a ++ b) ≡ (is_same_text x a && is_same_text y b)
unfolding is_same_text
append_same [] y [] b h = refl
append_same [] y (c ∷ a) b h = absurd (omega arith)
append_same (z ∷ x) y [] b h = absurd (omega arith)
append_same (z ∷ x) y (c ∷ a) b h = let k : length x ≡ length a = omega arith in rw (append_same x y a b k) (and_assoc (eqb z c) (is_same_text x a) (is_same_text y b))
  where
    and_assoc : (p q r : Bool) → (p && (q && r)) ≡ ((p && q) && r)
    and_assoc true q r = refl
    and_assoc false q r = refl

-- A text that is too long.
too_long_lem : (x y a : List ℕ) → length a < length x → is_same_text (x ++ y) a ≡ false
unfolding is_same_text
too_long_lem [] y a h = absurd (omega arith)
too_long_lem (z ∷ x) y [] h = refl
too_long_lem (z ∷ x) y (c ∷ a) h = let k : length a < length x = omega arith in rw (too_long_lem x y a k) (and_false (eqb z c))
  where
    and_false : (p : Bool) → (p && false) ≡ false
    and_false true = refl
    and_false false = refl

-- The first len bytes of some, against those left from an index on.
module _ (bs text : List ℕ) (len at left : ℕ) (h : len ≤ length bs) (k : at + left ≤ length text) where
  pub piece_long : left < len → (later : List ℕ) → is_same_text (take len bs ++ later) (take left (drop at text)) ≡ (false && is_same_text later (take (left - len) (drop (at + len) text)))
  piece_long l later = too_long_lem (take len bs) later (take left (drop at text)) (omega (arith, part_length text at left k, length-take-le len bs h))

  pub piece_same : len ≤ left → (r : Bool) → r ≡ is_same_text (take len (drop 0 bs)) (take len (drop at text)) → (later : List ℕ)
      → is_same_text (take len bs ++ later) (take left (drop at text)) ≡ (r && is_same_text later (take (left - len) (drop (at + len) text)))
  piece_same l r e later =
      let q : length (take len bs) ≡ length (take len (drop at text)) = length-take-le len bs h ∙ sym (part_length text at len (omega arith)) in
      rw (part_split text at len left l, append_same (take len bs) later (take len (drop at text)) (take (left - len) (drop (at + len) text)) q, e)

-- What is left to compare, once a piece of it stands first: W is whether the whole text is the same.
module _ (W r : Bool) (left later text bs : List ℕ) (len s k : ℕ) (e : left ≡ take len bs ++ later) (f : W ≡ is_same_text left (take k (drop s text)))
    (g : (l : List ℕ) → is_same_text (take len bs ++ l) (take k (drop s text)) ≡ (r && is_same_text l (take (k - len) (drop (s + len) text)))) where
  pub pieces_more : (s' k' : ℕ) → r ≡ true → s' ≡ s + len → k' ≡ k - len → W ≡ is_same_text later (take k' (drop s' text))
  pieces_more s' k' t p q = f ∙ ap (λ (l : List ℕ). is_same_text l (take k (drop s text))) e ∙ g later ∙ rw (t, p, q)

  pub pieces_stop : r ≡ false → W ≡ false
  pieces_stop t = f ∙ ap (λ (l : List ℕ). is_same_text l (take k (drop s text))) e ∙ g later ∙ rw t

-- All pieces are compared.
pub pieces_end : (W : Bool) (left text : List ℕ) (s n i : ℕ) → W ≡ is_same_text left (take (n - i) (drop s text)) → left ≡ [] → s + (n - i) ≤ length text → i ≤ n → W ≡ eqb i n
unfolding is_same_text
pieces_end W left text s n i f e h k = f ∙ rw e (go (take (n - i) (drop s text)) (part_length text s (n - i) h))
  where
    go : (t : List ℕ) → length t ≡ n - i → is_same_text [] t ≡ eqb i n
    go [] q = sym (eq-eqb i n (omega arith))
    go (b ∷ t) q = sym (ne_eqb i n (λ r. absurd (omega arith)))

-- The bytes to come inside an IRI, of which so many are compared with a text.
pub record IriLeft (line : List ℕ) (end place : ℕ) (bytes text : List ℕ) (n i : ℕ) : Type 0 where
  pub left : List ℕ
  pub coming : place < end → IriComing line end place left
  pub done : end ≤ place → left ≡ []
  pub same : is_same_text bytes text ≡ is_same_text left (take (n - i) (drop i text))

pub iri_first : (line : List ℕ) (end place : ℕ) (bytes text : List ℕ) (n : ℕ) → length text ≡ n → IriComing line end place bytes → IriLeft line end place bytes text n 0
iri_first line end place bytes text n h I =
    record {
      left = bytes;
      coming = λ k. I;
      done = (coming-placed line end (record { place = place; mode = Iri }) bytes I).done;
      same = rw (sub-zero, ← h) (ap (is_same_text bytes) (sym (take-length text)));
    }

module _ (line : List ℕ) (end place : ℕ) (bytes text : List ℕ) (n i : ℕ) (X : IriLeft line end place bytes text n i) (h : place < end) (p : Piece) (S : IriStepped line end place X.left p) (r : Bool)
    (g : (l : List ℕ) → is_same_text (take p.len p.bytes ++ l) (take (n - i) (drop i text)) ≡ (r && is_same_text l (take (n - i - p.len) (drop (i + p.len) text)))) where
  pub iri_again : r ≡ true → IriLeft line end p.next.place bytes text n (i + p.len)
  iri_again t =
      record {
        left = S.later;
        coming = S.inside;
        done = (coming-placed line end p.next S.later S.splits.coming).done;
        same = pieces_more (is_same_text bytes text) r X.left S.later text p.bytes p.len i (n - i) S.splits.same X.same g (i + p.len) (n - (i + p.len)) t refl (omega arith);
      }

  pub iri_stop : r ≡ false → is_same_text bytes text ≡ false
  iri_stop t = pieces_stop (is_same_text bytes text) r X.left S.later text p.bytes p.len i (n - i) S.splits.same X.same g t
