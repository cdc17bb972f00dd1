-- Laws of the passage through a term's text, piece by piece. Assumes nothing.
use Prim.Native.Nat.{ℕ, ◌+◌, ◌≤◌, ◌<◌}
use mathlib.Core.Path.{◌≡◌, refl, sym, ap, ◌∙◌}
use mathlib.Core.Bool.{true}
use mathlib.Core.List.{List, [], ◌∷◌, ◌++◌, append_assoc, append-nil}
use native.Mathlib.Omega.{arith}
use lib.ListN.{length, get_or, take, length-append}
use lib.Seq.{sets, length-sets, length-take-le}
use Rattle.spec_ntriples.specs.Texts.{Text}
use Rattle.ntriples_bytes.specs.inside.Places.{HasText}
use Rattle.dictionary_hash.specs.inside.Hashes.{hash_from}
use Rattle.dictionary_hash.proofs.Hashing.{hash-append}
use Rattle.ntriples_cursor.specs.declared.Mode.TheVariants.{Term}
use Rattle.ntriples_cursor.specs.declared.Cursor.{Cursor}
use Rattle.ntriples_cursor.specs.declared.Piece.{Piece}
use Rattle.ntriples_cursor.specs.inside.Coming.{SomeComing, Stepped}
use Rattle.ntriples_own.specs.inside.Own.{is_own, own_piece}
use Rattle.ntriples_own.proofs.Own.{own-stepped}
use Rattle.ntriples_cursor.proofs.Placing.{coming-placed}
use Rattle.ntriples_text.specs.inside.Tokens.{Left}
use Rattle.ntriples_text.proofs.Writing.{sets-append}

-- All bytes are to come.
pub left_first : (line : List ℕ) (from end : ℕ) (t : Text) (P : List ℕ → Type 0) → HasText line from end t → P t.bytes → Left line end (record { place = from; mode = Term }) P
left_first line from end t P H p = record { left = t.bytes; coming = record { text = t; has = H; same = refl }; sound = p }

module _ (line : List ℕ) (end : ℕ) (c : Cursor) (P : List ℕ → Type 0) (X : Left line end c P) where
  pub left-some : SomeComing c.mode line end c.place
  left-some = record { bytes = X.left; coming = X.coming }

  pub left-within : c.place ≤ end
  left-within = (coming-placed line end c X.left X.coming).within

  -- No byte is to come.
  pub left_none : end ≤ c.place → P []
  left_none h = let e : X.left ≡ [] = (coming-placed line end c X.left X.coming).done h in rw e at X.sound

  -- A piece less.
  pub left_more : (p : Piece) (S : Stepped line end c.place X.left p) (Q : List ℕ → Type 0) → (P (take p.len p.bytes ++ S.later) → Q S.later) → Left line end p.next Q
  left_more p S Q f = record { left = S.later; coming = S.splits.coming; sound = f (rw S.splits.same at X.sound) }

  -- A byte less that stands for itself.
  pub left-own
      : c.place < end → is_own c.mode (get_or line c.place 0) ≡ true → (Q : List ℕ → Type 0) → ((later : List ℕ) → P (get_or line c.place 0 ∷ later) → Q later)
      → Left line end (record { place = c.place + 1; mode = c.mode }) Q
  left-own h e Q f = let S = own-stepped line end c X.left h e X.coming in left_more (own_piece c (get_or line c.place 0)) S Q (f S.later)

-- What is counted.
pub length_more : (n len w : ℕ) (bs later : List ℕ) → len ≤ length bs → n + length (take len bs ++ later) ≡ w → n + len + length later ≡ w
length_more n len w bs later h e = omega (arith, length-append (take len bs) later, length-take-le len bs h)

-- What is hashed.
pub hash_more : (h r len w : ℕ) (bs later : List ℕ) → r ≡ hash_from h (take len bs) → hash_from h (take len bs ++ later) ≡ w → hash_from r later ≡ w
hash_more h r len w bs later e f = ap (λ (x : ℕ). hash_from x later) e ∙ sym (hash-append h (take len bs) later) ∙ f

-- What is written: some bytes of a text, before those that are left.
pub record Wrote (before out : List ℕ) (at i : ℕ) (whole left : List ℕ) : Type 0 where
  pub done : List ℕ
  pub parts : whole ≡ done ++ left
  pub same : out ≡ sets before at done
  pub place : i ≡ at + length done

pub wrote_first : (out : List ℕ) (at : ℕ) (whole : List ℕ) → Wrote out out at at whole whole
wrote_first out at whole = record { done = []; parts = refl; same = refl; place = omega arith }

pub wrote-more
    : (before out after : List ℕ) (at i len : ℕ) (whole bs later : List ℕ) → len ≤ length bs → after ≡ sets out i (take len bs) → Wrote before out at i whole (take len bs ++ later)
    → Wrote before after at (i + len) whole later
wrote-more before out after at i len whole bs later h e X =
    let l : length (take len bs) ≡ len = length-take-le len bs h in
    record {
      done = X.done ++ take len bs;
      parts = X.parts ∙ sym (append_assoc X.done (take len bs) later);
      same = e ∙ rw (X.same, X.place) (sym (sets-append before at X.done (take len bs)));
      place = omega (arith, X.place, length-append X.done (take len bs));
    }

-- Room for what is left.
pub wrote_room : (before out : List ℕ) (at i : ℕ) (whole left : List ℕ) → Wrote before out at i whole left → at + length whole ≤ length before → i + length left ≤ length out
wrote_room before out at i whole left X h =
    omega (arith, X.place, rw (length-append X.done left) at (ap length X.parts), ap length X.same, length-sets before at X.done)

pub wrote_piece : (before out : List ℕ) (at i len : ℕ) (whole bs later : List ℕ) → len ≤ length bs → Wrote before out at i whole (take len bs ++ later) → at + length whole ≤ length before → i + len ≤ length out
wrote_piece before out at i len whole bs later k X h = omega (arith, wrote_room before out at i whole (take len bs ++ later) X h, length-append (take len bs) later, length-take-le len bs k)

-- All is written.
pub wrote-all : (before out : List ℕ) (at i : ℕ) (whole : List ℕ) → Wrote before out at i whole [] → (out ≡ sets before at whole) × (i ≡ at + length whole)
wrote-all before out at i whole X =
    let e : whole ≡ X.done = X.parts ∙ append-nil X.done in
    (X.same ∙ ap (sets before at) (sym e), X.place ∙ ap (λ (l : List ℕ). at + length l) (sym e))
