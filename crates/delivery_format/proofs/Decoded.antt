-- What the walk over bytes finds is what `encode` says: these fix crates/spec/specs/computed/Decoded.antt. Assumes nothing.
use Prim.Native.Nat.{ℕ, ◌≤◌, ◌<◌}
use mathlib.Core.Path.{◌≡◌, refl, sym, ap, ◌∙◌}
use mathlib.Core.Bool.{true}
use mathlib.Core.Logic.{◌↔◌}
use mathlib.Core.List.{List, [], ◌++◌, Memᴰ, append-nil}
use native.Mathlib.Omega.{arith}
use lib.ListN.{length, drop, drop_of_length-le}
use borrow.Author.Tests.{le-leb}
use Rattle.spec.specs.Messages.{Message, word_bytes, encode, most_bytes}
use Rattle.spec.specs.computed.Decoded.{word, read, is_whole}
use Rattle.spec.proofs.Each.{each_member}
use Rattle.delivery_format.specs.inside.Encodable.{IsByte}
use Rattle.delivery_format.proofs.Whole.{whole_length}
use Rattle.delivery_format.proofs.Encoding.{read-encode, encode_whole}
use Rattle.delivery_format.proofs.Decoding.{word_again, encode-read}

-- What is read of the bytes of a message is that message.
pub read_is : (m : Message) (bs : List ℕ) → encode m ≡ bs → read bs ≡ m
read_is m bs e = ap read (sym e) ∙ read-encode m

-- The bytes of a message are whole where there are not too many.
written_whole : (m : Message) (bs : List ℕ) → encode m ≡ bs → length bs ≤ most_bytes → is_whole bs ≡ true
written_whole m bs e h = ap is_whole (sym e) ∙ encode_whole m ∙ le-leb (length (encode m)) most_bytes (rw e h)

module _ (bs : List ℕ) (bytes : (b : ℕ) → Memᴰ b bs → b < 256) where
  -- Bytes are whole exactly when there are at most 65,536 and they are those of a message.
  pub whole_iff : (is_whole bs ≡ true) ↔ ((length bs ≤ most_bytes) × ((m : Message) × (encode m ≡ bs)))
  whole_iff = (λ w. (whole_length bs w, (read bs, encode-read bs (each_member IsByte bs bytes) w)), λ h. written_whole h.1.0 bs h.1.1 h.0)

  -- The word that is read of four bytes is the one whose bytes they are.
  pub word_is : length bs ≡ 4 → word_bytes (word bs 0) ≡ bs
  word_is h =
      let r : drop 4 bs ≡ [] = drop_of_length-le bs {i = 4} (omega arith) in
      sym (word_again bs (each_member IsByte bs bytes) 0 4 refl (omega arith) ∙ ap (λ (l : List ℕ). word_bytes (word bs 0) ++ l) r ∙ append-nil (word_bytes (word bs 0)))
