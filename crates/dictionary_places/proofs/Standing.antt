-- Laws of a dictionary's entries: what the bytes are where one stands. Assumes nothing.
use Prim.Native.Nat.{ℕ, ◌+◌, ◌≤◌}
use mathlib.Core.Path.{◌≡◌, sym, ap, ◌∙◌, subst}
use mathlib.Core.List.{List, [], ◌∷◌, ◌++◌}
use native.Mathlib.Omega.{arith}
use lib.ListN.{length, drop}
use lib.Seq.{append_snoc}
use Rattle.spec_ntriples.specs.Dictionary.{Entry, bytes_of_entries, front_term, entries}
use Rattle.spec_ntriples.specs.inside.Entries.{Holds}
use Rattle.dictionary_bytes.specs.inside.Entries.{length_at, text_at, place_at}
use Rattle.dictionary_entries.proofs.Standing.{entries-length}
use Rattle.dictionary_entries.proofs.Held.{held-within, held_place, held_term, held-text}

-- An entry of a dictionary stands at a byte index.
pub record Stands (bs : List ℕ) (at : ℕ) : Type 0 where
  pub before : List Entry
  pub here : Entry
  pub after : List Entry
  pub split : entries bs ≡ before ++ (here ∷ after)
  pub place : at ≡ length (bytes_of_entries before)

module _ (bs : List ℕ) (end at : ℕ) (H : Holds bs end (entries bs)) (S : Stands bs at) where
  held : Holds bs end (S.before ++ (S.here ∷ S.after))
  held = subst (Holds bs end) S.split H

  pub here_term : front_term (drop at bs) ≡ S.here.term
  unfolding place_at
  here_term = held_term bs end S.before (S.here ∷ S.after) held at S.place 0 S.here (omega arith)

  pub here-text : text_at bs at ≡ S.here.text
  unfolding place_at
  here-text = held-text bs end S.before (S.here ∷ S.after) held at S.place 0 S.here (omega arith)

  -- The next stands behind it.
  pub here-next : at + 12 + length_at bs at ≡ length (bytes_of_entries (S.before ++ (S.here ∷ [])))
  unfolding place_at
  here-next = held_place bs end S.before (S.here ∷ S.after) held at S.place 1 (omega arith) ∙ omega (arith, S.place, entries-length S.before (S.here ∷ []))

  pub next_split : entries bs ≡ (S.before ++ (S.here ∷ [])) ++ S.after
  next_split = S.split ∙ sym (append_snoc S.before S.here S.after)

  pub here_end : at + 12 + length_at bs at ≤ end
  here_end = omega (arith, here-next, H.ends, ap (λ (l : List Entry). length (bytes_of_entries l)) next_split, entries-length (S.before ++ (S.here ∷ [])) S.after)

  pub here-within : at + 12 + length_at bs at ≤ length bs
  here-within = omega (arith, here_end, held-within bs end (entries bs) H)
