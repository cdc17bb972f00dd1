-- Laws of the walk to the entry of a term. Assumes nothing.
use Prim.Native.Nat.{ℕ, ◌+◌, ◌-◌, ◌*◌, ◌/◌, ◌≤◌, ◌<◌}
use mathlib.Core.Path.{◌≡◌, sym, ap, ◌∙◌}
use mathlib.Core.Bool.{true}
use mathlib.Core.List.{List, [], ◌∷◌, ◌++◌, append-nil}
use native.Mathlib.Nat.{div-mul-le_self}
use native.Mathlib.Omega.{arith}
use lib.Dec.{eqb}
use lib.ListN.{length, get_or, drop}
use borrow.Author.Tests.{eqb-true, eqb-false}
use Rattle.spec.specs.Terms.{kind, number}
use Rattle.spec.proofs.Lists.{by_test}
use Rattle.spec_ntriples.specs.Dictionary.{Entry, bytes_of_entries, front_term, entries, kind_of, first_number, next_number, are_numbered}
use Rattle.spec_ntriples.specs.Sights.{text_in}
use Rattle.dictionary_bytes.specs.inside.Entries.{length_at, text_at}
use Rattle.dictionary_bytes.specs.declared.Filled.{Filled}
use Rattle.dictionary_numbers.proofs.Numbering.{next_own, next_other}
use Rattle.dictionary_ranks.specs.inside.Ranks.{HasNumber, rank_of, stride_of, slot_for}
use Rattle.dictionary_ranks.proofs.Ranks.{InRange, entry_of, split_ranked, split_text, next_is_term, text_in_range}
use Rattle.dictionary_ranks.proofs.Taken.{dictionary_numbered, enough, range-number}
use Rattle.dictionary_places.specs.inside.Places.{ArePlaces}
use Rattle.dictionary_places.proofs.Kept.{slot_shared}
use Rattle.dictionary_places.proofs.Standing.{Stands, here_term, here-text, here-next, next_split, here-within}

-- The walk stands at an entry that is not behind that of a term.
pub record Towards (bs : List ℕ) (w at : ℕ) : Type 0 where
  pub stands : Stands bs at
  pub early : next_number (kind w) stands.before ≤ number w

-- Where a number of a kind is not taken by the entries before it, another entry comes.
comes : (bs : List ℕ) (w at : ℕ) (xs rest : List Entry) → entries bs ≡ xs ++ rest → at ≡ length (bytes_of_entries xs) → next_number (kind w) xs ≤ number w → number w < next_number (kind w) (entries bs) → Towards bs w at
comes bs w at xs [] s p l h = absurd (omega (arith, l, h, ap (next_number (kind w)) (s ∙ append-nil xs)))
comes bs w at xs (e ∷ rest) s p l h = record { stands = record { before = xs; here = e; after = rest; split = s; place = p }; early = l }

-- The rank of an entry that has the next number of a kind.
next_rank : (w k n : ℕ) → kind w ≡ k → number w ≡ first_number k + n → rank_of w ≡ n
unfolding rank_of
next_rank w k n e q = omega (arith, q, ap first_number e)

module _ (bs : List ℕ) (f : Filled) (places : List ℕ) (P : ArePlaces bs f places) (w : ℕ) (h : 0 < length (text_in (entries bs) w)) where
  abbrev es : List Entry
  es = entries bs

  numbered : are_numbered [] es ≡ true
  numbered = dictionary_numbered bs P.right

  range : InRange es w
  range = text_in_range es numbered (enough bs f P.right P.filled) w h

  pub walk-number : HasNumber f w
  walk-number = range-number bs f P.right P.filled w range

  -- It begins at the place in the term's slot.
  pub walk_begins : (i : ℕ) → i ≡ slot_for f w → Towards bs w (get_or places i 0)
  unfolding rank_of
  walk_begins i is =
      let k = kind w in
      let s = stride_of f k in
      let j = rank_of w / s * s in
      let l : j ≤ number w - first_number k = div-mul-le_self (rank_of w) s in
      let O = entry_of k (first_number k + j) es (omega arith) (omega (arith, range.first, range.taken)) in
      let e = O.here in
      let r = split_ranked es numbered (enough bs f P.right P.filled) O.before O.after e O.split in
      let kd : kind e.term ≡ k = r.kind_is ∙ O.kind_is in
      let n : number e.term ≡ first_number k + j = rw O.kind_is at r.number_is ∙ O.next in
      let q = slot_shared f e.term w kd (next_rank e.term k j kd n) in
      record {
        stands = record { before = O.before; here = e; after = O.after; split = O.split; place = ap (λ (i : ℕ). get_or places i 0) (is ∙ sym q.1) ∙ P.lead O.before O.after e O.split q.0 };
        early = omega (arith, O.next, range.first);
      }

  module _ (at : ℕ) (T : Towards bs w at) where
    abbrev S : Stands bs at
    S = T.stands

    pub walk-within : at + 12 + length_at bs at ≤ length bs
    walk-within = here-within bs f.end at P.filled.holds S

    -- It goes on where the term is another.
    later : (front_term (drop at bs) ≡ w → ⊥) → next_number (kind w) (S.before ++ (S.here ∷ [])) ≤ number w
    later n =
        by_test (eqb (kind_of S.here.text) (kind w))
        (λ p.
        let k : kind_of S.here.text ≡ kind w = eqb-true _ _ p in
        let d : next_number (kind w) S.before ≡ number w → ⊥ = λ q. n (here_term bs f.end at P.filled.holds S ∙ next_is_term es numbered (enough bs f P.right P.filled) w S.before S.after S.here S.split k q) in
        omega (arith, next_own (kind w) S.before S.here k, T.early, d))
        (λ p. omega (arith, next_other (kind w) S.before S.here (eqb-false _ _ p), T.early))

    pub walk-on : (v n : ℕ) → v ≡ front_term (drop at bs) → n ≡ length_at bs at → (v ≡ w → ⊥) → Towards bs w (at + 12 + n)
    walk-on v n t z d =
        comes bs w (at + 12 + n) (S.before ++ (S.here ∷ [])) S.after (next_split bs f.end at P.filled.holds S) (rw z (here-next bs f.end at P.filled.holds S)) (later (λ q. d (t ∙ q))) range.taken

    -- It ends at the term's entry.
    pub walk_ends : (v : ℕ) → v ≡ front_term (drop at bs) → v ≡ w → text_at bs at ≡ text_in es w
    walk_ends v t q =
        here-text bs f.end at P.filled.holds S
        ∙ sym (split_text es numbered (enough bs f P.right P.filled) S.before S.after S.here S.split)
        ∙ ap (text_in es) (sym (here_term bs f.end at P.filled.holds S) ∙ sym t ∙ q)
