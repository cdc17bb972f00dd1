-- What naming a text means for reading: its term, the entries with it, and the ground of question 14. Assumes nothing.
use Prim.Native.Nat.{ℕ, ◌<◌}
use mathlib.Core.Path.{◌≡◌, sym, ap, ◌∙◌}
use mathlib.Core.Logic.{⊎_elim}
use mathlib.Core.Bool.{false, ◌&&◌}
use mathlib.Core.List.{List, [], ◌∷◌, ◌++◌, append_assoc}
use native.Mathlib.Omega.{arith}
use lib.Dec.{leb}
use lib.ListN.{length}
use borrow.Author.Tests.{eq-eqb, ne_eqb, lt-leb}
use Rattle.spec.proofs.Lists.{by_test}
use Rattle.spec.specs.inside.Each.{Each}
use Rattle.spec_ntriples.specs.Texts.{Text}
use Rattle.spec_ntriples.specs.Dictionary.{Entry, entry, bytes_of_entries, vocabulary_of, term_in, term_of, next_number, next_term, are_numbers_enough, kind_of}
use Rattle.spec_ntriples.specs.Reading.{with_text}
use Rattle.spec_ntriples.proofs.KnownTexts.{HasTerm, term_in_added}
use Rattle.dictionary_names.specs.inside.Naming.{HasNoSpace}
use Rattle.dictionary_numbers.proofs.Numbering.{too_many}
use Rattle.dictionary_names.proofs.Room.{too_long_lem}

-- A text that is no vocabulary URI's and that none of the entries ds before a segment's has.
module _ (ds es : List Entry) (t : Text) (T : Each HasTerm ds) (v : vocabulary_of t.bytes ≡ 0) (n : term_in ds t.bytes ≡ 0) where
  -- Its term is the segment's.
  pub term_of_last : term_of (ds ++ es) t.bytes ≡ term_in es t.bytes
  unfolding term_of
  term_of_last = rw (eq-eqb (vocabulary_of t.bytes) 0 v) (term_in_added t.bytes ds es T n)

  -- Where an entry of the segment has it, reading adds none.
  pub with_known : 0 < term_in es t.bytes → with_text (ds ++ es) t ≡ ds ++ es
  unfolding with_text
  with_known h = rw (ne_eqb (term_of (ds ++ es) t.bytes) 0 (λ q. omega (arith, term_of_last)))

  -- Where none has it, reading adds the entry with the next term of its kind.
  pub with_new : term_in es t.bytes ≡ 0 → with_text (ds ++ es) t ≡ ds ++ (es ++ (entry (next_term t.kind (ds ++ es)) t.bytes ∷ []))
  unfolding with_text
  with_new h = rw (eq-eqb (term_of (ds ++ es) t.bytes) 0 (term_of_last ∙ h)) (append_assoc ds es (entry (next_term t.kind (ds ++ es)) t.bytes ∷ []))

-- Where a text has no space, question 14 says no to its entry behind some, whatever follows.
pub no_space : (len : ℕ) (es fs : List Entry) (e : Entry) (t : Text) → e.text ≡ t.bytes → kind_of t.bytes ≡ t.kind → HasNoSpace len es t → (leb (length (bytes_of_entries (es ++ (e ∷ fs)))) len && are_numbers_enough (es ++ (e ∷ fs))) ≡ false
no_space len es fs e t q k N =
    let k' : t.kind ≡ kind_of e.text = sym k ∙ ap kind_of (sym q) in
    ⊎_elim
    (λ l. rw (lt-leb (length (bytes_of_entries (es ++ (e ∷ fs)))) len (too_long_lem len es fs e (omega (arith, l, ap length q)))))
    (λ n. rw (too_many es fs e (ap (λ (j : ℕ). next_number j es) (sym k') ∙ n)) (by_test (leb (length (bytes_of_entries (es ++ (e ∷ fs)))) len) (λ p. rw p) (λ p. rw p)))
    N
