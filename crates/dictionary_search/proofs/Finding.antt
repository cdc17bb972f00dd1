-- Laws of the term that an index leads to. Assumes nothing.
use Prim.Native.Nat.{ℕ, zero, suc, ◌+◌, ◌≤◌, ◌<◌}
use mathlib.Core.Path.{◌≡◌, refl, sym, ap, ◌∙◌}
use mathlib.Core.List.{List, [], ◌∷◌}
use native.Mathlib.Omega.{arith}
use lib.ListN.{length, get_or, drop}
use Rattle.spec.specs.inside.Each.{Each}
use Rattle.spec_ntriples.specs.Dictionary.{Entry, entry, front_term, term_in}
use Rattle.spec_ntriples.specs.inside.Entries.{Writable}
use Rattle.dictionary_bytes.specs.inside.Entries.{text_at, place_at}
use Rattle.dictionary_hash.specs.inside.Hashes.{hash, slot_of, home_of}
use Rattle.dictionary_bytes.proofs.Same.{equal_same, differ_other}
use Rattle.dictionary_entries.proofs.Standing.{entry_at}
use Rattle.dictionary_index.specs.inside.Index.{LeadWithin, FoundAt, FreeAt, Passed, Searched, HasEntry, NoEntry}
use Rattle.dictionary_index.specs.declared.Search.{Search}
use Rattle.dictionary_index.proofs.Indexing.{found-entry, free_new, past_new}
use Rattle.dictionary_search.specs.inside.IndexOf.{IndexOf}

-- ---- the term of a text among entries

-- Where the i-th entry has a text and none before it, its term is the text's.
term_first : (es : List Entry) (i : ℕ) (d : Entry) (text : List ℕ) → i < length es → (get_or es i d).text ≡ text → ((j : ℕ) → j < i → (get_or es j d).text ≡ text → ⊥) → term_in es text ≡ (get_or es i d).term
unfolding term_in
term_first [] i d text h e n = absurd (omega arith)
term_first (x ∷ es) zero d text h e n = rw (equal_same text x.text (sym e))
term_first (x ∷ es) (suc i) d text h e n = rw (differ_other text x.text (λ q. n 0 (omega arith) (sym q))) (term_first es i d text (omega arith) e (λ j l. n (suc j) (omega arith)))

-- Where no entry has a text, it has no term.
term_none : (es : List Entry) (d : Entry) (text : List ℕ) → ((j : ℕ) → j < length es → (get_or es j d).text ≡ text → ⊥) → term_in es text ≡ 0
unfolding term_in
term_none [] d text n = refl
term_none (x ∷ es) d text n = rw (differ_other text x.text (λ q. n 0 (omega arith) (sym q))) (term_none es d text (λ j l. n (suc j) (omega arith)))

-- What holds of each entry holds of the i-th.
each_at : (P : Entry → Type 0) (es : List Entry) (i : ℕ) (d : Entry) → Each P es → i < length es → P (get_or es i d)
each_at P [] i d h l = absurd (omega arith)
each_at P (x ∷ es) zero d h l = h.0
each_at P (x ∷ es) (suc i) d h l = each_at P es i d h.1 (omega arith)

-- ---- by an index

-- No entry.
abbrev pub nothing : Entry
nothing = entry 0 []

module _ (slots bs : List ℕ) (first : ℕ) (es : List Entry) (X : IndexOf slots bs first es) where
  -- The i-th entry is the one at its place.
  pub entry_is : (i : ℕ) → i < length es → get_or es i nothing ≡ entry (front_term (drop (place_at bs first i) bs)) (text_at bs (place_at bs first i))
  entry_is i h = ap (λ (fs : List Entry). get_or fs i nothing) (sym X.same) ∙ entry_at bs first (length es) i nothing h

  pub text_is : (i : ℕ) → i < length es → (get_or es i nothing).text ≡ text_at bs (place_at bs first i)
  text_is i h = ap (λ (e : Entry). e.text) (entry_is i h)

  -- The entry that has a text has its term.
  has_term : (text : List ℕ) (at : ℕ) → HasEntry bs first (length es) text at → front_term (drop at bs) ≡ term_in es text
  has_term text at E =
      let i = E.number in
      let same : text_at bs (place_at bs first i) ≡ text = ap (text_at bs) (sym E.place) ∙ E.same in
      let t : (get_or es i nothing).text ≡ text = text_is i E.below ∙ same in
      let other : (j : ℕ) → j < i → (get_or es j nothing).text ≡ text → ⊥ = λ j l e. X.index.distinct j i l E.below (sym (text_is j (omega (arith, E.below))) ∙ e ∙ sym same) in
      ap (λ (o : ℕ). front_term (drop o bs)) E.place ∙ sym (ap (λ (e : Entry). e.term) (entry_is i E.below)) ∙ sym (term_first es i nothing text E.below t other)

  -- Where entries have terms that are not 0, so has the text.
  has_some : (text : List ℕ) (at : ℕ) → Each Writable es → HasEntry bs first (length es) text at → 0 < front_term (drop at bs)
  has_some text at W E =
      let t : front_term (drop at bs) ≡ (get_or es E.number nothing).term = ap (λ (o : ℕ). front_term (drop o bs)) E.place ∙ sym (ap (λ (e : Entry). e.term) (entry_is E.number E.below)) in
      omega (arith, t, (each_at Writable es E.number nothing W E.below).some)

  no_term : (text : List ℕ) → NoEntry bs first (length es) text → term_in es text ≡ 0
  no_term text N = term_none es nothing text (λ j l e. N j l (sym (text_is j l) ∙ e))

  -- What a search for a text says of its term.
  pub found_term : (text : List ℕ) (home at : ℕ) → FoundAt slots bs first text home at → front_term (drop at bs) ≡ term_in es text
  found_term text home at F = has_term text at (found-entry slots bs first (length es) X.index text home at F)

  pub found_some : (text : List ℕ) (home at : ℕ) → Each Writable es → FoundAt slots bs first text home at → 0 < front_term (drop at bs)
  found_some text home at W F = has_some text at W (found-entry slots bs first (length es) X.index text home at F)

  pub free_none : (text : List ℕ) (s : ℕ) → FreeAt slots bs first text (home_of text) s → term_in es text ≡ 0
  free_none text s A = no_term text (free_new slots bs first (length es) X.index text s A)

  pub past_none : (text : List ℕ) → Passed slots bs first text (home_of text) (length slots) → term_in es text ≡ 0
  past_none text P = no_term text (past_new slots bs first (length es) X.index text P)

-- ---- a search for the text of a term in a line

-- A word leads to an entry that begins within the bytes.
pub found_within : (slots bs : List ℕ) (first : ℕ) (text : List ℕ) (home at : ℕ) → LeadWithin slots bs first → FoundAt slots bs first text home at → at + 4 ≤ length bs
found_within slots bs first text home at L F = omega (arith, L F.slot F.taken, F.leads)

-- A search from the slot of a text's hash on.
pub search_token : (slots bs : List ℕ) (first : ℕ) (text : List ℕ) (h home : ℕ) (r : Search) → h ≡ hash text → home ≡ slot_of h → Searched slots bs first text home r → Searched slots bs first text (home_of text) r
unfolding home_of
search_token slots bs first text h home r e g S = rw (← e, ← g) S

-- What it says by its end.
pub search_ends : (slots bs : List ℕ) (first : ℕ) (text : List ℕ) (home : ℕ) (r q : Search) → r ≡ q → Searched slots bs first text home r → Searched slots bs first text home q
search_ends slots bs first text home r q i S = rw (← i) S
