-- Laws of a dictionary whose entries are asked one by one. Assumes nothing.
use Prim.Native.Nat.{ℕ, zero, suc, ◌+◌, ◌-◌, ◌*◌, ◌^◌, ◌≤◌, ◌<◌}
use mathlib.Core.Path.{◌≡◌, refl, sym, ap, ◌∙◌}
use mathlib.Core.Bool.{Bool, true, false, ◌&&◌}
use mathlib.Core.List.{List, [], ◌∷◌, ◌++◌, append-nil}
use native.Mathlib.Omega.{arith}
use lib.ListN.{length, take, drop, replicate, length-take}
use lib.Seq.{drop_at, append_snoc}
use lib.Dec.{eqb}
use borrow.Author.Tests.{eqb-true}
use Rattle.spec.specs.Lists.{all}
use Rattle.spec.specs.Tables.{are_zero}
use Rattle.spec.proofs.Lists.{by_test, true-not_false}
use Rattle.spec.proofs.Ascending.{and_left, and_right}
use Rattle.spec.proofs.TableAll.{are_zero-replicate}
use Rattle.spec_ntriples.specs.Texts.{is_same_text}
use Rattle.spec_ntriples.specs.Dictionary.{Entry, bytes_of_entries, dictionary_bytes, bytes_number, front_term, entries, kind_of, next_number, next_term, are_numbers_enough, are_numbered, are_texts, vocabulary_of, is_dictionary}
use Rattle.spec_ntriples.specs.computed.Canonical.{is_canonical}
use Rattle.spec.proofs.Each.{each_append}
use Rattle.spec_ntriples.proofs.Numbers.{kind_least}
use Rattle.spec_ntriples.proofs.EntryBytes.{dictionary-written}
use Rattle.dictionary_bytes.specs.inside.Entries.{length_at, text_at, place_at, entries_at}
use Rattle.dictionary_bytes.specs.declared.Filled.{Filled}
use Rattle.dictionary_numbers.specs.inside.Numbers.{number_of, raised}
use Rattle.dictionary_numbers.proofs.Numbering.{raised_end, too_many, counts_none, counts-number, counts_more}
use Rattle.dictionary_step.specs.inside.Filling.{AreBytes, entry_at, HasOwnText, Filling, Comes}
use Rattle.dictionary_step.proofs.EntriesRead.{no_room, entry_comes, entries_next, bytes_more}
use Rattle.dictionary_step.proofs.Terms.{numbered_more, other_term}
use Rattle.dictionary_step.proofs.Texts.{other_text}

-- ---- what makes bytes no dictionary

and_false : (a : Bool) → (a && false) ≡ false
and_false true = refl
and_false false = refl

module _ (bs : List ℕ) where
  -- The four parts of the question.
  pub not_written : is_same_text (dictionary_bytes (length bs) (entries bs)) bs ≡ false → is_dictionary bs ≡ false
  unfolding is_dictionary
  not_written h = rw h

  pub not_numbered : are_numbered [] (entries bs) ≡ false → is_dictionary bs ≡ false
  unfolding is_dictionary
  not_numbered h = rw h (and_false (is_same_text (dictionary_bytes (length bs) (entries bs)) bs))

  pub not_enough : are_numbers_enough (entries bs) ≡ false → is_dictionary bs ≡ false
  unfolding is_dictionary
  not_enough h = rw (h, and_false (are_numbered [] (entries bs))) (and_false (is_same_text (dictionary_bytes (length bs) (entries bs)) bs))

  pub not_texts : are_texts (entries bs) ≡ false → is_dictionary bs ≡ false
  unfolding is_dictionary
  not_texts h = rw (h, and_false (are_numbers_enough (entries bs)), and_false (are_numbered [] (entries bs))) (and_false (is_same_text (dictionary_bytes (length bs) (entries bs)) bs))

  pub all_parts : is_same_text (dictionary_bytes (length bs) (entries bs)) bs ≡ true → are_numbered [] (entries bs) ≡ true → are_numbers_enough (entries bs) ≡ true → are_texts (entries bs) ≡ true → is_dictionary bs ≡ true
  unfolding is_dictionary
  all_parts a b c d = rw (a, b, c, d)

-- ---- zeros

-- A number of zeros is 0.
zero_number : (n : ℕ) (ws : List ℕ) → are_zero ws ≡ true → bytes_number (take n ws) ≡ 0
unfolding bytes_number are_zero all
zero_number zero ws h = refl
zero_number (suc n) [] h = refl
zero_number (suc n) (w ∷ ws) h = omega (arith, eqb-true w 0 (and_left (eqb w 0) _ h), zero_number n ws (and_right (eqb w 0) _ h))

-- ---- one entry more

place-next : (bs : List ℕ) (at k : ℕ) → at ≡ place_at bs 0 k → at + 12 + length_at bs at ≡ place_at bs 0 (suc k)
unfolding place_at
place-next bs at k e = ap (λ (i : ℕ). i + 12 + length_at bs i) e

-- ---- the entries so far

-- No entry is asked yet.
pub filling_none : (bs : List ℕ) → Filling bs (record { end = 0; uris = 16; blanks = 1; literals = 1 })
unfolding place_at entries_at bytes_of_entries are_numbered
filling_none bs = record { count = 0; place = refl; within = omega arith; read = refl; written = refl; numbered = refl; counts = counts_none; texts = tt }

module _ (bs : List ℕ) (f : Filled) (F : Filling bs f) where
  abbrev es : List Entry
  es = entries_at bs 0 F.count

  next_is : (k : ℕ) → k ≤ 2 → number_of f k ≡ next_number k es
  next_is = counts-number f es F.counts

  -- They end where their bytes do.
  pub ends : f.end ≡ length (bytes_of_entries es)
  ends = omega (arith, ap length F.written, length-take f.end bs, F.within)

  -- Where no entry comes and something else than zeros follows, the bytes are no dictionary.
  pub no_zeros : entries (drop f.end bs) ≡ [] → are_zero (drop f.end bs) ≡ false → is_dictionary bs ≡ false
  unfolding dictionary_bytes
  no_zeros n z =
      let e : entries bs ≡ es = F.read ∙ ap (λ (l : List Entry). es ++ l) n ∙ append-nil es in
      let w : List ℕ = dictionary_bytes (length bs) (entries bs) in
      by_test (is_dictionary bs)
      (λ p.
      let a : bs ≡ dictionary_bytes (length bs) es = dictionary-written bs p ∙ ap (dictionary_bytes (length bs)) e in
      let d : drop f.end bs ≡ replicate (length bs - length (bytes_of_entries es)) 0 = ap (λ (l : List ℕ). drop f.end l) a ∙ drop_at (bytes_of_entries es) (replicate (length bs - length (bytes_of_entries es)) 0) f.end (sym ends) in
      absurd (true-not_false (sym (ap are_zero d ∙ are_zero-replicate (length bs - length (bytes_of_entries es))) ∙ z)))
      (λ p. p)

  -- An entry comes.
  module _ (C : Comes bs f.end) where
    abbrev at : ℕ
    at = f.end

    -- It does not lie within the bytes.
    pub too_long_lem : length bs < at + 12 + length_at bs at → is_dictionary bs ≡ false
    too_long_lem h =
        no_zeros (no_room bs at h)
        (by_test (are_zero (drop at bs)) (λ p. absurd (omega (arith, C.term, zero_number 4 (drop at bs) p))) (λ p. p))

    module _ (l : at + 12 + length_at bs at ≤ length bs) where
      abbrev rest : List Entry
      rest = entries (drop (at + 12 + length_at bs at) bs)

      reads : entries bs ≡ es ++ (entry_at bs at ∷ rest)
      reads = F.read ∙ ap (λ (l : List Entry). es ++ l) (entry_comes bs at C.term l)

      -- Its text is one that no entry may have.
      pub wrong-text : (is_canonical (text_at bs at) && eqb (vocabulary_of (text_at bs at)) 0) ≡ false → is_dictionary bs ≡ false
      wrong-text h = not_texts bs (ap are_texts reads ∙ other_text es (entry_at bs at) rest h)

      -- Its kind has no number left.
      pub no_number : number_of f (kind_of (text_at bs at)) ≡ 2 ^ 30 → is_dictionary bs ≡ false
      no_number h = not_enough bs (ap are_numbers_enough reads ∙ too_many es rest (entry_at bs at) (sym (next_is (kind_of (text_at bs at)) (kind_least (text_at bs at))) ∙ h))

      -- Its term is not the next.
      pub wrong-term : (front_term (drop at bs) ≡ kind_of (text_at bs at) * 2 ^ 30 + number_of f (kind_of (text_at bs at)) → ⊥) → is_dictionary bs ≡ false
      wrong-term h =
          not_numbered bs
          (ap (are_numbered []) reads
          ∙ other_term es (entry_at bs at) rest F.numbered (λ q. h (q ∙ ap (λ (n : ℕ). kind_of (text_at bs at) * 2 ^ 30 + n) (sym (next_is (kind_of (text_at bs at)) (kind_least (text_at bs at)))))))

      -- It is right.
      pub right-entry : AreBytes bs → (is_canonical (text_at bs at) && eqb (vocabulary_of (text_at bs at)) 0) ≡ true → number_of f (kind_of (text_at bs at)) < 2 ^ 30
          → front_term (drop at bs) ≡ kind_of (text_at bs at) * 2 ^ 30 + number_of f (kind_of (text_at bs at)) → Filling bs (raised f (kind_of (text_at bs at)) (at + 12 + length_at bs at))
      right-entry b h k t =
          let e : Entry = entry_at bs at in
          let kind : ℕ = kind_of (text_at bs at) in
          let end : ℕ = at + 12 + length_at bs at in
          let next : entries_at bs 0 (suc F.count) ≡ es ++ (e ∷ []) = entries_next bs 0 F.count ∙ ap (λ (i : ℕ). es ++ (entry_at bs i ∷ [])) (sym F.place) in
          let term : e.term ≡ next_term kind es = t ∙ ap (λ (n : ℕ). kind * 2 ^ 30 + n) (next_is kind (kind_least (text_at bs at))) in
          record {
            count = suc F.count;
            place = raised_end f kind end ∙ place-next bs at F.count F.place;
            within = rw (raised_end f kind end) l;
            read = rw (raised_end f kind end, next) (reads ∙ sym (append_snoc es e rest));
            written = rw (raised_end f kind end, next) (bytes_more bs at es b l F.written);
            numbered = rw next (numbered_more es e F.numbered term);
            counts = rw next (counts_more f es F.counts e end kind refl (kind_least (text_at bs at)) k);
            texts = rw next (each_append HasOwnText es (e ∷ []) F.texts (record { canonical = and_left _ _ h; own = and_right (is_canonical (text_at bs at)) _ h }, tt));
          }
