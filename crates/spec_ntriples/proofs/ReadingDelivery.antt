-- The delivery that a reading gives (reading-delivery, at the end). Assumes nothing.
use Prim.Native.Nat.{ℕ, zero, suc, ◌+◌, ◌-◌, ◌*◌, ◌^◌, ◌≤◌, ◌<◌}
use mathlib.Core.Path.{◌≡◌, refl, sym, ap, ◌∙◌}
use mathlib.Core.Bool.{Bool, true, ◌||◌}
use mathlib.Core.List.{List, [], ◌∷◌, ◌++◌, map, flat_map}
use native.Mathlib.Omega.{arith}
use lib.ListN.{length, take, replicate, length-append, length-replicate}
use lib.Seq.{take_at, drop_at}
use borrow.Author.Tests.{eq-eqb, lt-ltb, le-leb}
use Rattle.spec.specs.declared.Triple.{Triple}
use Rattle.spec.specs.Terms.{kind, number, is_uri, is_blank, is_literal, is_resource, is_triple, is_statement}
use Rattle.spec.specs.Lists.{all, select}
use Rattle.spec.specs.Refusals.{first_refusal}
use Rattle.spec.specs.Deliveries.{is_fact, number_fields, are_sections_right, is_number_right, message_checks}
use Rattle.spec.specs.Messages.{Message, most_bytes, encode}
use Rattle.spec.specs.computed.Decoded.{read}
use Rattle.spec.proofs.Lists.{by_test}
use Rattle.spec.specs.inside.Each.{Each}
use Rattle.delivery_format.proofs.Encoding.{read-encode, encode_whole}
use Rattle.spec_ntriples.specs.Texts.{TextTriple}
use Rattle.spec_ntriples.specs.Dictionary.{Entry, dictionary_bytes, term_of, kind_of, are_numbered}
use Rattle.spec_ntriples.specs.Reading.{triple_of, additions, conclude_reading, read_nTriples}
use Rattle.spec_ntriples.specs.Sights.{triple_texts, file_texts, word_texts}
use Rattle.spec_ntriples.specs.Promises.{entries_with, Accepted, Delivers}
use Rattle.spec_ntriples.proofs.Numbers.{Enough, numbers_enough, kind_least}
use Rattle.spec_ntriples.proofs.WordTexts.{WordRight, word_right, word_text}
use Rattle.spec_ntriples.proofs.TripleTexts.{TextsRight}
use Rattle.spec_ntriples.proofs.ReadingRefused.{additions-length, length-map, accepted_is}
use Rattle.spec_ntriples.proofs.ReadingDictionary.{lines_right, after_numbered, after_have, after_bytes, after-entries}

-- ---- the message

select-all : {A : Type 0} (test : A → Bool) (xs : List A) → all test (select test xs) ≡ true
unfolding all select
select-all test [] = refl
select-all test (x ∷ xs) = by_test (test x) (λ p. rw (p, p) (select-all test xs)) (λ p. rw p (select-all test xs))

sections_right : (ts : List Triple) → are_sections_right (additions ts) ≡ true
unfolding are_sections_right additions all
sections_right ts = rw (select-all is_statement ts, select-all is_fact ts)

-- The bytes of additions pass 9, 10 and 11.
additions_pass : (ts : List Triple) → length (encode (additions ts)) ≤ most_bytes → first_refusal (message_checks (encode (additions ts))) ≡ 0
unfolding first_refusal additions number_fields select is_number_right
additions_pass ts h =
    rw (encode_whole (additions ts), le-leb (length (encode (additions ts))) most_bytes h, read-encode (additions ts), sections_right ts)

-- ---- the words

uri_right : (w : ℕ) (t : List ℕ) → WordRight w t → kind_of t ≤ 0 → is_uri w ≡ true
unfolding is_uri
uri_right w t R h = rw (eq-eqb (kind w) 0 (omega (arith, R.kind_is, h)), lt-ltb 0 (number w) R.some)

resource_right : (k w : ℕ) → k ≤ 1 → kind w ≡ k → 0 < number w → is_resource w ≡ true
unfolding is_uri is_blank
resource_right zero w h q s = rw (q, lt-ltb 0 (number w) s)
resource_right (suc zero) w h q s = rw (q, lt-ltb 0 (number w) s)
resource_right (suc (suc k)) w h q s = absurd (omega (arith, h))

object_right : (k w : ℕ) → k ≤ 2 → kind w ≡ k → 0 < number w → (is_resource w || is_literal w) ≡ true
unfolding is_uri is_blank is_literal
object_right zero w h q s = rw (q, lt-ltb 0 (number w) s)
object_right (suc zero) w h q s = rw (q, lt-ltb 0 (number w) s)
object_right (suc (suc zero)) w h q s = rw (q, lt-ltb 0 (number w) s)
object_right (suc (suc (suc k))) w h q s = absurd (omega (arith, h))

module _ (es : List Entry) (h : are_numbered [] es ≡ true) (E : Enough es) where
  -- A text that has a term.
  abbrev Has : List ℕ → Type 0
  Has t = 0 < term_of es t

  triple_right : (t : TextTriple) → TextsRight t → Has t.subject.bytes → Has t.property.bytes → Has t.object.bytes → is_triple (triple_of es t) ≡ true
  unfolding is_triple triple_of
  triple_right t R s p o =
      let S = word_right es t.subject.bytes h E s in
      let O = word_right es t.object.bytes h E o in
      rw (
        resource_right (kind_of t.subject.bytes) (term_of es t.subject.bytes) (omega (arith, R.subject_kind, R.subject_most)) S.kind_is S.some,
        uri_right (term_of es t.property.bytes) t.property.bytes (word_right es t.property.bytes h E p) (omega (arith, R.property_kind, R.property_most)),
      )
      (object_right (kind_of t.object.bytes) (term_of es t.object.bytes) (kind_least t.object.bytes) O.kind_is O.some)

  triples_right : (ts : List TextTriple) → Each TextsRight ts → Each Has (file_texts ts) → all is_triple (map (triple_of es) ts) ≡ true
  unfolding all file_texts flat_map triple_texts
  triples_right [] R H = refl
  triples_right (t ∷ ts) R H =
      rw (triple_right t R.0 H.0 H.1.0 H.1.1.0) (triples_right ts R.1 H.1.1.1)

  triple_texts_lem : (t : TextTriple) → Has t.subject.bytes → Has t.property.bytes → Has t.object.bytes → word_texts es (triple_of es t) ≡ triple_texts t
  unfolding word_texts triple_of triple_texts
  triple_texts_lem t s p o = rw (word_text es t.subject.bytes h E s, word_text es t.property.bytes h E p, word_text es t.object.bytes h E o)

  lines_texts_lem : (ts : List TextTriple) → Each Has (file_texts ts) → map (word_texts es) (map (triple_of es) ts) ≡ map triple_texts ts
  unfolding file_texts flat_map triple_texts
  lines_texts_lem [] H = refl
  lines_texts_lem (t ∷ ts) H = rw (triple_texts_lem t H.0 H.1.0 H.1.1.0, lines_texts_lem ts H.1.1.1)

-- ---- an accepted reading

module _ (dictionary file : List ℕ) (len n : ℕ) (A : Accepted dictionary file len n) where
  -- The triples of the lines, and their bytes.
  abbrev pub words : List Triple
  words = map (triple_of (entries_with dictionary A.lines)) A.lines

  abbrev message : List ℕ
  message = encode (additions words)

  message-length : length message ≡ n
  message-length =
      additions-length words ∙ ap (λ (m : ℕ). 10 + 12 * m) (length-map (triple_of (entries_with dictionary A.lines)) A.lines) ∙ sym A.size

  pub delivery_is : (read_nTriples dictionary file len).delivery ≡ message ++ replicate (len - length message) 0
  unfolding conclude_reading
  delivery_is = rw (accepted_is dictionary file len n A)

  module _ (lent : length dictionary < 2 ^ 64) where
    delivers : Delivers (dictionary_bytes (length dictionary) (entries_with dictionary A.lines)) (message ++ replicate (len - length message) 0) len n A.lines
    unfolding additions
    delivers =
        let es : List Entry = entries_with dictionary A.lines in
        let z : List ℕ = replicate (len - length message) 0 in
        let N = after_numbered dictionary file len n A in
        let E = numbers_enough es A.numbers in
        let H = after_have dictionary file len n A in
        let e = after-entries dictionary file len n A lent in
        let t : take n (message ++ z) ≡ message = take_at message z n message-length in
        let m : read (take n (message ++ z)) ≡ additions words = ap read t ∙ read-encode (additions words) in
        record {
          added = words;
          count = length-map (triple_of es) A.lines;
          texts = rw e (lines_texts_lem es N E A.lines H);
          are_triples = triples_right es N E A.lines (lines_right dictionary file len n A) H;
          passes = rw t (additions_pass words (omega (arith, message-length, A.size, A.room)));
          no_statements_withdrawn = ap (λ (x : Message). x.statements_withdrawn) m;
          no_facts_withdrawn = ap (λ (x : Message). x.facts_withdrawn) m;
          statements_added = ap (λ (x : Message). x.statements_added) m;
          facts_added = ap (λ (x : Message). x.facts_added) m;
          no_fields = ap (λ (x : Message). x.fields) m;
          zeros = drop_at message z n message-length ∙ ap (λ (l : ℕ). replicate (len - l) 0) message-length;
          as_long = omega (arith, message-length, A.size, A.room, length-append message z, length-replicate (len - length message) zero);
        }

    -- Theorem 6: the delivery is whole and says the lines' triples, statements and facts each in file order, and nothing else; each word's
    -- text in the dictionary after it is the line's.
    pub reading-delivery : Delivers (read_nTriples dictionary file len).dictionary (read_nTriples dictionary file len).delivery len n A.lines
    reading-delivery = rw (after_bytes dictionary file len n A, delivery_is) delivers
