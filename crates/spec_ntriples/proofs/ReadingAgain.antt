-- A file read again, and files read one after the other (reading_again, reading_then, at the end). Assumes nothing.
use Prim.Native.Nat.{ℕ, ◌^◌, ◌<◌}
use mathlib.Core.Path.{◌≡◌, refl, sym, ap, ◌∙◌}
use mathlib.Core.List.{List, [], ◌∷◌, ◌++◌, map, append_assoc}
use lib.ListN.{length}
use Rattle.spec.specs.declared.Triple.{Triple}
use Rattle.spec_ntriples.specs.Utf8.{is_scalar, encode_char, utf8}
use Rattle.spec_ntriples.specs.computed.Decoded.{with_char, decoded, decode}
use Rattle.spec_ntriples.specs.Characters.{codes, is_one_of}
use Rattle.spec_ntriples.specs.Texts.{TextTriple}
use Rattle.spec_ntriples.specs.Dictionary.{Entry, dictionary_bytes, entries}
use Rattle.spec_ntriples.specs.Reading.{with_all, with_texts, triple_of, conclude_reading, read_nTriples}
use Rattle.spec_ntriples.specs.Expressions.{Matches, Repeated}
use Rattle.spec_ntriples.specs.Productions.{EOL}
use Rattle.spec_ntriples.specs.Meaning.{Says, FileSays}
use Rattle.spec_ntriples.specs.Promises.{entries_with, Accepted}
use Rattle.spec_ntriples.proofs.Decoding.{decode_char, decode-append, decode-encode}
use Rattle.spec_ntriples.proofs.DocumentRead.{document-read, document_unique}
use Rattle.spec_ntriples.proofs.EntryBytes.{dictionary-length}
use Rattle.spec_ntriples.proofs.KnownTexts.{texts_known}
use Rattle.spec_ntriples.proofs.ReadingRefused.{accepted_is}
use Rattle.spec_ntriples.proofs.ReadingDictionary.{with_all_lem, lines_right, after_have, after_bytes, after-entries, after-formed}

-- ---- a file read again

-- Of an accepted reading's dictionary only the length counts.
conclude-length : (bs cs : List ℕ) (es : List Entry) (ts : List Triple) (len : ℕ) → length bs ≡ length cs → conclude_reading 0 bs es ts len ≡ conclude_reading 0 cs es ts len
unfolding conclude_reading
conclude-length bs cs es ts len h = rw h

module _ (dictionary file : List ℕ) (len n : ℕ) (A : Accepted dictionary file len n) (lent : length dictionary < 2 ^ 64) where
  -- The dictionary that a reading left, as its entries written.
  abbrev left : List ℕ
  left = dictionary_bytes (length dictionary) (entries_with dictionary A.lines)

  left-length : length left ≡ length dictionary
  left-length = dictionary-length (length dictionary) (entries_with dictionary A.lines) A.space

  -- Its entries have every text of the file.
  left_with : entries_with left A.lines ≡ entries_with dictionary A.lines
  left_with =
      let es : List Entry = entries_with dictionary A.lines in
      ap (λ (l : List Entry). with_all l A.lines) (after-entries dictionary file len n A lent)
      ∙ with_all_lem es A.lines (lines_right dictionary file len n A)
      ∙ texts_known es _ (after_have dictionary file len n A)

  unfoldable left_accepted : Accepted left file len n
  left_accepted =
      record {
        lines = A.lines;
        formed = after-formed dictionary file len n A lent;
        said = A.said;
        space = rw (left_with, left-length) A.space;
        numbers = rw left_with A.numbers;
        room = A.room;
        size = A.size;
      }

  left_again : read_nTriples left file len ≡ read_nTriples dictionary file len
  unfolding left_accepted
  left_again =
      accepted_is left file len n left_accepted
      ∙ ap (λ (es : List Entry). conclude_reading 0 left es (map (triple_of es) A.lines) len) left_with
      ∙ conclude-length left dictionary (entries_with dictionary A.lines) (map (triple_of (entries_with dictionary A.lines)) A.lines) len left-length
      ∙ sym (accepted_is dictionary file len n A)

  -- Theorem 7: the same file read again with the dictionary that it left gives the same delivery, and leaves that dictionary.
  pub reading_again : read_nTriples (read_nTriples dictionary file len).dictionary file len ≡ read_nTriples dictionary file len
  reading_again = ap (λ (d : List ℕ). read_nTriples d file len) (after_bytes dictionary file len n A) ∙ left_again

-- ---- files one after the other

line_end : Matches EOL (10 ∷ [])
unfolding is_one_of codes
line_end =
    record { front = 10 ∷ []; back = []; spelled = refl; first = record { char = 10; spelled = refl; allowed = refl }; second = Repeated.end refl }

says_then : (cs ds : List ℕ) (ts us : List TextTriple) → Says cs ts → Says ds us → Says (cs ++ (10 ∷ ds)) (ts ++ us)
says_then cs ds ts us (Says.last o s) k = Says.more cs (10 ∷ []) ds ts us refl o s line_end k refl
says_then cs ds ts us (Says.more l e r ls vs q o s m n p) k =
    Says.more l e (r ++ (10 ∷ ds)) ls (vs ++ us)
    (ap (λ (x : List ℕ). x ++ (10 ∷ ds)) q ∙ append_assoc l (e ++ r) (10 ∷ ds) ∙ ap (λ (x : List ℕ). l ++ x) (append_assoc e r (10 ∷ ds)))
    o s m (says_then r ds vs us n k)
    (ap (λ (x : List TextTriple). x ++ us) p ∙ append_assoc ls vs us)

newline : (b ds : List ℕ) → decode b ≡ decoded ds → decode (10 ∷ b) ≡ decoded (10 ∷ ds)
unfolding encode_char with_char is_scalar
newline b ds h = decode_char 10 b refl ∙ ap (with_char 10) h

-- A file, byte 10 and a file say what the two say.
file_then : (a b : List ℕ) (ts us : List TextTriple) → FileSays a ts → FileSays b us → FileSays (a ++ (10 ∷ b)) (ts ++ us)
file_then a b ts us F G =
    let d : decode b ≡ decoded G.chars = (decode-encode b G.chars).1 (G.scalar, G.encoded) in
    let e : decode (utf8 F.chars ++ (10 ∷ b)) ≡ decoded (F.chars ++ (10 ∷ G.chars)) = decode-append F.chars (10 ∷ b) (10 ∷ G.chars) F.scalar (newline b G.chars d) in
    let u = (decode-encode (utf8 F.chars ++ (10 ∷ b)) (F.chars ++ (10 ∷ G.chars))).0 e in
    record {
      chars = F.chars ++ (10 ∷ G.chars);
      scalar = u.0;
      encoded = ap (λ (x : List ℕ). x ++ (10 ∷ b)) F.encoded ∙ u.1;
      says = says_then F.chars G.chars ts us F.says G.says;
    }

-- Entering the texts of some triples and then of more enters those of all.
pub with_then : (es : List Entry) (ts us : List TextTriple) → with_all es (ts ++ us) ≡ with_all (with_all es ts) us
unfolding with_all
with_then es [] us = refl
with_then es (t ∷ ts) us = with_then (with_texts es t) ts us

module _ (dictionary first second : List ℕ) (len₁ len₂ len₃ n₁ n₂ n₃ : ℕ) (A : Accepted dictionary first len₁ n₁)
    (B : Accepted (read_nTriples dictionary first len₁).dictionary second len₂ n₂) (C : Accepted dictionary (first ++ (10 ∷ second)) len₃ n₃)
    (lent : length dictionary < 2 ^ 64) where
  both-lines : C.lines ≡ A.lines ++ B.lines
  both-lines =
      document_unique (first ++ (10 ∷ second)) C.lines (A.lines ++ B.lines) ((document-read (first ++ (10 ∷ second)) C.lines).0 C.said)
      (file_then first second A.lines B.lines ((document-read first A.lines).0 A.said) ((document-read second B.lines).0 B.said))

  -- Reading a file and then another leaves the dictionary that reading both as one, with byte 10 between them, leaves.
  pub reading_then : (read_nTriples (read_nTriples dictionary first len₁).dictionary second len₂).dictionary ≡ (read_nTriples dictionary (first ++ (10 ∷ second)) len₃).dictionary
  reading_then =
      let es : List Entry = entries_with dictionary A.lines in
      let q = after_bytes dictionary first len₁ n₁ A in
      after_bytes (read_nTriples dictionary first len₁).dictionary second len₂ n₂ B
      ∙ ap (λ (d : List ℕ). dictionary_bytes (length d) (entries_with d B.lines)) q
      ∙ ap (λ (m : ℕ). dictionary_bytes m (entries_with (dictionary_bytes (length dictionary) es) B.lines)) (dictionary-length (length dictionary) es A.space)
      ∙ ap (λ (l : List Entry). dictionary_bytes (length dictionary) (with_all l B.lines)) (after-entries dictionary first len₁ n₁ A lent)
      ∙ ap (dictionary_bytes (length dictionary)) (sym (with_then (entries dictionary) A.lines B.lines) ∙ ap (with_all (entries dictionary)) (sym both-lines))
      ∙ sym (after_bytes dictionary (first ++ (10 ∷ second)) len₃ n₃ C)
