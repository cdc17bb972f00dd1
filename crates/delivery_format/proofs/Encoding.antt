-- What is written as bytes is read back, to the last byte. Assumes nothing.
use Prim.Native.Nat.{ℕ, ◌+◌, ◌*◌, ◌/◌, ◌%◌}
use mathlib.Core.Path.{◌≡◌, refl, sym, ap, ◌∙◌}
use mathlib.Core.Bool.{and-true}
use mathlib.Core.List.{List, [], ◌∷◌, ◌++◌}
use native.Mathlib.Nat.{add-zero, mod-add-div'}
use native.Mathlib.Omega.{arith}
use lib.ListN.{length, get_or, take, drop, length-append}
use lib.Seq.{drop-drop, drop_at, take_at, get_or-drop}
use lib.Dec.{leb}
use borrow.Author.Tests.{eq-eqb}
use Rattle.spec.specs.declared.Triple.{Triple}
use Rattle.spec.specs.inside.Comparison.{triple_eq}
use Rattle.spec.specs.Messages.{Field, Message, most_bytes, short_bytes, word_bytes, entry_bytes, entries_bytes, section_bytes, field_bytes, fields_bytes, encode}
use Rattle.spec.specs.computed.Decoded.{short, word, entry_at, entries_from, section_at, section_end, section_start, field_at, field_end, fields_from, fields_end, read, is_whole}

-- ---- what is left of some bytes

-- The bytes bs from index at on are rest.
record From (bs : List ℕ) (at : ℕ) (rest : List ℕ) : Type 0 where
  is : drop at bs ≡ rest
  count : at + length rest ≡ length bs

-- The bytes of n entries are n * 12.
length-entries_bytes : (ts : List Triple) → length (entries_bytes ts) ≡ length ts * 12
unfolding entries_bytes entry_bytes word_bytes short_bytes
length-entries_bytes [] = refl
length-entries_bytes (t ∷ ts) = omega (arith, length-entries_bytes ts)

module _ {bs : List ℕ} where
  -- The first n bytes of what is left are stepped over.
  step : (at : ℕ) (p q : List ℕ) (n : ℕ) → length p ≡ n → From bs at (p ++ q) → From bs (at + n) q
  step at p q n e x =
      record {
        is = sym (drop-drop n at bs) ∙ ap (λ (l : List ℕ). drop n l) x.is ∙ drop_at p q n e;
        count = omega (arith, e, x.count, length-append p q);
      }

  -- A byte of what is left.
  byte : (at i : ℕ) (rest : List ℕ) → From bs at rest → get_or bs (at + i) 0 ≡ get_or rest i 0
  byte at i rest x = sym (get_or-drop at bs i 0) ∙ ap (λ (l : List ℕ). get_or l i 0) x.is

  -- ---- numbers

  short-written : (at n : ℕ) (q : List ℕ) → From bs at (short_bytes n ++ q) → short bs at ≡ n
  unfolding short short_bytes
  short-written at n q x =
      let a : get_or bs at 0 ≡ n % 256 = rw (add-zero at) at (byte at 0 (short_bytes n ++ q) x) in
      let b : get_or bs (at + 1) 0 ≡ n / 256 = byte at 1 (short_bytes n ++ q) x in
      omega (arith, a, b, mod-add-div' n 256)

  short_rest : (at n : ℕ) (q : List ℕ) → From bs at (short_bytes n ++ q) → From bs (at + 2) q
  unfolding short_bytes
  short_rest at n q x = step at (short_bytes n) q 2 refl x

  word-written : (at w : ℕ) (q : List ℕ) → From bs at (word_bytes w ++ q) → word bs at ≡ w
  unfolding word word_bytes short_bytes
  word-written at w q x =
      let a : short bs at ≡ w % 65536 = short-written at (w % 65536) (short_bytes (w / 65536) ++ q) x in
      let b : short bs (at + 2) ≡ w / 65536 = short-written (at + 2) (w / 65536) q (short_rest at (w % 65536) (short_bytes (w / 65536) ++ q) x) in
      omega (arith, a, b, mod-add-div' w 65536)

  -- ---- sections

  entry-written : (at : ℕ) (t : Triple) (q : List ℕ) → From bs at (entry_bytes t ++ q) → entry_at bs at ≡ t
  unfolding entry_bytes word_bytes short_bytes
  entry-written at t q x =
      triple_eq (entry_at bs at) t
      (word-written at t.subject (word_bytes t.property ++ (word_bytes t.object ++ q)) x)
      (word-written (at + 4) t.property (word_bytes t.object ++ q) (step at (word_bytes t.subject) (word_bytes t.property ++ (word_bytes t.object ++ q)) 4 refl x))
      (word-written (at + 8) t.object q (step at (word_bytes t.subject ++ word_bytes t.property) (word_bytes t.object ++ q) 8 refl x))

  entry_rest : (at : ℕ) (t : Triple) (q : List ℕ) → From bs at (entry_bytes t ++ q) → From bs (at + 12) q
  unfolding entry_bytes word_bytes short_bytes
  entry_rest at t q x = step at (entry_bytes t) q 12 refl x

  entries-written : (at : ℕ) (ts : List Triple) (q : List ℕ) → From bs at (entries_bytes ts ++ q) → entries_from bs at (length ts) ≡ ts
  unfolding entries_from entries_bytes entry_bytes word_bytes short_bytes
  entries-written at [] q x = refl
  entries-written at (t ∷ ts) q x =
      rw (entry-written at t (entries_bytes ts ++ q) x, entries-written (at + 12) ts q (entry_rest at t (entries_bytes ts ++ q) x))

  section_written : (at : ℕ) (ts : List Triple) (q : List ℕ) → From bs at (section_bytes ts ++ q) → section_at bs at ≡ ts
  unfolding section_bytes short_bytes
  section_written at ts q x =
      rw (short-written at (length ts) (entries_bytes ts ++ q) x)
      (entries-written (at + 2) ts q (short_rest at (length ts) (entries_bytes ts ++ q) x))

  section_rest : (at : ℕ) (ts : List Triple) (q : List ℕ) → From bs at (section_bytes ts ++ q) → From bs (section_end bs at) q
  unfolding section_end section_bytes short_bytes
  section_rest at ts q x =
      rw (short-written at (length ts) (entries_bytes ts ++ q) x)
      (step (at + 2) (entries_bytes ts) q (length ts * 12) (length-entries_bytes ts) (short_rest at (length ts) (entries_bytes ts ++ q) x))

  -- ---- fields

  module _ (at : ℕ) (f : Field) (q : List ℕ) (x : From bs at (field_bytes f ++ q)) where
    -- What follows the tag.
    after_tag : From bs (at + 2) (short_bytes (length f.bytes) ++ (f.bytes ++ q))
    unfolding field_bytes short_bytes
    after_tag = short_rest at f.tag (short_bytes (length f.bytes) ++ (f.bytes ++ q)) x

    -- What follows the length.
    after-length : From bs (at + 4) (f.bytes ++ q)
    unfolding field_bytes short_bytes
    after-length = step at (short_bytes f.tag ++ short_bytes (length f.bytes)) (f.bytes ++ q) 4 refl x

    length-written : short bs (at + 2) ≡ length f.bytes
    length-written = short-written (at + 2) (length f.bytes) (f.bytes ++ q) after_tag

    tag-written : short bs at ≡ f.tag
    unfolding field_bytes short_bytes
    tag-written = short-written at f.tag (short_bytes (length f.bytes) ++ (f.bytes ++ q)) x

    bytes-written : take (short bs (at + 2)) (drop (at + 4) bs) ≡ f.bytes
    bytes-written = rw (length-written, after-length.is) (take_at f.bytes q (length f.bytes) refl)

    field-written : field_at bs at ≡ f
    field-written = λ i. record { tag = tag-written i; bytes = bytes-written i }

    field-rest : From bs (field_end bs at) q
    unfolding field_end
    field-rest = rw length-written (step (at + 4) f.bytes q (length f.bytes) refl after-length)

  fields_written : (at : ℕ) (fs : List Field) → From bs at (fields_bytes fs) → fields_from bs at (length fs) ≡ fs
  unfolding fields_from fields_bytes
  fields_written at [] x = refl
  fields_written at (f ∷ fs) x = rw (field-written at f (fields_bytes fs) x, fields_written (field_end bs at) fs (field-rest at f (fields_bytes fs) x))

  fields_rest : (at : ℕ) (fs : List Field) → From bs at (fields_bytes fs) → fields_end bs at (length fs) ≡ length bs
  unfolding fields_end fields_bytes
  fields_rest at [] x = omega (arith, x.count)
  fields_rest at (f ∷ fs) x = fields_rest (field_end bs at) fs (field-rest at f (fields_bytes fs) x)

-- ---- messages

module _ (m : Message) where
  -- What is left of the bytes of a message at each section.
  abbrev fifth : List ℕ
  fifth = short_bytes (length m.fields) ++ fields_bytes m.fields

  abbrev fourth : List ℕ
  fourth = section_bytes m.facts_added ++ fifth

  abbrev third : List ℕ
  third = section_bytes m.statements_added ++ fourth

  abbrev second : List ℕ
  second = section_bytes m.facts_withdrawn ++ third

  at_0 : From (encode m) (section_start (encode m) 0) (section_bytes m.statements_withdrawn ++ second)
  unfolding section_start encode
  at_0 = record { is = refl; count = omega arith }

  at_1 : From (encode m) (section_start (encode m) 1) second
  unfolding section_start
  at_1 = section_rest _ m.statements_withdrawn second at_0

  at_2 : From (encode m) (section_start (encode m) 2) third
  unfolding section_start
  at_2 = section_rest _ m.facts_withdrawn third at_1

  at_3 : From (encode m) (section_start (encode m) 3) fourth
  unfolding section_start
  at_3 = section_rest _ m.statements_added fourth at_2

  at_4 : From (encode m) (section_start (encode m) 4) fifth
  unfolding section_start
  at_4 = section_rest _ m.facts_added fifth at_3

  count-written : short (encode m) (section_start (encode m) 4) ≡ length m.fields
  count-written = short-written _ (length m.fields) (fields_bytes m.fields) at_4

  at_fields : From (encode m) (section_start (encode m) 4 + 2) (fields_bytes m.fields)
  at_fields = short_rest _ (length m.fields) (fields_bytes m.fields) at_4

  last_written : fields_from (encode m) (section_start (encode m) 4 + 2) (short (encode m) (section_start (encode m) 4)) ≡ m.fields
  last_written = rw count-written (fields_written _ m.fields at_fields)

  -- What is written is what is read.
  pub read-encode : read (encode m) ≡ m
  unfolding read
  read-encode = λ i.
      record {
        statements_withdrawn = section_written _ m.statements_withdrawn second at_0 i;
        facts_withdrawn = section_written _ m.facts_withdrawn third at_1 i;
        statements_added = section_written _ m.statements_added fourth at_2 i;
        facts_added = section_written _ m.facts_added fifth at_3 i;
        fields = last_written i;
      }

  -- It ends at its last byte.
  pub encode_end : fields_end (encode m) (section_start (encode m) 4 + 2) (short (encode m) (section_start (encode m) 4)) ≡ length (encode m)
  encode_end = rw count-written (fields_rest _ m.fields at_fields)

  -- So it is whole where it is not too long.
  pub encode_whole : is_whole (encode m) ≡ leb (length (encode m)) most_bytes
  unfolding is_whole
  encode_whole = rw (eq-eqb _ _ encode_end) (and-true (leb (length (encode m)) most_bytes))
