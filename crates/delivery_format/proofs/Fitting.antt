-- What is written of a message is bytes exactly where the message fits the layout: each short has 16 bits, each word 32. Assumes nothing.
use Prim.Native.Nat.{ℕ, ◌/◌, ◌%◌, ◌^◌, ◌<◌}
use mathlib.Core.Logic.{◌↔◌}
use mathlib.Core.List.{List, [], ◌∷◌, ◌++◌}
use native.Mathlib.Omega.{arith}
use lib.ListN.{length}
use Rattle.spec.specs.declared.Triple.{Triple}
use Rattle.spec.specs.Messages.{Field, Message, short_bytes, word_bytes, entry_bytes, entries_bytes, section_bytes, field_bytes, fields_bytes, encode}
use Rattle.spec.specs.inside.Each.{Each}
use Rattle.spec.proofs.Each.{each_append, each_front, each_back}
use Rattle.delivery_format.specs.inside.Encodable.{IsByte, IsShort, IsEntry, IsSection, IsField, Encodable}

-- Two lists are bytes exactly where each of them is.
both : (xs ys : List ℕ) → Each IsByte (xs ++ ys) ↔ (Each IsByte xs × Each IsByte ys)
both xs ys = (λ e. (each_front IsByte xs ys e, each_back IsByte xs ys e), λ e. each_append IsByte xs ys e.0 e.1)

-- Two lists are bytes exactly where P and Q hold, of which each is what makes one of them so.
join : {P Q : Type 0} (xs ys : List ℕ) → Each IsByte xs ↔ P → Each IsByte ys ↔ Q → Each IsByte (xs ++ ys) ↔ (P × Q)
join xs ys p q =
    (λ e. let r = (both xs ys).0 e in (p.0 r.0, q.0 r.1), λ r. (both xs ys).1 (p.1 r.0, q.1 r.1))

-- ---- numbers

short_fits : (n : ℕ) → Each IsByte (short_bytes n) ↔ IsShort n
unfolding short_bytes
short_fits n = (λ e. let a : n / 256 < 256 = e.1.0 in omega arith, λ h. (omega arith, (omega arith, tt)))

word_fits : (w : ℕ) → Each IsByte (word_bytes w) ↔ (w < 2 ^ 32)
unfolding word_bytes
word_fits w =
    let j = join (short_bytes (w % 65536)) (short_bytes (w / 65536)) (short_fits (w % 65536)) (short_fits (w / 65536)) in
    (λ e. let a : w / 65536 < 65536 = (j.0 e).1 in omega arith, λ h. j.1 (omega arith, omega arith))

-- ---- sections

entry_fits : (t : Triple) → Each IsByte (entry_bytes t) ↔ IsEntry t
unfolding entry_bytes
entry_fits t =
    let j = join (word_bytes t.subject) _ (word_fits t.subject) (join (word_bytes t.property) (word_bytes t.object) (word_fits t.property) (word_fits t.object)) in
    (λ e. let r = j.0 e in record { subject = r.0; property = r.1.0; object = r.1.1 }, λ h. j.1 (h.subject, (h.property, h.object)))

entries_fit : (ts : List Triple) → Each IsByte (entries_bytes ts) ↔ Each IsEntry ts
unfolding entries_bytes
entries_fit [] = (λ e. tt, λ h. tt)
entries_fit (t ∷ ts) = join (entry_bytes t) (entries_bytes ts) (entry_fits t) (entries_fit ts)

section_fits : (ts : List Triple) → Each IsByte (section_bytes ts) ↔ IsSection ts
unfolding section_bytes
section_fits ts =
    let j = join (short_bytes (length ts)) (entries_bytes ts) (short_fits (length ts)) (entries_fit ts) in
    (λ e. let r = j.0 e in record { count = r.0; entries = r.1 }, λ h. j.1 (h.count, h.entries))

-- ---- fields

field_fits : (f : Field) → Each IsByte (field_bytes f) ↔ IsField f
unfolding field_bytes
field_fits f =
    let j = join (short_bytes f.tag) _ (short_fits f.tag) (join (short_bytes (length f.bytes)) f.bytes (short_fits (length f.bytes)) ((λ e. e), (λ h. h))) in
    (λ e. let r = j.0 e in record { tag = r.0; length = r.1.0; bytes = r.1.1 }, λ h. j.1 (h.tag, (h.length, h.bytes)))

fields_fit : (fs : List Field) → Each IsByte (fields_bytes fs) ↔ Each IsField fs
unfolding fields_bytes
fields_fit [] = (λ e. tt, λ h. tt)
fields_fit (f ∷ fs) = join (field_bytes f) (fields_bytes fs) (field_fits f) (fields_fit fs)

-- ---- the whole

-- Each number that is written of a message is a byte exactly where the message fits the layout.
pub encodable_iff : (m : Message) → Each IsByte (encode m) ↔ Encodable m
unfolding encode
encodable_iff m =
    let last = join (short_bytes (length m.fields)) (fields_bytes m.fields) (short_fits (length m.fields)) (fields_fit m.fields) in
    let fourth = join (section_bytes m.facts_added) _ (section_fits m.facts_added) last in
    let third = join (section_bytes m.statements_added) _ (section_fits m.statements_added) fourth in
    let second = join (section_bytes m.facts_withdrawn) _ (section_fits m.facts_withdrawn) third in
    let j = join (section_bytes m.statements_withdrawn) _ (section_fits m.statements_withdrawn) second in (
      λ e.
          let r = j.0 e in
          record {
            statements_withdrawn = r.0;
            facts_withdrawn = r.1.0;
            statements_added = r.1.1.0;
            facts_added = r.1.1.1.0;
            count = r.1.1.1.1.0;
            fields = r.1.1.1.1.1;
          },
      λ h. j.1 (h.statements_withdrawn, (h.facts_withdrawn, (h.statements_added, (h.facts_added, (h.count, h.fields))))),
    )
