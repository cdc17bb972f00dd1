-- Laws of entries that are written behind others or taken away. Assumes nothing.
use Prim.Native.Nat.{ℕ, zero, suc, ◌+◌, ◌-◌, ◌/◌, ◌%◌, ◌^◌, ◌≤◌, ◌<◌}
use mathlib.Core.Path.{◌≡◌, refl, sym, ap, ◌∙◌}
use mathlib.Core.List.{List, [], ◌∷◌, ◌++◌, append_assoc, append-nil}
use native.Mathlib.Numerals.{add-one}
use native.Mathlib.Omega.{arith}
use lib.ListN.{length, take, drop, set, replicate, length-append, length-replicate, replicate-append-replicate}
use borrow.Rule.Slice.PartMut.{put_mid}
use Rattle.std.proofs.lemmas.List.{drop_all}
use Rattle.std.proofs.lemmas.List.Edits.{paste_all}
use Rattle.std.proofs.lemmas.Slice.{put_mid-paste}
use Rattle.dictionary_bytes.proofs.Same.{part_length}
use lib.Seq.{sets, sets-eq, length-sets, take_at, drop_at, drop-append-add}
use Rattle.spec_ntriples.specs.Dictionary.{Entry, entry, number_bytes, bytes_of_entry, bytes_of_entries, dictionary_bytes}
use Rattle.spec_ntriples.specs.inside.Entries.{Writable, Holds}
use Rattle.spec.proofs.Each.{each_append, each_front}
use Rattle.spec_ntriples.proofs.EntryBytes.{length-number, length-entry}
use Rattle.ntriples_text.proofs.Writing.{sets-append}
use Rattle.dictionary_entries.proofs.Standing.{entries-append, entries-length}
use Rattle.dictionary_entries.proofs.Held.{held-within, held_split}

-- ---- byte by byte

-- A number's lowest byte, and the others behind it.
pub number_more : (out : List ℕ) (n k rest : ℕ) → k < n → sets (set out k (rest % 256)) (k + 1) (number_bytes (n - (k + 1)) (rest / 256)) ≡ sets out k (number_bytes (n - k) rest)
unfolding number_bytes
number_more out n k rest h =
    let b : n - k ≡ suc (n - suc k) = omega arith in
    rw (add-one k, b)

pub number_end : (out : List ℕ) (n k rest : ℕ) → n ≤ k → sets out k (number_bytes (n - k) rest) ≡ out
unfolding number_bytes
number_end out n k rest h = let e : n - k ≡ 0 = omega arith in rw e

-- ---- parts written over

-- A part with other values.
part_sets : (a k : ℕ) (xs ys : List ℕ) → length ys ≡ k → a + k ≤ length xs → put_mid a k xs ys ≡ sets xs a ys
part_sets a k xs ys e h =
    let s : sets xs a ys ≡ take a xs ++ ys ++ drop (a + k) xs = rw e at (sets-eq ys xs a (omega arith)) in
    put_mid-paste a k xs ys ys k refl refl (sym e) ∙ paste_all xs a ys k (sym e) ∙ sym (s ∙ append_assoc (take a xs) ys (drop (a + k) xs))

-- A whole list written over.
sets_whole : (xs ys : List ℕ) → length ys ≡ length xs → sets xs 0 ys ≡ ys
sets_whole xs ys e = sets-eq ys xs 0 (omega arith) ∙ rw (drop_all (0 + length ys) xs (omega arith)) (append-nil ys)

-- The part that has become a number's bytes.
pub number_over : (out part : List ℕ) (at n number : ℕ) → at + n ≤ length out → part ≡ sets (take (at + n - at) (drop at out)) 0 (number_bytes n number) → put_mid at (at + n - at) out part ≡ sets out at (number_bytes n number)
number_over out part at n number h e =
    let q : at + n - at ≡ n = omega arith in
    let l : length (number_bytes n number) ≡ length (take n (drop at out)) = length-number n number ∙ sym (part_length out at n h) in
    let p : part ≡ number_bytes n number = rw q at e ∙ sets_whole (take n (drop at out)) (number_bytes n number) l in
    rw (q, p) (part_sets at n out (number_bytes n number) (length-number n number) h)

-- The part that has become zeros.
pub zeros_over : (bs zs : List ℕ) (at from end : ℕ) → at ≡ from → from ≤ end → end ≤ length bs → zs ≡ replicate (length (take (end - at) (drop at bs))) 0 → put_mid at (end - at) bs zs ≡ sets bs from (replicate (end - from) 0)
zeros_over bs zs at from end e h k z =
    let l : length (take (end - from) (drop from bs)) ≡ end - from = part_length bs from (end - from) (omega arith) in
    rw (z, e, l) (part_sets from (end - from) bs (replicate (end - from) 0) (length-replicate (end - from) 0) (omega arith))

-- ---- bytes over others

-- Bytes written over as many.
sets_over : (front bs cs vs : List ℕ) (at : ℕ) → at ≡ length front → length vs ≡ length bs → sets (front ++ (bs ++ cs)) at vs ≡ front ++ (vs ++ cs)
sets_over front bs cs vs at p q =
    let room : at + length vs ≤ length (front ++ (bs ++ cs)) = omega (arith, length-append front (bs ++ cs), length-append bs cs) in
    let e : at + length vs ≡ length front + length bs = omega arith in
    let back : drop (at + length vs) (front ++ (bs ++ cs)) ≡ cs = ap (λ (i : ℕ). drop i (front ++ (bs ++ cs))) e ∙ drop-append-add front (bs ++ cs) (length bs) ∙ drop_at bs cs (length bs) refl in
    sets-eq vs (front ++ (bs ++ cs)) at room ∙ rw (take_at front (bs ++ cs) at (sym p), back) (append_assoc front vs cs)

-- ---- an entry behind others

-- The parts of an entry, written one behind the other.
pub entry_parts : (bs : List ℕ) (end : ℕ) (e : Entry) → sets (sets (sets bs end (number_bytes 4 e.term)) (end + 4) (number_bytes 8 (length e.text))) (end + 12) e.text ≡ sets bs end (bytes_of_entry e)
unfolding bytes_of_entry
entry_parts bs end e =
    let a : end + length (number_bytes 4 e.term) ≡ end + 4 = omega (arith, length-number 4 e.term) in
    let b : end + 4 + length (number_bytes 8 (length e.text)) ≡ end + 12 = omega (arith, length-number 8 (length e.text)) in
    sym
    (sets-append bs end (number_bytes 4 e.term) (number_bytes 8 (length e.text) ++ e.text)
    ∙ rw a (sets-append (sets bs end (number_bytes 4 e.term)) (end + 4) (number_bytes 8 (length e.text)) e.text ∙ rw b))

module _ (bs : List ℕ) (end : ℕ) (es : List Entry) (H : Holds bs end es) (e : Entry) (w : Writable e) (room : end + 12 + length e.text ≤ length bs) where
  abbrev after : List ℕ
  after = sets bs end (bytes_of_entry e)

  abbrev free : ℕ
  free = length bs - length (bytes_of_entries es)

  zeros_split : replicate {A = ℕ} free 0 ≡ replicate {A = ℕ} (length (bytes_of_entry e)) 0 ++ replicate {A = ℕ} (free - length (bytes_of_entry e)) 0
  zeros_split =
      let q : free ≡ length (bytes_of_entry e) + (free - length (bytes_of_entry e)) = omega (arith, length-entry e, H.ends) in
      ap (λ (n : ℕ). replicate {A = ℕ} n 0) q ∙ sym (replicate-append-replicate {A = ℕ} (length (bytes_of_entry e)) (free - length (bytes_of_entry e)) 0)

  split : bs ≡ bytes_of_entries es ++ (replicate {A = ℕ} (length (bytes_of_entry e)) 0 ++ replicate {A = ℕ} (free - length (bytes_of_entry e)) 0)
  unfolding dictionary_bytes
  split = H.same ∙ ap (λ (l : List ℕ). bytes_of_entries es ++ l) zeros_split

  with-entry : bytes_of_entries (es ++ (e ∷ [])) ≡ bytes_of_entries es ++ bytes_of_entry e
  unfolding bytes_of_entries
  with-entry = entries-append es (e ∷ []) ∙ ap (λ (l : List ℕ). bytes_of_entries es ++ l) (append-nil (bytes_of_entry e))

  after_is : after ≡ bytes_of_entries es ++ (bytes_of_entry e ++ replicate {A = ℕ} (free - length (bytes_of_entry e)) 0)
  after_is =
      ap (λ (l : List ℕ). sets l end (bytes_of_entry e)) split
      ∙ sets_over (bytes_of_entries es) (replicate {A = ℕ} (length (bytes_of_entry e)) 0) (replicate {A = ℕ} (free - length (bytes_of_entry e)) 0) (bytes_of_entry e) end H.ends (sym (length-replicate {A = ℕ} (length (bytes_of_entry e)) 0))

  -- With the entry written behind them, the bytes hold the entries and this one.
  pub held_more : Holds after (end + 12 + length e.text) (es ++ (e ∷ []))
  unfolding dictionary_bytes
  held_more =
      let l : length after ≡ length bs = length-sets bs end (bytes_of_entry e) in
      let n : length (bytes_of_entries (es ++ (e ∷ []))) ≡ length (bytes_of_entries es) + length (bytes_of_entry e) = ap length with-entry ∙ length-append (bytes_of_entries es) (bytes_of_entry e) in
      let z : free - length (bytes_of_entry e) ≡ length after - length (bytes_of_entries (es ++ (e ∷ []))) = omega arith in
      record {
        same = after_is ∙ sym (append_assoc (bytes_of_entries es) (bytes_of_entry e) (replicate {A = ℕ} (free - length (bytes_of_entry e)) 0)) ∙ rw (z, with-entry);
        ends = omega (arith, n, length-entry e, H.ends);
        writable = each_append Writable es (e ∷ []) H.writable (w, tt);
      }

-- The same by the parts of the entry.
pub entry-written : (bs first second third : List ℕ) (end term n r : ℕ) (text : List ℕ) (es : List Entry) → Holds bs end es → 0 < term → term < 2 ^ 32 → n < 2 ^ 64 → n ≡ length text → end + 12 + n ≤ length bs
    → first ≡ sets bs end (number_bytes 4 term) → second ≡ sets first (end + 4) (number_bytes 8 n) → third ≡ sets second (end + 12) text → r ≡ end + 12 + length text
    → Holds third r (es ++ (entry term text ∷ []))
entry-written bs first second third end term n r text es H a b c q room f s t i =
    let e : Entry = entry term text in
    let w : Writable e = record { some = a; word = b; size = omega arith } in
    let u : third ≡ sets bs end (bytes_of_entry e) = t ∙ rw (s, f, q) (entry_parts bs end e) in
    rw (u, i) (held_more bs end es H e w (omega arith))

-- ---- entries taken away

-- With zeros over the last, the bytes hold the entries before them.
pub held-less : (bs : List ℕ) (end from : ℕ) (ds fs : List Entry) → Holds bs end (ds ++ fs) → from ≡ length (bytes_of_entries ds) → Holds (sets bs from (replicate (end - from) 0)) from ds
unfolding dictionary_bytes
held-less bs end from ds fs H p =
    let n : length (bytes_of_entries (ds ++ fs)) ≡ length (bytes_of_entries ds) + length (bytes_of_entries fs) = entries-length ds fs in
    let free : ℕ = length bs - length (bytes_of_entries (ds ++ fs)) in
    let m : length (replicate {A = ℕ} (end - from) 0) ≡ length (bytes_of_entries fs) = length-replicate (end - from) zero ∙ omega (arith, H.ends) in
    let l : length (sets bs from (replicate (end - from) 0)) ≡ length bs = length-sets bs from (replicate (end - from) 0) in
    let z : (end - from) + free ≡ length (sets bs from (replicate (end - from) 0)) - length (bytes_of_entries ds) = omega (arith, H.ends, held-within bs end (ds ++ fs) H) in
    record {
      same =
          ap (λ (b : List ℕ). sets b from (replicate (end - from) 0)) (held_split bs end ds fs H from p)
          ∙ sets_over (bytes_of_entries ds) (bytes_of_entries fs) (replicate free 0) (replicate (end - from) 0) from p m
          ∙ ap (λ (b : List ℕ). bytes_of_entries ds ++ b) (replicate-append-replicate (end - from) free 0 ∙ ap (λ (k : ℕ). replicate k 0) z);
      ends = p;
      writable = each_front Writable ds fs H.writable;
    }
