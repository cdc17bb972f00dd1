-- Laws of the character at an index, by its bytes. Assumes nothing.
use Prim.Native.Nat.{ℕ, suc, ◌+◌, ◌-◌, ◌*◌, ◌%◌, ◌≤◌, ◌<◌}
use mathlib.Core.Path.{◌≡◌, refl, sym, ap, ◌∙◌}
use mathlib.Core.Bool.{Bool, true, false, ◌&&◌}
use mathlib.Core.List.{List, [], ◌∷◌}
use native.Mathlib.Numerals.{add-one}
use native.Mathlib.Omega.{arith}
use lib.ListN.{length, get_or, drop, length-drop}
use lib.Seq.{drop-cons}
use lib.Dec.{eqb, leb, ltb}
use borrow.Author.Tests.{lt-leb, le-leb, ne_eqb, eqb-false, lt-ltb, le-ltb, leb-true, eqb-true, ltb-true, ltb-false}
use Rattle.spec_ntriples.specs.Utf8.{is_between}
use Rattle.spec_ntriples.specs.computed.Decoded.{decoded, with_char, bad, due, first_byte, further_byte, next_byte, no_byte, decode_from, decode}
use Rattle.ntriples_bytes.specs.inside.Places.{At, Utf8From, Marks}
use Rattle.ntriples_bytes.specs.declared.Mark.{Mark}
use Rattle.ntriples_bytes.proofs.Decoding.{broken-not, front_char, behind_front, whole, bad_stays, at_within, First, first-at}

-- ---- tests

-- Both sides of a test hold.
pub and_left : (a b : Bool) → (a && b) ≡ true → a ≡ true
and_left true b e = refl
and_left false b e = e

pub and_right : (a b : Bool) → (a && b) ≡ true → b ≡ true
and_right true b e = e
and_right false b e = let z : ◌≡◌ {A = ℕ} 0 1 = cc in absurd (omega arith)

-- Both ends of a range.
pub between : (l n h : ℕ) → is_between l h n ≡ true → (l ≤ n) × (n ≤ h)
between l n h e = (leb-true l n (and_left (leb l n) (leb n h) e), leb-true n h (and_right (leb l n) (leb n h) e))

-- One or the other.
pub by_test : {C : Type 0} (b : Bool) → (b ≡ true → C) → (b ≡ false → C) → C
by_test true f g = f refl
by_test false f g = g refl

bad-not : {C : Type 0} (bs : List ℕ) {cs : List ℕ} → decode_from bs bad ≡ decoded cs → C
bad-not bs e = broken-not (sym (bad_stays bs) ∙ e)

-- ---- inside a character

-- Inside a character one more byte stands, within its range.
record Further (bs : List ℕ) (left v low high : ℕ) (cs : List ℕ) : Type 0 where
  pub byte : ℕ
  pub behind : List ℕ
  pub same : bs ≡ byte ∷ behind
  pub above : low ≤ byte
  pub below : byte ≤ high
  pub chars : decode_from behind (due left (v * 64 + (byte - 0x80)) 0x80 0xBF) ≡ decoded cs

one_more_lem : (bs : List ℕ) (left v low high : ℕ) (cs : List ℕ) → decode_from bs (due (suc left) v low high) ≡ decoded cs → Further bs left v low high cs
unfolding decode_from no_byte next_byte further_byte
one_more_lem [] left v low high cs e = broken-not e
one_more_lem (b ∷ bs) left v low high cs e =
    by_test (is_between low high b)
    (λ q. record { byte = b; behind = bs; same = refl; above = (between low b high q).0; below = (between low b high q).1; chars = rw q at e })
    (λ q. bad-not bs (rw q at e))

-- Inside a character at an index, with so many bytes due: characters cs are read from there on.
record Inside (bs : List ℕ) (at left v : ℕ) (cs : List ℕ) : Type 0 where
  pub low : ℕ
  pub high : ℕ
  pub lowest : 0x80 ≤ low
  pub highest : high ≤ 0xBF
  pub chars : decode_from (drop at bs) (due left v low high) ≡ decoded cs

head_of : (bs behind : List ℕ) (at b : ℕ) → drop at bs ≡ b ∷ behind → at < length bs
head_of bs behind at b e = let h : length (drop at bs) ≡ suc (length behind) = ap length e in omega (arith, length-drop at bs)

first_byte_lem : (bs behind : List ℕ) (at b : ℕ) → drop at bs ≡ b ∷ behind → b ≡ get_or bs at 0
first_byte_lem bs behind at b e = let q : drop at bs ≡ get_or bs at 0 ∷ drop (suc at) bs = drop-cons bs at 0 (head_of bs behind at b e) in cc

later_bytes : (bs behind : List ℕ) (at b : ℕ) → drop at bs ≡ b ∷ behind → behind ≡ drop (at + 1) bs
later_bytes bs behind at b e = let q : drop at bs ≡ get_or bs at 0 ∷ drop (suc at) bs = drop-cons bs at 0 (head_of bs behind at b e) in rw (add-one at) (cc)

module _ (bs : List ℕ) (at left v : ℕ) (cs : List ℕ) (I : Inside bs at (suc left) v cs) where
  more : Further (drop at bs) left v I.low I.high cs
  more = one_more_lem (drop at bs) left v I.low I.high cs I.chars

  inside-within : at < length bs
  inside-within = head_of bs more.behind at more.byte more.same

  inside_more : Inside bs (at + 1) left (v * 64 + get_or bs at 0 % 64) cs
  inside_more =
      let f = more in
      let b : f.byte ≡ get_or bs at 0 = first_byte_lem bs f.behind at f.byte f.same in
      let m : f.byte - 0x80 ≡ get_or bs at 0 % 64 = omega (arith, f.above, f.below, I.lowest, I.highest) in
      record { low = 0x80; high = 0xBF; lowest = omega arith; highest = omega arith; chars = rw (← later_bytes bs f.behind at f.byte f.same, ← m) f.chars }

inside_end : (bs : List ℕ) (at v c : ℕ) (cs : List ℕ) → Inside bs at 0 v (c ∷ cs) → (v ≡ c) × (decode (drop at bs) ≡ decoded cs)
inside_end bs at v c cs I =
    let e : with_char v (decode (drop at bs)) ≡ decoded (c ∷ cs) = sym (whole (drop at bs) v I.low I.high) ∙ I.chars in
    (front_char v c (decode (drop at bs)) cs e, behind_front v c (decode (drop at bs)) cs e)

-- ---- the first byte

-- What characters are read once a first byte leaves something due.
record Starts (r : List ℕ) (left v : ℕ) (cs : List ℕ) : Type 0 where
  pub low : ℕ
  pub high : ℕ
  pub lowest : 0x80 ≤ low
  pub highest : high ≤ 0xBF
  pub chars : decode_from r (due left v low high) ≡ decoded cs

starts : (r : List ℕ) (left v w low high : ℕ) (cs : List ℕ) → v ≡ w → 0x80 ≤ low → high ≤ 0xBF → decode_from r (due left v low high) ≡ decoded cs → Starts r left w cs
starts r left v w low high cs e a b h = record { low = low; high = high; lowest = a; highest = b; chars = rw e at h }

module _ (r cs : List ℕ) (b : ℕ) where
  -- The branches of `first_byte`, each with what its tests say.
  two : b < 0xE0 → 0x80 ≤ b → decode_from r (first_byte b) ≡ decoded cs → Starts r 1 (b % 32) cs
  unfolding first_byte
  two h k e =
      by_test (is_between 0xC2 0xDF b)
      (λ q. starts r 1 (b - 0xC0) (b % 32) 0x80 0xBF cs (omega (arith, between 0xC2 b 0xDF q)) (omega arith) (omega arith) (rw (le-ltb b 0x80 k, q) at e))
      (λ q. bad-not r (rw (le-ltb b 0x80 k, q, ne_eqb b 0xE0 (λ x. omega arith), ne_eqb b 0xED (λ x. omega arith), lt-leb 0xE1 b (omega arith), ne_eqb b 0xF0 (λ x. omega arith), lt-leb 0xF1 b (omega arith), ne_eqb b 0xF4 (λ x. omega arith)) at e))

  not_two : 0xE0 ≤ b → is_between 0xC2 0xDF b ≡ false
  not_two k = rw (le-leb 0xC2 b (omega arith), lt-leb b 0xDF (omega arith))

  three : b < 0xF0 → 0xE0 ≤ b → decode_from r (first_byte b) ≡ decoded cs → Starts r 2 (b % 16) cs
  unfolding first_byte
  three h k e =
      let f = rw (le-ltb b 0x80 (omega arith), not_two k) at e in
      by_test (eqb b 0xE0)
      (λ p. starts r 2 0 (b % 16) 0xA0 0xBF cs (omega (arith, eqb-true b 0xE0 p)) (omega arith) (omega arith) (rw p at f))
      (λ p. by_test (eqb b 0xED)
      (λ q. starts r 2 13 (b % 16) 0x80 0x9F cs (omega (arith, eqb-true b 0xED q)) (omega arith) (omega arith) (rw (p, q) at f))
      (λ q. starts r 2 (b - 0xE0) (b % 16) 0x80 0xBF cs (omega arith) (omega arith) (omega arith) (rw (p, q, le-leb 0xE1 b (omega (arith, eqb-false b 0xE0 p)), le-leb b 0xEF (omega arith)) at f)))

  not_three : 0xF0 ≤ b → is_between 0xE1 0xEF b ≡ false
  not_three k = rw (le-leb 0xE1 b (omega arith), lt-leb b 0xEF (omega arith))

  four : 0xF0 ≤ b → decode_from r (first_byte b) ≡ decoded cs → Starts r 3 (b % 8) cs
  unfolding first_byte
  four k e =
      let f = rw (le-ltb b 0x80 (omega arith), not_two (omega arith), ne_eqb b 0xE0 (λ x. omega arith), ne_eqb b 0xED (λ x. omega arith), not_three k) at e in
      by_test (eqb b 0xF0)
      (λ p. starts r 3 0 (b % 8) 0x90 0xBF cs (omega (arith, eqb-true b 0xF0 p)) (omega arith) (omega arith) (rw p at f))
      (λ p. by_test (is_between 0xF1 0xF3 b)
      (λ q. starts r 3 (b - 0xF0) (b % 8) 0x80 0xBF cs (omega (arith, between 0xF1 b 0xF3 q)) (omega arith) (omega arith) (rw (p, q) at f))
      (λ q. by_test (eqb b 0xF4)
      (λ s. starts r 3 4 (b % 8) 0x80 0x8F cs (omega (arith, eqb-true b 0xF4 s)) (omega arith) (omega arith) (rw (p, q, s) at f))
      (λ s. bad-not r (rw (p, q, s) at f))))

-- ---- a character at an index

decode-cons : (b : ℕ) (l : List ℕ) → decode (b ∷ l) ≡ decode_from l (first_byte b)
unfolding decode
decode-cons b l = refl

module _ (bs : List ℕ) (at : ℕ) (k : ℕ) (ks : List ℕ) (A : At bs at (k ∷ ks)) where
  started : decode_from (drop (at + 1) bs) (first_byte (get_or bs at 0)) ≡ decoded (k ∷ ks)
  started = sym (decode-cons (get_or bs at 0) (drop (at + 1) bs)) ∙ ap decode (rw (add-one at) (sym (drop-cons bs at 0 (at_within bs at k ks A)))) ∙ A.chars

  inside_one : get_or bs at 0 < 0x80 → Inside bs (at + 1) 0 (get_or bs at 0) (k ∷ ks)
  unfolding first_byte
  inside_one h =
      let e : decode_from (drop (at + 1) bs) (due 0 (get_or bs at 0) 0 0) ≡ decoded (k ∷ ks) = rw (lt-ltb (get_or bs at 0) 0x80 h) at started in
      record { low = 0x80; high = 0xBF; lowest = omega arith; highest = omega arith; chars = whole _ _ 0x80 0xBF ∙ sym (whole _ _ 0 0) ∙ e }

  opened : (left v : ℕ) → Starts (drop (at + 1) bs) left v (k ∷ ks) → Inside bs (at + 1) left v (k ∷ ks)
  opened left v s = record { low = s.low; high = s.high; lowest = s.lowest; highest = s.highest; chars = s.chars }

  inside_two : 0x80 ≤ get_or bs at 0 → get_or bs at 0 < 0xE0 → Inside bs (at + 1) 1 (get_or bs at 0 % 32) (k ∷ ks)
  inside_two h l = opened 1 _ (two (drop (at + 1) bs) (k ∷ ks) (get_or bs at 0) l h started)

  inside_three : 0xE0 ≤ get_or bs at 0 → get_or bs at 0 < 0xF0 → Inside bs (at + 1) 2 (get_or bs at 0 % 16) (k ∷ ks)
  inside_three h l = opened 2 _ (three (drop (at + 1) bs) (k ∷ ks) (get_or bs at 0) l h started)

  inside_four : 0xF0 ≤ get_or bs at 0 → Inside bs (at + 1) 3 (get_or bs at 0 % 8) (k ∷ ks)
  inside_four h = opened 3 _ (four (drop (at + 1) bs) (k ∷ ks) (get_or bs at 0) h started)

  -- A mark behind as many bytes.
  marks : (next v : ℕ) (m : Mark) → at < next → next ≤ length bs → Inside bs next 0 v (k ∷ ks) → m.code ≡ v → m.next ≡ next → Marks bs at m
  marks next v m h l I e f =
      record { behind = ks; stands = rw (e ∙ (inside_end bs next v k ks I).0) A; after = omega arith; rest = record { within = omega arith; chars = rw f (inside_end bs next v k ks I).1 } }

  module _ (b : ℕ) (e : b ≡ get_or bs at 0) where
    pub marks-one : b < 0x80 → Marks bs at (record { code = b; next = at + 1 })
    marks-one h = marks (at + 1) (get_or bs at 0) _ (omega arith) (omega (arith, at_within bs at k ks A)) (inside_one (omega arith)) e refl

    -- Where the bytes behind the first stand.
    pub second-within : 0x80 ≤ b → at + 1 < length bs
    second-within h =
        by_test (ltb b 0xE0) (λ q. inside-within bs (at + 1) 0 _ _ (inside_two (omega arith) (omega (arith, ltb-true b 0xE0 q))))
        (λ q. by_test (ltb b 0xF0) (λ r. inside-within bs (at + 1) 1 _ _ (inside_three (omega (arith, ltb-false b 0xE0 q)) (omega (arith, ltb-true b 0xF0 r))))
        (λ r. inside-within bs (at + 1) 2 _ _ (inside_four (omega (arith, ltb-false b 0xF0 r)))))

    step-two : at + 1 + 1 ≡ at + 2
    step-two = omega arith

    step-three : at + 2 + 1 ≡ at + 3
    step-three = omega arith

    step-four : at + 3 + 1 ≡ at + 4
    step-four = omega arith

    in_three : 0xE0 ≤ b → b < 0xF0 → Inside bs (at + 2) 1 (get_or bs at 0 % 16 * 64 + get_or bs (at + 1) 0 % 64) (k ∷ ks)
    in_three h l = rw step-two at (inside_more bs (at + 1) 1 _ _ (inside_three (omega arith) (omega arith)))

    in_four : 0xF0 ≤ b → Inside bs (at + 2) 2 (get_or bs at 0 % 8 * 64 + get_or bs (at + 1) 0 % 64) (k ∷ ks)
    in_four h = rw step-two at (inside_more bs (at + 1) 2 _ _ (inside_four (omega arith)))

    in-last : 0xF0 ≤ b → Inside bs (at + 3) 1 ((get_or bs at 0 % 8 * 64 + get_or bs (at + 1) 0 % 64) * 64 + get_or bs (at + 2) 0 % 64) (k ∷ ks)
    in-last h = rw step-three at (inside_more bs (at + 2) 1 _ _ (in_four h))

    pub third-within : 0xE0 ≤ b → at + 2 < length bs
    third-within h =
        by_test (ltb b 0xF0) (λ r. inside-within bs (at + 2) 0 _ _ (in_three h (omega (arith, ltb-true b 0xF0 r))))
        (λ r. inside-within bs (at + 2) 1 _ _ (in_four (omega (arith, ltb-false b 0xF0 r))))

    pub fourth-within : 0xF0 ≤ b → at + 3 < length bs
    fourth-within h = inside-within bs (at + 3) 0 _ _ (in-last h)

    module _ (c : ℕ) (f : c ≡ get_or bs (at + 1) 0) where
      pub marks-two : 0x80 ≤ b → b < 0xE0 → Marks bs at (record { code = b % 32 * 64 + c % 64; next = at + 2 })
      marks-two h l =
          marks (at + 2) (get_or bs at 0 % 32 * 64 + get_or bs (at + 1) 0 % 64) _ (omega arith) (omega (arith, second-within h)) (rw step-two at (inside_more bs (at + 1) 0 _ _ (inside_two (omega arith) (omega arith)))) (rw (e, f)) refl

      module _ (d : ℕ) (g : d ≡ get_or bs (at + 2) 0) where
        pub marks-three : 0xE0 ≤ b → b < 0xF0 → Marks bs at (record { code = (b % 16 * 64 + c % 64) * 64 + d % 64; next = at + 3 })
        marks-three h l =
            marks (at + 3) ((get_or bs at 0 % 16 * 64 + get_or bs (at + 1) 0 % 64) * 64 + get_or bs (at + 2) 0 % 64) _ (omega arith) (omega (arith, third-within h)) (rw step-three at (inside_more bs (at + 2) 0 _ _ (in_three h l))) (rw (e, f, g)) refl

        pub marks-four : (i : ℕ) → i ≡ get_or bs (at + 3) 0 → 0xF0 ≤ b → Marks bs at (record { code = ((b % 8 * 64 + c % 64) * 64 + d % 64) * 64 + i % 64; next = at + 4 })
        marks-four i j h =
            marks (at + 4) (((get_or bs at 0 % 8 * 64 + get_or bs (at + 1) 0 % 64) * 64 + get_or bs (at + 2) 0 % 64) * 64 + get_or bs (at + 3) 0 % 64) _ (omega arith) (omega (arith, fourth-within h)) (rw step-four at (inside_more bs (at + 3) 0 _ _ (in-last h))) (rw (e, f, g, j)) refl

-- A byte of ASCII at an index is the character there.
pub ascii_marks : (bs : List ℕ) (at : ℕ) → Utf8From bs at → at < length bs → get_or bs at 0 < 0x80 → Marks bs at (record { code = get_or bs at 0; next = at + 1 })
ascii_marks bs at U h k =
    let f : First bs at U.chars = first-at bs at U.chars h U.stands in
    marks-one bs at f.char f.behind f.stands (get_or bs at 0) refl k
