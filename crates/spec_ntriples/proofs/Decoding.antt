-- Bytes are UTF-8 exactly where they utf8 scalar values (decode-encode, at the end). Assumes nothing.
use Prim.Native.Nat.{ℕ, suc, ◌+◌, ◌-◌, ◌*◌, ◌/◌, ◌%◌, ◌≤◌, ◌<◌}
use mathlib.Core.Path.{◌≡◌, refl, sym, ap, ◌∙◌}
use mathlib.Core.Bool.{Bool, true, false, cond}
use mathlib.Core.Logic.{◌↔◌, ◌⊎◌, inl, inr, ⊎_elim}
use mathlib.Core.List.{List, [], ◌∷◌, ◌++◌, append_assoc, append-nil, head-eq_of_cons-eq, tail-eq_of_cons-eq}
use native.Mathlib.Omega.{arith}
use lib.Dec.{eqb, leb, ltb}
use borrow.Author.Tests.{ltb-true, ltb-false, leb-true, eqb-true, eqb-false, lt-ltb, le-ltb, le-leb, lt-leb, ne_eqb}
use Rattle.spec.specs.Lists.{all}
use Rattle.spec.proofs.Lists.{cond_elim, by_test}
use Rattle.spec.proofs.Ascending.{and_left, and_right}
use Rattle.spec_ntriples.specs.Utf8.{is_between, is_scalar, encode_char, utf8}
use Rattle.spec_ntriples.specs.computed.Decoded.{Decoded, broken, decoded, with_char, Due, bad, due, first_byte, further_byte, next_byte, no_byte, decode_from, decode}

-- ---- decoded characters

-- Broken bytes have no characters.
broken-not : {C : Type 0} {cs : List ℕ} → broken ≡ decoded cs → C
broken-not e = let z : ◌≡◌ {A = ℕ} 0 1 = cc in absurd (omega arith)

-- No characters are not some.
nil_not : {C : Type 0} {c : ℕ} {cs : List ℕ} → decoded [] ≡ decoded (c ∷ cs) → C
nil_not e = let z : ◌≡◌ {A = ℕ} 0 1 = cc in absurd (omega arith)

nil-cons : {C : Type 0} {c : ℕ} {cs : List ℕ} → [] ≡ c ∷ cs → C
nil-cons e = let z : ◌≡◌ {A = ℕ} 0 1 = cc in absurd (omega arith)

-- What stands behind the first character, and that character.
record Split (v : ℕ) (d : Decoded) (cs : List ℕ) : Type 0 where
  later : List ℕ
  rest : d ≡ decoded later
  same : v ∷ later ≡ cs

split : (v : ℕ) (d : Decoded) (cs : List ℕ) → with_char v d ≡ decoded cs → Split v d cs
unfolding with_char
split v broken cs e = broken-not e
split v (decoded ds) cs e = record { later = ds; rest = refl; same = cc }

-- Behind a whole character others begin.
whole : (bs : List ℕ) (v low high : ℕ) → decode_from bs (due 0 v low high) ≡ with_char v (decode bs)
unfolding decode_from next_byte no_byte with_char decode
whole [] v low high = refl
whole (b ∷ bs) v low high = refl

-- Behind a broken one nothing is read.
bad_from : {C : Type 0} (bs : List ℕ) {cs : List ℕ} → decode_from bs bad ≡ decoded cs → C
unfolding decode_from no_byte next_byte
bad_from [] e = broken-not e
bad_from (b ∷ bs) e = broken-not e

-- Inside a character one more byte stands, within its range.
record Further (bs : List ℕ) (left v low high : ℕ) (cs : List ℕ) : Type 0 where
  byte : ℕ
  behind : List ℕ
  same : bs ≡ byte ∷ behind
  above : low ≤ byte
  below : byte ≤ high
  chars : decode_from behind (due left (v * 64 + (byte - 0x80)) 0x80 0xBF) ≡ decoded cs

further : (bs : List ℕ) (left v low high : ℕ) (cs : List ℕ) → decode_from bs (due (suc left) v low high) ≡ decoded cs → Further bs left v low high cs
unfolding decode_from no_byte next_byte further_byte
further [] left v low high cs e = broken-not e
further (b ∷ bs) left v low high cs e = go (is_between low high b) refl e
  where
    go : (t : Bool) → is_between low high b ≡ t → decode_from bs (cond t (due left (v * 64 + (b - 0x80)) 0x80 0xBF) bad) ≡ decoded cs → Further (b ∷ bs) left v low high cs
    go true q r = record { byte = b; behind = bs; same = refl; above = leb-true low b (and_left _ (leb b high) q); below = leb-true b high (and_right (leb low b) _ q); chars = r }
    go false q r = bad_from bs r

-- The other way: a byte within the range is taken.
taken : (bs : List ℕ) (left v low high b : ℕ) → low ≤ b → b ≤ high → decode_from (b ∷ bs) (due (suc left) v low high) ≡ decode_from bs (due left (v * 64 + (b - 0x80)) 0x80 0xBF)
unfolding decode_from next_byte further_byte
taken bs left v low high b h k = rw (le-leb low b h, le-leb b high k)

-- ---- scalar values

scalar_low : (c : ℕ) → c < 0xD800 → is_scalar c ≡ true
unfolding is_scalar
scalar_low c h = rw (lt-ltb c 0xD800 h)

scalar_high : (c : ℕ) → 0xE000 ≤ c → c ≤ 0x10FFFF → is_scalar c ≡ true
unfolding is_scalar
scalar_high c h k = rw (le-ltb c 0xD800 (omega arith), le-leb 0xE000 c h, le-leb c 0x10FFFF k)

-- A scalar value is below the surrogates or above them.
pub scalar_cases : (c : ℕ) → is_scalar c ≡ true → (c < 0xD800) ⊎ ((0xE000 ≤ c) × (c ≤ 0x10FFFF))
unfolding is_scalar
scalar_cases c e =
    by_test (ltb c 0xD800) (λ p. inl (ltb-true c 0xD800 p))
    (λ p. let q : is_between 0xE000 0x10FFFF c ≡ true = rw p at e in inr (leb-true 0xE000 c (and_left _ (leb c 0x10FFFF) q), leb-true c 0x10FFFF (and_right (leb 0xE000 c) _ q)))

-- ---- the bytes of a character, by their number

one_byte : (c : ℕ) → c < 0x80 → encode_char c ≡ c ∷ []
unfolding encode_char
one_byte c h = rw (lt-ltb c 0x80 h)

two_bytes : (c : ℕ) → 0x80 ≤ c → c < 0x800 → encode_char c ≡ (0xC0 + c / 64) ∷ (0x80 + c % 64) ∷ []
unfolding encode_char
two_bytes c h k = rw (le-ltb c 0x80 h, lt-ltb c 0x800 k)

three_bytes : (c : ℕ) → 0x800 ≤ c → c < 0x10000 → encode_char c ≡ (0xE0 + c / 4096) ∷ (0x80 + c / 64 % 64) ∷ (0x80 + c % 64) ∷ []
unfolding encode_char
three_bytes c h k = rw (le-ltb c 0x80 (omega arith), le-ltb c 0x800 h, lt-ltb c 0x10000 k)

four_bytes : (c : ℕ) → 0x10000 ≤ c → encode_char c ≡ (0xF0 + c / 262144) ∷ (0x80 + c / 4096 % 64) ∷ (0x80 + c / 64 % 64) ∷ (0x80 + c % 64) ∷ []
unfolding encode_char
four_bytes c h = rw (le-ltb c 0x80 (omega arith), le-ltb c 0x800 (omega arith), le-ltb c 0x10000 h)

-- ---- what the first byte leaves due

first_one : (b : ℕ) → b < 0x80 → first_byte b ≡ due 0 b 0 0
unfolding first_byte
first_one b h = rw (lt-ltb b 0x80 h)

first_two : (b : ℕ) → 0xC2 ≤ b → b ≤ 0xDF → first_byte b ≡ due 1 (b - 0xC0) 0x80 0xBF
unfolding first_byte
first_two b h k = rw (le-ltb b 0x80 (omega arith), le-leb 0xC2 b h, le-leb b 0xDF k)

first_three : (b : ℕ) → 0xE0 < b → b ≤ 0xEF → (b ≡ 0xED → ⊥) → first_byte b ≡ due 2 (b - 0xE0) 0x80 0xBF
unfolding first_byte
first_three b h k n =
    rw (le-ltb b 0x80 (omega arith), le-leb 0xC2 b (omega arith), lt-leb b 0xDF (omega arith), ne_eqb b 0xE0 (λ x. omega arith), ne_eqb b 0xED n, le-leb 0xE1 b (omega arith), le-leb b 0xEF k)

first_four : (b : ℕ) → 0xF0 < b → b < 0xF4 → first_byte b ≡ due 3 (b - 0xF0) 0x80 0xBF
unfolding first_byte
first_four b h k =
    rw (le-ltb b 0x80 (omega arith), le-leb 0xC2 b (omega arith), lt-leb b 0xDF (omega arith), ne_eqb b 0xE0 (λ x. omega arith), ne_eqb b 0xED (λ x. omega arith), le-leb 0xE1 b (omega arith), lt-leb b 0xEF (omega arith), ne_eqb b 0xF0 (λ x. omega arith), le-leb 0xF1 b (omega arith), le-leb b 0xF3 (omega arith))

-- Two numbers are the same or not.
eq_or : (a b : ℕ) → (a ≡ b) ⊎ (a ≡ b → ⊥)
eq_or a b = by_test (eqb a b) (λ p. inl (eqb-true a b p)) (λ p. inr (eqb-false a b p))

-- A first byte, by what it leaves due.
record Surrogates (v low high : ℕ) : Type 0 where
  lowest : 0x80 ≤ low
  highest : high ≤ 0xBF
  most : v < 16
  right : (d : ℕ) → low ≤ d → d ≤ high → (32 ≤ v * 64 + (d - 0x80)) × ((v * 64 + (d - 0x80) < 864) ⊎ (896 ≤ v * 64 + (d - 0x80)))

record Planes (v low high : ℕ) : Type 0 where
  lowest : 0x80 ≤ low
  highest : high ≤ 0xBF
  right : (d : ℕ) → low ≤ d → d ≤ high → (16 ≤ v * 64 + (d - 0x80)) × (v * 64 + (d - 0x80) < 272)

data Lead (b : ℕ) : Due → Type 0 where
  one : b < 0x80 → Lead b (due 0 b 0 0)
  two : 0xC2 ≤ b → b ≤ 0xDF → Lead b (due 1 (b - 0xC0) 0x80 0xBF)
  three : (v low high : ℕ) → b ≡ 0xE0 + v → Surrogates v low high → Lead b (due 2 v low high)
  four : (v low high : ℕ) → b ≡ 0xF0 + v → Planes v low high → Lead b (due 3 v low high)
  none : Lead b bad

lead : (b : ℕ) → Lead b (first_byte b)
unfolding first_byte
lead b =
    cond_elim (Lead b) (ltb b 0x80) (λ p. one (ltb-true b 0x80 p))
    (λ p. cond_elim (Lead b) (is_between 0xC2 0xDF b) (λ q. two (leb-true 0xC2 b (and_left _ (leb b 0xDF) q)) (leb-true b 0xDF (and_right (leb 0xC2 b) _ q)))
    (λ q. cond_elim (Lead b) (eqb b 0xE0) (λ r. three 0 0xA0 0xBF (omega (arith, eqb-true b 0xE0 r)) (record { lowest = omega arith; highest = omega arith; most = omega arith; right = λ d h k. (omega arith, inl (omega arith)) }))
    (λ r. cond_elim (Lead b) (eqb b 0xED) (λ s. three 13 0x80 0x9F (omega (arith, eqb-true b 0xED s)) (record { lowest = omega arith; highest = omega arith; most = omega arith; right = λ d h k. (omega arith, inl (omega arith)) }))
    (λ s. cond_elim (Lead b) (is_between 0xE1 0xEF b) (λ t. middle (leb-true 0xE1 b (and_left _ (leb b 0xEF) t)) (leb-true b 0xEF (and_right (leb 0xE1 b) _ t)) (eqb-false b 0xED s))
    (λ t. cond_elim (Lead b) (eqb b 0xF0) (λ u. four 0 0x90 0xBF (omega (arith, eqb-true b 0xF0 u)) (record { lowest = omega arith; highest = omega arith; right = λ d h k. (omega arith, omega arith) }))
    (λ u. cond_elim (Lead b) (is_between 0xF1 0xF3 b) (λ x. planes (leb-true 0xF1 b (and_left _ (leb b 0xF3) x)) (leb-true b 0xF3 (and_right (leb 0xF1 b) _ x)))
    (λ x. cond_elim (Lead b) (eqb b 0xF4) (λ y. four 4 0x80 0x8F (omega (arith, eqb-true b 0xF4 y)) (record { lowest = omega arith; highest = omega arith; right = λ d h k. (omega arith, omega arith) }))
    (λ y. none))))))))
  where
    middle : 0xE1 ≤ b → b ≤ 0xEF → (b ≡ 0xED → ⊥) → Lead b (due 2 (b - 0xE0) 0x80 0xBF)
    middle h k n =
        by_test (ltb b 0xED)
        (λ p. three (b - 0xE0) 0x80 0xBF (omega arith) (record { lowest = omega arith; highest = omega arith; most = omega arith; right = λ d i j. (omega arith, inl (omega (arith, ltb-true b 0xED p))) }))
        (λ p. three (b - 0xE0) 0x80 0xBF (omega arith) (record { lowest = omega arith; highest = omega arith; most = omega arith; right = λ d i j. (omega arith, inr (omega (arith, ltb-false b 0xED p))) }))

    planes : 0xF1 ≤ b → b ≤ 0xF3 → Lead b (due 3 (b - 0xF0) 0x80 0xBF)
    planes h k = four (b - 0xF0) 0x80 0xBF (omega arith) (record { lowest = omega arith; highest = omega arith; right = λ d i j. (omega arith, omega arith) })

-- ---- the first character of bytes

-- Bytes begin with those of a scalar value, and characters follow.
record First (bs : List ℕ) (cs : List ℕ) : Type 0 where
  char : ℕ
  behind : List ℕ
  later : List ℕ
  scalar : is_scalar char ≡ true
  bytes : bs ≡ encode_char char ++ behind
  rest : decode behind ≡ decoded later
  same : char ∷ later ≡ cs

-- Where nothing is due any more.
finish : (bs behind cs : List ℕ) (v low high : ℕ) → decode_from behind (due 0 v low high) ≡ decoded cs → is_scalar v ≡ true → bs ≡ encode_char v ++ behind → First bs cs
finish bs behind cs v low high e s h =
    let d = split v (decode behind) cs (sym (whole behind v low high) ∙ e) in
    record { char = v; behind = behind; later = d.later; scalar = s; bytes = h; rest = d.rest; same = d.same }

open_two : (b : ℕ) (bs cs : List ℕ) → 0xC2 ≤ b → b ≤ 0xDF → decode_from bs (due 1 (b - 0xC0) 0x80 0xBF) ≡ decoded cs → First (b ∷ bs) cs
open_two b bs cs h k e =
    let f = further bs 0 (b - 0xC0) 0x80 0xBF cs e in
    let c = (b - 0xC0) * 64 + (f.byte - 0x80) in
    let p : 0xC0 + c / 64 ≡ b = omega (arith, f.above, f.below) in
    let q : 0x80 + c % 64 ≡ f.byte = omega (arith, f.above, f.below) in
    finish (b ∷ bs) f.behind cs c 0x80 0xBF f.chars (scalar_low c (omega (arith, f.below)))
    (rw (two_bytes c (omega arith) (omega (arith, f.below)), p, q, ← f.same))

open_three : (b : ℕ) (bs cs : List ℕ) (v low high : ℕ) → b ≡ 0xE0 + v → Surrogates v low high → decode_from bs (due 2 v low high) ≡ decoded cs → First (b ∷ bs) cs
open_three b bs cs v low high h s e =
    let f = further bs 1 v low high cs e in
    let g = further f.behind 0 (v * 64 + (f.byte - 0x80)) 0x80 0xBF cs f.chars in
    let c = (v * 64 + (f.byte - 0x80)) * 64 + (g.byte - 0x80) in
    let r = s.right f.byte f.above f.below in
    let l : 0x80 ≤ f.byte = omega (arith, s.lowest, f.above) in
    let m : f.byte ≤ 0xBF = omega (arith, s.highest, f.below) in
    let o : 0xE0 + c / 4096 ≡ b = omega (arith, l, m, g.above, g.below, h) in
    let p : 0x80 + c / 64 % 64 ≡ f.byte = omega (arith, l, m, g.above, g.below) in
    let q : 0x80 + c % 64 ≡ g.byte = omega (arith, g.above, g.below) in
    finish (b ∷ bs) g.behind cs c 0x80 0xBF g.chars
    (⊎_elim (λ (x : v * 64 + (f.byte - 0x80) < 864). scalar_low c (omega (arith, x, g.below))) (λ (x : 896 ≤ v * 64 + (f.byte - 0x80)). scalar_high c (omega (arith, x)) (omega (arith, m, s.most, g.below))) r.1)
    (rw (three_bytes c (omega (arith, r.0)) (omega (arith, m, s.most, g.below)), o, p, q, ← g.same, ← f.same))

-- The digits to base 64 of a number of four.
digit_four : (v x y z : ℕ) → x < 64 → y < 64 → z < 64 → ((((v * 64 + x) * 64 + y) * 64 + z) / 262144 ≡ v) × ((((v * 64 + x) * 64 + y) * 64 + z) / 4096 % 64 ≡ x) × ((((v * 64 + x) * 64 + y) * 64 + z) / 64 % 64 ≡ y)
digit_four v x y z h k l = (omega arith, omega arith, omega arith)

open_four : (b : ℕ) (bs cs : List ℕ) (v low high : ℕ) → b ≡ 0xF0 + v → Planes v low high → decode_from bs (due 3 v low high) ≡ decoded cs → First (b ∷ bs) cs
open_four b bs cs v low high h s e =
    let f = further bs 2 v low high cs e in
    let g = further f.behind 1 (v * 64 + (f.byte - 0x80)) 0x80 0xBF cs f.chars in
    let w = (v * 64 + (f.byte - 0x80)) * 64 + (g.byte - 0x80) in
    let i = further g.behind 0 w 0x80 0xBF cs g.chars in
    let c = w * 64 + (i.byte - 0x80) in
    let r = s.right f.byte f.above f.below in
    let l : 0x80 ≤ f.byte = omega (arith, s.lowest, f.above) in
    let m : f.byte ≤ 0xBF = omega (arith, s.highest, f.below) in
    let t = digit_four v (f.byte - 0x80) (g.byte - 0x80) (i.byte - 0x80) (omega (arith, m)) (omega (arith, g.below)) (omega (arith, i.below)) in
    let n : 0xF0 + c / 262144 ≡ b = omega (arith, t.0, h) in
    let o : 0x80 + c / 4096 % 64 ≡ f.byte = omega (arith, t.1, l) in
    let p : 0x80 + c / 64 % 64 ≡ g.byte = omega (arith, t.2, g.above) in
    let q : 0x80 + c % 64 ≡ i.byte = omega (arith, i.above, i.below) in
    finish (b ∷ bs) i.behind cs c 0x80 0xBF i.chars
    (scalar_high c (omega (arith, r.0)) (omega (arith, r.1, g.below, i.below)))
    (rw (four_bytes c (omega (arith, r.0)), n, o, p, q, ← i.same, ← g.same, ← f.same))

opened : (b : ℕ) (bs cs : List ℕ) (d : Due) → Lead b d → decode_from bs d ≡ decoded cs → First (b ∷ bs) cs
opened b bs cs d (one h) e = finish (b ∷ bs) bs cs b 0 0 e (scalar_low b (omega arith)) (rw (one_byte b h))
opened b bs cs d (two h k) e = open_two b bs cs h k e
opened b bs cs d (three v low high h s) e = open_three b bs cs v low high h s e
opened b bs cs d (four v low high h s) e = open_four b bs cs v low high h s e
opened b bs cs d none e = bad_from bs e

first : (b : ℕ) (bs cs : List ℕ) → decode (b ∷ bs) ≡ decoded cs → First (b ∷ bs) cs
unfolding decode
first b bs cs e = opened b bs cs (first_byte b) (lead b) e

-- ---- the other way

read_two : (b d c : ℕ) (r : List ℕ) → 0xC2 ≤ b → b ≤ 0xDF → 0x80 ≤ d → d ≤ 0xBF → (b - 0xC0) * 64 + (d - 0x80) ≡ c → decode (b ∷ d ∷ r) ≡ with_char c (decode r)
unfolding decode
read_two b d c r h k l m e = rw (first_two b h k, taken r 0 (b - 0xC0) 0x80 0xBF d l m, whole r _ 0x80 0xBF, e)

read_three : (v low high d e c : ℕ) (r : List ℕ) → low ≤ d → d ≤ high → 0x80 ≤ e → e ≤ 0xBF → (v * 64 + (d - 0x80)) * 64 + (e - 0x80) ≡ c → decode_from (d ∷ e ∷ r) (due 2 v low high) ≡ with_char c (decode r)
read_three v low high d e c r h k l m q = rw (taken (e ∷ r) 1 v low high d h k, taken r 0 (v * 64 + (d - 0x80)) 0x80 0xBF e l m, whole r _ 0x80 0xBF, q)

read_four : (v low high d e f c : ℕ) (r : List ℕ) → low ≤ d → d ≤ high → 0x80 ≤ e → e ≤ 0xBF → 0x80 ≤ f → f ≤ 0xBF → ((v * 64 + (d - 0x80)) * 64 + (e - 0x80)) * 64 + (f - 0x80) ≡ c → decode_from (d ∷ e ∷ f ∷ r) (due 3 v low high) ≡ with_char c (decode r)
read_four v low high d e f c r h k l m n o q =
    rw (taken (e ∷ f ∷ r) 2 v low high d h k, read_three (v * 64 + (d - 0x80)) 0x80 0xBF e f c r l m n o q)

decode_three : (c : ℕ) (r : List ℕ) → 0x800 ≤ c → c < 0x10000 → (c < 0xD800) ⊎ (0xE000 ≤ c) → decode (encode_char c ++ r) ≡ with_char c (decode r)
unfolding decode first_byte
decode_three c r h k s =
    let b = 0xE0 + c / 4096 in
    let d = 0x80 + c / 64 % 64 in
    let e = 0x80 + c % 64 in
    rw (three_bytes c h k)
    (⊎_elim
    (λ (p : b ≡ 0xE0). rw p (read_three 0 0xA0 0xBF d e c r (omega (arith, p)) (omega arith) (omega arith) (omega arith) (omega (arith, p))))
    (λ (p : b ≡ 0xE0 → ⊥). ⊎_elim
    (λ (q : b ≡ 0xED). rw q (read_three 13 0x80 0x9F d e c r (omega arith) (⊎_elim (λ (x : c < 0xD800). omega (arith, x, q)) (λ (x : 0xE000 ≤ c). omega (arith, x, q)) s) (omega arith) (omega arith) (omega (arith, q))))
    (λ (q : b ≡ 0xED → ⊥). ap (decode_from (d ∷ e ∷ r)) (first_three b (omega (arith, p)) (omega arith) q) ∙ read_three (b - 0xE0) 0x80 0xBF d e c r (omega arith) (omega arith) (omega arith) (omega arith) (omega arith))
    (eq_or b 0xED))
    (eq_or b 0xE0))

sum_four : (c v : ℕ) → c / 262144 ≡ v → ((v * 64 + (0x80 + c / 4096 % 64 - 0x80)) * 64 + (0x80 + c / 64 % 64 - 0x80)) * 64 + (0x80 + c % 64 - 0x80) ≡ c
sum_four c v e =
    let p : c / 4096 ≡ c / 262144 * 64 + c / 4096 % 64 = omega arith in
    let q : c / 64 ≡ c / 4096 * 64 + c / 64 % 64 = omega arith in
    let r : c ≡ c / 64 * 64 + c % 64 = omega arith in
    let x : 0x80 + c / 4096 % 64 - 0x80 ≡ c / 4096 % 64 = omega arith in
    let y : 0x80 + c / 64 % 64 - 0x80 ≡ c / 64 % 64 = omega arith in
    let z : 0x80 + c % 64 - 0x80 ≡ c % 64 = omega arith in
    rw (x, y, z, ← e, ← p, ← q) (sym r)

decode_four : (c : ℕ) (r : List ℕ) → 0x10000 ≤ c → c ≤ 0x10FFFF → decode (encode_char c ++ r) ≡ with_char c (decode r)
unfolding decode first_byte
decode_four c r h k =
    let b = 0xF0 + c / 262144 in
    let d = 0x80 + c / 4096 % 64 in
    let e = 0x80 + c / 64 % 64 in
    let f = 0x80 + c % 64 in
    rw (four_bytes c h)
    (⊎_elim
    (λ (p : b ≡ 0xF0). rw p (read_four 0 0x90 0xBF d e f c r (omega (arith, p)) (omega arith) (omega arith) (omega arith) (omega arith) (omega arith) (sum_four c 0 (omega (arith, p)))))
    (λ (p : b ≡ 0xF0 → ⊥). ⊎_elim
    (λ (q : b ≡ 0xF4). rw q (read_four 4 0x80 0x8F d e f c r (omega arith) (omega (arith, q, k)) (omega arith) (omega arith) (omega arith) (omega arith) (sum_four c 4 (omega (arith, q)))))
    (λ (q : b ≡ 0xF4 → ⊥). ap (decode_from (d ∷ e ∷ f ∷ r)) (first_four b (omega (arith, p)) (omega (arith, q))) ∙ read_four (b - 0xF0) 0x80 0xBF d e f c r (omega arith) (omega arith) (omega arith) (omega arith) (omega arith) (omega arith) (sum_four c (b - 0xF0) (omega arith)))
    (eq_or b 0xF4))
    (eq_or b 0xF0))

-- The bytes of a scalar value, read, are that value.
pub decode_char : (c : ℕ) (r : List ℕ) → is_scalar c ≡ true → decode (encode_char c ++ r) ≡ with_char c (decode r)
unfolding decode
decode_char c r s =
    by_test (ltb c 0x80)
    (λ p. rw (one_byte c (ltb-true c 0x80 p), first_one c (ltb-true c 0x80 p)) (whole r c 0 0))
    (λ p. by_test (ltb c 0x800)
    (λ q. rw (two_bytes c (ltb-false c 0x80 p) (ltb-true c 0x800 q)) (read_two (0xC0 + c / 64) (0x80 + c % 64) c r (omega (arith, ltb-false c 0x80 p)) (omega (arith, ltb-true c 0x800 q)) (omega arith) (omega arith) (omega arith)))
    (λ q. by_test (ltb c 0x10000)
    (λ t. decode_three c r (ltb-false c 0x800 q) (ltb-true c 0x10000 t) (⊎_elim (λ x. inl x) (λ x. inr x.0) (scalar_cases c s)))
    (λ t. decode_four c r (ltb-false c 0x10000 t) (⊎_elim (λ (x : c < 0xD800). omega (arith, x)) (λ x. x.1) (scalar_cases c s)))))

-- ---- the theorem

-- Characters that were encoded are read again, whatever bytes follow.
pub decode-append : (cs bs ds : List ℕ) → all is_scalar cs ≡ true → decode bs ≡ decoded ds → decode (utf8 cs ++ bs) ≡ decoded (cs ++ ds)
unfolding utf8 all with_char
decode-append [] bs ds s e = e
decode-append (c ∷ cs) bs ds s e =
    rw (append_assoc (encode_char c) (utf8 cs) bs, decode_char c (utf8 cs ++ bs) (and_left _ (all is_scalar cs) s), decode-append cs bs ds (and_right (is_scalar c) _ s) e)

-- Bytes that are read are those of the characters, which are scalar values.
pub decoded-encode : (cs bs : List ℕ) → decode bs ≡ decoded cs → (all is_scalar cs ≡ true) × (bs ≡ utf8 cs)
unfolding decode all utf8
decoded-encode [] [] e = (refl, refl)
decoded-encode [] (b ∷ bs) e = let f = first b bs [] e in nil-cons (sym f.same)
decoded-encode (c ∷ cs) [] e = nil_not e
decoded-encode (c ∷ cs) (b ∷ bs) e =
    let f = first b bs (c ∷ cs) e in
    let p : f.char ≡ c = head-eq_of_cons-eq f.same in
    let q : f.later ≡ cs = tail-eq_of_cons-eq f.same in
    let r = decoded-encode cs f.behind (f.rest ∙ ap decoded q) in
    (rw (← p, f.scalar) r.0, f.bytes ∙ rw (p, r.1))

-- Bytes are the UTF-8 of characters exactly where these are Unicode scalar values and the bytes are their encoding.
pub decode-encode : (bs cs : List ℕ) → (decode bs ≡ decoded cs) ↔ ((all is_scalar cs ≡ true) × (bs ≡ utf8 cs))
unfolding decode
decode-encode bs cs =
    (decoded-encode cs bs, λ h. rw h.1 (rw (append-nil (utf8 cs), append-nil cs) at (decode-append cs [] [] h.0 refl)))
