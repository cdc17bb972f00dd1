-- Laws of readers that stand at indices of a line. Assumes nothing.
use Prim.Native.Nat.{ℕ, zero, suc, ◌+◌, ◌-◌, ◌*◌, ◌^◌, ◌≤◌, ◌<◌}
use Prim.Native.Char.{code}
use mathlib.Core.Path.{◌≡◌, refl, sym, ap, ◌∙◌}
use mathlib.Core.Bool.{Bool, true, false, ◌&&◌, ◌||◌, not}
use mathlib.Core.List.{List, [], ◌∷◌}
use native.Mathlib.Nat.{pow-suc, pow-le-pow_right, lt_of_lt_of_le}
use native.Mathlib.Numerals.{add-one}
use native.Mathlib.Omega.{arith}
use lib.Dec.{eqb, ltb}
use lib.ListN.{length}
use borrow.Author.Tests.{ne_eqb, eqb-true, ltb-true}
use Rattle.spec_ntriples.specs.Utf8.{is_scalar, encode_char}
use Rattle.spec_ntriples.specs.Characters.{codes, is_one_of, is_iri_char, is_string_char, hex_value, no_char, echar}
use Rattle.spec_ntriples.specs.computed.Terminals.{State, outside, slash, digits, Step, breaks, Got, none, got, push, digit, hex_step, iri_step, string_step, after_step, scan}
use Rattle.spec_ntriples.specs.Texts.{canonical_char}
use Rattle.ntriples_bytes.specs.inside.Places.{At, Utf8From, Marks}
use Rattle.ntriples_bytes.specs.declared.Mark.{Mark}
use Rattle.ntriples_bytes.proofs.Decoding.{at_same, some_at, at_within}
use Rattle.ntriples_bytes.proofs.Marking.{by_test, and_left, and_right, between}
use Rattle.ntriples_cursor.specs.inside.Readers.{IsReader, Reads, NotClosed, Gives, DigitsDue}
use Rattle.ntriples_cursor.proofs.Widths.{width_one, width_most, next_place, char_small}

-- ---- what was read

-- Nothing was not something.
pub none-not : {C : Type 0} {ds rest : List ℕ} → none ≡ got ds rest → C
none-not e = let z : ◌≡◌ {A = ℕ} 0 1 = cc in absurd (omega arith)

-- What was read behind the first character.
pub record Pushed (c : ℕ) (g : Got) (ds rest : List ℕ) : Type 0 where
  pub later : List ℕ
  pub same : ds ≡ c ∷ later
  pub reads : g ≡ got later rest

pub pushed : (c : ℕ) (g : Got) (ds rest : List ℕ) → push c g ≡ got ds rest → Pushed c g ds rest
unfolding push
pushed c none ds rest e = none-not e
pushed c (got es r) ds rest e = record { later = es; same = cc; reads = cc }

-- ---- canonical characters

-- The canonical bytes of a character are at most four, and at most two where its own are one.
canonical_escaped : (c n : ℕ) → 2 ≤ n → length (encode_char c) ≤ n → length (canonical_char c) ≤ n
unfolding canonical_char codes
canonical_escaped c n h k =
    by_test (eqb c 0x22) (λ q. rw q h)
    (λ q. rw q (by_test (eqb c 0x5C) (λ r. rw r h)
    (λ r. rw r (by_test (eqb c 0x0A) (λ s. rw s h)
    (λ s. rw s (by_test (eqb c 0x0D) (λ t. rw t h) (λ t. rw t k)))))))

pub canonical_most : (c : ℕ) → length (canonical_char c) ≤ 4
canonical_most c = canonical_escaped c 4 (omega arith) (width_most c)

canonical_two : (c : ℕ) → c ≤ 0x7F → length (canonical_char c) ≤ 2
canonical_two c h = canonical_escaped c 2 (omega arith) (omega (arith, width_one c h))

-- They are no fewer than its own.
pub encode_canonical : (c : ℕ) → length (encode_char c) ≤ length (canonical_char c)
unfolding canonical_char codes
encode_canonical c =
    by_test (eqb c 0x22) (λ q. rw q (omega (arith, width_one c (omega (arith, eqb-true c 0x22 q)))))
    (λ q. rw q (by_test (eqb c 0x5C) (λ r. rw r (omega (arith, width_one c (omega (arith, eqb-true c 0x5C r)))))
    (λ r. rw r (by_test (eqb c 0x0A) (λ s. rw s (omega (arith, width_one c (omega (arith, eqb-true c 0x0A s)))))
    (λ s. rw s (by_test (eqb c 0x0D) (λ t. rw t (omega (arith, width_one c (omega (arith, eqb-true c 0x0D t))))) (λ t. rw t (omega arith))))))))

-- A letter behind a backslash stands for a character of ASCII.
letter_ascii : (c : ℕ) → echar c < no_char → echar c ≤ 0x7F
unfolding echar is_one_of codes
letter_ascii c =
    by_test (eqb c 0x74) (λ q. rw q (λ h. omega arith))
    (λ q. rw q (by_test (eqb c 0x62) (λ r. rw r (λ h. omega arith))
    (λ r. rw r (by_test (eqb c 0x6E) (λ s. rw s (λ h. omega arith))
    (λ s. rw s (by_test (eqb c 0x72) (λ t. rw t (λ h. omega arith))
    (λ t. rw t (by_test (eqb c 0x66) (λ u. rw u (λ h. omega arith))
    (λ u. rw u (by_test (eqb c 0x22) (λ v. rw v (λ h. omega (arith, eqb-true c 0x22 v)))
    (λ v. rw v (by_test (eqb c 0x27) (λ w. rw w (λ h. omega (arith, eqb-true c 0x27 w)))
    (λ w. rw w (by_test (eqb c 0x5C) (λ x. rw x (λ h. omega (arith, eqb-true c 0x5C x))) (λ x. rw x (λ h. omega arith))))))))))))))))

-- ---- a reader at an index

module _ (line : List ℕ) (at : ℕ) (step : State → ℕ → Step) (s : State) (ds rest : List ℕ) (R : Reads line at step s ds rest) where
  -- It stands at a character.
  pub reads-within : at < length line
  unfolding scan
  reads-within = go R.chars R.stands R.scans
    where
      go : (cs : List ℕ) → At line at cs → scan step s cs ≡ got ds rest → at < length line
      go [] A e = none-not e
      go (c ∷ cs) A e = at_within line at c cs A

  pub reads-utf8 : Utf8From line at
  reads-utf8 = some_at R.stands

  -- What the character does there.
  pub reads_step : (m : Mark) (M : Marks line at m) → after_step (step s m.code) M.behind (λ s'. scan step s' M.behind) ≡ got ds rest
  unfolding scan
  reads_step m M = rw (at_same line at R.chars (m.code ∷ M.behind) R.stands M.stands) at R.scans

-- ---- digits

scalar_small : (v : ℕ) → is_scalar v ≡ true → v < 0x200000
unfolding is_scalar
scalar_small v e = by_test (ltb v 0xD800) (λ q. omega (arith, ltb-true v 0xD800 q)) (λ q. let r = between 0xE000 v 0x10FFFF (rw q at e) in omega (arith, r))

module _ (line : List ℕ) (step : State → ℕ → Step) (close : ℕ) (R : IsReader step close) (ds rest : List ℕ) where
  -- The last digit gives a character.
  digit_last : (allowed : ℕ → Bool) (v at : ℕ) (cs : List ℕ) → At line at cs → after_step (digit allowed 0 v) cs (λ s'. scan step s' cs) ≡ got ds rest → DigitsDue line at step 0 v ds rest
  unfolding digit after_step
  digit_last allowed v at cs A e =
      by_test (is_scalar v && allowed v)
      (λ q.
      let P = pushed v (scan step outside cs) ds rest (rw q at e) in
      record { later = P.later; same = P.same; reads = record { chars = cs; stands = A; scans = P.reads }; small = scalar_small v (and_left (is_scalar v) (allowed v) q) })
      (λ q. none-not (rw q at e))

  digit_more : (allowed : ℕ → Bool) (left v at : ℕ) (cs : List ℕ) → At line at cs → after_step (digit allowed left v) cs (λ s'. scan step s' cs) ≡ got ds rest → DigitsDue line at step left v ds rest
  unfolding digit after_step
  digit_more allowed zero v at cs A e = digit_last allowed v at cs A e
  digit_more allowed (suc left) v at cs A e = record { chars = cs; stands = A; scans = e }

  hex_step_lem : (left v : ℕ) (at : ℕ) (m : Mark) (M : Marks line at m) → Reads line at step (digits (suc left) v) ds rest
      → (hex_value m.code < 16) × DigitsDue line m.next step left (v * 16 + hex_value m.code) ds rest
  unfolding hex_step after_step
  hex_step_lem left v at m M D =
      let e = rw (R.number (suc left) v m.code) at (reads_step line at step (digits (suc left) v) ds rest D m M) in
      by_test (ltb (hex_value m.code) 16)
      (λ q. (ltb-true (hex_value m.code) 16 q, digit_more R.allowed left (v * 16 + hex_value m.code) m.next M.behind M.rest (rw q at e)))
      (λ q. none-not (rw q at e))

  -- A digit of an escape's number.
  pub digits_step : (left v : ℕ) (at : ℕ) (m : Mark) (M : Marks line at m) → 0 < left → DigitsDue line at step left v ds rest
      → (hex_value m.code < 16) × DigitsDue line m.next step (left - 1) (v * 16 + hex_value m.code) ds rest
  digits_step zero v at m M h D = absurd (omega arith)
  digits_step (suc left) v at m M h D = let e : suc left - 1 ≡ left = omega arith in rw e (hex_step_lem left v at m M D)

  -- Where one is due, a reader stands at it.
  pub digits_reads : (left v at : ℕ) → 0 < left → DigitsDue line at step left v ds rest → Reads line at step (digits left v) ds rest
  digits_reads zero v at h D = absurd (omega arith)
  digits_reads (suc left) v at h D = D

  -- No digit is due any more.
  pub digits_end : (left v at from : ℕ) → left ≤ 0 → DigitsDue line at step left v ds rest → from + 4 ≤ at → Gives line from 0 step ds rest (record { code = v; next = at })
  digits_end zero v at from h D k = record { later = D.later; same = D.same; reads = D.reads; small = D.small; room = omega (arith, canonical_most v) }
  digits_end (suc left) v at from h D k = absurd (omega arith)

-- All digits are due.
pub digits_first : (line : List ℕ) (step : State → ℕ → Step) (ds rest : List ℕ) (n at : ℕ) → 0 < n → Reads line at step (digits n 0) ds rest → DigitsDue line at step n 0 ds rest
digits_first line step ds rest zero at h D = absurd (omega arith)
digits_first line step ds rest (suc n) at h D = D

-- Numbers of at most eight digits have 32 bits.
pub value_more : (n v d : ℕ) → d < 16 → v < 16 ^ n → v * 16 + d < 16 ^ (n + 1)
value_more n v d k b = rw (add-one n, pow-suc 16 n) (omega arith)

pub value_fits : (n v : ℕ) → n ≤ 7 → v < 16 ^ n → v < 16 ^ 7
value_fits n v l b = lt_of_lt_of_le b (pow-le-pow_right (omega arith) l)

-- ---- escapes

module _ (line : List ℕ) (step : State → ℕ → Step) (close : ℕ) (R : IsReader step close) (ds rest : List ℕ) (at : ℕ) (m : Mark) (M : Marks line at m) where
  -- Behind a backslash.
  module _ (D : Reads line at step slash ds rest) where
    pub slash-short : m.code ≡ 0x75 → Reads line m.next step (digits 4 0) ds rest
    unfolding after_step
    slash-short e = record { chars = M.behind; stands = M.rest; scans = rw (e, R.short) at (reads_step line at step slash ds rest D m M) }

    pub slash_long : m.code ≡ 0x55 → Reads line m.next step (digits 8 0) ds rest
    unfolding after_step
    slash_long e = record { chars = M.behind; stands = M.rest; scans = rw (e, R.long) at (reads_step line at step slash ds rest D m M) }

    slash-sound : step slash m.code ≡ breaks → ⊥
    unfolding after_step
    slash-sound e = none-not (rw e at (reads_step line at step slash ds rest D m M))

    pub slash-letter : (m.code ≡ 0x75 → ⊥) → (m.code ≡ 0x55 → ⊥) → (c : ℕ) → c ≡ echar m.code → Gives line at 1 step ds rest (record { code = c; next = m.next })
    unfolding after_step
    slash-letter h k c e =
        let L = R.letter m.code h k slash-sound in
        let P = pushed (echar m.code) (scan step outside M.behind) ds rest (rw L.0 at (reads_step line at step slash ds rest D m M)) in
        record { later = P.later; same = P.same ∙ ap (λ (x : ℕ). x ∷ P.later) (sym e); reads = record { chars = M.behind; stands = M.rest; scans = P.reads }; small = omega (arith, L.1); room = omega (arith, M.after, canonical_two c (omega (arith, letter_ascii m.code L.1))) }

  -- Outside an escape.
  module _ (D : Reads line at step outside ds rest) where
    pub outside-escape : m.code ≡ 0x5C → Reads line m.next step slash ds rest
    unfolding after_step
    outside-escape e = record { chars = M.behind; stands = M.rest; scans = rw (e, R.escapes) at (reads_step line at step outside ds rest D m M) }

    pub outside-sound : step outside m.code ≡ breaks → ⊥
    unfolding after_step
    outside-sound e = none-not (rw e at (reads_step line at step outside ds rest D m M))

    pub outside-plain : NotClosed line at close → (m.code ≡ 0x5C → ⊥) → Gives line at 0 step ds rest m
    unfolding after_step
    outside-plain n h =
        let L = R.plain m.code (λ e. n M.behind (rw e at M.stands)) h outside-sound in
        let P = pushed m.code (scan step outside M.behind) ds rest (rw L.0 at (reads_step line at step outside ds rest D m M)) in
        record { later = P.later; same = P.same; reads = record { chars = M.behind; stands = M.rest; scans = P.reads }; small = char_small line at m.code M.behind M.stands; room = omega (arith, next_place line at m.next m.code M.behind M.stands M.rest, ap length L.1) }

    -- At the character that closes: none is left to give.
    pub outside-closed : m.code ≡ close → (ds ≡ []) × (M.behind ≡ rest)
    unfolding after_step
    outside-closed e = let z : got [] M.behind ≡ got ds rest = rw (e, R.closes) at (reads_step line at step outside ds rest D m M) in (cc, cc)

  -- At another character.
  pub not_closed : (m.code ≡ close → ⊥) → NotClosed line at close
  not_closed h cs A = let e : m.code ∷ M.behind ≡ close ∷ cs = at_same line at (m.code ∷ M.behind) (close ∷ cs) M.stands A in h (cc)

-- What is given from an index on, from one before it.
module _ (line : List ℕ) (at next : ℕ) (step : State → ℕ → Step) (ds rest : List ℕ) (m : Mark) (h : at < next) where
  pub gives_later : Gives line next 0 step ds rest m → Gives line at 1 step ds rest m
  gives_later G = record { later = G.later; same = G.same; reads = G.reads; small = G.small; room = omega (arith, G.room) }

  pub gives_before : Gives line next 1 step ds rest m → Gives line at 0 step ds rest m
  gives_before G = record { later = G.later; same = G.same; reads = G.reads; small = G.small; room = omega (arith, G.room) }

-- ---- the two readers

-- No character that an IRI or a string has as it is is escaped in canonical text.
plain_canonical : (c : ℕ) → eqb c 0x22 ≡ false → eqb c 0x5C ≡ false → eqb c 0x0A ≡ false → eqb c 0x0D ≡ false → canonical_char c ≡ encode_char c
unfolding canonical_char
plain_canonical c p q r s = rw (p, q, r, s)

not-true : (b : Bool) → not b ≡ true → b ≡ false
not-true true e = sym e
not-true false e = refl

or_left : (a b : Bool) → (a || b) ≡ false → a ≡ false
or_left true b e = e
or_left false b e = refl

or_right : (a b : Bool) → (a || b) ≡ false → b ≡ false
or_right true b e = let z : ◌≡◌ {A = ℕ} 0 1 = cc in absurd (omega arith)
or_right false b e = e

-- A string's characters.
string_plain : (c : ℕ) → is_string_char c ≡ true → canonical_char c ≡ encode_char c
unfolding is_string_char is_one_of codes
string_plain c e =
    let n = not-true _ e in
    let n1 = or_right (eqb c 0x22) _ n in
    let n2 = or_right (eqb c 0x5C) _ n1 in
    let n3 = or_right (eqb c 0x0A) _ n2 in
    plain_canonical c (or_left (eqb c 0x22) _ n) (or_left (eqb c 0x5C) _ n1) (or_left (eqb c 0x0A) _ n2) (or_left (eqb c 0x0D) _ n3)

-- An IRI's characters.
iri_plain : (c : ℕ) → (c ≡ code "\\" → ⊥) → is_iri_char c ≡ true → canonical_char c ≡ encode_char c
unfolding is_iri_char is_one_of codes
iri_plain c h e =
    let l : 0x20 < c = ltb-true 0x20 c (and_left (ltb 0x20 c) _ e) in
    let n = not-true _ (and_right (ltb 0x20 c) _ e) in
    let n1 = or_right (eqb c 0x3C) _ n in
    let n2 = or_right (eqb c 0x3E) _ n1 in
    plain_canonical c (or_left (eqb c 0x22) _ n2) (ne_eqb c 0x5C h) (ne_eqb c 0x0A (λ q. omega arith)) (ne_eqb c 0x0D (λ q. omega arith))

-- The reader of IRIs.
pub iri_reader : IsReader iri_step (code ">")
unfolding iri_step
iri_reader =
    record {
      allowed = is_iri_char;
      closes = refl;
      escapes = refl;
      plain = λ c h k n.
          by_test (is_iri_char c)
          (λ q. (rw (ne_eqb c (code ">") h, ne_eqb c (code "\\") k, q), iri_plain c k q))
          (λ q. absurd (n (rw (ne_eqb c (code ">") h, ne_eqb c (code "\\") k, q))));
      short = refl;
      long = refl;
      letter = λ c h k n. absurd (n (rw (ne_eqb c (code "u") h, ne_eqb c (code "U") k)));
      number = λ left v c. refl;
    }

-- The reader of strings.
pub string_reader : IsReader string_step (code "\"")
unfolding string_step
string_reader =
    record {
      allowed = λ x. true;
      closes = refl;
      escapes = refl;
      plain = λ c h k n.
          by_test (is_string_char c)
          (λ q. (rw (ne_eqb c (code "\"") h, ne_eqb c (code "\\") k, q), string_plain c q))
          (λ q. absurd (n (rw (ne_eqb c (code "\"") h, ne_eqb c (code "\\") k, q))));
      short = refl;
      long = refl;
      letter = λ c h k n.
          by_test (ltb (echar c) no_char)
          (λ q. (rw (ne_eqb c (code "u") h, ne_eqb c (code "U") k, q), ltb-true (echar c) no_char q))
          (λ q. absurd (n (rw (ne_eqb c (code "u") h, ne_eqb c (code "U") k, q))));
      number = λ left v c. refl;
    }
