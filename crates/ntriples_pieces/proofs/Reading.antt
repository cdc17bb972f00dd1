-- Laws of the pieces of IRIs and strings. Assumes nothing.
use Prim.Native.Nat.{ℕ, zero, suc, ◌+◌, ◌-◌, ◌*◌, ◌≤◌, ◌<◌}
use Prim.Native.Char.{code}
use mathlib.Core.Path.{◌≡◌, refl, sym, ◌∙◌}
use mathlib.Core.Bool.{Bool, true, false, ◌&&◌, cond}
use mathlib.Core.List.{List, [], ◌∷◌}
use native.Mathlib.Omega.{arith}
use lib.ListN.{length, get_or}
use lib.Dec.{ltb}
use borrow.Author.Tests.{lt-ltb, le-ltb, lt-leb, le-leb, eq-eqb, ne_eqb, ltb-true}
use Rattle.spec_ntriples.specs.Utf8.{is_scalar}
use Rattle.spec_ntriples.specs.Characters.{codes, is_one_of, is_iri_char, is_string_char, hex_value, no_char, echar}
use Rattle.spec_ntriples.specs.computed.Terminals.{Got, none, State, outside, slash, digits, Step, ends, breaks, leads, gives, digit, hex_step, iri_step, string_step, after_step, scan}
use Rattle.ntriples_bytes.specs.declared.Mark.{Mark}
use Rattle.ntriples_bytes.specs.inside.Places.{Utf8From, chars_at, Marks}
use Rattle.ntriples_bytes.proofs.Decoding.{chars_end, chars_marked, from_marked}
use Rattle.ntriples_bytes.proofs.Marking.{by_test, and_left, and_right, ascii_marks}
use Rattle.ntriples_pieces.specs.inside.Pieces.{step_of, may_stand, may_escape, closing_of, IsPiece}
use Rattle.ntriples_pieces.specs.declared.Terminal.{Terminal}
use Rattle.ntriples_pieces.specs.declared.Terminal.TheVariants.{Iri, Quoted}
use Rattle.ntriples_pieces.specs.declared.Piece.{Piece}
use Rattle.ntriples_pieces.specs.declared.Piece.TheVariants.{Broken, Ends, Gives}

-- ---- pieces by steps

module _ (step : State → ℕ → Step) (s : State) (bs : List ℕ) (at : ℕ) where
  -- Nothing stands behind the end.
  pub end_piece : length bs ≤ at → IsPiece step s bs at Broken
  unfolding scan
  end_piece h = rw (chars_end bs at h)

  -- What a piece is further on, where a reader goes on to it.
  pub piece_from : (t : State) (next : ℕ) (p : Piece) → at < next → scan step s (chars_at bs at) ≡ scan step t (chars_at bs next) → IsPiece step t bs next p → IsPiece step s bs at p
  piece_from t next Broken h e q = e ∙ q
  piece_from t next (Ends end) h e q = (e ∙ q.0, q.1)
  piece_from t next (Gives c end) h e q = (e ∙ q.0, (q.1.0, omega (arith, q.1.1)))

  module _ (m : Mark) (M : Marks bs at m) where
    taken : (t : Step) → step s m.code ≡ t → scan step s (chars_at bs at) ≡ after_step t (chars_at bs m.next) (λ s'. scan step s' (chars_at bs m.next))
    unfolding scan
    taken t q = rw (chars_marked M, q)

    pub ends-piece : step s m.code ≡ ends → IsPiece step s bs at (Ends m.next)
    unfolding after_step
    ends-piece q = (taken ends q, from_marked M)

    pub breaks-piece : step s m.code ≡ breaks → IsPiece step s bs at Broken
    unfolding after_step
    breaks-piece q = taken breaks q

    pub gives-piece : (c : ℕ) → step s m.code ≡ gives c → IsPiece step s bs at (Gives c m.next)
    unfolding after_step
    gives-piece c q = (taken (gives c) q, (from_marked M, M.after))

    pub leads-scan : (t : State) → step s m.code ≡ leads t → scan step s (chars_at bs at) ≡ scan step t (chars_at bs m.next)
    unfolding after_step
    leads-scan t q = taken (leads t) q

-- ---- outside escapes

pub outside_ends : (terminal : Terminal) (c : ℕ) → c ≡ closing_of terminal → step_of terminal outside c ≡ ends
unfolding step_of iri_step string_step closing_of
outside_ends Iri c h = rw (eq-eqb c (code ">") h)
outside_ends Quoted c h = rw (eq-eqb c (code "\"") h)

pub outside_leads : (terminal : Terminal) (c : ℕ) → (c ≡ closing_of terminal → ⊥) → c ≡ code "\\" → step_of terminal outside c ≡ leads slash
unfolding step_of iri_step string_step closing_of
outside_leads Iri c n h = rw (ne_eqb c (code ">") n, eq-eqb c (code "\\") h)
outside_leads Quoted c n h = rw (ne_eqb c (code "\"") n, eq-eqb c (code "\\") h)

outside-else
    : (terminal : Terminal) (c : ℕ) → (c ≡ closing_of terminal → ⊥) → (c ≡ code "\\" → ⊥) → step_of terminal outside c ≡ cond (may_stand terminal c) (gives c) breaks
unfolding step_of iri_step string_step closing_of may_stand
outside-else Iri c n h = rw (ne_eqb c (code ">") n, ne_eqb c (code "\\") h)
outside-else Quoted c n h = rw (ne_eqb c (code "\"") n, ne_eqb c (code "\\") h)

pub outside-gives
    : (terminal : Terminal) (c : ℕ) → (c ≡ closing_of terminal → ⊥) → (c ≡ code "\\" → ⊥) → may_stand terminal c ≡ true → step_of terminal outside c ≡ gives c
outside-gives terminal c n h q = outside-else terminal c n h ∙ rw q

pub outside-breaks
    : (terminal : Terminal) (c : ℕ) → (c ≡ closing_of terminal → ⊥) → (c ≡ code "\\" → ⊥) → may_stand terminal c ≡ false → step_of terminal outside c ≡ breaks
outside-breaks terminal c n h q = outside-else terminal c n h ∙ rw q

false-not : {C : Type 0} → false ≡ true → C
false-not e = let z : ◌≡◌ {A = ℕ} 0 1 = cc in absurd (omega arith)

-- Marks do not stand as they are.
closing-not : (terminal : Terminal) → may_stand terminal (closing_of terminal) ≡ true → ⊥
unfolding may_stand closing_of is_iri_char is_string_char is_one_of codes
closing-not Iri e = false-not e
closing-not Quoted e = false-not e

slash-not : (terminal : Terminal) → may_stand terminal (code "\\") ≡ true → ⊥
unfolding may_stand is_iri_char is_string_char is_one_of codes
slash-not Iri e = false-not e
slash-not Quoted e = false-not e

-- A byte that may stand as it is gives itself.
pub plain-piece
    : (terminal : Terminal) (bs : List ℕ) (at : ℕ) → Utf8From bs at → at < length bs → (ltb (get_or bs at 0) 0x80 && may_stand terminal (get_or bs at 0)) ≡ true
    → IsPiece (step_of terminal) outside bs at (Gives (get_or bs at 0) (at + 1))
plain-piece terminal bs at U h e =
    let b = get_or bs at 0 in
    let q : may_stand terminal b ≡ true = and_right (ltb b 0x80) (may_stand terminal b) e in
    gives-piece (step_of terminal) outside bs at (record { code = b; next = at + 1 }) (ascii_marks bs at U h (ltb-true b 0x80 (and_left (ltb b 0x80) (may_stand terminal b) e))) b
    (outside-gives terminal b (λ x. closing-not terminal (rw x at q)) (λ x. slash-not terminal (rw x at q)) q)

-- ---- behind a backslash

pub slash-short : (terminal : Terminal) (c : ℕ) → c ≡ code "u" → step_of terminal slash c ≡ leads (digits 4 0)
unfolding step_of iri_step string_step
slash-short Iri c h = rw (eq-eqb c (code "u") h)
slash-short Quoted c h = rw (eq-eqb c (code "u") h)

pub slash_long : (terminal : Terminal) (c : ℕ) → (c ≡ code "u" → ⊥) → c ≡ code "U" → step_of terminal slash c ≡ leads (digits 8 0)
unfolding step_of iri_step string_step
slash_long Iri c n h = rw (ne_eqb c (code "u") n, eq-eqb c (code "U") h)
slash_long Quoted c n h = rw (ne_eqb c (code "u") n, eq-eqb c (code "U") h)

pub slash_iri : (terminal : Terminal) (c : ℕ) → (c ≡ code "u" → ⊥) → (c ≡ code "U" → ⊥) → terminal ≡ Iri → step_of terminal slash c ≡ breaks
unfolding step_of iri_step
slash_iri Iri c n k e = rw (ne_eqb c (code "u") n, ne_eqb c (code "U") k)
slash_iri Quoted c n k e = let z : ◌≡◌ {A = ℕ} 0 1 = cc in absurd (omega arith)

module _ (terminal : Terminal) (c : ℕ) (n : c ≡ code "u" → ⊥) (k : c ≡ code "U" → ⊥) (e : terminal ≡ Quoted) (v : ℕ) (q : v ≡ echar c) where
  slash_else : step_of terminal slash c ≡ cond (ltb (echar c) no_char) (gives (echar c)) breaks
  unfolding step_of string_step
  slash_else = rw (e, ne_eqb c (code "u") n, ne_eqb c (code "U") k)

  pub slash_gives : v < no_char → step_of terminal slash c ≡ gives v
  slash_gives h = slash_else ∙ rw (← q, lt-ltb v no_char h)

  pub slash_breaks : no_char ≤ v → step_of terminal slash c ≡ breaks
  slash_breaks h = slash_else ∙ rw (← q, le-ltb v no_char h)

-- ---- inside a number

hex_step_lem : (terminal : Terminal) (left v c : ℕ) → step_of terminal (digits left v) c ≡ hex_step (may_escape terminal) left v c
unfolding step_of iri_step string_step may_escape
hex_step_lem Iri left v c = refl
hex_step_lem Quoted left v c = refl

no_hex : (allowed : ℕ → Bool) (left v c : ℕ) → 16 ≤ hex_value c → hex_step allowed left v c ≡ breaks
unfolding hex_step
no_hex allowed zero v c h = refl
no_hex allowed (suc left) v c h = rw (le-ltb (hex_value c) 16 h)

is_hex : (allowed : ℕ → Bool) (left v c : ℕ) → 0 < left → hex_value c < 16 → hex_step allowed left v c ≡ digit allowed (left - 1) (v * 16 + hex_value c)
unfolding hex_step
is_hex allowed zero v c n h = absurd (omega arith)
is_hex allowed (suc left) v c n h = let e : suc left - 1 ≡ left = omega arith in rw (e, lt-ltb (hex_value c) 16 h)

not_scalar : (v : ℕ) → 0x10FFFF < v → is_scalar v ≡ false
unfolding is_scalar
not_scalar v h = rw (le-ltb v 0xD800 (omega arith), le-leb 0xE000 v (omega arith), lt-leb v 0x10FFFF h)

-- A number above the last code point stays there.
too_great : (terminal : Terminal) (cs : List ℕ) (left v : ℕ) → 0x10FFFF < v → scan (step_of terminal) (digits left v) cs ≡ none
unfolding scan after_step hex_step digit
too_great terminal [] left v h = refl
too_great terminal (c ∷ cs) zero v h = rw (hex_step_lem terminal zero v c)
too_great terminal (c ∷ cs) (suc zero) v h =
    by_test (ltb (hex_value c) 16)
    (λ q. rw (hex_step_lem terminal (suc zero) v c, q, not_scalar (v * 16 + hex_value c) (omega arith)))
    (λ q. rw (hex_step_lem terminal (suc zero) v c, q))
too_great terminal (c ∷ cs) (suc (suc left)) v h =
    by_test (ltb (hex_value c) 16)
    (λ q. rw (hex_step_lem terminal (suc (suc left)) v c, q) (too_great terminal cs (suc left) (v * 16 + hex_value c) (omega arith)))
    (λ q. rw (hex_step_lem terminal (suc (suc left)) v c, q))

-- What a reader finds behind a digit, where so many are left.
abbrev pub behind_digit : Terminal → List ℕ → (left value at : ℕ) → Got
behind_digit terminal bs left v at = after_step (digit (may_escape terminal) left v) (chars_at bs at) (λ s. scan (step_of terminal) s (chars_at bs at))

-- Where some are, the next.
digits_due : (terminal : Terminal) (bs : List ℕ) (left v at : ℕ) → 0 < left → behind_digit terminal bs left v at ≡ scan (step_of terminal) (digits left v) (chars_at bs at)
unfolding digit after_step
digits_due terminal bs zero v at h = absurd (omega arith)
digits_due terminal bs (suc left) v at h = refl

-- Nothing behind a number above the last code point.
great_stays : (terminal : Terminal) (bs : List ℕ) (left v at : ℕ) → 0x10FFFF < v → behind_digit terminal bs left v at ≡ none
unfolding digit after_step
great_stays terminal bs zero v at h = rw (not_scalar v h)
great_stays terminal bs (suc left) v at h = too_great terminal (chars_at bs at) (suc left) v h

-- Where a reader of count digits stands that has some of them behind it.
pub record Digits (terminal : Terminal) (bs : List ℕ) (from count left value at : ℕ) : Type 0 where
  pub small : value ≤ 0x10FFFF
  pub after : from + count ≤ at + left
  pub utf8 : Utf8From bs at
  pub same : scan (step_of terminal) (digits count 0) (chars_at bs from) ≡ behind_digit terminal bs left value at

-- Before the first.
pub first-digit
    : (terminal : Terminal) (bs : List ℕ) (from count left : ℕ) → left ≡ count → 0 < count → Utf8From bs from
    → Digits terminal bs from count left 0 from
first-digit terminal bs from count left e h U =
    rw e (record { small = omega arith; after = omega arith; utf8 = U; same = sym (digits_due terminal bs count 0 from h) })

module _ (terminal : Terminal) (bs : List ℕ) (from count left value at : ℕ) (D : Digits terminal bs from count left value at) where
  -- Behind the last, its number says what the piece is.
  pub last-digit
      : left ≡ 0 → 0 < count → (p : Piece) → p ≡ cond (is_scalar value && may_escape terminal value) (Gives value at) Broken
      → IsPiece (step_of terminal) (digits count 0) bs from p
  unfolding digit after_step
  last-digit z n p q =
      let e = rw z at D.same in
      by_test (is_scalar value && may_escape terminal value)
      (λ t. let f : p ≡ Gives value at = q ∙ rw t in rw f (rw t at e, (D.utf8, omega (arith, D.after))))
      (λ t. let f : p ≡ Broken = q ∙ rw t in rw f (rw t at e))

  module _ (n : 0 < left) where
    due : scan (step_of terminal) (digits count 0) (chars_at bs from) ≡ scan (step_of terminal) (digits left value) (chars_at bs at)
    due = D.same ∙ digits_due terminal bs left value at n

    -- No digit stands behind the end.
    pub digits_end : length bs ≤ at → IsPiece (step_of terminal) (digits count 0) bs from Broken
    digits_end h = due ∙ end_piece (step_of terminal) (digits left value) bs at h

    module _ (m : Mark) (M : Marks bs at m) (h : ℕ) (e : h ≡ hex_value m.code) where
      pub not-hex : 16 ≤ h → IsPiece (step_of terminal) (digits count 0) bs from Broken
      not-hex k =
          due
          ∙ breaks-piece (step_of terminal) (digits left value) bs at m M (hex_step_lem terminal left value m.code ∙ no_hex (may_escape terminal) left value m.code (omega arith))

      module _ (k : h < 16) where
        a-digit : step_of terminal (digits left value) m.code ≡ digit (may_escape terminal) (left - 1) (value * 16 + h)
        a-digit = hex_step_lem terminal left value m.code ∙ rw e (is_hex (may_escape terminal) left value m.code n (omega arith))

        behind-next : scan (step_of terminal) (digits count 0) (chars_at bs from) ≡ behind_digit terminal bs (left - 1) (value * 16 + h) m.next
        behind-next = due ∙ taken (step_of terminal) (digits left value) bs at m M (digit (may_escape terminal) (left - 1) (value * 16 + h)) a-digit

        pub too-great-digit : 0x10FFFF < value * 16 + h → IsPiece (step_of terminal) (digits count 0) bs from Broken
        too-great-digit g = behind-next ∙ great_stays terminal bs (left - 1) (value * 16 + h) m.next g

        pub more-digits : (l : ℕ) → l + 1 ≡ left → value * 16 + h ≤ 0x10FFFF → Digits terminal bs from count l (value * 16 + h) m.next
        more-digits l f g =
            let z : left - 1 ≡ l = omega arith in
            record { small = g; after = omega (arith, M.after, D.after); utf8 = from_marked M; same = rw z at behind-next }
