-- The reader of IRIs and strings reads exactly pieces, one after the other, up to the end mark (iri_scanned, string_scanned, scan_iri, scan_string). Assumes nothing.
use Prim.Native.Nat.{ℕ, zero, suc, ◌+◌, ◌-◌, ◌*◌, ◌≤◌, ◌<◌}
use Prim.Native.Char.{code}
use mathlib.Core.Path.{◌≡◌, refl, sym, ap, ◌∙◌, subst}
use mathlib.Core.Bool.{Bool, true, false, ◌&&◌}
use mathlib.Core.Logic.{◌⊎◌, inl, inr, ⊎_elim}
use mathlib.Core.List.{List, [], ◌∷◌, ◌++◌, append_assoc, append-nil}
use native.Mathlib.Omega.{arith}
use lib.ListN.{get_or, drop}
use lib.Dec.{eqb, leb, ltb}
use borrow.Author.Tests.{leb-true, eqb-true, lt-ltb, lt-leb, ne_eqb}
use Rattle.spec.proofs.Lists.{cond_elim, by_test, true-not_false}
use Rattle.spec.proofs.Ascending.{and_left, and_right}
use Rattle.spec_ntriples.specs.Utf8.{is_between, is_scalar}
use Rattle.spec_ntriples.specs.Characters.{codes, is_one_of, is_iri_char, is_string_char, hex_value, no_char, echar}
use Rattle.spec_ntriples.specs.computed.Terminals.{Got, none, got, push, State, outside, slash, digits, Step, ends, breaks, leads, gives, digit, hex_step, iri_step, string_step, after_step, scan}
use Rattle.spec_ntriples.specs.Expressions.{Expression, Matches, Repeated, set, ◌or◌, many, times}
use Rattle.spec_ntriples.specs.Productions.{HEX, UCHAR, ECHAR}
use Rattle.spec_ntriples.specs.Meaning.{hex_number, Uchar, IriPiece, StringPiece, Resolves}
use Rattle.spec_ntriples.specs.Faults.{gives_allowed, BadEscape}

-- ---- digits

-- A text of one hexadecimal digit.
record Hex (u : List ℕ) : Type 0 where
  char : ℕ
  spelled : u ≡ char ∷ []
  below : ltb (hex_value char) 16 ≡ true

-- A number within a range that a test found.
pub within : (l h c : ℕ) → is_between l h c ≡ true → (l ≤ c) × (c ≤ h)
within l h c e = (leb-true l c (and_left _ (leb c h) e), leb-true c h (and_right (leb l c) _ e))

pub above : (l h c : ℕ) → h < c → is_between l h c ≡ false
above l h c k = by_test (leb l c) (λ p. rw (p, lt-leb c h k)) (λ p. rw p)

hex_is : (u : List ℕ) → Matches HEX u → Hex u
unfolding hex_value
hex_is u m =
    ⊎_elim
    (λ s. let r = within 48 57 s.char s.allowed in
    record { char = s.char; spelled = s.spelled; below = rw s.allowed (lt-ltb (s.char - 48) 16 (omega (arith, r.1))) })
    (λ n. ⊎_elim
    (λ s. let r = within 65 70 s.char s.allowed in
    record { char = s.char; spelled = s.spelled; below = rw (above 48 57 s.char (omega (arith, r.0)), s.allowed) (lt-ltb (s.char - 55) 16 (omega (arith, r.1))) })
    (λ s. let r = within 97 102 s.char s.allowed in
    record { char = s.char; spelled = s.spelled; below = rw (above 48 57 s.char (omega (arith, r.0)), above 65 70 s.char (omega (arith, r.0)), s.allowed) (lt-ltb (s.char - 87) 16 (omega (arith, r.1))) })
    n)
    m

is_hex : (c : ℕ) → ltb (hex_value c) 16 ≡ true → Matches HEX (c ∷ [])
unfolding hex_value
is_hex c e =
    by_test (is_between 48 57 c) (λ p. inl (record { char = c; spelled = refl; allowed = p }))
    (λ p. inr (by_test (is_between 65 70 c) (λ q. inl (record { char = c; spelled = refl; allowed = q }))
    (λ q. by_test (is_between 97 102 c) (λ r. inr (record { char = c; spelled = refl; allowed = r }))
    (λ r. let f : false ≡ true = rw (p, q, r) at e in absurd (true-not_false (sym f))))))

-- One digit more, behind some.
times_more : (k : ℕ) (ds : List ℕ) (c : ℕ) → Matches (times k HEX) ds → Matches HEX (c ∷ []) → Matches (times (suc k) HEX) (ds ++ (c ∷ []))
unfolding times
times_more zero ds c m h = record { front = c ∷ []; back = []; spelled = rw m; first = h; second = refl }
times_more (suc k) ds c m h =
    record { front = m.front; back = m.back ++ (c ∷ []); spelled = rw m.spelled (append_assoc m.front m.back (c ∷ [])); first = m.first; second = times_more k m.back c m.second h }

number_more : (v : ℕ) (ds : List ℕ) (c : ℕ) → hex_number v (ds ++ (c ∷ [])) ≡ hex_number v ds * 16 + hex_value c
unfolding hex_number
number_more v [] c = refl
number_more v (d ∷ ds) c = number_more (v * 16 + hex_value d) ds c

-- ---- a reader, and what its steps do

-- Where a reader stands, by the characters of the piece that it is in.
record Digits (left v : ℕ) (q : List ℕ) : Type 0 where
  mark : List ℕ
  those : List ℕ
  many : ℕ
  spelled : q ≡ mark ++ those
  size : ((mark ≡ codes "\\u") × (many + left ≡ 4)) ⊎ ((mark ≡ codes "\\U") × (many + left ≡ 8))
  matched : Matches (times many HEX) those
  number : hex_number 0 those ≡ v

abbrev Stands : State → List ℕ → Type 0
Stands outside q = q ≡ []
Stands slash q = q ≡ codes "\\"
Stands (digits left v) q = Digits left v q

-- What a step is, behind some characters of a piece.
abbrev Follows : (Piece : List ℕ → ℕ → Type 0) (end : ℕ) (q : List ℕ) (c : ℕ) → Step → Type 0
Follows Piece end q c ends = (q ≡ []) × (c ≡ end)
Follows Piece end q c breaks = Unit {0}
Follows Piece end q c (leads s) = Stands s (q ++ (c ∷ []))
Follows Piece end q c (gives v) = Piece (q ++ (c ∷ [])) v

-- A reader of pieces.
record Reader (step : State → ℕ → Step) (allowed : ℕ → Bool) (end : ℕ) (Piece : List ℕ → ℕ → Type 0) : Type 0 where
  ending : step outside end ≡ ends
  in_digits : (left v c : ℕ) → step (digits left v) c ≡ hex_step allowed left v c
  uchar : (p : List ℕ) (c : ℕ) → Uchar p c → allowed c ≡ true → Piece p c
  at_outside : (c : ℕ) → Follows Piece end [] c (step outside c)
  at_slash : (c : ℕ) → Follows Piece end (codes "\\") c (step slash c)
  pieces : (p : List ℕ) (c : ℕ) (r : List ℕ) → Piece p c → scan step outside (p ++ r) ≡ push c (scan step outside r)

-- ---- what is read is pieces

-- Nothing is not something.
pub none-not : {C : Type 0} {cs rest : List ℕ} → none ≡ got cs rest → C
none-not e = let z : ◌≡◌ {A = ℕ} 0 1 = cc in absurd (omega arith)

-- What was read behind a character.
pub record Pushed (c : ℕ) (g : Got) (cs rest : List ℕ) : Type 0 where
  pub later : List ℕ
  pub read : g ≡ got later rest
  pub same : c ∷ later ≡ cs

pub pushed : (c : ℕ) (g : Got) (cs rest : List ℕ) → push c g ≡ got cs rest → Pushed c g cs rest
unfolding push
pushed c none cs rest e = none-not e
pushed c (got ds r) cs rest e = let p : r ≡ rest = cc in record { later = ds; read = rw p; same = cc }

-- Characters are pieces, the rest of the one that some stand in included, then the end mark, and then others.
pub record Scanned (end : ℕ) (Piece : List ℕ → ℕ → Type 0) (q us cs rest : List ℕ) : Type 0 where
  pub inside : List ℕ
  pub spelled : us ≡ inside ++ (end ∷ rest)
  pub resolved : Resolves Piece (q ++ inside) cs

mark_dropped : (mark ds : List ℕ) (k left : ℕ) → ((mark ≡ codes "\\u") × (k + left ≡ 4)) ⊎ ((mark ≡ codes "\\U") × (k + left ≡ 8)) → drop 2 (mark ++ ds) ≡ ds
unfolding codes
mark_dropped mark ds k left s = ⊎_elim (λ h. rw h.0) (λ h. rw h.0) s

module _ {step : State → ℕ → Step} {allowed : ℕ → Bool} {end : ℕ} {Piece : List ℕ → ℕ → Type 0} (R : Reader step allowed end Piece) where
  last : (v : ℕ) (q : List ℕ) (c : ℕ) → Digits 1 v q → ltb (hex_value c) 16 ≡ true → is_scalar (v * 16 + hex_value c) ≡ true → allowed (v * 16 + hex_value c) ≡ true → Piece (q ++ (c ∷ [])) (v * 16 + hex_value c)
  last v q c d h s a =
      R.uchar (q ++ (c ∷ [])) (v * 16 + hex_value c)
      (record {
        matched =
            ⊎_elim
            (λ (z : (d.mark ≡ codes "\\u") × (d.many + 1 ≡ 4)).
            let k : suc d.many ≡ 4 = omega (arith, z.1) in
            inl (record { front = d.mark; back = d.those ++ (c ∷ []); spelled = spelt; first = z.0; second = rw k at (times_more d.many d.those c d.matched (is_hex c h)) }))
            (λ (z : (d.mark ≡ codes "\\U") × (d.many + 1 ≡ 8)).
            let k : suc d.many ≡ 8 = omega (arith, z.1) in
            inr (record { front = d.mark; back = d.those ++ (c ∷ []); spelled = spelt; first = z.0; second = rw k at (times_more d.many d.those c d.matched (is_hex c h)) }))
            d.size;
        number = ap (λ x. hex_number 0 (drop 2 x)) spelt ∙ ap (hex_number 0) (mark_dropped d.mark (d.those ++ (c ∷ [])) d.many 1 d.size) ∙ number_more 0 d.those c ∙ ap (λ x. x * 16 + hex_value c) d.number;
        scalar = s;
      })
      a
    where
      spelt : q ++ (c ∷ []) ≡ d.mark ++ (d.those ++ (c ∷ []))
      spelt = rw d.spelled (append_assoc d.mark d.those (c ∷ []))

  next : (left v : ℕ) (q : List ℕ) (c : ℕ) → Digits (suc left) v q → ltb (hex_value c) 16 ≡ true → Digits left (v * 16 + hex_value c) (q ++ (c ∷ []))
  next left v q c d h =
      record {
        mark = d.mark;
        those = d.those ++ (c ∷ []);
        many = suc d.many;
        spelled = rw d.spelled (append_assoc d.mark d.those (c ∷ []));
        size = ⊎_elim (λ z. inl (z.0, omega (arith, z.1))) (λ z. inr (z.0, omega (arith, z.1))) d.size;
        matched = times_more d.many d.those c d.matched (is_hex c h);
        number = number_more 0 d.those c ∙ ap (λ x. x * 16 + hex_value c) d.number;
      }

  in_hex : (left v : ℕ) (q : List ℕ) (c : ℕ) → Digits left v q → Follows Piece end q c (hex_step allowed left v c)
  unfolding hex_step digit
  in_hex zero v q c d = tt
  in_hex (suc zero) v q c d =
      cond_elim (Follows Piece end q c) (ltb (hex_value c) 16)
      (λ h. cond_elim (Follows Piece end q c) (is_scalar (v * 16 + hex_value c) && allowed (v * 16 + hex_value c))
      (λ s. last v q c d h (and_left _ (allowed (v * 16 + hex_value c)) s) (and_right (is_scalar (v * 16 + hex_value c)) _ s)) (λ s. tt)) (λ h. tt)
  in_hex (suc (suc left)) v q c d = cond_elim (Follows Piece end q c) (ltb (hex_value c) 16) (λ h. next (suc left) v q c d h) (λ h. tt)

  steps : (s : State) (q : List ℕ) (c : ℕ) → Stands s q → Follows Piece end q c (step s c)
  steps outside q c h = rw h (R.at_outside c)
  steps slash q c h = rw h (R.at_slash c)
  steps (digits left v) q c h = rw (R.in_digits left v c) (in_hex left v q c h)

  after : (σ : Step) (q : List ℕ) (c : ℕ) (us cs rest : List ℕ) → Follows Piece end q c σ → ((s : State) (q' cs' : List ℕ) → Stands s q' → scan step s us ≡ got cs' rest → Scanned end Piece q' us cs' rest) → after_step σ us (λ s. scan step s us) ≡ got cs rest → Scanned end Piece q (c ∷ us) cs rest
  unfolding after_step
  after ends q c us cs rest f ih e =
      let p : [] ≡ cs = cc in
      let r : us ≡ rest = cc in
      record { inside = []; spelled = rw (f.1, r); resolved = rw (← p) (Resolves.end (append-nil q ∙ f.0)) }
  after breaks q c us cs rest f ih e = none-not e
  after (leads s) q c us cs rest f ih e =
      let i = ih s (q ++ (c ∷ [])) cs f e in
      record { inside = c ∷ i.inside; spelled = ap (λ x. c ∷ x) i.spelled; resolved = rw (append_assoc q (c ∷ []) i.inside) at i.resolved }
  after (gives v) q c us cs rest f ih e =
      let g = pushed v (scan step outside us) cs rest e in
      let i = ih outside [] g.later refl g.read in
      record {
        inside = c ∷ i.inside;
        spelled = ap (λ x. c ∷ x) i.spelled;
        resolved = subst (Resolves Piece (q ++ (c ∷ i.inside))) g.same (Resolves.more (q ++ (c ∷ [])) i.inside v (sym (append_assoc q (c ∷ []) i.inside)) f i.resolved);
      }

  scans : (us : List ℕ) (s : State) (q cs rest : List ℕ) → Stands s q → scan step s us ≡ got cs rest → Scanned end Piece q us cs rest
  unfolding scan
  scans [] s q cs rest h e = none-not e
  scans (c ∷ us) s q cs rest h e = after (step s c) q c us cs rest (steps s q c h) (λ s' q' cs' h' e'. scans us s' q' cs' rest h' e') e

  -- What is read is pieces.
  scanned : (us cs rest : List ℕ) → scan step outside us ≡ got cs rest → Scanned end Piece [] us cs rest
  scanned us cs rest e = scans us outside [] cs rest refl e

  -- ---- pieces are read

  -- Pieces up to the end mark are read as their characters.
  scan_read : (us cs rest : List ℕ) → Resolves Piece us cs → scan step outside (us ++ (end ∷ rest)) ≡ got cs rest
  unfolding scan after_step push
  scan_read us cs rest (Resolves.end e) = rw (e, R.ending)
  scan_read us cs rest (Resolves.more {cs = ds} p s c e m r) =
      rw (e, append_assoc p s (end ∷ rest), R.pieces p c (s ++ (end ∷ rest)) m, scan_read s ds rest r)

-- The digits of UCHAR.
module _ (step : State → ℕ → Step) (allowed : ℕ → Bool) (h : (left v c : ℕ) → step (digits left v) c ≡ hex_step allowed left v c) where
  scan-times : (n v : ℕ) (ds r : List ℕ) → Matches (times (suc n) HEX) ds → scan step (digits (suc n) v) (ds ++ r) ≡ after_step (digit allowed 0 (hex_number v ds)) r (λ s. scan step s r)
  unfolding scan hex_number hex_step digit times after_step
  scan-times zero v ds r m =
      let x = hex_is m.front m.first in
      rw (m.spelled, m.second, x.spelled, h 1 v x.char, x.below)
  scan-times (suc n) v ds r m =
      let x = hex_is m.front m.first in
      rw (m.spelled, x.spelled, h (suc (suc n)) v x.char, x.below) (scan-times n (v * 16 + hex_value x.char) m.back r m.second)

  module _ (o : step outside (code "\\") ≡ leads slash) (u4 : step slash (code "u") ≡ leads (digits 4 0)) (u8 : step slash (code "U") ≡ leads (digits 8 0)) where
    -- UCHAR is read as the step that its number makes.
    uchar-scan : (p r : List ℕ) → Matches UCHAR p → scan step outside (p ++ r) ≡ after_step (digit allowed 0 (hex_number 0 (drop 2 p))) r (λ s. scan step s r)
    unfolding scan after_step codes
    uchar-scan p r U =
        ⊎_elim
        (λ m. rw (m.spelled, m.first, o, u4) (scan-times 3 0 m.back r m.second))
        (λ m. rw (m.spelled, m.first, o, u8) (scan-times 7 0 m.back r m.second))
        U

    uchar-read : (p : List ℕ) (c : ℕ) (r : List ℕ) → Uchar p c → allowed c ≡ true → scan step outside (p ++ r) ≡ push c (scan step outside r)
    unfolding after_step digit
    uchar-read p c r U a = rw (uchar-scan p r U.matched, U.number, U.scalar, a)

    uchar-barred : (p r : List ℕ) → Matches UCHAR p → gives_allowed allowed p ≡ false → scan step outside (p ++ r) ≡ none
    unfolding after_step digit
    uchar-barred p r m b = rw (uchar-scan p r m, b)

-- ---- sets of characters

-- A character of a set is none outside it.
pub test_apart : (test : ℕ → Bool) (c d : ℕ) → test c ≡ true → test d ≡ false → eqb c d ≡ false
test_apart test c d h k = ne_eqb c d (λ e. true-not_false (sym h ∙ ap test e ∙ k))

-- What holds of each of some characters.
abbrev pub Each : (ℕ → Type 0) → List ℕ → Type 0
Each Q [] = Unit {0}
Each Q (d ∷ ds) = Q d × Each Q ds

pub each_one : (Q : ℕ → Type 0) (ds : List ℕ) (c : ℕ) → Each Q ds → is_one_of ds c ≡ true → Q c
unfolding is_one_of
each_one Q [] c h e = absurd (true-not_false (sym e))
each_one Q (d ∷ ds) c h e = by_test (eqb c d) (λ p. rw (eqb-true c d p) h.0) (λ p. each_one Q ds c h.1 (rw p at e))

-- The letters of ECHAR are those that stand for a character.
letter-echar : (c : ℕ) → is_one_of (codes "tbnrf\"'\\") c ≡ true → ltb (echar c) no_char ≡ true
unfolding codes echar is_one_of
letter-echar c e = each_one (λ x. ltb (echar x) no_char ≡ true) (codes "tbnrf\"'\\") c (refl, (refl, (refl, (refl, (refl, (refl, (refl, (refl, tt)))))))) e

echar_letter : (c : ℕ) → ltb (echar c) no_char ≡ true → is_one_of (codes "tbnrf\"'\\") c ≡ true
unfolding codes echar is_one_of
echar_letter c =
    cond_elim Q (eqb c (code "t")) (λ p e. rw p)
    (λ p. cond_elim Q (eqb c (code "b")) (λ q e. rw (p, q))
    (λ q. cond_elim Q (eqb c (code "n")) (λ r e. rw (p, q, r))
    (λ r. cond_elim Q (eqb c (code "r")) (λ s e. rw (p, q, r, s))
    (λ s. cond_elim Q (eqb c (code "f")) (λ t e. rw (p, q, r, s, t))
    (λ t. cond_elim Q (is_one_of (codes "\"'\\") c) (λ u e. rw (p, q, r, s, t) u) (λ u e. absurd (true-not_false (sym e))))))))
  where
    Q : ℕ → Type 0
    Q x = ltb x no_char ≡ true → is_one_of (codes "tbnrf\"'\\") c ≡ true

-- ---- the two readers

-- UCHAR begins.
four_due : (c : ℕ) → c ≡ code "u" → Digits 4 0 (codes "\\" ++ (c ∷ []))
unfolding codes times hex_number
four_due c e = record { mark = codes "\\u"; those = []; many = 0; spelled = rw e; size = inl (refl, refl); matched = refl; number = refl }

eight_due : (c : ℕ) → c ≡ code "U" → Digits 8 0 (codes "\\" ++ (c ∷ []))
unfolding codes times hex_number
eight_due c e = record { mark = codes "\\U"; those = []; many = 0; spelled = rw e; size = inr (refl, refl); matched = refl; number = refl }

iri_outside : (c : ℕ) → Follows IriPiece (code ">") [] c (iri_step outside c)
unfolding iri_step codes
iri_outside c =
    cond_elim (Follows IriPiece (code ">") [] c) (eqb c (code ">")) (λ p. (refl, eqb-true c (code ">") p))
    (λ p. cond_elim (Follows IriPiece (code ">") [] c) (eqb c (code "\\")) (λ q. rw (eqb-true c (code "\\") q))
    (λ q. cond_elim (Follows IriPiece (code ">") [] c) (is_iri_char c) (λ a. IriPiece.itself refl a) (λ a. tt)))

iri_slash : (c : ℕ) → Follows IriPiece (code ">") (codes "\\") c (iri_step slash c)
unfolding iri_step
iri_slash c =
    cond_elim (Follows IriPiece (code ">") (codes "\\") c) (eqb c (code "u")) (λ p. four_due c (eqb-true c (code "u") p))
    (λ p. cond_elim (Follows IriPiece (code ">") (codes "\\") c) (eqb c (code "U")) (λ q. eight_due c (eqb-true c (code "U") q)) (λ q. tt))

-- Marks that are no characters of an IRI or of a string.
pub iri_apart : (c : ℕ) → is_iri_char c ≡ true → (eqb c (code ">") ≡ false) × (eqb c (code "\\") ≡ false)
unfolding is_iri_char is_one_of codes
iri_apart c a = (test_apart is_iri_char c (code ">") a refl, test_apart is_iri_char c (code "\\") a refl)

pub string_apart : (c : ℕ) → is_string_char c ≡ true → (eqb c (code "\"") ≡ false) × (eqb c (code "\\") ≡ false)
unfolding is_string_char is_one_of codes
string_apart c a = (test_apart is_string_char c (code "\"") a refl, test_apart is_string_char c (code "\\") a refl)

letter_apart : (c : ℕ) → is_one_of (codes "tbnrf\"'\\") c ≡ true → (eqb c (code "u") ≡ false) × (eqb c (code "U") ≡ false)
unfolding is_one_of codes
letter_apart c a = (test_apart (is_one_of (codes "tbnrf\"'\\")) c (code "u") a refl, test_apart (is_one_of (codes "tbnrf\"'\\")) c (code "U") a refl)

iri_pieces : (p : List ℕ) (c : ℕ) (r : List ℕ) → IriPiece p c → scan iri_step outside (p ++ r) ≡ push c (scan iri_step outside r)
unfolding iri_step scan after_step
iri_pieces p c r (IriPiece.itself e a) = rw (e, (iri_apart c a).0, (iri_apart c a).1, a)
iri_pieces p c r (IriPiece.by_uchar U a) = uchar-read iri_step is_iri_char (λ left v d. refl) refl refl refl p c r U a

iri_barred : (p r : List ℕ) → Matches UCHAR p → gives_allowed is_iri_char p ≡ false → scan iri_step outside (p ++ r) ≡ none
unfolding iri_step
iri_barred = uchar-barred iri_step is_iri_char (λ left v d. refl) refl refl refl

iri_reader : Reader iri_step is_iri_char (code ">") IriPiece
unfolding iri_step
iri_reader = record { ending = refl; in_digits = λ left v c. refl; uchar = λ p c U a. IriPiece.by_uchar U a; at_outside = iri_outside; at_slash = iri_slash; pieces = iri_pieces }

string_outside : (c : ℕ) → Follows StringPiece (code "\"") [] c (string_step outside c)
unfolding string_step codes
string_outside c =
    cond_elim (Follows StringPiece (code "\"") [] c) (eqb c (code "\"")) (λ p. (refl, eqb-true c (code "\"") p))
    (λ p. cond_elim (Follows StringPiece (code "\"") [] c) (eqb c (code "\\")) (λ q. rw (eqb-true c (code "\\") q))
    (λ q. cond_elim (Follows StringPiece (code "\"") [] c) (is_string_char c) (λ a. StringPiece.itself refl a) (λ a. tt)))

string_slash : (c : ℕ) → Follows StringPiece (code "\"") (codes "\\") c (string_step slash c)
unfolding string_step codes
string_slash c =
    cond_elim (Follows StringPiece (code "\"") (codes "\\") c) (eqb c (code "u")) (λ p. four_due c (eqb-true c (code "u") p))
    (λ p. cond_elim (Follows StringPiece (code "\"") (codes "\\") c) (eqb c (code "U")) (λ q. eight_due c (eqb-true c (code "U") q))
    (λ q. cond_elim (Follows StringPiece (code "\"") (codes "\\") c) (ltb (echar c) no_char)
    (λ h. StringPiece.by_echar (record { matched = record { front = codes "\\"; back = c ∷ []; spelled = refl; first = refl; second = record { char = c; spelled = refl; allowed = echar_letter c h } }; letter = refl }))
    (λ h. tt)))

string_pieces : (p : List ℕ) (c : ℕ) (r : List ℕ) → StringPiece p c → scan string_step outside (p ++ r) ≡ push c (scan string_step outside r)
unfolding string_step scan after_step codes
string_pieces p c r (StringPiece.itself e a) = rw (e, (string_apart c a).0, (string_apart c a).1, a)
string_pieces p c r (StringPiece.by_echar E) =
    let m = E.matched in
    let l = m.second in
    let s : p ≡ code "\\" ∷ l.char ∷ [] = m.spelled ∙ rw (m.first, l.spelled) in
    let t : echar l.char ≡ c = ap (λ x. echar (get_or x 1 0)) (sym s) ∙ E.letter in
    let n = letter_apart l.char l.allowed in
    rw (s, n.0, n.1, letter-echar l.char l.allowed, t)
string_pieces p c r (StringPiece.by_uchar U) = uchar-read string_step (λ x. true) (λ left v d. refl) refl refl refl p c r U refl

string_barred : (p r : List ℕ) → Matches UCHAR p → gives_allowed (λ x. true) p ≡ false → scan string_step outside (p ++ r) ≡ none
unfolding string_step
string_barred = uchar-barred string_step (λ x. true) (λ left v d. refl) refl refl refl

string_reader : Reader string_step (λ x. true) (code "\"") StringPiece
unfolding string_step
string_reader = record { ending = refl; in_digits = λ left v c. refl; uchar = λ p c U a. StringPiece.by_uchar U; at_outside = string_outside; at_slash = string_slash; pieces = string_pieces }

-- ---- the laws

-- What the reader of an IRI reads is pieces of one, up to ">".
pub iri_scanned : (us cs rest : List ℕ) → scan iri_step outside us ≡ got cs rest → Scanned (code ">") IriPiece [] us cs rest
iri_scanned = scanned iri_reader

-- Pieces of an IRI up to ">" are read as their characters.
pub scan_iri : (us cs rest : List ℕ) → Resolves IriPiece us cs → scan iri_step outside (us ++ (code ">" ∷ rest)) ≡ got cs rest
scan_iri = scan_read iri_reader

-- What the reader of a string reads is pieces of one, up to the quote.
pub string_scanned : (us cs rest : List ℕ) → scan string_step outside us ≡ got cs rest → Scanned (code "\"") StringPiece [] us cs rest
string_scanned = scanned string_reader

-- Pieces of a string up to the quote are read as their characters.
pub scan_string : (us cs rest : List ℕ) → Resolves StringPiece us cs → scan string_step outside (us ++ (code "\"" ∷ rest)) ≡ got cs rest
scan_string = scan_read string_reader

-- ---- pieces with a character, and escapes with none

-- Pieces as the grammar has them: each stands for a character, or is an escape that stands for none that is allowed.
record Grammar (piece : Expression) (step : State → ℕ → Step) (allowed : ℕ → Bool) (Piece : List ℕ → ℕ → Type 0) : Type 0 where
  decides : (p : List ℕ) → Matches piece p → ((c : ℕ) × Piece p c) ⊎ (Matches UCHAR p × (gives_allowed allowed p ≡ false))
  pieces : (p : List ℕ) (c : ℕ) (r : List ℕ) → Piece p c → scan step outside (p ++ r) ≡ push c (scan step outside r)
  barred : (p r : List ℕ) → Matches UCHAR p → gives_allowed allowed p ≡ false → scan step outside (p ++ r) ≡ none

module _ {piece : Expression} {step : State → ℕ → Step} {allowed : ℕ → Bool} {Piece : List ℕ → ℕ → Type 0} (G : Grammar piece step allowed Piece) where
  further : (u s t : List ℕ) → u ≡ s ++ t → Matches piece s → BadEscape piece allowed t → BadEscape piece allowed u
  further u s t e m b =
      record { before = s ++ b.before; p = b.p; after = b.after; spelled = e ∙ ap (λ x. s ++ x) b.spelled ∙ sym (append_assoc s b.before (b.p ++ b.after)); pieces = Repeated.more s b.before refl m b.pieces; matched = b.matched; barred = b.barred }

  -- Pieces resolve to characters, or one of them is an escape that does not.
  resolve : (u : List ℕ) → Matches (many piece) u → ((cs : List ℕ) × Resolves Piece u cs) ⊎ BadEscape piece allowed u
  resolve u (Repeated.end e) = inl ([], Resolves.end e)
  resolve u (Repeated.more s t e m n) =
      ⊎_elim
      (λ r. ⊎_elim
      (λ d. inl (d.0 ∷ r.0, Resolves.more s t d.0 e d.1 r.1))
      (λ d. inr (record { before = []; p = s; after = t; spelled = e; pieces = Repeated.end refl; matched = d.0; barred = d.1 }))
      (G.decides s m))
      (λ b. inr (further u s t e m b))
      (resolve t n)

  -- Such an escape breaks what is read.
  piece_none : (p r : List ℕ) → Matches piece p → scan step outside r ≡ none → scan step outside (p ++ r) ≡ none
  unfolding push
  piece_none p r m h = ⊎_elim (λ d. rw (G.pieces p d.0 r d.1, h)) (λ d. G.barred p r d.0 d.1) (G.decides p m)

  pieces_none : (u r : List ℕ) → Matches (many piece) u → scan step outside r ≡ none → scan step outside (u ++ r) ≡ none
  pieces_none u r (Repeated.end e) h = rw e h
  pieces_none u r (Repeated.more s t e m n) h = rw (e, append_assoc s t r) (piece_none s (t ++ r) m (pieces_none t r n h))

  broken : (u r : List ℕ) → BadEscape piece allowed u → scan step outside (u ++ r) ≡ none
  broken u r b =
      rw (b.spelled, append_assoc b.before (b.p ++ b.after) r, append_assoc b.p b.after r)
      (pieces_none b.before (b.p ++ (b.after ++ r)) b.pieces (G.barred b.p (b.after ++ r) b.matched b.barred))

iri_grammar : Grammar (set is_iri_char or UCHAR) iri_step is_iri_char IriPiece
iri_grammar = record { decides = decides; pieces = iri_pieces; barred = iri_barred }
  where
    decides : (p : List ℕ) → Matches (set is_iri_char or UCHAR) p → ((c : ℕ) × IriPiece p c) ⊎ (Matches UCHAR p × (gives_allowed is_iri_char p ≡ false))
    decides p m =
        ⊎_elim
        (λ s. inl (s.char, IriPiece.itself s.spelled s.allowed))
        (λ U. let n = hex_number 0 (drop 2 p) in
        by_test (gives_allowed is_iri_char p)
        (λ h. inl (n, IriPiece.by_uchar (record { matched = U; number = refl; scalar = and_left (is_scalar n) (is_iri_char n) h }) (and_right (is_scalar n) _ h)))
        (λ h. inr (U, h)))
        m

string_grammar : Grammar (set is_string_char or ECHAR or UCHAR) string_step (λ x. true) StringPiece
string_grammar = record { decides = decides; pieces = string_pieces; barred = string_barred }
  where
    decides : (p : List ℕ) → Matches (set is_string_char or ECHAR or UCHAR) p → ((c : ℕ) × StringPiece p c) ⊎ (Matches UCHAR p × (gives_allowed (λ x. true) p ≡ false))
    decides p m =
        ⊎_elim
        (λ s. inl (s.char, StringPiece.itself s.spelled s.allowed))
        (λ n. ⊎_elim
        (λ E. inl (echar (get_or p 1 0), StringPiece.by_echar (record { matched = E; letter = refl })))
        (λ U. by_test (gives_allowed (λ x. true) p)
        (λ h. inl (hex_number 0 (drop 2 p), StringPiece.by_uchar (record { matched = U; number = refl; scalar = and_left (is_scalar (hex_number 0 (drop 2 p))) true h })))
        (λ h. inr (U, h)))
        n)
        m

-- An IRI's pieces resolve, or an escape bars them, and then they are not read.
pub iri_resolves : (u : List ℕ) → Matches (many (set is_iri_char or UCHAR)) u → ((cs : List ℕ) × Resolves IriPiece u cs) ⊎ BadEscape (set is_iri_char or UCHAR) is_iri_char u
iri_resolves = resolve iri_grammar

pub iri_broken : (u r : List ℕ) → BadEscape (set is_iri_char or UCHAR) is_iri_char u → scan iri_step outside (u ++ r) ≡ none
iri_broken = broken iri_grammar

-- The same of a string's.
pub string_resolves : (u : List ℕ) → Matches (many (set is_string_char or ECHAR or UCHAR)) u → ((cs : List ℕ) × Resolves StringPiece u cs) ⊎ BadEscape (set is_string_char or ECHAR or UCHAR) (λ x. true) u
string_resolves = resolve string_grammar

pub string_broken : (u r : List ℕ) → BadEscape (set is_string_char or ECHAR or UCHAR) (λ x. true) u → scan string_step outside (u ++ r) ≡ none
string_broken = broken string_grammar
