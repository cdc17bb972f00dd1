-- Laws of where IRIs and strings end. Assumes nothing.
use Prim.Native.Nat.{ℕ, ◌≤◌}
use Prim.Native.Char.{code}
use mathlib.Core.Path.{◌≡◌, refl, ◌∙◌}
use mathlib.Core.Bool.{true, false, ◌&&◌, ◌||◌, not}
use mathlib.Core.List.{List}
use lib.ListN.{length}
use lib.Dec.{eqb}
use borrow.Author.Tests.{eq-eqb, ne_eqb}
use Rattle.spec_ntriples.specs.Characters.{codes, is_one_of, is_letter, is_letter_or_digit}
use Rattle.spec_ntriples.specs.computed.Terminals.{Got, none, got, push, outside, iri_step, scan, skip}
use Rattle.spec_ntriples.specs.Texts.{is_scheme, is_absolute}
use Rattle.spec_ntriples.specs.computed.Lines.{iri_of, read_iri}
use Rattle.ntriples_bytes.specs.declared.Mark.{Mark}
use Rattle.ntriples_bytes.specs.inside.Places.{chars_at, Marks}
use Rattle.ntriples_bytes.proofs.Decoding.{chars_end, chars_marked}
use Rattle.ntriples_bytes.proofs.Marking.{by_test}
use Rattle.ntriples_chars.proofs.Testing.{neither, either}
use Rattle.ntriples_pieces.specs.inside.Pieces.{step_of, IsPiece}
use Rattle.ntriples_terminals.specs.inside.Ends.{Behind, nowhere, behind_where, behind_got, behind_read, Ended, IsEnd}
use Rattle.ntriples_pieces.specs.declared.Piece.{Piece}
use Rattle.ntriples_pieces.specs.declared.Piece.TheVariants.{Broken, Ends, Gives}
use Rattle.ntriples_pieces.specs.declared.Terminal.{Terminal}
use Rattle.ntriples_pieces.specs.declared.Terminal.TheVariants.{Iri}
use Rattle.std.specs.Prelude.{Option, Some, None}

-- Where what is behind is the same, so is its end.
pub end_same : (bs : List ℕ) (a b : Behind) (f : Option ℕ) → a ≡ b → IsEnd bs b f → IsEnd bs a f
end_same bs a b None e q = e ∙ q
end_same bs a b (Some end) e q = record { same = e ∙ q.same; from = q.from }

-- ---- white space

module _ (bs : List ℕ) (at : ℕ) where
  pub skip_end : length bs ≤ at → skip (chars_at bs at) ≡ chars_at bs at
  unfolding skip
  skip_end h = rw (chars_end bs at h)

  module _ (m : Mark) (M : Marks bs at m) where
    pub skip-none : (not (eqb m.code 0x09) && not (eqb m.code 0x20)) ≡ true → skip (chars_at bs at) ≡ chars_at bs at
    unfolding skip is_one_of codes
    skip-none q = rw (chars_marked M, neither (eqb m.code 0x09) (eqb m.code 0x20) q)

    pub skip-one : (not (eqb m.code 0x09) && not (eqb m.code 0x20)) ≡ false → skip (chars_at bs at) ≡ skip (chars_at bs m.next)
    unfolding skip is_one_of codes
    skip-one q = rw (chars_marked M, either (eqb m.code 0x09) (eqb m.code 0x20) q)

-- ---- the closing mark

behind-push : (c : ℕ) (g : Got) → behind_got (push c g) ≡ behind_got g
unfolding behind_got push
behind-push c none = refl
behind-push c (got cs rest) = refl

-- What is behind a closing mark that is still to come.
abbrev pub closes : Terminal → List ℕ → ℕ → Behind
closes terminal bs at = behind_got (scan (step_of terminal) outside (chars_at bs at))

module _ (terminal : Terminal) (bs : List ℕ) (at : ℕ) where
  pub closes_broken : IsPiece (step_of terminal) outside bs at Broken → closes terminal bs at ≡ nowhere
  unfolding behind_got
  closes_broken q = rw q

  pub closes_here : (next : ℕ) → IsPiece (step_of terminal) outside bs at (Ends next) → Ended bs (closes terminal bs at) next
  unfolding behind_got
  closes_here next q = record { same = rw q.0; from = q.1 }

  pub closes_later : (c next : ℕ) → IsPiece (step_of terminal) outside bs at (Gives c next) → closes terminal bs at ≡ closes terminal bs next
  closes_later c next q = rw q.0 (behind-push c (scan (step_of terminal) outside (chars_at bs next)))

  pub closes_end : length bs ≤ at → closes terminal bs at ≡ nowhere
  unfolding behind_got scan
  closes_end h = rw (chars_end bs at h)

-- ---- the scheme

-- What is behind an IRI inside its scheme, and before it.
abbrev pub in_scheme : List ℕ → ℕ → Behind
in_scheme bs at = behind_where is_scheme (scan (step_of Iri) outside (chars_at bs at))

abbrev pub in_absolute : List ℕ → ℕ → Behind
in_absolute bs at = behind_where is_absolute (scan (step_of Iri) outside (chars_at bs at))

-- The colon ends a scheme; other characters may stand in it or not.
colon : (c : ℕ) (g : Got) → c ≡ code ":" → behind_where is_scheme (push c g) ≡ behind_got g
unfolding behind_where behind_got push is_scheme
colon c none h = refl
colon c (got cs rest) h = rw (eq-eqb c (code ":") h)

scheme-char
    : (c : ℕ) (g : Got) → (c ≡ code ":" → ⊥) → (is_letter_or_digit c || is_one_of (codes "+-.") c) ≡ true
    → behind_where is_scheme (push c g) ≡ behind_where is_scheme g
unfolding behind_where push is_scheme
scheme-char c none n q = refl
scheme-char c (got cs rest) n q = rw (ne_eqb c (code ":") n, q)

no-scheme-char
    : (c : ℕ) (g : Got) → (c ≡ code ":" → ⊥) → (is_letter_or_digit c || is_one_of (codes "+-.") c) ≡ false → behind_where is_scheme (push c g) ≡ nowhere
unfolding behind_where push is_scheme
no-scheme-char c none n q = refl
no-scheme-char c (got cs rest) n q = rw (ne_eqb c (code ":") n, q)

letter : (c : ℕ) (g : Got) → is_letter c ≡ true → behind_where is_absolute (push c g) ≡ behind_where is_scheme g
unfolding behind_where push is_absolute
letter c none q = refl
letter c (got cs rest) q = rw q

no_letter : (c : ℕ) (g : Got) → is_letter c ≡ false → behind_where is_absolute (push c g) ≡ nowhere
unfolding behind_where push is_absolute
no_letter c none q = refl
no_letter c (got cs rest) q = rw q

module _ (bs : List ℕ) (at : ℕ) where
  pub scheme_stuck : (p : Piece) → IsPiece (step_of Iri) outside bs at p → ((c next : ℕ) → p ≡ Gives c next → ⊥) → in_scheme bs at ≡ nowhere
  unfolding behind_where is_scheme
  scheme_stuck Broken q n = rw q
  scheme_stuck (Ends next) q n = rw q.0
  scheme_stuck (Gives c next) q n = absurd (n c next refl)

  pub scheme_end : length bs ≤ at → in_scheme bs at ≡ nowhere
  unfolding behind_where scan
  scheme_end h = rw (chars_end bs at h)

  pub absolute_stuck : (p : Piece) → IsPiece (step_of Iri) outside bs at p → ((c next : ℕ) → p ≡ Gives c next → ⊥) → in_absolute bs at ≡ nowhere
  unfolding behind_where is_absolute
  absolute_stuck Broken q n = rw q
  absolute_stuck (Ends next) q n = rw q.0
  absolute_stuck (Gives c next) q n = absurd (n c next refl)

  pub absolute_end : length bs ≤ at → in_absolute bs at ≡ nowhere
  unfolding behind_where scan
  absolute_end h = rw (chars_end bs at h)

  module _ (c next : ℕ) (q : IsPiece (step_of Iri) outside bs at (Gives c next)) where
    pub scheme-colon : c ≡ code ":" → in_scheme bs at ≡ closes Iri bs next
    scheme-colon h = rw q.0 (colon c (scan (step_of Iri) outside (chars_at bs next)) h)

    pub scheme-on : (c ≡ code ":" → ⊥) → (is_letter_or_digit c || is_one_of (codes "+-.") c) ≡ true → in_scheme bs at ≡ in_scheme bs next
    scheme-on n t = rw q.0 (scheme-char c (scan (step_of Iri) outside (chars_at bs next)) n t)

    pub scheme-off : (c ≡ code ":" → ⊥) → (is_letter_or_digit c || is_one_of (codes "+-.") c) ≡ false → in_scheme bs at ≡ nowhere
    scheme-off n t = rw q.0 (no-scheme-char c (scan (step_of Iri) outside (chars_at bs next)) n t)

    pub absolute-on : is_letter c ≡ true → in_absolute bs at ≡ in_scheme bs next
    absolute-on t = rw q.0 (letter c (scan (step_of Iri) outside (chars_at bs next)) t)

    pub absolute-off : is_letter c ≡ false → in_absolute bs at ≡ nowhere
    absolute-off t = rw q.0 (no_letter c (scan (step_of Iri) outside (chars_at bs next)) t)

-- ---- IRIs

iri_behind : (g : Got) → behind_read (iri_of g) ≡ behind_where is_absolute g
unfolding behind_read iri_of behind_where
iri_behind none = refl
iri_behind (got cs rest) = by_test (is_absolute cs) (λ q. rw q) (λ q. rw q)

module _ (bs : List ℕ) (at : ℕ) where
  pub iri_end : length bs ≤ at → behind_read (read_iri (chars_at bs at)) ≡ nowhere
  unfolding behind_read read_iri
  iri_end h = rw (chars_end bs at h)

  module _ (m : Mark) (M : Marks bs at m) where
    pub iri-none : (m.code ≡ code "<" → ⊥) → behind_read (read_iri (chars_at bs at)) ≡ nowhere
    unfolding behind_read read_iri
    iri-none n = rw (chars_marked M, ne_eqb m.code (code "<") n)

    pub iri-some : m.code ≡ code "<" → behind_read (read_iri (chars_at bs at)) ≡ in_absolute bs m.next
    unfolding read_iri step_of
    iri-some h = rw (chars_marked M, eq-eqb m.code (code "<") h) (iri_behind (scan iri_step outside (chars_at bs m.next)))
