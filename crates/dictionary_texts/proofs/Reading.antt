-- Laws of texts that are read as terms. Assumes nothing.
use Prim.Native.Nat.{ℕ, ◌≤◌, ◌<◌}
use mathlib.Core.Path.{◌≡◌, refl, sym, ap, ◌∙◌}
use mathlib.Core.Bool.{Bool, true, false, ◌||◌}
use mathlib.Core.List.{List, []}
use native.Mathlib.Omega.{arith}
use lib.ListN.{length, take, drop, drop_of_length-le}
use lib.Seq.{take-length}
use lib.Dec.{eqb, ltb}
use borrow.Author.Tests.{ltb-true}
use Rattle.spec_ntriples.specs.computed.Decoded.{Decoded, broken, decoded, decode}
use Rattle.spec_ntriples.specs.Characters.{codes}
use Rattle.spec_ntriples.specs.Texts.{Text, is_same_text}
use Rattle.spec_ntriples.specs.computed.Lines.{read_object}
use Rattle.spec_ntriples.specs.Dictionary.{kind_of, vocabulary_of}
use Rattle.spec_ntriples.specs.computed.Canonical.{is_none, gives_itself, decodes_to_itself, is_canonical}
use Rattle.spec_ntriples.proofs.Canonical.{canonical-text, text-kind}
use Rattle.ntriples_bytes.specs.inside.Places.{chars_at, HasText}
use Rattle.ntriples_bytes.specs.inside.Whole.{are_chars}
use Rattle.ntriples_bytes.proofs.Decoding.{at_start, first-at, chars_stand, chars_end}
use Rattle.ntriples_terminals.specs.inside.Ends.{nowhere, behind_read, Ended}
use Rattle.ntriples_lines.proofs.Lines.{Term, no_term, term_found, object-object}
use Rattle.ntriples_document.proofs.Counting.{CharsOf}
use Rattle.ntriples_text.specs.inside.Tokens.{IsToken}
use Rattle.ntriples_text_kind.proofs.Vocabulary.{place_none}
use Rattle.dictionary_bytes.proofs.Same.{lengths_differ}

-- ---- whether a text is canonical

no_chars : (t : List ℕ) (d : Decoded) → are_chars d ≡ false → false ≡ decodes_to_itself t d
unfolding are_chars decodes_to_itself
no_chars t broken h = refl
no_chars t (decoded cs) h = let z : ◌≡◌ {A = ℕ} 0 1 = cc in absurd (omega arith)

-- A text that is not UTF-8 is not canonical.
pub broken-text : (t : List ℕ) → are_chars (decode t) ≡ false → false ≡ is_canonical t
unfolding is_canonical
broken-text t h = no_chars t (decode t) h

module _ (t : List ℕ) (C : CharsOf (decode t)) where
  -- Nor is one from which no term is read.
  pub no_text_lem : behind_read (read_object (chars_at t 0)) ≡ nowhere → false ≡ is_canonical t
  unfolding is_canonical decodes_to_itself gives_itself
  no_text_lem e = rw (C.same, no_term read_object t 0 C.chars (at_start t C.chars C.same) e)

  module _ (end : ℕ) (E : Ended t (behind_read (read_object (chars_at t 0))) end) where
    -- The term that is read from it.
    pub term-read : Term read_object t 0 end C.chars
    term-read = term_found read_object t 0 C.chars (at_start t C.chars C.same) object-object end E

    -- Nor is one behind whose term others stand.
    pub more-text : end < length t → false ≡ is_canonical t
    unfolding is_canonical decodes_to_itself gives_itself is_none
    more-text h =
        let F = first-at t end (chars_at t end) h (chars_stand E.from) in
        rw (C.same, term-read.reads, F.same)

    -- One whose term goes to its end is canonical where that has its text.
    pub whole-text : length t ≤ end → is_same_text term-read.text.bytes (take (length t) (drop 0 t)) ≡ is_canonical t
    unfolding is_canonical decodes_to_itself gives_itself is_none
    whole-text h = rw (C.same, term-read.reads, chars_end t end h, take-length t)

-- ---- canonical texts

-- A canonical text is a term with that text.
pub record Itself (t : List ℕ) : Type 0 where
  pub term : Text
  pub has : HasText t 0 (length t) term
  pub same : term.bytes ≡ t
  pub kind : kind_of t ≡ term.kind

pub itself : (t : List ℕ) → is_canonical t ≡ true → Itself t
unfolding decode
itself t h =
    let C = (canonical-text t).0 h in
    let e : length t ≤ length t = omega arith in
    record {
      term = C.term;
      has = record { chars = C.chars; rest = []; starts = at_start t C.chars C.decodes; reads = C.reads; behind = record { within = e; chars = rw (drop_of_length-le t e) } };
      same = C.same;
      kind = rw C.same at (text-kind C.chars C.term [] C.reads);
    }

pub is_token : (t : List ℕ) → is_canonical t ≡ true → IsToken t 0 (length t)
is_token t h = let I = itself t h in record { text = I.term; has = I.has }

module _ (t : List ℕ) (h : is_canonical t ≡ true) where
  -- What holds of its term's text holds of it.
  pub own-kind : (r : ℕ) → ((u : Text) → HasText t 0 (length t) u → r ≡ u.kind) → r ≡ kind_of t
  own-kind r f = let I = itself t h in f I.term I.has ∙ sym I.kind

  pub own_vocabulary : (r : ℕ) → ((u : Text) → HasText t 0 (length t) u → r ≡ vocabulary_of u.bytes) → eqb r 0 ≡ eqb (vocabulary_of t) 0
  own_vocabulary r f = let I = itself t h in ap (λ (n : ℕ). eqb n 0) (f I.term I.has ∙ ap vocabulary_of I.same)

-- ---- texts of other lengths than the vocabulary's

either : (a b : Bool) (n : ℕ) → (a || b) ≡ true → (a ≡ true → n < 44) → (b ≡ true → 52 < n) → (m : ℕ) → 44 ≤ m → m ≤ 52 → n ≡ m → ⊥
either true b n e f g m h k q = omega (arith, f refl, h, q)
either false b n e f g m h k q = omega (arith, g e, k, q)

-- A text that is shorter or longer is none of it.
pub no_vocabulary : (t : List ℕ) → (ltb (length t) 44 || ltb 52 (length t)) ≡ true → true ≡ eqb (vocabulary_of t) 0
unfolding codes
no_vocabulary t e =
    let other : (m : ℕ) → 44 ≤ m → m ≤ 52 → length t ≡ m → ⊥ = either (ltb (length t) 44) (ltb 52 (length t)) (length t) e (ltb-true (length t) 44) (ltb-true 52 (length t)) in
    let differ : (u : List ℕ) → 44 ≤ length u → length u ≤ 52 → is_same_text t u ≡ false = λ u h k. lengths_differ t u (other (length u) h k) in
    ap (λ (n : ℕ). eqb n 0)
    (place_none t _ _ _ _ _
    (differ (codes "<http://www.w3.org/1999/02/22-rdf-syntax-ns#type>") (omega arith) (omega arith))
    (differ (codes "<http://www.w3.org/2000/01/rdf-schema#subClassOf>") (omega arith) (omega arith))
    (differ (codes "<http://www.w3.org/2000/01/rdf-schema#subPropertyOf>") (omega arith) (omega arith))
    (differ (codes "<http://www.w3.org/2000/01/rdf-schema#domain>") (omega arith) (omega arith))
    (differ (codes "<http://www.w3.org/2000/01/rdf-schema#range>") (omega arith) (omega arith)))
