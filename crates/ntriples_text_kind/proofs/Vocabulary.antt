-- Laws of the kinds of terms, and of the vocabulary's texts. Assumes nothing.
use Prim.Native.Nat.{ℕ, ◌<◌}
use Prim.Native.Char.{code}
use mathlib.Core.Path.{◌≡◌, sym, ap}
use mathlib.Core.Bool.{true, false}
use mathlib.Core.List.{List, [], ◌∷◌, ◌++◌}
use native.Mathlib.Omega.{arith}
use lib.ListN.{length}
use Rattle.spec_ntriples.specs.Texts.{Text, is_same_text}
use Rattle.spec_ntriples.specs.Dictionary.{place_of}
use Rattle.ntriples_bytes.specs.inside.Places.{Marks, HasText}
use Rattle.ntriples_bytes.specs.declared.Mark.{Mark}
use Rattle.ntriples_bytes.proofs.Decoding.{at_same, at_within}
use Rattle.ntriples_cursor.proofs.Terms.{Opened, iri, blank, literal, open-object}

-- ---- kinds

token_opened : (line : List ℕ) (from end : ℕ) (t : Text) (H : HasText line from end t) (m : Mark) (M : Marks line from m) → Opened (m.code ∷ M.behind) H.rest t
token_opened line from end t H m M = rw (at_same line from H.chars (m.code ∷ M.behind) H.starts M.stands) at (open-object H.chars H.rest t H.reads)

-- A term stands at a character.
pub token-within : (line : List ℕ) (from end : ℕ) (t : Text) → HasText line from end t → from < length line
token-within line from end t H = go (open-object H.chars H.rest t H.reads)
  where
    go : Opened H.chars H.rest t → from < length line
    go (iri I) = at_within line from (code "<") I.inner (rw I.opens at H.starts)
    go (blank given k q) = at_within line from (code "_") (code ":" ∷ (given ++ H.rest)) (rw k at H.starts)
    go (literal inner given behind more k f F q) = at_within line from (code "\"") inner (rw k at H.starts)

module _ (line : List ℕ) (from end : ℕ) (t : Text) (H : HasText line from end t) (m : Mark) (M : Marks line from m) where
  pub kind-literal : m.code ≡ 0x22 → 2 ≡ t.kind
  kind-literal e = go (token_opened line from end t H m M)
    where
      go : Opened (m.code ∷ M.behind) H.rest t → 2 ≡ t.kind
      go (iri I) = let f : m.code ∷ M.behind ≡ 0x3C ∷ I.inner = I.opens in let g : m.code ≡ 0x3C = cc in absurd (omega arith)
      go (blank given k q) = let f : m.code ∷ M.behind ≡ 0x5F ∷ 0x3A ∷ (given ++ H.rest) = k in let g : m.code ≡ 0x5F = cc in absurd (omega arith)
      go (literal inner given behind more k f F q) = sym (ap (λ (u : Text). u.kind) q)

  pub kind_blank : m.code ≡ 0x5F → 1 ≡ t.kind
  kind_blank e = go (token_opened line from end t H m M)
    where
      go : Opened (m.code ∷ M.behind) H.rest t → 1 ≡ t.kind
      go (iri I) = let f : m.code ∷ M.behind ≡ 0x3C ∷ I.inner = I.opens in let g : m.code ≡ 0x3C = cc in absurd (omega arith)
      go (blank given k q) = sym (ap (λ (u : Text). u.kind) q)
      go (literal inner given behind more k f F q) = let g : m.code ∷ M.behind ≡ 0x22 ∷ inner = k in let h : m.code ≡ 0x22 = cc in absurd (omega arith)

  pub kind_iri : (m.code ≡ 0x22 → ⊥) → (m.code ≡ 0x5F → ⊥) → 0 ≡ t.kind
  kind_iri n o = go (token_opened line from end t H m M)
    where
      go : Opened (m.code ∷ M.behind) H.rest t → 0 ≡ t.kind
      go (iri I) = sym (ap (λ (u : Text). u.kind) I.same)
      go (blank given k q) = let f : m.code ∷ M.behind ≡ 0x5F ∷ 0x3A ∷ (given ++ H.rest) = k in absurd (o (cc))
      go (literal inner given behind more k f F q) = let g : m.code ∷ M.behind ≡ 0x22 ∷ inner = k in absurd (n (cc))

-- ---- places among texts

-- The place of a text among five, by which of them it is.
module _ (t a b c d e : List ℕ) where
  pub place_one : is_same_text t a ≡ true → 1 ≡ place_of t (a ∷ b ∷ c ∷ d ∷ e ∷ [])
  unfolding place_of
  place_one p = rw p

  pub place_two : is_same_text t a ≡ false → is_same_text t b ≡ true → 2 ≡ place_of t (a ∷ b ∷ c ∷ d ∷ e ∷ [])
  unfolding place_of
  place_two p q = rw (p, q)

  pub place_three : is_same_text t a ≡ false → is_same_text t b ≡ false → is_same_text t c ≡ true → 3 ≡ place_of t (a ∷ b ∷ c ∷ d ∷ e ∷ [])
  unfolding place_of
  place_three p q r = rw (p, q, r)

  pub place_four : is_same_text t a ≡ false → is_same_text t b ≡ false → is_same_text t c ≡ false → is_same_text t d ≡ true → 4 ≡ place_of t (a ∷ b ∷ c ∷ d ∷ e ∷ [])
  unfolding place_of
  place_four p q r s = rw (p, q, r, s)

  pub place_five : is_same_text t a ≡ false → is_same_text t b ≡ false → is_same_text t c ≡ false → is_same_text t d ≡ false → is_same_text t e ≡ true → 5 ≡ place_of t (a ∷ b ∷ c ∷ d ∷ e ∷ [])
  unfolding place_of
  place_five p q r s u = rw (p, q, r, s, u)

  pub place_none : is_same_text t a ≡ false → is_same_text t b ≡ false → is_same_text t c ≡ false → is_same_text t d ≡ false → is_same_text t e ≡ false → 0 ≡ place_of t (a ∷ b ∷ c ∷ d ∷ e ∷ [])
  unfolding place_of
  place_none p q r s u = rw (p, q, r, s, u)
