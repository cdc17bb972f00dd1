-- Laws of where labels and tags end. Assumes nothing.
use Prim.Native.Nat.{ℕ, ◌≤◌}
use Prim.Native.Char.{code}
use mathlib.Core.Path.{◌≡◌, refl, ap, ◌∙◌}
use mathlib.Core.Bool.{true, false}
use mathlib.Core.List.{List, [], ◌∷◌}
use native.Mathlib.Omega.{arith}
use lib.ListN.{length}
use lib.Dec.{eqb}
use borrow.Author.Tests.{eq-eqb, ne_eqb}
use Rattle.spec_ntriples.specs.Characters.{is_pn_chars}
use Rattle.spec_ntriples.specs.computed.Terminals.{Got, none, got, push, dotted, label, head_is, tag}
use Rattle.spec_ntriples.specs.Texts.{lower_char}
use Rattle.ntriples_bytes.specs.declared.Mark.{Mark}
use Rattle.ntriples_bytes.specs.inside.Places.{Utf8From, chars_at, Marks}
use Rattle.ntriples_bytes.proofs.Decoding.{chars_end, chars_marked, from_marked}
use Rattle.ntriples_bytes.proofs.Marking.{by_test}
use Rattle.ntriples_terminals.specs.inside.Ends.{behind, behind_got, Ended}
use Rattle.ntriples_labels.specs.declared.Part.{Part}
use Rattle.ntriples_labels.specs.declared.Part.TheVariants.{First, Later}
use Rattle.ntriples_labels.specs.inside.Inside.{behind_label, goes_on}

-- ---- labels

-- What is read with a character in front has one.
push-not : {C : Type 0} (c : ℕ) (g : Got) (rest : List ℕ) → push c g ≡ got [] rest → C
unfolding push
push-not c none rest e = let z : ◌≡◌ {A = ℕ} 0 1 = cc in absurd (omega arith)
push-not c (got cs ds) rest e = let z : ◌≡◌ {A = ℕ} 0 1 = cc in absurd (omega arith)

-- Where a dot is not read, it is behind.
dotted_none : (c : ℕ) (cs : List ℕ) (g : Got) (rest : List ℕ) → dotted c cs g ≡ got [] rest → rest ≡ c ∷ cs
unfolding dotted
dotted_none c cs none rest e = let z : ◌≡◌ {A = ℕ} 0 1 = cc in absurd (omega arith)
dotted_none c cs (got [] ds) rest e = cc
dotted_none c cs (got (d ∷ es) ds) rest e = let z : ◌≡◌ {A = ℕ} 0 1 = cc in absurd (omega arith)

-- A label of no character has all characters behind it.
none-labelled : (cs rest : List ℕ) → label cs ≡ got [] rest → rest ≡ cs
unfolding label
none-labelled [] rest e = cc
none-labelled (c ∷ cs) rest e =
    by_test (is_pn_chars c) (λ q. push-not c (label cs) rest (rw q at e))
    (λ q. by_test (eqb c (code ".")) (λ r. dotted_none c cs (label cs) rest (rw (q, r) at e))
    (λ r. let f : got [] (c ∷ cs) ≡ got [] rest = rw (q, r) at e in cc))

-- What is behind a label that is not begun.
not_begun : (cs : List ℕ) → behind_got (label cs) ≡ behind_label cs (label cs)
unfolding behind_got behind_label
not_begun cs = go (label cs) refl
  where
    go : (g : Got) → label cs ≡ g → behind_got g ≡ behind_label cs g
    go none e = refl
    go (got [] rest) e = ap behind (none-labelled cs rest e)
    go (got (d ∷ ds) rest) e = refl

-- Characters in front of what is read.
label-push : (last : List ℕ) (c : ℕ) (g : Got) → behind_label last (push c g) ≡ behind_got g
unfolding behind_label behind_got push
label-push last c none = refl
label-push last c (got cs rest) = refl

label_dot : (last : List ℕ) (c : ℕ) (cs : List ℕ) (g : Got) → behind_label last (dotted c cs g) ≡ behind_label last g
unfolding behind_label dotted
label_dot last c cs none = refl
label_dot last c cs (got [] rest) = refl
label_dot last c cs (got (d ∷ ds) rest) = refl

-- Where a reader of a label stands: what is behind it is known from the last place that surely belongs to it, and from the rest.
pub record InLabel (bs : List ℕ) (from end at : ℕ) : Type 0 where
  pub utf8 : Utf8From bs at
  pub last : Utf8From bs end
  pub same : behind_got (label (chars_at bs from)) ≡ behind_label (chars_at bs end) (label (chars_at bs at))

pub label_start : (bs : List ℕ) (from : ℕ) → Utf8From bs from → InLabel bs from from from
label_start bs from U = record { utf8 = U; last = U; same = not_begun (chars_at bs from) }

module _ (bs : List ℕ) (from end at : ℕ) (I : InLabel bs from end at) where
  pub label_end : length bs ≤ at → Ended bs (behind_got (label (chars_at bs from))) end
  unfolding label behind_label
  label_end h = record { same = I.same ∙ rw (chars_end bs at h); from = I.last }

  module _ (m : Mark) (M : Marks bs at m) where
    pub label-on : is_pn_chars m.code ≡ true → InLabel bs from m.next m.next
    unfolding label
    label-on q =
        record { utf8 = from_marked M; last = from_marked M; same = I.same ∙ rw (chars_marked M, q) (label-push (chars_at bs end) m.code (label (chars_at bs m.next)) ∙ not_begun (chars_at bs m.next)) }

    pub label-dotted : is_pn_chars m.code ≡ false → m.code ≡ code "." → InLabel bs from end m.next
    unfolding label
    label-dotted q d =
        record { utf8 = from_marked M; last = I.last; same = I.same ∙ rw (chars_marked M, q, eq-eqb m.code (code ".") d) (label_dot (chars_at bs end) m.code (chars_at bs m.next) (label (chars_at bs m.next))) }

    pub label-off : is_pn_chars m.code ≡ false → (m.code ≡ code "." → ⊥) → Ended bs (behind_got (label (chars_at bs from))) end
    unfolding label behind_label
    label-off q n = record { same = I.same ∙ rw (chars_marked M, q, ne_eqb m.code (code ".") n); from = I.last }

-- ---- tags

tag-push : (c : ℕ) (g : Got) → behind_got (push c g) ≡ behind_got g
unfolding behind_got push
tag-push c none = refl
tag-push c (got cs rest) = refl

-- Where a reader of a tag stands.
pub record InTag (bs : List ℕ) (from : ℕ) (part : Part) (at : ℕ) : Type 0 where
  pub utf8 : Utf8From bs at
  pub same : behind_got (tag (goes_on First) (chars_at bs from)) ≡ behind_got (tag (goes_on part) (chars_at bs at))

pub tag_start : (bs : List ℕ) (from : ℕ) → Utf8From bs from → InTag bs from First from
tag_start bs from U = record { utf8 = U; same = refl }

module _ (bs : List ℕ) (from : ℕ) (part : Part) (at : ℕ) (I : InTag bs from part at) where
  pub tag_end : length bs ≤ at → Ended bs (behind_got (tag (goes_on First) (chars_at bs from))) at
  unfolding tag behind_got
  tag_end h = record { same = I.same ∙ rw (chars_end bs at h); from = I.utf8 }

  module _ (m : Mark) (M : Marks bs at m) where
    pub tag-on : goes_on part m.code ≡ true → InTag bs from part m.next
    unfolding tag
    tag-on q = record { utf8 = from_marked M; same = I.same ∙ rw (chars_marked M, q) (tag-push (lower_char m.code) (tag (goes_on part) (chars_at bs m.next))) }

    pub tag-off : goes_on part m.code ≡ false → (m.code ≡ code "-" → ⊥) → Ended bs (behind_got (tag (goes_on First) (chars_at bs from))) at
    unfolding tag behind_got
    tag-off q n = record { same = I.same ∙ rw (chars_marked M, q, ne_eqb m.code (code "-") n); from = I.utf8 }

    pub tag-stop : goes_on part m.code ≡ false → m.code ≡ code "-" → head_is (goes_on Later) (chars_at bs m.next) ≡ false → Ended bs (behind_got (tag (goes_on First) (chars_at bs from))) at
    unfolding tag behind_got goes_on
    tag-stop q n k = record { same = I.same ∙ rw (chars_marked M, q, eq-eqb m.code (code "-") n, k); from = I.utf8 }

    pub tag-hyphen : goes_on part m.code ≡ false → m.code ≡ code "-" → head_is (goes_on Later) (chars_at bs m.next) ≡ true → InTag bs from Later m.next
    unfolding tag goes_on
    tag-hyphen q n k = record { utf8 = from_marked M; same = I.same ∙ rw (chars_marked M, q, eq-eqb m.code (code "-") n, k) (tag-push m.code (tag (goes_on Later) (chars_at bs m.next))) }
