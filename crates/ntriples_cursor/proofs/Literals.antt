-- Laws of where a literal's text goes on behind its string. Assumes nothing.
use Prim.Native.Nat.{ℕ, ◌≤◌, ◌<◌}
use Prim.Native.Char.{code}
use mathlib.Core.Path.{◌≡◌, refl}
use mathlib.Core.Bool.{true, false}
use mathlib.Core.List.{List, [], ◌∷◌, ◌++◌}
use native.Mathlib.Omega.{arith}
use lib.ListN.{length}
use Rattle.spec_ntriples.specs.Utf8.{utf8}
use Rattle.spec_ntriples.specs.computed.Terminals.{skip}
use Rattle.spec_ntriples.specs.Texts.{is_same_text}
use Rattle.ntriples_bytes.specs.inside.Places.{At, Marks}
use Rattle.ntriples_bytes.specs.declared.Mark.{Mark}
use Rattle.ntriples_bytes.proofs.Decoding.{at_within}
use Rattle.ntriples_cursor.specs.inside.Coming.{Typed, Follows, IriComing, LabelComing, SuffixComing, typed_at, tagged_at, type_tail}
use Rattle.ntriples_cursor.proofs.Terms.{upto-place, skip_upto}
use Rattle.ntriples_cursor.proofs.Following.{Marked, follows_end, follows_mark, marked_char, TypeFound, marked-type, marked-tag, type_same, type_other}
use Rattle.ntriples_cursor.proofs.Placing.{follows_upto}

-- A datatype's IRI, from behind its first mark on.
pub type-coming : (line : List ℕ) (end inner : ℕ) (cs rest given : List ℕ) (T : Typed cs rest given) → At line inner T.inner → At line end rest → IriComing line end inner (utf8 given ++ (code ">" ∷ []))
type-coming line end inner cs rest given T A E = record { given = given; rest = rest; reads = record { chars = T.inner; stands = A; scans = T.scans }; ends = E; same = refl }

module _ (line : List ℕ) (end place : ℕ) (cs rest more : List ℕ) (A : At line place cs) (E : At line end rest) (F : Follows cs rest more) where
  -- The literal ends there.
  pub literal_end : place ≡ end → (LabelComing line end end more) × (place ≤ end)
  unfolding utf8
  literal_end e = (record { given = []; rest = rest; stands = E; ends = E; same = follows_end line end place cs rest more A E e F }, omega arith)

  module _ (n : place ≡ end → ⊥) (mark : ℕ) (S : At line mark (skip cs)) where
    marked : Marked cs rest more
    marked = follows_mark line end place cs rest more A E n F

    -- A mark stands behind white space.
    pub mark-within : mark < length line
    mark-within = let C = marked_char cs rest more marked in at_within line mark C.char C.behind (rw C.same at S)

    mark-behind : place ≤ mark
    mark-behind = upto-place line place mark cs (skip cs) (skip_upto cs) A S

    module _ (m : Mark) (M : Marks line mark m) where
      -- That of a tag.
      pub literal-tag : m.code ≡ 0x40 → (SuffixComing line end mark more) × (place ≤ mark)
      literal-tag e = let T = marked-tag line mark cs rest more m M S e marked in (record { chars = skip cs; rest = rest; stands = S; ends = E; shown = tagged_at T.given T.tagged T.same }, mark-behind)

      -- That of a datatype.
      pub found_type : (m.code ≡ 0x40 → ⊥) → TypeFound cs rest more
      found_type o = marked-type line mark cs rest more m M S o marked

      pub literal-string : (T : TypeFound cs rest more) → is_same_text (utf8 T.given ++ (code ">" ∷ [])) type_tail ≡ true → (LabelComing line end end more) × (place ≤ end)
      unfolding utf8
      literal-string T e = (record { given = []; rest = rest; stands = E; ends = E; same = T.off (type_same T.given e) }, upto-place line place end cs rest (follows_upto cs rest more F) A E)

      pub literal-type : (T : TypeFound cs rest more) → is_same_text (utf8 T.given ++ (code ">" ∷ [])) type_tail ≡ false → (SuffixComing line end mark more) × (place ≤ mark)
      literal-type T e = (record { chars = skip cs; rest = rest; stands = S; ends = E; shown = typed_at T.given T.typed (T.on (type_other T.given e)) }, mark-behind)
