-- The tests of sections, and the length of a field. Assumes nothing.
use Prim.Native.Nat.{ℕ, ◌+◌, ◌≤◌}
use mathlib.Core.Path.{◌≡◌}
use mathlib.Core.Bool.{Bool, true, false, ◌&&◌}
use mathlib.Core.List.{List}
use native.Mathlib.Omega.{arith}
use lib.ListN.{length, length-take, length-drop}
use Rattle.spec.specs.Lists.{all}
use Rattle.spec.specs.Deliveries.{are_sections_right}
use Rattle.spec.specs.computed.Decoded.{short, section_at, section_start, field_at, field_end, read}
use Rattle.delivery_format.specs.inside.Sections.{is_right_in}

-- The four tests of `are_sections_right`, as answers.
pub sections_right : (bs : List ℕ) (a b c d : Bool) → a ≡ all (is_right_in true) (section_at bs (section_start bs 0)) → b ≡ all (is_right_in false) (section_at bs (section_start bs 1)) → c ≡ all (is_right_in true) (section_at bs (section_start bs 2)) → d ≡ all (is_right_in false) (section_at bs (section_start bs 3)) → (a && (b && (c && d))) ≡ are_sections_right (read bs)
unfolding are_sections_right read is_right_in
sections_right bs a b c d p q r s = rw (p, q, r, s)

-- A field within the bytes is as long as it says.
pub field-length : (bs : List ℕ) (at : ℕ) → field_end bs at ≤ length bs → length (field_at bs at).bytes ≡ short bs (at + 2)
unfolding field_end
field-length bs at h = simp (length-take, length-drop) (omega arith)
