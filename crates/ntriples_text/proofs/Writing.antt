-- Laws of bytes that are written one behind the other. Assumes nothing.
use Prim.Native.Nat.{ℕ, suc, ◌+◌, ◌≤◌}
use mathlib.Core.Path.{◌≡◌, sym, ap, ◌∙◌}
use mathlib.Core.List.{List, [], ◌∷◌, ◌++◌, append_assoc}
use native.Mathlib.Omega.{arith}
use lib.ListN.{length, take, drop, set}
use lib.Seq.{sets}
use borrow.Rule.Slice.PartMut.{put_mid}
use Rattle.std.proofs.lemmas.List.Edits.{sets-eq}
use Rattle.std.proofs.lemmas.List.{drop-drop}

-- Bytes behind others.
pub sets-append : (out : List ℕ) (at : ℕ) (xs ys : List ℕ) → sets out at (xs ++ ys) ≡ sets (sets out at xs) (at + length xs) ys
sets-append out at [] ys = let e : at + 0 ≡ at = omega arith in ap (λ (i : ℕ). sets out i ys) (sym e)
sets-append out at (x ∷ xs) ys = let e : suc at + length xs ≡ at + suc (length xs) = omega arith in sets-append (set out at x) (suc at) xs ys ∙ ap (λ (i : ℕ). sets (sets (set out at x) (suc at) xs) i ys) e

-- A part of some bytes that holds others, in place of as many.
pub part_sets
    : (out vs ys : List ℕ) (at k : ℕ) → ys ≡ vs → k ≡ length vs → at + k ≤ length out
    → put_mid at k out ys ≡ sets out at vs
part_sets out vs ys at k d e h =
    let b : at + length vs ≤ length out = omega arith in
    rw (d, e, sets-eq vs out at b, drop-drop (length vs) at out, append_assoc (take at out) vs (drop (at + length vs) out))
