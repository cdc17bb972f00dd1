-- A turn of the loop that copies bytes. Assumes nothing.
use Prim.Native.Nat.{ℕ, ◌+◌, ◌≤◌, ◌<◌}
use mathlib.Core.Path.{◌≡◌, sym, ap, ◌∙◌}
use mathlib.Core.List.{List, [], ◌∷◌, ◌++◌}
use native.Mathlib.Numerals.{add-one}
use native.Mathlib.Omega.{arith}
use lib.ListN.{length, get_or, take, drop, set, length-drop}
use lib.Seq.{sets, take-suc, length-take-le, get_or-drop}
use Rattle.ntriples_text.proofs.Writing.{sets-append}

-- One byte more of some.
sets_more : (out bs : List ℕ) (at k : ℕ) → k < length bs → k ≡ length (take k bs) → set (sets out at (take k bs)) (at + k) (get_or bs k 0) ≡ sets out at (take (k + 1) bs)
sets_more out bs at k h l =
    let e : take (k + 1) bs ≡ take k bs ++ (get_or bs k 0 ∷ []) = rw (add-one k) (take-suc bs k 0 h) in
    let f : at + length (take k bs) ≡ at + k = omega arith in
    sym (ap (sets out at) e ∙ sets-append out at (take k bs) (get_or bs k 0 ∷ []) ∙ ap (λ (i : ℕ). sets (sets out at (take k bs)) i (get_or bs k 0 ∷ [])) f)

-- One byte more of the n from an index on.
pub copy_more : (out bs : List ℕ) (at from n k : ℕ) → from + n ≤ length bs → k < n → set (sets out at (take k (drop from bs))) (at + k) (get_or bs (from + k) 0) ≡ sets out at (take (k + 1) (drop from bs))
copy_more out bs at from n k h l =
    let d : k < length (drop from bs) = omega (arith, length-drop from bs) in
    ap (λ (b : ℕ). set (sets out at (take k (drop from bs))) (at + k) b) (sym (get_or-drop from bs k 0))
    ∙ sets_more out (drop from bs) at k d (sym (length-take-le k (drop from bs) (omega arith)))
