-- Laws of rows put one after the other. Assumes nothing.
use mathlib.Core.Path.{◌≡◌, refl}
use mathlib.Core.List.{List, [], ◌∷◌, ◌++◌}
use Prim.Native.Nat.{ℕ, ◌+◌, ◌^◌, ◌≤◌, ◌<◌}
use native.Mathlib.Omega.{arith}
use borrow.Author.Tests.{lt-ltb, le-ltb}
use Rattle.spec.specs.declared.Triple.{Triple}
use Rattle.spec.specs.Terms.{triple}
use Rattle.spec.specs.Saturation.{Kept}
use Rattle.table_change.specs.inside.Words.{Entered}
use Rattle.saturate_merge.specs.inside.Output.{Output, output, one_more, put_one, put_all}

pub put-append : (room : ℕ) (j k : Kept) (out : Output) → put_all room (j ++ k) out ≡ put_all room k (put_all room j out)
unfolding put_all
put-append room [] k out = refl
put-append room (e ∷ j) k out = put-append room j k (put_one room e out)

pub put_last : (room : ℕ) (j : Kept) (e : Triple × ℕ) (out : Output) → put_all room (j ++ e ∷ []) out ≡ put_one room e (put_all room j out)
unfolding put_all
put_last room [] e out = refl
put_last room (g ∷ j) e out = put_last room j e (put_one room g out)

pub put_here : {ws ss ws' ss' : List ℕ} {room n s p o c : ℕ} → n < room → room ≤ 2 ^ 32 → Entered n (triple s p o) c ws ss ws' ss' → output ws' ss' (n + 1) ≡ put_one room (triple s p o, c) (output ws ss n)
unfolding put_one one_more
put_here {room = room} {n} h k e = let l : n < 2 ^ 32 = omega arith in rw (lt-ltb n room h, lt-ltb n (2 ^ 32) l, e.row, e.support)

pub put_past : (ws ss : List ℕ) (room n s p o c : ℕ) → room ≤ n → n < 2 ^ 32 → output ws ss (n + 1) ≡ put_one room (triple s p o, c) (output ws ss n)
unfolding put_one one_more
put_past ws ss room n s p o c h k = rw (le-ltb n room h, lt-ltb n (2 ^ 32) k)

pub put_full : (ws ss : List ℕ) (room n s p o c : ℕ) → room ≤ n → 2 ^ 32 ≤ n → output ws ss n ≡ put_one room (triple s p o, c) (output ws ss n)
unfolding put_one one_more
put_full ws ss room n s p o c h k = rw (le-ltb n room h, le-ltb n (2 ^ 32) k)
