-- What copying words within a table by three places leaves. Assumes nothing.
use Prim.Native.Nat.{ℕ, ◌+◌, ◌-◌, ◌≤◌}
use mathlib.Core.Path.{◌≡◌}
use mathlib.Core.List.{List, append_assoc}
use native.Mathlib.Omega.{arith}
use lib.ListN.{take, drop}
use lib.Seq.{slice}
use Rattle.std.specs.List.{copy_within}
use Rattle.std.proofs.lemmas.List.{drop-take}
use Rattle.table_change.specs.inside.Words.{moved_up, moved_down}

pub copied_up : (ws : List ℕ) (a e : ℕ) → a ≤ e → copy_within ws a e (a + 3) ≡ moved_up a e ws
unfolding moved_up
copied_up ws a e h =
    let q : a + (e - a) ≡ e = omega arith in
    let r : a + 3 + (e - a) ≡ e + 3 = omega arith in
    let s : slice a e ws ≡ take (e - a) (drop a ws) = rw q at (drop-take a (e - a) ws) in
    rw (r, s) (simp append_assoc)

pub copied_down : (ws : List ℕ) (a e : ℕ) → a ≤ e → copy_within ws (a + 3) (e + 3) a ≡ moved_down a e ws
unfolding moved_down
copied_down ws a e h =
    let q : a + 3 + (e + 3 - (a + 3)) ≡ e + 3 = omega arith in
    let r : a + (e + 3 - (a + 3)) ≡ e = omega arith in
    let s : slice (a + 3) (e + 3) ws ≡ take (e + 3 - (a + 3)) (drop (a + 3) ws) = rw q at (drop-take (a + 3) (e + 3 - (a + 3)) ws) in
    rw (r, s) (simp append_assoc)
