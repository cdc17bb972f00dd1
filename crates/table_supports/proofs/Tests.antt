-- The tests of supports, one by one. Assumes nothing.
use Prim.Native.Nat.{ℕ, ◌+◌, ◌≤◌, ◌<◌}
use mathlib.Core.Path.{◌≡◌}
use mathlib.Core.Bool.{Bool, false, ◌&&◌}
use mathlib.Core.List.{List}
use lib.ListN.{length, get_or, take, drop}
use lib.Dec.{leb}
use borrow.Author.Tests.{le-leb, lt-leb}
use Rattle.spec.specs.Tables.{are_zero, is_support, is_support_table}
use Rattle.spec.specs.Lists.{all}
use Rattle.spec.proofs.TableAll.{and_assoc, all-next}

pub too_few : (facts n : ℕ) (us : List ℕ) → length us < n → is_support_table facts n us ≡ false
unfolding is_support_table
too_few facts n us h = rw (lt-leb n (length us) h)

pub enough_places : (facts n : ℕ) (us : List ℕ) → n ≤ length us → is_support_table facts n us ≡ (all (is_support facts) (take n us) && are_zero (drop n us))
unfolding is_support_table
enough_places facts n us h = rw (le-leb n (length us) h)

-- A turn of a loop over them with no exit: ok is the answer so far.
pub support_fold : (facts highest : ℕ) (us : List ℕ) (ok : Bool) (i : ℕ) → i < length us → leb (get_or us i 0) highest ≡ leb (get_or us i 0) facts
    → (ok && all (is_support facts) (drop i us)) ≡ ((ok && (leb 1 (get_or us i 0) && leb (get_or us i 0) highest)) && all (is_support facts) (drop (i + 1) us))
support_fold facts highest us ok i h e = rw (e, all-next (is_support facts) us i 0 h) (and_assoc ok (is_support facts (get_or us i 0)) (all (is_support facts) (drop (i + 1) us)))
