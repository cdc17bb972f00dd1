-- Well-formed supports are the layout of the supports of the rows, each between 1 and the number of facts, and back. Assumes nothing.
use Prim.Native.Nat.{ℕ, ◌-◌, ◌≤◌, ◌<◌}
use mathlib.Core.Path.{◌≡◌}
use mathlib.Core.Bool.{true}
use mathlib.Core.List.{List, ◌++◌}
use native.Mathlib.Omega.{arith}
use lib.ListN.{length, get_or, take, drop, replicate, length-append, length-replicate, length-drop, take-append-drop}
use lib.Seq.{take_at, drop_at, get_or-take, length-take-le}
use lib.Dec.{leb}
use borrow.Author.Tests.{leb-true, le-leb}
use Rattle.spec.proofs.Ascending.{and_left, and_right}
use Rattle.spec.specs.Tables.{are_zero, is_support, is_support_table}
use Rattle.spec.specs.Lists.{all, padded}
use Rattle.spec.specs.inside.Laid.{Supports}
use Rattle.spec.proofs.TableAll.{all_get_d, replicate_of, are_zero-replicate}

-- ---- one support

pub is_support-between : (facts u : ℕ) → is_support facts u ≡ true → (1 ≤ u) × (u ≤ facts)
is_support-between facts u e = (leb-true 1 u (and_left _ _ e), leb-true u facts (and_right (leb 1 u) _ e))

pub between-is_support : (facts u : ℕ) → 1 ≤ u → u ≤ facts → is_support facts u ≡ true
between-is_support facts u h k = rw (le-leb 1 u h, le-leb u facts k)

-- ---- the table

pub length-padded : (len : ℕ) (us : List ℕ) → length us ≤ len → length (padded len us) ≡ len
length-padded len us h = simp (length-append, length-replicate) (omega arith)

-- The supports of a layout.
pub take-padded : (len n : ℕ) (us : List ℕ) → length us ≡ n → take n (padded len us) ≡ us
take-padded len n us e = take_at us _ n e

pub supports_of_lem : (facts n : ℕ) (us : List ℕ) → is_support_table facts n us ≡ true → Supports facts n us
unfolding is_support_table
supports_of_lem facts n us e =
    let few : n ≤ length us = leb-true n (length us) (and_left _ _ e) in
    let q = and_right (leb n (length us)) _ e in
    let rest : are_zero (drop n us) ≡ true = and_right (all (is_support facts) (take n us)) _ q in
    let long : length (take n us) ≡ n = length-take-le n us few in
    record {
      within = few;
      each_support = and_left _ _ q;
      is_layout = simp (long, ← replicate_of (drop n us) _ rest (length-drop n us), take-append-drop);
    }

pub supports-padded : (facts len n : ℕ) (us : List ℕ) → length us ≡ n → n ≤ len → all (is_support facts) us ≡ true → is_support_table facts n (padded len us) ≡ true
unfolding is_support_table
supports-padded facts len n us e h q =
    let z : List ℕ = replicate (len - length us) 0 in
    let room : n ≤ length (us ++ z) = simp (length-append, length-replicate) (omega arith) in
    simp (le-leb n (length (us ++ z)) room, take_at us z n e, q, drop_at us z n e, are_zero-replicate)

pub supports_is : {facts n : ℕ} {us : List ℕ} → Supports facts n us → is_support_table facts n us ≡ true
supports_is {facts} {n} {us} S = rw S.is_layout (supports-padded facts (length us) n (take n us) (length-take-le n us S.within) S.within S.each_support)

-- Each of the n supports lies between 1 and the number of facts.
pub support-between : {facts n : ℕ} {us : List ℕ} → Supports facts n us → (i : ℕ) → i < n → (1 ≤ get_or us i 0) × (get_or us i 0 ≤ facts)
support-between {facts} {n} {us} S i h =
    is_support-between facts (get_or us i 0) (rw (get_or-take n us i 0 h) at (all_get_d (is_support facts) (take n us) 0 S.each_support i (rw (length-take-le n us S.within) h)))
