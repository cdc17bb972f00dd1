-- The bits of a node, read off the row of any of its statements. Assumes nothing.
use mathlib.Core.Path.{◌≡◌, refl, sym, ap, ◌∙◌}
use mathlib.Core.List.{List}
use mathlib.Core.Logic.{by_cases}
use Prim.Native.Nat.{ℕ, zero, suc, ◌≤◌, ◌<◌}
use native.Mathlib.Omega.{arith}
use native.Mathlib.Decide.{ℕ_discrete}
use borrow.Author.Tests.{eq-eqb, ne_eqb}
use Rattle.saturate_schema.specs.inside.Nodes.{subject_node, Found, found, none}
use Rattle.saturate_schema.specs.inside.Squares.{at}
use Rattle.saturate_schema.specs.inside.Compiled.{node_bit}
use Rattle.saturate_schema.proofs.Counted.{node_bit_le}
use Rattle.saturate_counts.specs.inside.Prepared.{Square}

-- A node that no statement starts at leads nowhere.
pub node_absent : (st : List ℕ) (m : ℕ) (sq : List ℕ) (x c : ℕ) → ((i : ℕ) → i < m → ¬ (subject_node st i ≡ x)) → node_bit st m sq x c ≡ 0
unfolding node_bit
node_absent st zero sq x c n = refl
node_absent st (suc m) sq x c n = rw (ne_eqb (subject_node st m) x (n m (omega arith))) (node_absent st m sq x c (λ i l. n i (omega arith)))

-- Where the rows of a node are the same, each of them has its bits.
node_row : (st : List ℕ) (m : ℕ) (sq : List ℕ) (x c g : ℕ) → ((i : ℕ) → i < m → subject_node st i ≡ x → at sq i c ≡ at sq g c) → g < m → subject_node st g ≡ x → node_bit st m sq x c ≡ at sq g c
unfolding node_bit
node_row st zero sq x c g even l e = absurd (omega arith)
node_row st (suc m) sq x c g even l e =
    by_cases (ℕ_discrete (subject_node st m) x)
    (λ q. rw (eq-eqb (subject_node st m) x q) (even m (omega arith) q))
    (λ n. rw (ne_eqb (subject_node st m) x n) (node_row st m sq x c g (λ i h. even i (omega arith)) (later n) e))
  where
    later : ¬ (subject_node st m ≡ x) → g < m
    later n = by_cases (ℕ_discrete g m) (λ q. absurd (n (ap (subject_node st) (sym q) ∙ e))) (λ k. omega arith)

module _ (st : List ℕ) (m ns : ℕ) (sq : List ℕ) (w : Square st m ns sq) where
  -- The row of a statement that was found.
  pub node_found : (x c g : ℕ) → Found (subject_node st) m x g → g < m → c < ns → node_bit st m sq x c ≡ at sq g c
  node_found x c g (none e k) l lc = absurd (omega arith)
  node_found x c g (found h e) l lc = node_row st m sq x c g (λ i li q. w.even i g c li l lc (q ∙ sym e)) l e

  -- No statement was found.
  pub node_none : (x c g : ℕ) → Found (subject_node st) m x g → m ≤ g → node_bit st m sq x c ≡ 0
  node_none x c g (found h e) l = absurd (omega arith)
  node_none x c g (none e k) l = node_absent st m sq x c k

-- Bits are at most 1.
pub node_bit_lem : (st : List ℕ) (m ns : ℕ) (sq : List ℕ) → Square st m ns sq → (x c : ℕ) → c < ns → node_bit st m sq x c ≤ 1
node_bit_lem st m ns sq w x c lc = node_bit_le st sq sq ns c (λ a b. ℕ) lc m x (λ i l. w.bits i c l lc)

-- A statement that starts at a node.
pub record Starts (st : List ℕ) (m x : ℕ) : Type 0 where
  pub number : ℕ
  pub below : number < m
  pub node : subject_node st number ≡ x

-- A node that leads somewhere has a statement.
pub node_starts : (st : List ℕ) (m : ℕ) (sq : List ℕ) (x c : ℕ) → node_bit st m sq x c ≡ 1 → Starts st m x
unfolding node_bit
node_starts st zero sq x c h = absurd (omega arith)
node_starts st (suc m) sq x c h =
    by_cases (ℕ_discrete (subject_node st m) x)
    (λ q. record { number = m; below = omega arith; node = q })
    (λ n. let r = node_starts st m sq x c (rw (ne_eqb (subject_node st m) x n) at h) in record { number = r.number; below = omega (arith, r.below); node = r.node })
