-- What a search finds. Assumes nothing.
use Prim.Native.Nat.{ℕ, ◌+◌, ◌*◌, ◌<◌}
use mathlib.Core.Path.{◌≡◌}
use mathlib.Core.Bool.{◌&&◌}
use mathlib.Core.List.{List}
use native.Mathlib.Omega.{arith}
use lib.ListN.{get_or, drop}
use lib.Dec.{eqb}
use borrow.Author.Tests.{eq-eqb, eqb-true}
use Rattle.spec.specs.declared.Triple.{Triple}
use Rattle.spec.specs.Terms.{triple}
use Rattle.spec.specs.inside.Comparison.{Less, triple_eq, compare_triples, same, more, less}
use Rattle.spec.proofs.Order.{of_subject, of_property, of_object}
use Rattle.spec.proofs.Ascending.{and_left, and_right}
use Rattle.spec.specs.Tables.{row_at, first_rows}
use Rattle.spec.proofs.TableRows.{length-first_rows, get_or-row_at}
use Rattle.std.specs.Prelude.{Ok, Err}
use Rattle.table_find.specs.inside.Search.{place}
use Rattle.table.specs.inside.Bounds.{Tells, Below}
use Rattle.table_find.proofs.Place.{place_at_lem, place_gap}

-- The test whether a row is x.
pub row_is : (t : List ℕ) (i : ℕ) (x : Triple) → Tells (eqb (get_or t (i * 3 + 1) 0) x.subject && eqb (get_or t (i * 3 + 1 + 1) 0) x.property && eqb (get_or t (i * 3 + 1 + 2) 0) x.object) (row_at t i ≡ x)
unfolding row_at
row_is t i x = record {
  if_true = λ e. triple_eq (row_at t i) x (eqb-true _ _ (and_left _ _ (and_left _ _ e))) (eqb-true _ _ (and_right (eqb (get_or t (i * 3 + 1) 0) x.subject) _ (and_left _ _ e))) (eqb-true _ _ (and_right (eqb (get_or t (i * 3 + 1) 0) x.subject && eqb (get_or t (i * 3 + 1 + 1) 0) x.property) _ e));
  if_false = λ e h. let z : ◌≡◌ {A = ℕ} 0 1 = cc (e, eq-eqb _ _ (of_subject h), eq-eqb _ _ (of_property h), eq-eqb _ _ (of_object h)) in omega arith;
}

-- A triple for places past the end.
no_triple : Triple
no_triple = triple 0 0 0

module _ (t : List ℕ) (n : ℕ) (x : Triple) where
  pub found_at : {i : ℕ} → Below t n x i → i < n → row_at t i ≡ x → place x (first_rows n (drop 1 t)) ≡ Ok i
  found_at {i} B h e =
      place_at_lem x (first_rows n (drop 1 t)) no_triple i (rw length-first_rows h)
      (λ k q. rw (get_or-row_at t n k no_triple (omega arith)) (B.less k q)) (rw (get_or-row_at t n i no_triple h) e)

  pub found_gap : {i : ℕ} → Below t n x i → (i < n → ¬ (row_at t i ≡ x)) → place x (first_rows n (drop 1 t)) ≡ Err i
  found_gap {i} B e =
      place_gap x (first_rows n (drop 1 t)) no_triple i (rw length-first_rows B.within)
      (λ k q. rw (get_or-row_at t n k no_triple (omega (arith, B.within))) (B.less k q))
      (λ q. let h : i < n = rw length-first_rows at q in rw (get_or-row_at t n i no_triple h) (greater (row_at t i) (B.other i (omega arith) h) (e h)))
    where
      greater : (u : Triple) → ¬ Less u x → ¬ (u ≡ x) → Less x u
      greater u a b = elim (compare_triples u x) [ less h ↦ absurd (a h) | same h ↦ absurd (b h) | more h ↦ h ]
