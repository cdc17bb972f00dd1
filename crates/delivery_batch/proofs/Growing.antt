-- The saturation grows with the facts. Assumes nothing.
use Prim.Native.Nat.{◌≤◌}
use mathlib.Core.List.{List, Memᴰ}
use lib.ListN.{length}
use Rattle.spec.specs.declared.Triple.{Triple}
use Rattle.spec.specs.Order.{is_in}
use Rattle.spec.specs.inside.Comparison.{Ascending}
use Rattle.spec.specs.inside.Counts.{lookup}
use Rattle.spec.specs.computed.Carried.{carried, carriers, support}
use Rattle.spec.specs.computed.Saturated.{saturation}
use Rattle.spec.proofs.Lists.{select_in, select_out}
use Rattle.spec.proofs.Kept.{kept_shorter}
use Rattle.spec.proofs.Saturation.{carriers-ascend, saturation_counts, saturation-support}
use Rattle.spec.proofs.Sets.{ascending-distinct, distinct-length}

module _ (S F G : List Triple) (a : Ascending F) (h : (u : Triple) → Memᴰ u F → Memᴰ u G) where
  -- Fewer facts give no row a greater support,
  pub support_facts : (t : Triple) → support S F t ≤ support S G t
  unfolding support carriers
  support_facts t =
      distinct-length (carriers S F t) (carriers S G t) (ascending-distinct (carriers S F t) (carriers-ascend S F t a)) (λ f m.
      let r = select_out (λ g. is_in t (carried S g)) F m in
      select_in (λ g. is_in t (carried S g)) G (h f r.0) r.1)

  pub saturation_facts : (t : Triple) → lookup (saturation S F) t ≤ lookup (saturation S G) t
  saturation_facts t = simp saturation-support (support_facts t)

  -- and keep no more rows.
  pub saturation_fewer : length (saturation S F) ≤ length (saturation S G)
  saturation_fewer = kept_shorter (saturation S F) (saturation S G) (saturation_counts S F) (saturation_counts S G) saturation_facts
