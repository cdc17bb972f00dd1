-- The three parts of the terms found: each finds the room and the marks that it asks for, and together they are those of the conclusions.
-- Assumes nothing.
use mathlib.Core.Path.{◌≡◌, sym, ap, ◌∙◌}
use mathlib.Core.Bool.{true}
use mathlib.Core.List.{List}
use Prim.Native.Nat.{ℕ, ◌+◌, ◌*◌, ◌≤◌, ◌<◌}
use native.Mathlib.Omega.{arith}
use lib.ListN.{length, get_or, drop, replicate, length-replicate}
use Rattle.spec.specs.declared.Triple.{Triple}
use Rattle.spec.specs.Terms.{sub_property_of}
use Rattle.spec.specs.Tables.{row_at, first_rows, count, is_statement_table}
use Rattle.spec.specs.computed.Carried.{properties, subject_classes, object_classes}
use Rattle.rdfs_reach.specs.inside.Marks.{Statements, unused, Uniform, Unused, Room}
use Rattle.rdfs_reach.proofs.MarkLaws.{zeros-unused, zeros_room, zeros-count, table_statements}
use Rattle.rdfs_classes.specs.inside.Listed.{Listed}
use Rattle.rdfs_classes.proofs.ConclusionLaws.{both, kept_iff}
use Rattle.rdfs_derive.specs.inside.Conclusions.{Concluded}

-- After the properties there is room for the subject's classes, and no mark of another property.
module _ (st : List ℕ) (m : ℕ) (used used' : List ℕ) (r : ℕ) (zeros : used ≡ replicate 512 0) (cost : r + unused m used' ≡ 1 + unused m used) where
  pub room_after : (found : List ℕ) → Statements st m → length used' ≡ length used → Uniform st m used' → 1026 ≤ length found → Room st m used' found (r + 1)
  room_after found s u uni l = record {
    marks = omega (arith, s.few, u, ap length zeros ∙ length-replicate {A = ℕ} 512 0);
    places = omega (arith, s.few, cost, zeros-count m used zeros);
    uniform = uni;
  }

  pub unused_after : (k : ℕ) → ¬ (k ≡ sub_property_of) → ((j : ℕ) → j < m → ¬ ((row_at st j).property ≡ sub_property_of) → get_or used' j 0 ≡ get_or used j 0) → Unused st m k used'
  unused_after k d h j l e = h j l (λ q. d (sym e ∙ q)) ∙ zeros-unused st m k used zeros j l e

  -- There is room for the object's classes, with marks of their own.
  pub room_again : (found again : List ℕ) (b : ℕ) → Statements st m → again ≡ replicate 512 0 → b ≤ r + 1 + unused m used' → 1026 ≤ length found → Room st m again found b
  room_again found again b s z l g = zeros_room st m again found b s z (omega (arith, s.few, cost, zeros-count m used zeros))

  pub few_terms : (again : List ℕ) (b e : ℕ) → again ≡ replicate 512 0 → b ≤ r + 1 + unused m used' → e ≤ b + unused m again → e ≤ 2 + 2 * m
  few_terms again b e z l g = omega (arith, cost, zeros-count m used zeros, zeros-count m again z)

pub all_concluded : (S : List Triple) (m : ℕ) (f : Triple) (found₀ found₁ found₂ found₃ : List ℕ) (a b e : ℕ) → Listed (properties S f) found₀ 0 found₁ a → Listed (subject_classes S f) found₁ a found₂ b →
    Listed (object_classes S f) found₂ b found₃ e → e ≤ 2 + 2 * m → Concluded S m f found₃ a b e
all_concluded S m f found₀ found₁ found₂ found₃ a b e p q o l = record {
  low = q.grows;
  high = o.grows;
  few = l;
  as_property = λ x. both (kept_iff a (λ i h. o.kept i (omega (arith, q.grows)) ∙ q.kept i h) (omega arith)) (p.exact x);
  as_subject = λ x. both (kept_iff b o.kept (omega arith)) (q.exact x);
  as_object = o.exact;
}

-- They fit the words lent.
pub few-rows : (ws : List ℕ) (m : ℕ) (f : Triple) (found : List ℕ) (a b e : ℕ) → is_statement_table ws ≡ true → m ≡ count ws → Concluded (first_rows m (drop 1 ws)) m f found a b e → e ≤ 1026
few-rows ws m f found a b e h z c = omega (arith, c.few, (table_statements ws m h z).few)
