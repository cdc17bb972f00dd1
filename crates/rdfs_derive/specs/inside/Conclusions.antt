-- The terms that a fact's conclusions are made of, in a work list. Definitions only.
use mathlib.Core.List.{List, Memᴰ}
use Rattle.std.specs.Prelude.{◌↔◌, ℕ, ◌+◌, ◌*◌, ◌≤◌}
use Rattle.spec.specs.declared.Triple.{Triple}
use Rattle.spec.specs.computed.Carried.{properties, subject_classes, object_classes}
use Rattle.rdfs_reach.specs.inside.Marks.{Within}

-- Of the terms found, those below a are the properties of f, those from a on, below b, are the classes of its subject, and those from
-- b on, below e, are the classes of its object; S has m statements.
pub record Concluded (S : List Triple) (m : ℕ) (f : Triple) (found : List ℕ) (a b e : ℕ) : Type 0 where
  pub low : a ≤ b
  pub high : b ≤ e
  pub few : e ≤ 2 + 2 * m
  pub as_property : (q : ℕ) → Within found 0 a q ↔ Memᴰ q (properties S f)
  pub as_subject : (c : ℕ) → Within found a b c ↔ Memᴰ c (subject_classes S f)
  pub as_object : (c : ℕ) → Within found b e c ↔ Memᴰ c (object_classes S f)
