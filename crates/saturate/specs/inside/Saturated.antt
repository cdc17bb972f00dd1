-- What `saturate` answers and leaves in the lent tables, and the squares that it fills. Definitions only.
use Rattle.std.specs.Prelude.{◌≡◌, List, ℕ, length}
use Rattle.spec.specs.Tables.{rows}
use Rattle.spec.specs.computed.Saturated.{saturation}
use Rattle.saturate_schema.specs.inside.Nodes.{edges}
use Rattle.saturate_schema.specs.inside.Squares.{at, Bits, Closed, Cleared}
use Rattle.saturate_write.specs.inside.Written.{Result, written}

-- The kept facts worked out afresh from the statements and the facts of two tables.
unfoldable pub saturated : List ℕ → List ℕ → ℕ → List ℕ → List ℕ → Result
saturated S F room ws us = written (saturation (rows S) (rows F)) room ws us

-- The square of domains: what a statement leads to by subclasses, subproperties and domains, itself left out.
pub record Domains (st : List ℕ) (m : ℕ) (col : List ℕ) (ns : ℕ) (d : List ℕ) : Type 0 where
  pub long : length d ≡ 262144
  pub whole : List ℕ
  pub closed : Closed st m col ns (at whole) (edges st 4 m)
  pub bits : Bits whole
  pub cleared : Cleared st col ns whole d m

-- The square of ranges: what a statement leads to by subclasses, subproperties and ranges.
pub record Ranges (st : List ℕ) (m : ℕ) (col : List ℕ) (ns via : ℕ) (r : List ℕ) : Type 0 where
  pub long : length r ≡ 262144
  pub closed : Closed st m col ns (at r) (edges st via m)
  pub bits : Bits r
