-- `less_words` returns what `less` says of the two rows: the order of the words from word k on is the order of the rows.
use mathlib.Core.Path.{◌≡◌}
use Prim.Native.Nat.{◌+◌, ◌-◌}
use Rattle.spec.specs.Rows.{less}
use Rattle.rows.specs.inside.Rows.{row}
use Rattle.rows_single.proofs.less_words.Given as goal

abbrev pub invariant-loop-k : goal.invariant-loop-k
invariant-loop-k l = less (row (l.m - l.k) (l.p + l.k) l.t) (row (l.m - l.k) (l.q + l.k) l.u) ≡ less (row l.m l.p l.t) (row l.m l.q l.u)
