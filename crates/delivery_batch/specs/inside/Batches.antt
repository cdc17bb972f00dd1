-- What the entries of a section of facts come to, taken together. Definitions only.
use Rattle.std.specs.Prelude.{ℕ, ◌+◌, ◌-◌, not, length}
use mathlib.Core.List.{List, [], ◌∷◌, flat_map}
use Rattle.spec.specs.declared.Triple.{Triple}
use Rattle.spec.specs.Terms.{is_triple}
use Rattle.spec.specs.Lists.{select}
use Rattle.spec.specs.Order.{is_same, is_in, insert, remove}
use Rattle.spec.specs.Saturation.{raise_all, lower_all}
use Rattle.spec.specs.computed.Carried.{ascend, carried}
use Rattle.spec.specs.Tables.{ledger, Contents, contents}
use Rattle.spec.specs.declared.Tally.{Tally}
use Rattle.spec.specs.Deliveries.{tally}

-- ---- rows, with repeats

-- How often u stands in a list.
unfoldable pub times : Triple → List Triple → ℕ
times u ts = length (select (is_same u) ts)

-- All that some facts carry, a row as often as it is carried.
unfoldable pub carried_all : List Triple → List Triple → List Triple
carried_all S ts = flat_map (carried S) ts

-- ---- sets of rows

-- Those of ts that are not in F, ascending, each once.
unfoldable pub missing : List Triple → List Triple → List Triple
missing F ts = ascend (select (λ t. not (is_in t F)) ts)

-- Those of ts that are in F, ascending, each once.
unfoldable pub present : List Triple → List Triple → List Triple
present F ts = ascend (select (λ t. is_in t F) ts)

-- A set with some rows.
unfoldable pub insert_all : List Triple → List Triple → List Triple
insert_all [] F = F
insert_all (t ∷ ts) F = insert t (insert_all ts F)

-- A set without some rows.
unfoldable pub remove_all : List Triple → List Triple → List Triple
remove_all [] F = F
remove_all (t ∷ ts) F = remove t (remove_all ts F)

-- ---- a section of facts

-- The entries that 2 and 3 pass. (Question 3 asks nothing of a fact.)
abbrev pub passing : List Triple → List Triple
passing es = select is_triple es

-- The facts that entries bring, added to a store with the facts F.
abbrev pub coming : List Triple → List Triple → List Triple
coming F es = missing F (passing es)

-- The facts that entries take, withdrawn from a store with the facts F.
abbrev pub going : List Triple → List Triple → List Triple
going F es = present F (passing es)

-- Contents with new facts: each raises what it carries.
unfoldable pub with_facts : List Triple → Contents → Contents
with_facts ts c =
    contents (ledger c.explicit.statements (insert_all ts c.explicit.facts)) (raise_all (carried_all c.explicit.statements ts) c.kept)

-- Contents without some of their facts: each lowers what it carried.
unfoldable pub without_facts : List Triple → Contents → Contents
without_facts ts c =
    contents (ledger c.explicit.statements (remove_all ts c.explicit.facts)) (lower_all (carried_all c.explicit.statements ts) c.kept)

-- The tallies once n of some entries were applied: those that 2 or 3 refuses are refused, and the others are idle.
unfoldable pub tally_after : ℕ → List Triple → Tally → Tally
tally_after n es y =
    tally (y.applied + n) (y.idle + (length (passing es) - n)) (y.refused + (length es - length (passing es)))
