-- What functions over lent tables leave, in pairs with what they give. Definitions only.
use Rattle.spec.specs.declared.Answer.{Answer}
use Rattle.spec.specs.declared.Tally.{Tally}
use Rattle.spec.specs.Tables.{Tables}

-- An answer with tables.
abbrev pub outcome : Answer → Tables → Answer × Tables
outcome a T = (a, T)

-- What holds the triples, with the tallies of the entries that were run.
abbrev pub progress : {A : Type 0} → A → Tally → A × Tally
progress h y = (h, y)
