-- What the functions that run the entries of a section go by. Definitions only.
use Rattle.std.specs.Prelude.{ℕ, ◌*◌, ◌≤◌, ◌<◌, ◌≡◌, Bool, true, List}
use Rattle.spec.specs.declared.Triple.{Triple}
use Rattle.spec.specs.Terms.{is_statement}
use Rattle.spec.specs.declared.Change.{Change}
use Rattle.spec.specs.declared.Change.TheVariants.{Addition, Withdrawal}
use Rattle.spec.specs.computed.Decoded.{section_at, section_start, is_whole}
use Rattle.spec.specs.declared.Tally.{Tally}
use Rattle.delivery_tally.specs.inside.Totals.{total}

-- Whether an update keeps a store well formed whatever the supports: any addition, and the withdrawal of a statement.
abbrev pub keeps_formed : Change → Triple → Bool
keeps_formed Addition t = true
keeps_formed Withdrawal t = is_statement t

-- The entries of section k.
abbrev pub section : List ℕ → ℕ → List Triple
section bs k = section_at bs (section_start bs k)

-- Section k of a whole delivery is to be run next, with tallies of the sections before it.
pub record Next (bs : List ℕ) (k : ℕ) (y : Tally) : Type 0 where
  pub whole : is_whole bs ≡ true
  pub entries : k < 4
  pub few : total y ≤ k * 65536
