-- The ledger (document 01, "The ledger"): what a list of calls must have answered and left, without a word of the store.
-- Definitions only.
use Rattle.std.specs.Prelude.{ℕ, Bool, List, [], ◌∷◌, ◌++◌, length, leb}
use Rattle.spec.specs.declared.Triple.{Triple}
use Rattle.spec.specs.Refusals.{first_refusal, triple_checks}
use Rattle.spec.specs.Tables.{Capacities, Ledger, ledger}
use Rattle.spec.specs.computed.Saturated.{saturation}
use Rattle.spec.specs.declared.Answer.{Answer}
use Rattle.spec.specs.declared.Change.{Change}
use Rattle.spec.specs.Updates.{applying, is_change, is_admitted, settle}
use Rattle.spec.specs.Deliveries.{Update, message_checks, conclude}
use Rattle.spec.specs.computed.Decoded.{read}
use Rattle.spec.specs.declared.Delivered.{Delivered}

-- "Each call (addition, withdrawal or delivery) with its words or bytes."
pub data Call : Type 0 where
  lone : Change → Triple → Call
  delivery : List ℕ → Call

-- "Empty at first."
abbrev pub empty : Ledger
empty = ledger [] []

-- ---- updates

-- "Whether the facts, with all that follow, fit the kept capacity."
unfoldable pub is_fitting : Capacities → Ledger → Bool
is_fitting C L = leb (length (saturation L.statements L.facts)) C.kept

-- "An update is asked 2 to 5 on them: 4 whether an added triple is in its set or that set is below capacity, 5 whether the facts
-- after it, with all that follow, fit the kept capacity."
abbrev pub entry_checks : Capacities → Change → Ledger → Triple → List (ℕ × Bool)
entry_checks C d L t = triple_checks t ++ ((4, is_admitted C d t L) ∷ (5, is_fitting C (applying d t L)) ∷ [])

-- The ledger's update. "The first "no" refuses it by that number, and both sets stay."
unfoldable pub ledger_update : Capacities → Update Ledger
ledger_update C d L t = settle (first_refusal (entry_checks C d L t)) (is_change d t L) (applying d t L) L

-- "A delivery is asked 9 to 11 on its bytes .. Otherwise its entries run in order as updates, each raising its tally by 1."
unfoldable pub receive : Capacities → Ledger → List ℕ → Delivered × Ledger
receive C L bs = conclude (ledger_update C) (first_refusal (message_checks bs)) (read bs) L

-- ---- lists of calls

-- What a call gives: an update's answer, or a delivery's result.
pub data Given : Type 0 where
  answered : Answer → Given
  resulted : Delivered → Given

-- What each of some calls gives, and what holds the triples after all of them.
pub record Run (A : Type 0) : Type 0 where
  pub given : List Given
  pub after : A

-- A run by its parts.
abbrev pub run : {A : Type 0} → List Given → A → Run A
run gs a = record { given = gs; after = a }

-- Updates and deliveries, for what holds the triples: the store's tables or the ledger.
pub record Entries (A : Type 0) : Type 0 where
  pub updates : Update A
  pub delivers : A → List ℕ → Delivered × A

module _ {A : Type 0} where
  -- One call.
  unfoldable pub call : Entries A → A → Call → Given × A
  call E a (lone d t) = let r = E.updates d a t in (answered r.0, r.1)
  call E a (delivery bs) = let r = E.delivers a bs in (resulted r.0, r.1)

  -- "Each call gets the store's tables as the last left them."
  unfoldable pub calls : Entries A → List Call → A → Run A
  calls E [] a = run [] a
  calls E (c ∷ cs) a = let r = call E a c in let s = calls E cs r.1 in run (r.0 ∷ s.given) s.after

-- The ledger's entries.
abbrev pub ledger_entries : Capacities → Entries Ledger
ledger_entries C = record { updates = ledger_update C; delivers = receive C }
