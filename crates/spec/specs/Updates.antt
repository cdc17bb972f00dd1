-- What an addition and a withdrawal do (document 01, "Tables", "Questions at the door" and "The ledger"). Definitions only.
use Rattle.std.specs.Prelude.{ℕ, zero, suc, Bool, true, ◌||◌, not, cond, List, [], ◌∷◌, ◌++◌, length, leb, ltb}
use Rattle.spec.specs.declared.Triple.{Triple}
use Rattle.spec.specs.Terms.{is_statement}
use Rattle.spec.specs.Order.{is_in, insert, remove}
use Rattle.spec.specs.Refusals.{first_refusal, triple_checks}
use Rattle.spec.specs.Saturation.{Kept, raise_all, lower_all}
use Rattle.spec.specs.computed.Carried.{carried}
use Rattle.spec.specs.computed.Saturated.{saturation}
use Rattle.spec.specs.declared.Answer.{Answer}
use Rattle.spec.specs.declared.Answer.TheVariants.{Applied, Idle, Refused}
use Rattle.spec.specs.declared.Change.{Change}
use Rattle.spec.specs.declared.Change.TheVariants.{Addition, Withdrawal}
use Rattle.spec.specs.Tables.{Tables, are_formed, Capacities, capacities_of, Ledger, ledger, Contents, contents, contents_of, put}

-- ---- the sets

-- The set that a triple belongs to, the statements or the facts.
abbrev pub set_of : Triple → Ledger → List Triple
set_of t L = cond (is_statement t) L.statements L.facts

-- Whether a triple is in its set.
unfoldable pub is_member : Triple → Ledger → Bool
is_member t L = is_in t (set_of t L)

-- A set after an addition or a withdrawal.
unfoldable pub changed : Change → Triple → List Triple → List Triple
changed Addition t ts = insert t ts
changed Withdrawal t ts = remove t ts

-- "Its triple entering or leaving its set": both sets after an update.
unfoldable pub applying : Change → Triple → Ledger → Ledger
applying d t L = cond (is_statement t) (ledger (changed d t L.statements) L.facts) (ledger L.statements (changed d t L.facts))

-- ---- what is asked

-- Whether an update changes anything: "adding what is in its set, or withdrawing what is not, is idle".
unfoldable pub is_change : Change → Triple → Ledger → Bool
is_change Addition t L = not (is_member t L)
is_change Withdrawal t L = is_member t L

-- Question 4: "Addition: is it there already, or is its table below capacity?" A withdrawal is not asked.
unfoldable pub is_admitted : Capacities → Change → Triple → Ledger → Bool
is_admitted C Addition t L = is_member t L || ltb (length (set_of t L)) (cond (is_statement t) C.statements C.facts)
is_admitted C Withdrawal t L = true

-- ---- the outcome

-- The first "no" refuses by its number, and what holds the triples stays; else an update that changes nothing is idle and it stays;
-- "any other update is applied".
unfoldable pub settle : {A : Type 0} → ℕ → Bool → A → A → Answer × A
settle (suc n) changes after before = (Refused (suc n), before)
settle zero changes after before = cond changes (Applied, after) (Idle, before)

-- ---- the store

-- "Adding a fact raises the support of all it carries by 1, missing rows entering with 1." "Withdrawing lowers by 1 those present,
-- and a row at 0 goes."
unfoldable pub kept_after : Change → List Triple → Kept → Kept
kept_after Addition ts k = raise_all ts k
kept_after Withdrawal ts k = lower_all ts k

-- What an applied update makes of the contents. "A change of statements makes kept facts and supports those worked out afresh."
unfoldable pub contents_after : Change → Triple → Contents → Contents
contents_after d t c =
    let L = applying d t c.explicit in
    contents L (cond (is_statement t) (saturation L.statements L.facts) (kept_after d (carried c.explicit.statements t) c.kept))

-- "Will the kept facts fit?"
unfoldable pub is_kept_fitting : Contents → Tables → Bool
is_kept_fitting c T = leb (length c.kept) (capacities_of T).kept

-- The questions of an update, 1 to 5. Where nothing changes, what is lent fits.
abbrev pub update_checks : Change → Triple → Tables → List (ℕ × Bool)
update_checks d t T =
    (1, are_formed T)
    ∷ (triple_checks t
    ++ ((4, is_admitted (capacities_of T) d t (contents_of T).explicit)
    ∷ (5, not (is_change d t (contents_of T).explicit) || is_kept_fitting (contents_after d t (contents_of T)) T)
    ∷ []))

-- The update of a store: its answer, and the words of the tables after it. A refusal changes no word.
unfoldable pub update : Change → Tables → Triple → Answer × Tables
update d T t = settle (first_refusal (update_checks d t T)) (is_change d t (contents_of T).explicit) (put (contents_after d t (contents_of T)) T) T

-- The addition of a triple to a store.
abbrev pub add : Tables → Triple → Answer × Tables
add T t = update Addition T t

-- The withdrawal of a triple from a store.
abbrev pub withdraw : Tables → Triple → Answer × Tables
withdraw T t = update Withdrawal T t

-- The number of an answer, as the exported library gives it: 0 applied, 100 idle, or the number that refused.
abbrev pub answer_number : Answer → ℕ
answer_number Applied = 0
answer_number Idle = 100
answer_number (Refused n) = n
