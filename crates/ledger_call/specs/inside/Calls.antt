-- Lists of calls in lent words, and what they give in lent words. Definitions only.
use Rattle.std.specs.Prelude.{ℕ, zero, suc, ◌+◌, ◌/◌, List, [], ◌∷◌, ◌++◌, length, get_or, take, drop}
use Rattle.spec.specs.Terms.{triple}
use Rattle.spec.specs.Tables.{Tables}
use Rattle.spec.specs.Updates.{answer_number}
use Rattle.spec.specs.declared.Change.{Change}
use Rattle.spec.specs.declared.Change.TheVariants.{Addition, Withdrawal}
use Rattle.spec.specs.Ledger.{Call, lone, delivery, Given, answered, resulted, call}
use Rattle.spec.specs.Demand3.{store_entries}

-- ---- calls

-- The update that a kind of call asks for: 0 an addition, and 1 a withdrawal.
unfoldable pub change_of : ℕ → Change
change_of zero = Addition
change_of (suc kind) = Withdrawal

-- A call of four words, kind a b c: kind 0 is the addition of the triple a b c, kind 1 its withdrawal, and any other the delivery
-- of the bytes from index a on, b of them (or as many as there are).
unfoldable pub call_of : List ℕ → ℕ → ℕ → ℕ → ℕ → Call
call_of bytes zero a b c = lone Addition (triple a b c)
call_of bytes (suc zero) a b c = lone Withdrawal (triple a b c)
call_of bytes (suc (suc kind)) a b c = delivery (take b (drop a bytes))

-- The n calls whose words begin at index at.
unfoldable pub calls_from : List ℕ → List ℕ → ℕ → ℕ → List Call
calls_from ws bytes at zero = []
calls_from ws bytes at (suc n) = call_of bytes (get_or ws at 0) (get_or ws (at + 1) 0) (get_or ws (at + 2) 0) (get_or ws (at + 3) 0) ∷ calls_from ws bytes (at + 4) n

-- All calls of some words. Words left over, fewer than four, are none.
abbrev pub encoded : List ℕ → List ℕ → List Call
encoded ws bytes = calls_from ws bytes 0 (length ws / 4)

-- ---- what they give

-- The five words of what a call gives: for an update its answer's number and zeros, for a delivery its result.
unfoldable pub given_words : Given → List ℕ
given_words (answered a) = answer_number a ∷ 0 ∷ 0 ∷ 0 ∷ 0 ∷ []
given_words (resulted d) = d.refusal ∷ d.number ∷ d.applied ∷ d.idle ∷ d.refused ∷ []

-- The words of what some calls give, one after the other.
unfoldable pub reply_words : List Given → List ℕ
reply_words [] = []
reply_words (g ∷ gs) = given_words g ++ reply_words gs

-- What one call gives in a store, as words, and the tables after it.
unfoldable pub worded_call : Tables → Call → List ℕ × Tables
worded_call T c = let r = call store_entries T c in (given_words r.0, r.1)
