-- The worked examples of document 01, "Shelf examples": those marked ◆, in one table. Definitions only; proofs/Shown.antt has
-- the theorem that covers the table.
use Rattle.std.specs.Prelude.{◌≡◌, List, [], ◌∷◌, ℕ, ◌+◌, ◌*◌, ◌^◌}
use Rattle.spec.specs.declared.Triple.{Triple}
use Rattle.spec.specs.Terms.{triple}
use Rattle.spec.specs.Refusals.{first_refusal, triple_checks}
use Rattle.spec.specs.Order.{remove}
use Rattle.spec.specs.Saturation.{Kept, lower_all}
use Rattle.spec.specs.computed.Saturated.{saturation}
use Rattle.spec.specs.computed.Carried.{carried, support}
use Rattle.spec.specs.inside.Counts.{lookup}
use Rattle.spec.specs.Questions.{rewritten_graph}
use Rattle.spec.specs.computed.Solutions.{answers}
use Rattle.spec.specs.computed.Reformulated.{alternatives}

-- What an example says.
pub data Example : Type 0 where
  -- Under the statements S and the facts F, these facts are kept, with these supports.
  keeps : (S F : List Triple) → Kept → Example
  -- Under S and F, with the fact f withdrawn, these facts stay, with these supports.
  keeps_without : (S F : List Triple) → Triple → Kept → Example
  -- Under S and F, a triple has this support.
  supports : (S F : List Triple) → Triple → ℕ → Example
  -- Under S, a fact carries these facts.
  carries : List Triple → Triple → List Triple → Example
  -- Under S and F, these atoms and head variables give these rows.
  answers_with : (S F : List Triple) → List Triple → List ℕ → List (List ℕ) → Example
  -- Under S, an atom has these alternatives.
  has_alternatives : List Triple → Triple → List Triple → Example
  -- Of the questions 2 and 3, which an update is asked of its triple alone, the first "no" has this number. An update is asked 1
  -- before them, so that on a malformed store it gets 1, and is asked nothing behind the first "no".
  is_refused : Triple → ℕ → Example

-- What is claimed of an example.
abbrev pub Shown : Example → Type 0
Shown (keeps S F k) = saturation S F ≡ k
Shown (keeps_without S F f k) = (lower_all (carried S f) (saturation S F) ≡ k) × (saturation S (remove f F) ≡ k)
Shown (supports S F t n) = (support S F t ≡ n) × (lookup (saturation S F) t ≡ n)
Shown (carries S f ts) = carried S f ≡ ts
Shown (answers_with S F ps vs rows) = answers (rewritten_graph S F) ps vs ≡ rows
Shown (has_alternatives S a ts) = alternatives S a ≡ ts
Shown (is_refused t n) = first_refusal (triple_checks t) ≡ n

-- What is claimed of a table of examples.
abbrev pub AllShown : List Example → Type 0
AllShown [] = Unit {0}
AllShown (e ∷ es) = Shown e × AllShown es

-- "Statements: 16 2 17; 17 2 18; 19 3 20; 20 4 17; 20 5 16."
abbrev pub S : List Triple
S = triple 16 2 17 ∷ triple 17 2 18 ∷ triple 19 3 20 ∷ triple 20 4 17 ∷ triple 20 5 16 ∷ []

-- "Facts: 32 19 33; 32 1 16." In the order of a table.
abbrev pub F : List Triple
F = triple 32 1 16 ∷ triple 32 19 33 ∷ []

-- Variable 0.
abbrev pub v0 : ℕ
v0 = 3 * 2 ^ 30

-- Variable 1.
abbrev pub v1 : ℕ
v1 = 3 * 2 ^ 30 + 1

-- The examples.
abbrev pub examples : List Example
examples =
    -- the rows that `families` prints
    keeps S F (
    (triple 32 1 16, 1) ∷ (triple 32 1 17, 2) ∷ (triple 32 1 18, 2) ∷ (triple 32 19 33, 1) ∷ (triple 32 20 33, 1)
    ∷ (triple 33 1 16, 1) ∷ (triple 33 1 17, 1) ∷ (triple 33 1 18, 1) ∷ []
    )
    -- "32 1 17 has support 2."
    ∷ supports S F (triple 32 1 17) 2
    -- "With 32 1 16 withdrawn 7 rows stay, 32 1 17 with 1."
    ∷ keeps_without S F (triple 32 1 16) (
    (triple 32 1 17, 1) ∷ (triple 32 1 18, 1) ∷ (triple 32 19 33, 1) ∷ (triple 32 20 33, 1)
    ∷ (triple 33 1 16, 1) ∷ (triple 33 1 17, 1) ∷ (triple 33 1 18, 1) ∷ []
    )
    -- "Variable 0 in "v0 1 17" gives 32, 33."
    ∷ answers_with S F (triple v0 1 17 ∷ []) (v0 ∷ []) ((32 ∷ []) ∷ (33 ∷ []) ∷ [])
    -- "Alternatives: 0 0 0; 1 16 17; 2 19 17; 2 20 17; 3 19 17; 3 20 17."
    ∷ has_alternatives S (triple v0 1 17) (triple 0 0 0 ∷ triple 1 16 17 ∷ triple 2 19 17 ∷ triple 2 20 17 ∷ triple 3 19 17 ∷ triple 3 20 17 ∷ [])
    -- ""v0 2 v1" gives 16 17 and 17 18", and document 02: it "gains 16 18."
    ∷ answers_with S F (triple v0 2 v1 ∷ []) (v0 ∷ v1 ∷ []) ((16 ∷ 17 ∷ []) ∷ (16 ∷ 18 ∷ []) ∷ (17 ∷ 18 ∷ []) ∷ [])
    -- "32 20 0x80000001 carries three facts, none about the literal."
    ∷ carries S (triple 32 20 0x80000001) (triple 32 1 17 ∷ triple 32 1 18 ∷ triple 32 20 0x80000001 ∷ [])
    -- "Under 16 2 17 and 17 2 16, 32 1 16 carries two facts."
    ∷ carries (triple 16 2 17 ∷ triple 17 2 16 ∷ []) (triple 32 1 16) (triple 32 1 16 ∷ triple 32 1 17 ∷ [])
    -- "Under 21 4 16 and 21 5 16, 32 21 32 gives 32 1 16 support 1."
    ∷ supports (triple 21 4 16 ∷ triple 21 5 16 ∷ []) (triple 32 21 32 ∷ []) (triple 32 1 16) 1
    -- "32 1 16 and 32 1 17 under 16 2 17, 17 2 18: 32 1 18 has support 2."
    ∷ supports (triple 16 2 17 ∷ triple 17 2 18 ∷ []) (triple 32 1 16 ∷ triple 32 1 17 ∷ []) (triple 32 1 18) 2
    -- "19 3 1 is refused with 3": by the questions asked of the triple, and so by an update of it, on any well-formed store.
    ∷ is_refused (triple 19 3 1) 3
    ∷ []
