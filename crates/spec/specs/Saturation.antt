-- The kept facts with their supports (document 01, "What follows" and "Tables"). Definitions only.
use Rattle.std.specs.Prelude.{cond, List, [], ◌∷◌, map, ℕ, zero, suc}
use Rattle.spec.specs.declared.Triple.{Triple}
use Rattle.spec.specs.Order.{is_less, is_same}

-- Kept facts, ascending, each with its support.
abbrev pub Kept : Type 0
Kept = List (Triple × ℕ)

-- "Raises the support by 1, missing rows entering with 1."
unfoldable pub raise : Triple → Kept → Kept
raise t [] = (t, 1) ∷ []
raise t (e ∷ k) = cond (is_less t e.0) ((t, 1) ∷ e ∷ k) (cond (is_same t e.0) ((e.0, suc e.1) ∷ k) (e ∷ raise t k))

-- A row with one support less, "and a row at 0 goes".
unfoldable pub one_less : Triple → ℕ → Kept → Kept
one_less t zero k = k
one_less t (suc zero) k = k
one_less t (suc (suc n)) k = (t, suc n) ∷ k

-- "Lowers by 1 those present, and a row at 0 goes."
unfoldable pub lower : Triple → Kept → Kept
lower t [] = []
lower t (e ∷ k) = cond (is_less t e.0) (e ∷ k) (cond (is_same t e.0) (one_less e.0 e.1 k) (e ∷ lower t k))

-- Each of some rows raised.
unfoldable pub raise_all : List Triple → Kept → Kept
raise_all [] k = k
raise_all (t ∷ ts) k = raise t (raise_all ts k)

-- Each of some rows lowered.
unfoldable pub lower_all : List Triple → Kept → Kept
lower_all [] k = k
lower_all (t ∷ ts) k = lower t (lower_all ts k)

-- The kept rows, and their supports.
abbrev pub kept_rows : Kept → List Triple
kept_rows k = map (λ (e : Triple × ℕ). e.0) k

-- The supports, in the rows' order.
abbrev pub kept_supports : Kept → List ℕ
kept_supports k = map (λ (e : Triple × ℕ). e.1) k
