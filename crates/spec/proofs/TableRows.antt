-- Laws of the rows that words hold: `first_rows`, `rows`, `flatten` and `layout`. Assumes nothing.
use Prim.Native.Nat.{ℕ, zero, suc, ◌+◌, ◌*◌, ◌≤◌, ◌<◌}
use mathlib.Core.Path.{◌≡◌, refl, sym, ap, ◌∙◌}
use mathlib.Core.List.{List, [], ◌∷◌, ◌++◌}
use native.Mathlib.Nat.{suc-mul}
use native.Mathlib.Numerals.{add-three}
use native.Mathlib.Omega.{arith}
use lib.ListN.{length, get_or, take, drop, length-append, length-replicate}
use lib.Seq.{get_or-drop}
use Rattle.spec.specs.declared.Triple.{Triple}
use Rattle.spec.specs.Tables.{count, triple_from, row_at, first_rows, rows, flatten, layout}
use Rattle.spec.specs.inside.Laid.{Laid}

pub length-first_rows : (n : ℕ) (ws : List ℕ) → length (first_rows n ws) ≡ n
unfolding first_rows
length-first_rows zero ws = refl
length-first_rows (suc n) ws = ap suc (length-first_rows n (drop 3 ws))

-- The count is the number of rows.
pub length-rows : (ws : List ℕ) → length (rows ws) ≡ count ws
unfolding rows
length-rows ws = length-first_rows (count ws) (drop 1 ws)

-- A triple read behind the first j words.
pub triple_from-drop : (j : ℕ) (ws : List ℕ) (k m : ℕ) → j + k ≡ m → triple_from (drop j ws) k ≡ triple_from ws m
triple_from-drop j ws k m e =
    let e₁ : j + (k + 1) ≡ m + 1 = omega arith in
    let e₂ : j + (k + 2) ≡ m + 2 = omega arith in
    simp (get_or-drop, e, e₁, e₂)

pub get_or-first_rows : (n : ℕ) (ws : List ℕ) (i : ℕ) (d : Triple) → i < n → get_or (first_rows n ws) i d ≡ triple_from ws (i * 3)
unfolding first_rows
get_or-first_rows zero ws i d h = absurd (omega arith)
get_or-first_rows (suc n) ws zero d h = refl
get_or-first_rows (suc n) ws (suc i) d h = get_or-first_rows n (drop 3 ws) i d (omega arith) ∙ triple_from-drop 3 ws (i * 3) (suc i * 3) (omega arith)

-- The first i + 1 rows are the first i and row i.
pub first_rows-snoc : (i : ℕ) (ws : List ℕ) → first_rows (suc i) ws ≡ first_rows i ws ++ (triple_from ws (i * 3) ∷ [])
unfolding first_rows
first_rows-snoc zero ws = refl
first_rows-snoc (suc i) ws =
    ap (λ (l : List Triple). triple_from ws 0 ∷ l) (first_rows-snoc i (drop 3 ws))
    ∙ ap (λ (t : Triple). triple_from ws 0 ∷ (first_rows i (drop 3 ws) ++ (t ∷ []))) (triple_from-drop 3 ws (i * 3) (suc i * 3) (omega arith))

-- Row i of a table is element i of its first n rows.
pub get_or-row_at : (ws : List ℕ) (n i : ℕ) (d : Triple) → i < n → get_or (first_rows n (drop 1 ws)) i d ≡ row_at ws i
unfolding row_at
get_or-row_at ws n i d h = get_or-first_rows n (drop 1 ws) i d h ∙ triple_from-drop 1 ws (i * 3) (i * 3 + 1) (omega arith)

pub get_d_rows : (ws : List ℕ) (i : ℕ) (d : Triple) → i < length (rows ws) → get_or (rows ws) i d ≡ row_at ws i
unfolding rows
get_d_rows ws i d h = get_or-row_at ws (count ws) i d (rw length-first_rows at h)

-- The rows of a table, as `find` asks for them.
pub first_rows-rows : (ws : List ℕ) (n : ℕ) → length (rows ws) ≡ n → first_rows n (drop 1 ws) ≡ rows ws
unfolding rows
first_rows-rows ws n e = let q : n ≡ count ws = sym e ∙ length-rows ws in rw q

-- ---- layout

pub length-flatten : (ts : List Triple) → length (flatten ts) ≡ length ts * 3
unfolding flatten
length-flatten [] = refl
length-flatten (t ∷ ts) = let h = length-flatten ts in omega (arith, suc-mul (length ts) 3)

pub flatten-append : (ts us : List Triple) → flatten (ts ++ us) ≡ flatten ts ++ flatten us
unfolding flatten
flatten-append [] us = refl
flatten-append (t ∷ ts) us = ap (λ (l : List ℕ). t.subject ∷ t.property ∷ t.object ∷ l) (flatten-append ts us)

-- Reading the words of rows gives the rows.
pub first_rows-flatten : (ts : List Triple) (z : List ℕ) → first_rows (length ts) (flatten ts ++ z) ≡ ts
unfolding first_rows flatten
first_rows-flatten [] z = refl
first_rows-flatten (t ∷ ts) z = ap (λ (l : List Triple). t ∷ l) (first_rows-flatten ts z)

-- The words of the rows read are the words.
pub flatten-first_rows : (n : ℕ) (ws : List ℕ) → n * 3 ≤ length ws → flatten (first_rows n ws) ≡ take (n * 3) ws
unfolding first_rows flatten
flatten-first_rows zero ws h = refl
flatten-first_rows (suc n) [] h = absurd (omega arith)
flatten-first_rows (suc n) (a ∷ []) h = absurd (omega arith)
flatten-first_rows (suc n) (a ∷ b ∷ []) h = absurd (omega arith)
flatten-first_rows (suc n) (a ∷ b ∷ c ∷ ws) h =
    rw (suc-mul, add-three) (ap (λ (l : List ℕ). a ∷ b ∷ c ∷ l) (flatten-first_rows n ws (omega arith)))

pub rows-layout : (len : ℕ) (ts : List Triple) → rows (layout len ts) ≡ ts
unfolding rows layout
rows-layout len ts = first_rows-flatten ts _

pub length-layout : (len : ℕ) (ts : List Triple) → length ts * 3 < len → length (layout len ts) ≡ len
unfolding layout
length-layout len ts h = simp (length-append, length-replicate, length-flatten) (omega arith)

pub count-layout : (len : ℕ) (ts : List Triple) → count (layout len ts) ≡ length ts
unfolding layout
count-layout len ts = refl

-- The rows of words that are laid out.
pub rows_of : (ws : List ℕ) (len : ℕ) (ts : List Triple) → ws ≡ layout len ts → rows ws ≡ ts
rows_of ws len ts e = rw e (rows-layout len ts)

-- A layout of its own length has room for its rows.
pub layout_fits : (ws : List ℕ) (ts : List Triple) → ws ≡ layout (length ws) ts → length ts * 3 < length ws
unfolding layout
layout_fits ws ts e = let h : length ws ≡ _ = ap length e in omega (arith, simp (length-append, length-replicate, length-flatten) at h)

pub laid : (ws : List ℕ) → ws ≡ layout (length ws) (rows ws) → Laid ws
laid ws e = record { is_layout = e; counted = sym (length-rows ws); fits = layout_fits ws (rows ws) e }
