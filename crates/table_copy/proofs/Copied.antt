-- Laws of words that are copied in front of others, and of zeros behind them. Assumes nothing.
use Prim.Native.Nat.{ℕ, ◌+◌, ◌*◌, ◌≤◌}
use mathlib.Core.Path.{◌≡◌, refl, ap, ◌∙◌}
use mathlib.Core.List.{List, [], ◌∷◌, ◌++◌, append-nil}
use native.Mathlib.Numerals.{add-one}
use native.Mathlib.Omega.{arith}
use lib.ListN.{length, take, drop, length-append, length-drop}
use lib.Seq.{take_at, length-take-le, drop-length}
use Rattle.spec.specs.Lists.{padded}
use Rattle.spec.specs.Tables.{count, first_rows, rows, flatten, layout}
use Rattle.spec.specs.inside.Laid.{Laid}
use Rattle.spec.proofs.TableRows.{length-first_rows, flatten-first_rows}
use Rattle.rows_zero.specs.inside.Effects.{WordsZeroed}
use Rattle.rows_zero.proofs.Zeroed.{zeroed_is}

-- The words stay as many.
pub copied-length : (s d : List ℕ) (n : ℕ) → n ≤ length s → n ≤ length d → length (take n s ++ drop n d) ≡ length d
copied-length s d n h k = omega (arith, length-append (take n s) (drop n d), length-take-le n s h, length-drop n d)

-- Words copied, and zeros behind them.
pub copied-padded
    : (s d m z : List ℕ) (n : ℕ) → n ≤ length s → n ≤ length d → m ≡ take n s ++ drop n d → WordsZeroed n (length m) m z → length z ≡ length m
    → z ≡ padded (length d) (take n s)
copied-padded s d m z n h k e w l =
    let a : length m ≡ length d = ap length e ∙ copied-length s d n h k in
    let p : take n m ≡ take n s = ap (take n) e ∙ take_at (take n s) (drop n d) n (length-take-le n s h) in
    zeroed_is n (length m) m z (omega (arith, a)) (omega arith) l w
    ∙ rw (p, drop-length m, append-nil, a, length-take-le n s h)

-- The words of a table's rows, its count in front.
words_of : (ws : List ℕ) → Laid ws → take (count ws * 3 + 1) ws ≡ count ws ∷ flatten (rows ws)
unfolding rows
words_of [] L = absurd (omega (arith, L.fits))
words_of (n ∷ ws) L =
    let long : length (first_rows n ws) ≡ n = length-first_rows n ws in
    rw (add-one (n * 3), flatten-first_rows n ws (omega (arith, long, L.fits)))

-- They have room there.
pub laid_room : (ws : List ℕ) → Laid ws → count ws * 3 + 1 ≤ length ws
laid_room ws L = omega (arith, L.counted, L.fits)

-- A table's words copied, and zeros behind them.
pub copied-layout
    : (s d z : List ℕ) → Laid s → z ≡ padded (length d) (take (count s * 3 + 1) s) → z ≡ layout (length d) (rows s)
unfolding layout
copied-layout s d z L e =
    let l : length (take (count s * 3 + 1) s) ≡ length (rows s) * 3 + 1 = length-take-le (count s * 3 + 1) s (laid_room s L) ∙ rw L.counted refl in
    e ∙ rw (l, words_of s L, L.counted)
