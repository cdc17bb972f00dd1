-- Triples as rows of three words: the ordered set of such rows is the ascending list of the triples. Assumes nothing.
use mathlib.Core.Path.{◌≡◌, refl, sym, ap, ap₂, ◌∙◌}
use mathlib.Core.Bool.{cond}
use mathlib.Core.List.{List, [], ◌∷◌, ◌++◌, map}
use Prim.Native.Nat.{ℕ, zero, suc, ◌+◌, ◌*◌, ◌≤◌}
use native.Mathlib.Omega.{arith}
use lib.ListN.{length, get_or, drop, take, length-map, length-take, take-append-drop}
use lib.Seq.{drop-drop}
use Rattle.spec.specs.declared.Triple.{Triple}
use Rattle.spec.specs.Order.{is_less, insert}
use Rattle.spec.specs.computed.Carried.{ascend}
use Rattle.spec.proofs.Tests.{less-is_less, more-is_less, same-is_less, order_elim}
use Rattle.spec.specs.Tables.{triple_from, first_rows, flatten}
use Rattle.spec.proofs.TableRows.{triple_from-drop, length-flatten, first_rows-flatten}
use Rattle.spec.specs.Rows.{insert_once, ordered, flat, words}
use Rattle.rows.specs.inside.Rows.{row, row_at, tabulate}
use Rattle.rows.specs.inside.Effects.{HoldsRows}
use Rattle.rows.proofs.HeldWords.{flat_rows}

insert-words : (t : Triple) (us : List Triple) → insert_once (words t) (map words us) ≡ map words (insert t us)
unfolding insert_once insert
insert-words t [] = refl
insert-words t (u ∷ us) =
    order_elim
    (λ (r : List Triple). cond (is_less t u) (words t ∷ words u ∷ map words us) (cond (is_less u t) (words u ∷ insert_once (words t) (map words us)) (words u ∷ map words us)) ≡ map words r)
    t u
    (λ h. rw (less-is_less h))
    (λ e. rw (same-is_less e, same-is_less (sym e)))
    (λ h. rw (more-is_less h, less-is_less h) (ap (λ (r : List (List ℕ)). words u ∷ r) (insert-words t us)))

-- The ordered set of the words is the words of the ascending list.
pub ordered_words : (ts : List Triple) → ordered (map words ts) ≡ map words (ascend ts)
unfolding ordered ascend
ordered_words [] = refl
ordered_words (t ∷ ts) = rw (ordered_words ts) (insert-words t (ascend ts))

-- The rows of three words are those of the triples.
rows_from : (t : List ℕ) (s n : ℕ) → tabulate (row_at 3 t) s n ≡ map words (first_rows n (drop (s * 3) t))
unfolding tabulate first_rows row
rows_from t s zero = refl
rows_from t s (suc n) =
    let e : s * 3 + 3 ≡ (s + 1) * 3 = omega arith in
    let d : drop 3 (drop (s * 3) t) ≡ drop ((s + 1) * 3) t = drop-drop 3 (s * 3) t ∙ ap (λ (x : ℕ). drop x t) e in
    let h : triple_from (drop (s * 3) t) 0 ≡ triple_from t (s * 3) = triple_from-drop (s * 3) t 0 (s * 3) (omega arith) in
    let q : s * 3 + 1 + 1 ≡ s * 3 + 2 = omega arith in
    let g : row 3 (s * 3) t ≡ words (triple_from t (s * 3)) = ap (λ (z : ℕ). get_or t (s * 3) 0 ∷ get_or t (s * 3 + 1) 0 ∷ get_or t z 0 ∷ []) q in
    ap₂ ◌∷◌ (g ∙ sym (ap words h)) (rows_from t (s + 1) n ∙ ap (λ (x : List ℕ). map words (first_rows n x)) (sym d))

pub rows_words : (t : List ℕ) (n : ℕ) → tabulate (row_at 3 t) 0 n ≡ map words (first_rows n t)
rows_words t n = rows_from t 0 n

length-tabulate : (f : ℕ → List ℕ) (s n : ℕ) → length (tabulate f s n) ≡ n
unfolding tabulate
length-tabulate f s zero = refl
length-tabulate f s (suc n) = ap suc (length-tabulate f (s + 1) n)

flat-words : (ts : List Triple) → flat (map words ts) ≡ flatten ts
unfolding flat flatten
flat-words [] = refl
flat-words (t ∷ ts) = ap (λ (l : List ℕ). t.subject ∷ t.property ∷ t.object ∷ l) (flat-words ts)

-- What is left after the rows were sorted and made distinct: the words of the ascending list.
pub sorted-words : (t s : List ℕ) (n r : ℕ) → n * 3 ≤ length t → length s ≡ length t → HoldsRows 3 n t s r (ordered (tabulate (row_at 3 t) 0 n)) →
    (r ≡ length (ascend (first_rows n t))) × (take (r * 3) s ≡ flatten (ascend (first_rows n t)))
sorted-words t s n r l z h =
    let e : tabulate (row_at 3 s) 0 r ≡ map words (ascend (first_rows n t)) = h.holds ∙ (ap ordered (rows_words t n) ∙ ordered_words (first_rows n t)) in
    let f : flat (tabulate (row_at 3 s) 0 r) ≡ take (r * 3) (drop (0 * 3) s) = flat_rows 3 0 r s (omega (arith, h.count)) in
    (sym (length-tabulate (row_at 3 s) 0 r) ∙ (ap length e ∙ length-map (ascend (first_rows n t)) words), sym f ∙ (ap flat e ∙ flat-words (ascend (first_rows n t))))

-- ---- words that begin with the words of rows

module _ (ws : List ℕ) (n : ℕ) (ts : List Triple) (e : n ≡ length ts) (q : take (n * 3) ws ≡ flatten ts) where
  -- They hold these rows first,
  pub rows-listed : first_rows n ws ≡ ts
  rows-listed = ap (first_rows n) (sym (take-append-drop (n * 3) ws) ∙ ap (λ (l : List ℕ). l ++ drop (n * 3) ws) q) ∙ rw e (first_rows-flatten ts (drop (length ts * 3) ws))

  -- and have the words for them.
  pub rows-within : n * 3 ≤ length ws
  rows-within = omega (arith, ap length q, length-take (n * 3) ws, length-flatten ts)
