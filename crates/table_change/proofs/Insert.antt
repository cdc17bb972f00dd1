-- What the words are once a row is put in. Assumes nothing.
use Prim.Native.Nat.{ℕ, suc, ◌+◌, ◌-◌, ◌*◌, ◌≤◌, ◌<◌}
use mathlib.Core.Path.{◌≡◌, refl, sym, ap, ◌∙◌, subst}
use mathlib.Core.List.{List, [], ◌∷◌, ◌++◌, append_assoc}
use native.Mathlib.Nat.{zero-add, suc-add}
use native.Mathlib.Omega.{arith}
use lib.ListN.{length, take, drop, set, replicate, length-append, take-append-drop}
use lib.Seq.{take_at, drop_at, take-append-add, length-take-le, set_at}
use Rattle.spec.specs.declared.Triple.{Triple}
use Rattle.spec.specs.Tables.{count, rows, flatten, layout}
use Rattle.table_change.specs.inside.Words.{insert_at}
use Rattle.table_change.specs.inside.Words.{moved_up}
use Rattle.spec.specs.inside.Laid.{Laid}
use Rattle.spec.proofs.TableRows.{length-flatten, flatten-append, length-rows}

set-append-add : (xs ys : List ℕ) (n : ℕ) (a : ℕ) → set (xs ++ ys) (length xs + n) a ≡ xs ++ set ys n a
set-append-add [] ys n a = rw zero-add
set-append-add (x ∷ xs) ys n a = rw suc-add (ap (λ (l : List ℕ). x ∷ l) (set-append-add xs ys n a))

-- A word set behind a prefix of length k.
pub set_past : (xs ys : List ℕ) (k n a : ℕ) → length xs ≡ k → set (xs ++ ys) (k + n) a ≡ xs ++ set ys n a
set_past xs ys k n a e = subst (λ (m : ℕ). set (xs ++ ys) (m + n) a ≡ xs ++ set ys n a) e (set-append-add xs ys n a)

three : (l : List ℕ) → 3 ≤ length l → (u : ℕ) × (v : ℕ) × (w : ℕ) × (take 3 l ≡ u ∷ v ∷ w ∷ [])
three [] h = absurd (omega arith)
three (u ∷ []) h = absurd (omega arith)
three (u ∷ v ∷ []) h = absurd (omega arith)
three (u ∷ v ∷ w ∷ l) h = (u, v, w, refl)

-- A gap of three words opens behind P, where P, Q, three words and Z stood.
opened : (P Q Z : List ℕ) (x y z : ℕ) (k e : ℕ) → length P ≡ k → k + length Q ≡ e
    → (u : ℕ) × (v : ℕ) × (w : ℕ) × (moved_up k e (P ++ (Q ++ (x ∷ y ∷ z ∷ Z))) ≡ P ++ (u ∷ v ∷ w ∷ (Q ++ Z)))
unfolding moved_up
opened P Q Z x y z k e p f =
    let T = three (Q ++ (x ∷ y ∷ z ∷ Z)) (rw length-append (omega arith)) in
    let t₁ : take (k + 3) (P ++ (Q ++ (x ∷ y ∷ z ∷ Z))) ≡ P ++ (T.0 ∷ T.1 ∷ T.2 ∷ []) =
    subst (λ (m : ℕ). take (m + 3) (P ++ (Q ++ (x ∷ y ∷ z ∷ Z))) ≡ P ++ (T.0 ∷ T.1 ∷ T.2 ∷ [])) p
    (take-append-add P (Q ++ (x ∷ y ∷ z ∷ Z)) 3 ∙ ap (λ (l : List ℕ). P ++ l) T.3) in
    let t₂ : take e (P ++ (Q ++ (x ∷ y ∷ z ∷ Z))) ≡ P ++ Q =
    ap (λ (l : List ℕ). take e l) (sym (append_assoc P Q (x ∷ y ∷ z ∷ Z))) ∙ take_at (P ++ Q) (x ∷ y ∷ z ∷ Z) e (rw length-append (omega arith)) in
    let t₃ : drop (e + 3) (P ++ (Q ++ (x ∷ y ∷ z ∷ Z))) ≡ Z =
    ap (λ (l : List ℕ). drop (e + 3) l) (simp append_assoc) ∙ drop_at (P ++ (Q ++ (x ∷ y ∷ z ∷ []))) Z (e + 3) (simp length-append (omega arith)) in
    (T.0, T.1, T.2, rw (t₁, t₂, drop_at P Q k p, t₃) (append_assoc P (T.0 ∷ T.1 ∷ T.2 ∷ []) (Q ++ Z)))

-- A table of rows a ++ b with room for one more, in parts.
in_parts : (len : ℕ) (a b : List Triple) → length (a ++ b) * 3 + 3 < len
    → layout len (a ++ b) ≡ (length (a ++ b) ∷ flatten a) ++ (flatten b ++ (0 ∷ 0 ∷ 0 ∷ replicate (len - (length (a ++ b) * 3 + 4)) 0))
unfolding layout
in_parts len a b h =
    let z : len - (length (a ++ b) * 3 + 1) ≡ suc (suc (suc (len - (length (a ++ b) * 3 + 4)))) = omega arith in
    rw (flatten-append, z, append_assoc)

length_more : (a b : List Triple) (x : Triple) → length (a ++ (x ∷ b)) ≡ length (a ++ b) + 1
length_more a b x = simp length-append (omega arith)

put_split : (len : ℕ) (a b : List Triple) (x : Triple) (k e : ℕ) → length a * 3 + 1 ≡ k → length (a ++ b) * 3 + 1 ≡ e → length (a ++ b) * 3 + 3 < len
    → set (set (set (set (moved_up k e (layout len (a ++ b))) k x.subject) (k + 1) x.property) (k + 2) x.object) 0 (length (a ++ b) + 1)
    ≡ layout len (a ++ (x ∷ b))
unfolding layout flatten
put_split len a b x k e p f h =
    let P : List ℕ = length (a ++ b) ∷ flatten a in
    let Z : List ℕ = replicate (len - (length (a ++ b) * 3 + 4)) 0 in
    let long : length P ≡ k = let q = length-flatten a in omega arith in
    let O = opened P (flatten b) Z 0 0 0 k e long (let q = length-flatten b in let r = length-append a b in omega arith) in
    let R : List ℕ = flatten b ++ Z in
    let s₀ : moved_up k e (layout len (a ++ b)) ≡ P ++ (O.0 ∷ O.1 ∷ O.2 ∷ R) = rw (in_parts len a b h) O.3 in
    let s₁ : set (P ++ (O.0 ∷ O.1 ∷ O.2 ∷ R)) k x.subject ≡ P ++ (x.subject ∷ O.1 ∷ O.2 ∷ R) = set_at P _ _ x.subject k long in
    let s₂ : set (P ++ (x.subject ∷ O.1 ∷ O.2 ∷ R)) (k + 1) x.property ≡ P ++ (x.subject ∷ x.property ∷ O.2 ∷ R) = set_past P _ k 1 x.property long in
    let s₃ : set (P ++ (x.subject ∷ x.property ∷ O.2 ∷ R)) (k + 2) x.object ≡ P ++ (x.subject ∷ x.property ∷ x.object ∷ R) = set_past P _ k 2 x.object long in
    let z : len - ((length (a ++ b) + 1) * 3 + 1) ≡ len - (length (a ++ b) * 3 + 4) = omega arith in
    rw (s₀, s₁, s₂, s₃, length_more, z, flatten-append, append_assoc)

put : (len at : ℕ) (x : Triple) (ts : List Triple) → at ≤ length ts → length ts * 3 + 3 < len
    → set (set (set (set (moved_up (at * 3 + 1) (length ts * 3 + 1) (layout len ts)) (at * 3 + 1) x.subject) (at * 3 + 1 + 1) x.property) (at * 3 + 1 + 2) x.object) 0 (length ts + 1)
    ≡ layout len (insert_at at x ts)
unfolding insert_at
put len at x ts h k =
    let e : take at ts ++ drop at ts ≡ ts = take-append-drop at ts in
    let l : length (take at ts) ≡ at = length-take-le at ts h in
    rw e at (put_split len (take at ts) (drop at ts) x (at * 3 + 1) (length ts * 3 + 1) (rw l) (rw e) (rw e k))

-- The same, as `insert_at` leaves the words: v is what `copy_within` left of ws.
pub put-row : (ws v : List ℕ) (at : ℕ) (x : Triple) → Laid ws → length (rows ws) * 3 + 3 < length ws → at ≤ length (rows ws) → v ≡ moved_up (at * 3 + 1) (count ws * 3 + 1) ws
    → set (set (set (set v (at * 3 + 1) x.subject) (at * 3 + 1 + 1) x.property) (at * 3 + 1 + 2) x.object) 0 (count ws + 1)
    ≡ layout (length ws) (insert_at at x (rows ws))
put-row ws v at x L room h e = rw (e, ← length-rows ws) (rw (← L.is_layout) at (put (length ws) at x (rows ws) h room))
