-- What the words are once a row is taken out. Assumes nothing.
use Prim.Native.Nat.{ℕ, suc, ◌+◌, ◌-◌, ◌*◌, ◌<◌}
use mathlib.Core.Path.{◌≡◌, refl, sym, ap, ◌∙◌, subst}
use mathlib.Core.List.{List, [], ◌∷◌, ◌++◌, append_assoc}
use native.Mathlib.Numerals.{add-one}
use native.Mathlib.Omega.{arith}
use lib.ListN.{length, get_or, take, drop, set, replicate, length-append, length-drop}
use borrow.Rule.Slice.PartMut.{put_mid}
use lib.Seq.{take_at, drop_at, drop-append-le, drop-append-add, length-take-le, split_at}
use Rattle.spec.specs.declared.Triple.{Triple}
use Rattle.spec.specs.Terms.{triple}
use Rattle.spec.specs.Tables.{count, rows, flatten, layout}
use Rattle.table_change.specs.inside.Words.{remove_at}
use Rattle.table_change.specs.inside.Words.{moved_down}
use Rattle.spec.specs.inside.Laid.{Laid}
use Rattle.spec.proofs.TableRows.{length-flatten, flatten-append, length-rows}

exactly_three : (l : List ℕ) → length l ≡ 3 → (u : ℕ) × (v : ℕ) × (w : ℕ) × (l ≡ u ∷ v ∷ w ∷ [])
exactly_three [] h = absurd (omega arith)
exactly_three (u ∷ []) h = absurd (omega arith)
exactly_three (u ∷ v ∷ []) h = absurd (omega arith)
exactly_three (u ∷ v ∷ w ∷ []) h = (u, v, w, refl)
exactly_three (u ∷ v ∷ w ∷ x ∷ l) h = absurd (omega arith)

-- The three words behind P are closed up.
closed : (P Q Z : List ℕ) (x y z : ℕ) (k e : ℕ) → length P ≡ k → k + length Q ≡ e
    → (u : ℕ) × (v : ℕ) × (w : ℕ) × (moved_down k e (P ++ ((x ∷ y ∷ z ∷ Q) ++ Z)) ≡ (P ++ Q) ++ (u ∷ v ∷ w ∷ Z))
unfolding moved_down
closed P Q Z x y z k e h f =
    let T = exactly_three (drop (length Q) (x ∷ y ∷ z ∷ Q)) (rw length-drop (omega arith)) in
    let t₁ : take (e + 3) (P ++ ((x ∷ y ∷ z ∷ Q) ++ Z)) ≡ P ++ (x ∷ y ∷ z ∷ Q) =
    ap (λ (l : List ℕ). take (e + 3) l) (sym (append_assoc P (x ∷ y ∷ z ∷ Q) Z)) ∙ take_at (P ++ (x ∷ y ∷ z ∷ Q)) Z (e + 3) (rw length-append (omega arith)) in
    let t₂ : drop (k + 3) (P ++ (x ∷ y ∷ z ∷ Q)) ≡ Q =
    subst (λ (m : ℕ). drop (m + 3) (P ++ (x ∷ y ∷ z ∷ Q)) ≡ Q) h (drop-append-add P (x ∷ y ∷ z ∷ Q) 3) in
    let q : length P + length Q ≡ e = rw h f in
    let t₃ : drop e (P ++ ((x ∷ y ∷ z ∷ Q) ++ Z)) ≡ T.0 ∷ T.1 ∷ T.2 ∷ Z =
    subst (λ (m : ℕ). drop m (P ++ ((x ∷ y ∷ z ∷ Q) ++ Z)) ≡ T.0 ∷ T.1 ∷ T.2 ∷ Z) q
    (drop-append-add P ((x ∷ y ∷ z ∷ Q) ++ Z) (length Q) ∙ drop-append-le (length Q) (x ∷ y ∷ z ∷ Q) Z (omega arith) ∙ ap (λ (l : List ℕ). l ++ Z) T.3) in
    (T.0, T.1, T.2, rw (take_at P ((x ∷ y ∷ z ∷ Q) ++ Z) k h, t₁, t₂, t₃) (sym (append_assoc P Q (T.0 ∷ T.1 ∷ T.2 ∷ Z))))

-- The three words behind A are filled with zeros.
filled : (A Z : List ℕ) (u v w e n : ℕ) → length A ≡ e → n ≡ 3
    → put_mid e n (A ++ (u ∷ v ∷ w ∷ Z)) (replicate (length (take n (drop e (A ++ (u ∷ v ∷ w ∷ Z))))) 0) ≡ A ++ (0 ∷ 0 ∷ 0 ∷ Z)
filled A Z u v w e n h q = rw (q, take_at A (u ∷ v ∷ w ∷ Z) e h, drop_at A (u ∷ v ∷ w ∷ Z) e h)

drop_split : (len : ℕ) (a b : List Triple) (x : Triple) (k e n m : ℕ) → length a * 3 + 1 ≡ k → length (a ++ b) * 3 + 1 ≡ e → n ≡ 3 → m ≡ length (a ++ b)
    → length (a ++ b) * 3 + 3 < len
    → (let v = moved_down k e (layout len (a ++ (x ∷ b))) in set (put_mid e n v (replicate (length (take n (drop e v))) 0)) 0 m) ≡ layout len (a ++ b)
unfolding layout flatten
drop_split len a b x k e three m i j o l h =
    let n : ℕ = length (a ++ (x ∷ b)) in
    let P : List ℕ = n ∷ flatten a in
    let Q : List ℕ = flatten b in
    let more : n ≡ length (a ++ b) + 1 = simp length-append (omega arith) in
    let Z : List ℕ = replicate (len - (n * 3 + 1)) 0 in
    let long : length P ≡ k = let q = length-flatten a in omega arith in
    let size : k + length Q ≡ e = let q = length-flatten b in let r = length-append a b in omega arith in
    let C = closed P Q Z x.subject x.property x.object k e long size in
    let s₀ : moved_down k e (layout len (a ++ (x ∷ b))) ≡ (P ++ Q) ++ (C.0 ∷ C.1 ∷ C.2 ∷ Z) =
    rw (flatten-append a (x ∷ b), append_assoc (flatten a) (x.subject ∷ x.property ∷ x.object ∷ Q) Z) C.3 in
    let both : length (P ++ Q) ≡ e = rw (length-append P Q) (omega arith) in
    let z : len - (length (a ++ b) * 3 + 1) ≡ suc (suc (suc (len - (n * 3 + 1)))) = omega arith in
    rw (s₀, filled (P ++ Q) Z C.0 C.1 C.2 e three both o, l, z, flatten-append)

-- The words as `remove_at` leaves them: v is what `copy_within` left of ws, and zs the n zeros that `fill` wrote.
pub drop-row : (ws v zs : List ℕ) (at n : ℕ) → Laid ws → at < length (rows ws) → n ≡ 3 → v ≡ moved_down (at * 3 + 1) (count ws * 3 - 2) ws
    → zs ≡ replicate (length (take n (drop (count ws * 3 - 2) v))) 0
    → set (put_mid (count ws * 3 - 2) n v zs) 0 (count ws - 1) ≡ layout (length ws) (remove_at at (rows ws))
unfolding remove_at
drop-row ws v zs at three L h o e f =
    let rs : List Triple = rows ws in
    let a : List Triple = take at rs in
    let b : List Triple = drop (suc at) rs in
    let x : Triple = get_or rs at (triple 0 0 0) in
    let is : rs ≡ a ++ (x ∷ b) = split_at rs at (triple 0 0 0) h in
    let la : length a ≡ at = length-take-le at rs (omega arith) in
    let n : length rs ≡ length (a ++ b) + 1 = omega (arith, simp length-append at (ap length is), length-append a b) in
    let cnt : length rs ≡ count ws = length-rows ws in
    let room : length rs * 3 < length ws = L.fits in
    let step = drop_split (length ws) a b x (at * 3 + 1) (count ws * 3 - 2) three (count ws - 1) (rw la) (omega arith) o (omega arith) (omega arith) in
    rw (f, e, add-one at) (rw (← is, ← L.is_layout) at step)
