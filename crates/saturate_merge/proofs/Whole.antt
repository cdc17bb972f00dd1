-- Parts of a list of kept facts joined; the whole list put. Assumes nothing.
use mathlib.Core.Path.{◌≡◌, refl, sym, ap, ap₂, ◌∙◌}
use mathlib.Core.List.{List, [], ◌∷◌, ◌++◌, append_assoc}
use mathlib.Core.Logic.{by_cases}
use Prim.Native.Nat.{ℕ, zero, suc, ◌+◌, ◌*◌, ◌^◌, ◌≤◌, ◌<◌}
use native.Mathlib.Omega.{arith}
use native.Mathlib.Decide.{dec_lt}
use lib.ListN.{length, set, drop, length-append}
use borrow.Author.Tests.{lt-ltb, le-ltb}
use Rattle.spec.specs.declared.Triple.{Triple}
use Rattle.spec.specs.inside.Comparison.{Less, less, same, more, compare_triples, equal_triples}
use Rattle.spec.proofs.Order.{less_trans, choose_elim}
use Rattle.spec.specs.Saturation.{Kept, kept_rows, kept_supports}
use Rattle.spec.specs.inside.Counts.{KeptAbove, Counts, lookup}
use Rattle.spec.proofs.Kept.{lookup_nil, lookup_same, lookup_other, kept_ext}
use Rattle.spec.specs.Tables.{flatten}
use Rattle.table_change.specs.inside.Words.{put_row}
use Rattle.saturate_merge.specs.inside.Output.{Output, output, one_more, put_one, put_all}
use Rattle.saturate_merge.specs.inside.Between.{less_than, Within, within, between}
use Rattle.saturate_merge.proofs.Output.{put_here}
use Rattle.saturate_merge.proofs.Between.{between_counts, inside, outside, Under, between_under}

-- ==== joining

abbrev NotBelow : Triple → Kept → Type 0
NotBelow m [] = Unit {0}
NotBelow m (e ∷ k) = (¬ Less e.0 m) × NotBelow m k

between_over : (b c : Triple) (k : Kept) → NotBelow b (between b c k)
unfolding between
between_over b c [] = tt
between_over b c (e ∷ k) = choose_elim (NotBelow b) (within b c e.0) (λ w. (w.0, between_over b c k)) (λ _. between_over b c k)

not_below : (v m u : Triple) → Less v m → ¬ Less u m → Less v u
not_below v m u l n = elim (compare_triples u m) [ less h ↦ absurd (n h) | same e ↦ rw e l | more h ↦ less_trans l h ]

above_of : (v m : Triple) (k : Kept) → Less v m → NotBelow m k → Counts k → KeptAbove v k
above_of v m [] l n c = tt
above_of v m (e ∷ k) l n c = (not_below v m e.0 l n.0, c.0, c.1)

above-append : (v m : Triple) (j k : Kept) → Less v m → KeptAbove v j → Under m j → NotBelow m k → Counts k → KeptAbove v (j ++ k)
above-append v m [] k l a u n c = above_of v m k l n c
above-append v m (e ∷ j) k l a u n c = (a.0, a.1, above-append e.0 m j k u.0 a.2 u.1 n c)

counts-append : (m : Triple) (j k : Kept) → Counts j → Under m j → NotBelow m k → Counts k → Counts (j ++ k)
counts-append m [] k a u n c = c
counts-append m (e ∷ j) k a u n c = (a.0, above-append e.0 m j k u.0 a.1 u.1 n c)

over_absent : (m u : Triple) (k : Kept) → NotBelow m k → Less u m → lookup k u ≡ 0
over_absent m u [] n l = lookup_nil u
over_absent m u (e ∷ k) n l = lookup_other e k u (λ q. n.0 (rw q at l)) ∙ over_absent m u k n.1 l

lookup_low : (m u : Triple) (j k : Kept) → NotBelow m k → Less u m → lookup (j ++ k) u ≡ lookup j u
lookup_low m u [] k n l = over_absent m u k n l ∙ sym (lookup_nil u)
lookup_low m u (e ∷ j) k n l = by_cases (equal_triples u e.0) (λ q. lookup_same e (j ++ k) u q ∙ sym (lookup_same e j u q)) (λ z. lookup_other e (j ++ k) u z ∙ lookup_low m u j k n l ∙ sym (lookup_other e j u z))

lookup_high : (m u : Triple) (j k : Kept) → Under m j → ¬ Less u m → lookup (j ++ k) u ≡ lookup k u
lookup_high m u [] k n l = refl
lookup_high m u (e ∷ j) k n l = lookup_other e (j ++ k) u (λ q. l (rw q n.0)) ∙ lookup_high m u j k n.1 l

pub between_join : (b m c : Triple) (k : Kept) → Counts k → ¬ Less m b → ¬ Less c m → between b c k ≡ between b m k ++ between m c k
between_join b m c k a lo hi =
    kept_ext (between b c k) (between b m k ++ between m c k) (between_counts b c k a) (counts-append m (between b m k) (between m c k) (between_counts b m k a) (between_under b m k) (between_over m c k) (between_counts m c k a))
    (λ u. by_cases (less_than u m)
    (λ l. low u l ∙ sym (lookup_low m u (between b m k) (between m c k) (between_over m c k) l))
    (λ n. high u n ∙ sym (lookup_high m u (between b m k) (between m c k) (between_under b m k) n)))
  where
    low : (u : Triple) → Less u m → lookup (between b c k) u ≡ lookup (between b m k) u
    low u l = by_cases (less_than u b) (λ h. outside b c k u (λ w. w.0 h) ∙ sym (outside b m k u (λ w. w.0 h)))
        (λ h. inside b c k u (h, elim (compare_triples u c) [ less z ↦ z | same e ↦ absurd (hi (rw e at l)) | more z ↦ absurd (hi (less_trans z l)) ]) ∙ sym (inside b m k u (h, l)))

    high : (u : Triple) → ¬ Less u m → lookup (between b c k) u ≡ lookup (between m c k) u
    high u n = by_cases (less_than u c)
        (λ l. inside b c k u ((λ h. lo (elim (compare_triples m u) [ less z ↦ less_trans z h | same e ↦ rw e h | more z ↦ absurd (n z) ])), l) ∙ sym (inside m c k u (n, l)))
        (λ l. outside b c k u (λ w. l w.1) ∙ sym (outside m c k u (λ w. l w.1)))

-- ==== all of it put: without room nothing is written, and the rows are counted

tick : ℕ → ℕ → ℕ
tick zero n = n
tick (suc k) n = tick k (one_more n)

put_none : (k : Kept) (ws ss : List ℕ) (n : ℕ) → put_all 0 k (output ws ss n) ≡ output ws ss (tick (length k) n)
unfolding put_all put_one tick
put_none [] ws ss n = refl
put_none (e ∷ k) ws ss n = rw (le-ltb n 0 (omega arith)) (put_none k ws ss (one_more n))

tick_small : (k n c : ℕ) → c < 2 ^ 32 → n ≤ 2 ^ 32 → (tick k n ≤ c → n + k ≤ c) × (n + k ≤ c → tick k n ≡ n + k)
unfolding tick one_more
tick_small zero n c l h = ((λ z. omega arith), λ z. omega arith)
tick_small (suc k) n c l h =
    by_cases (dec_lt n (2 ^ 32))
    (λ q. rw (lt-ltb n (2 ^ 32) q) (let i = tick_small k (n + 1) c l (omega arith) in ((λ z. omega (arith, i.0 z)), λ z. omega (arith, i.1 (omega arith)))))
    (λ q. let r : 2 ^ 32 ≤ n = omega arith in rw (le-ltb n (2 ^ 32) r) (let i = tick_small k n c l h in ((λ z. absurd (omega (arith, i.0 z))), λ z. absurd (omega arith))))

-- counting without room: more than c rows exactly when the list is longer than c
pub count-all : (k : Kept) (ws ss : List ℕ) (c r : ℕ) (ws' ss' : List ℕ) → c < 2 ^ 32 → output ws' ss' r ≡ put_all 0 k (output ws ss 0) → (ws' ≡ ws) × (ss' ≡ ss) × (r ≤ c → length k ≤ c) × (length k ≤ c → r ≡ length k)
count-all k ws ss c r ws' ss' l e =
    let f : output ws' ss' r ≡ output ws ss (tick (length k) 0) = e ∙ put_none k ws ss 0 in
    let er : r ≡ tick (length k) 0 = ap (λ (s : Output). s.count) f in
    let i = tick_small (length k) 0 c l (omega arith) in
    (ap (λ (s : Output). s.words) f, ap (λ (s : Output). s.supports) f, (λ z. omega (arith, i.0 (omega arith))), λ z. omega (arith, i.1 (omega arith)))

-- ==== with room, the rows stand in order after the first word, and the supports beside them

set_at : (P w : List ℕ) (k i x : ℕ) → k ≡ length P + i → set (P ++ w) k x ≡ P ++ set w i x
set_at [] w k i x e = let f : k ≡ i = omega arith in rw f
set_at (p ∷ P) w zero i x e = absurd (omega arith)
set_at (p ∷ P) w (suc k) i x e = ap (λ (l : List ℕ). p ∷ l) (set_at P w k i x (omega arith))

triple-at : (P w : List ℕ) (k a b c : ℕ) (t : Triple) → k ≡ length P → set (set (set (P ++ a ∷ b ∷ c ∷ w) k t.subject) (k + 1) t.property) (k + 2) t.object ≡ P ++ t.subject ∷ t.property ∷ t.object ∷ w
triple-at P w k a b c t e =
    rw (set_at P (a ∷ b ∷ c ∷ w) k 0 t.subject (omega arith), set_at P (t.subject ∷ b ∷ c ∷ w) (k + 1) 1 t.property (omega arith), set_at P (t.subject ∷ t.property ∷ c ∷ w) (k + 2) 2 t.object (omega arith))

fits_step : (k : Kept) (e : Triple × ℕ) (P Q w v : List ℕ) (n room a b c d : ℕ) → length P ≡ n * 3 + 1 → length Q ≡ n → n < room → room ≤ 2 ^ 32 → put_one room e (output (P ++ a ∷ b ∷ c ∷ w) (Q ++ d ∷ v) n) ≡ output (P ++ e.0.subject ∷ e.0.property ∷ e.0.object ∷ w) (Q ++ e.1 ∷ v) (n + 1)
unfolding put_row
fits_step k e P Q w v n room a b c d lp lq lt le =
    sym (put_here {ws = P ++ a ∷ b ∷ c ∷ w} {ss = Q ++ d ∷ v} {s = e.0.subject} {p = e.0.property} {o = e.0.object} lt le (record { row = refl; support = refl }))
    ∙ ap₂ (λ (x y : List ℕ). output x y (n + 1)) (triple-at P w (n * 3 + 1) a b c e.0 (sym lp)) (set_at Q (d ∷ v) n 0 e.1 (omega arith))

snoc3 : (P w : List ℕ) (a b c : ℕ) → P ++ a ∷ b ∷ c ∷ w ≡ (P ++ a ∷ b ∷ c ∷ []) ++ w
snoc3 P w a b c = sym (append_assoc P (a ∷ b ∷ c ∷ []) w)

snoc1 : (Q v : List ℕ) (d : ℕ) → Q ++ d ∷ v ≡ (Q ++ d ∷ []) ++ v
snoc1 Q v d = sym (append_assoc Q (d ∷ []) v)

pub put_fits : (k : Kept) (P Q w v : List ℕ) (n room : ℕ) → length P ≡ n * 3 + 1 → length Q ≡ n → n + length k ≤ room → room ≤ 2 ^ 32 → length k * 3 ≤ length w → length k ≤ length v → put_all room k (output (P ++ w) (Q ++ v) n) ≡ output (P ++ (flatten (kept_rows k) ++ drop (length k * 3) w)) (Q ++ (kept_supports k ++ drop (length k) v)) (n + length k)
unfolding put_all flatten
put_fits [] P Q w v n room lp lq f l hw hv = let z : n + 0 ≡ n = omega arith in rw z
put_fits (e ∷ k) P Q [] v n room lp lq f l hw hv = absurd (omega arith)
put_fits (e ∷ k) P Q (a ∷ []) v n room lp lq f l hw hv = absurd (omega arith)
put_fits (e ∷ k) P Q (a ∷ b ∷ []) v n room lp lq f l hw hv = absurd (omega arith)
put_fits (e ∷ k) P Q (a ∷ b ∷ c ∷ w) [] n room lp lq f l hw hv = absurd (omega arith)
put_fits (e ∷ k) P Q (a ∷ b ∷ c ∷ w) (d ∷ v) n room lp lq f l hw hv =
    let x = e.0.subject in let y = e.0.property in let z = e.0.object in
    let lp' : length (P ++ x ∷ y ∷ z ∷ []) ≡ (n + 1) * 3 + 1 = omega (arith, length-append P (x ∷ y ∷ z ∷ [])) in
    let lq' : length (Q ++ e.1 ∷ []) ≡ n + 1 = omega (arith, length-append Q (e.1 ∷ [])) in
    let i = put_fits k (P ++ x ∷ y ∷ z ∷ []) (Q ++ e.1 ∷ []) w v (n + 1) room lp' lq' (omega arith) l (omega arith) (omega arith) in
    ap (put_all room k) (fits_step k e P Q w v n room a b c d lp lq (omega arith) l ∙ ap₂ (λ (x y : List ℕ). output x y (n + 1)) (snoc3 P w x y z) (snoc1 Q v e.1))
    ∙ i
    ∙ last (length k * 3) (suc (length k) * 3) (length k) (suc (length k)) (omega arith) refl
  where
    last : (m m' j j' : ℕ) → m' ≡ suc (suc (suc m)) → j' ≡ suc j → output ((P ++ e.0.subject ∷ e.0.property ∷ e.0.object ∷ []) ++ (flatten (kept_rows k) ++ drop m w)) ((Q ++ e.1 ∷ []) ++ (kept_supports k ++ drop j v)) (n + 1 + j) ≡ output (P ++ (e.0.subject ∷ e.0.property ∷ e.0.object ∷ (flatten (kept_rows k) ++ drop m' (a ∷ b ∷ c ∷ w)))) (Q ++ (e.1 ∷ (kept_supports k ++ drop j' (d ∷ v)))) (n + j')
    last m m' j j' em ej = let q : n + 1 + j ≡ n + suc j = omega arith in rw (em, ej, q, append_assoc P (e.0.subject ∷ e.0.property ∷ e.0.object ∷ []) (flatten (kept_rows k) ++ drop m w), append_assoc Q (e.1 ∷ []) (kept_supports k ++ drop j v))

-- ==== the whole list is a part of itself

pub between-all : (b c : Triple) (k : Kept) → Counts k → ((u : Triple) → ¬ Within b c u → lookup k u ≡ 0) → between b c k ≡ k
between-all b c k a none = kept_ext (between b c k) k (between_counts b c k a) a (λ u. by_cases (within b c u) (λ w. inside b c k u w) (λ n. outside b c k u n ∙ sym (none u n)))
