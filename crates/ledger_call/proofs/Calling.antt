-- One encoded call, as the code runs it, and the part of bytes that it delivers. Assumes nothing.
use Prim.Native.Nat.{ℕ, zero, suc, ◌+◌, ◌-◌, ◌≤◌, ◌<◌, min}
use mathlib.Core.Path.{◌≡◌, refl, sym, ap, ◌∙◌}
use mathlib.Core.Logic.{⊎_elim}
use mathlib.Core.List.{List}
use native.Mathlib.Omega.{arith}
use lib.ListN.{length, take, drop, length-drop, drop_of_length-le}
use lib.Seq.{take_all}
use Rattle.spec.specs.Terms.{triple}
use Rattle.spec.proofs.Lists.{le_or}
use Rattle.spec.specs.declared.Answer.{Answer}
use Rattle.spec.specs.Tables.{Tables}
use Rattle.spec.specs.declared.Change.{Change}
use Rattle.spec.specs.declared.Change.TheVariants.{Addition, Withdrawal}
use Rattle.spec.specs.Updates.{update}
use Rattle.spec.specs.declared.Delivered.{Delivered}
use Rattle.spec.specs.Deliveries.{deliver}
use Rattle.spec.specs.Ledger.{answered, resulted, call}
use Rattle.ledger_call.specs.inside.Calls.{change_of, call_of, given_words, worded_call}

-- ---- parts of bytes

-- The first n elements, or as many as there are.
take_least : (n : ℕ) (xs : List ℕ) → take (min n (length xs)) xs ≡ take n xs
take_least n xs =
    ⊎_elim
    (λ (h : n ≤ length xs). let e : min n (length xs) ≡ n = omega arith in rw e refl)
    (λ (h : length xs < n). let e : min n (length xs) ≡ length xs = omega arith in rw (e, take_all (length xs) xs (omega arith), take_all n xs (omega arith)) refl)
    (le_or n (length xs))

-- What is left behind index a, or at the end where there is no such index.
drop_least : (a : ℕ) (xs : List ℕ) → drop (min a (length xs)) xs ≡ drop a xs
drop_least a xs =
    ⊎_elim
    (λ (h : a ≤ length xs). let e : min a (length xs) ≡ a = omega arith in rw e refl)
    (λ (h : length xs < a). let e : min a (length xs) ≡ length xs = omega arith in rw e (drop_of_length-le xs {i = length xs} (omega arith) ∙ sym (drop_of_length-le xs {i = a} (omega arith))))
    (le_or a (length xs))

-- A part whose start and size are cut to what there is.
part_is : (xs : List ℕ) (a b start n : ℕ) → start ≡ min a (length xs) → n ≡ min b (length xs - start) → take (start + n - start) (drop start xs) ≡ take b (drop a xs)
part_is xs a b start n e f =
    let m : start + n - start ≡ n = omega arith in
    let g : n ≡ min b (length (drop start xs)) = rw (length-drop start xs) f in
    rw (m, g) (take_least b (drop start xs) ∙ ap (take b) (rw e (drop_least a xs)))

-- The delivery of such a part.
pub part-delivered : (T T' : Tables) (r : Delivered) (xs : List ℕ) (a b start n : ℕ) → start ≡ min a (length xs) → n ≡ min b (length xs - start)
    → (r, T') ≡ deliver T (take (start + n - start) (drop start xs)) → (r, T') ≡ deliver T (take b (drop a xs))
part-delivered T T' r xs a b start n e f h = h ∙ ap (deliver T) (part_is xs a b start n e f)

-- ---- one call

-- The update that kind 0 asks for, and kind 1.
pub addition_of : (kind : ℕ) → kind ≡ 0 → Addition ≡ change_of kind
unfolding change_of
addition_of kind e = rw e refl

pub withdrawal_of : (kind : ℕ) → (kind ≡ 0 → ⊥) → Withdrawal ≡ change_of kind
unfolding change_of
withdrawal_of zero n = absurd (n refl)
withdrawal_of (suc kind) n = refl

-- A call of kind 0 or 1 is an update,
pub call-updated : (bytes : List ℕ) (kind a b c : ℕ) (T T' : Tables) (d : Change) (r : Answer) (ws : List ℕ) → kind ≤ 1 → d ≡ change_of kind → ws ≡ given_words (answered r) → (r, T') ≡ update d T (triple a b c) → (ws, T') ≡ worded_call T (call_of bytes kind a b c)
unfolding worded_call call_of call change_of
call-updated bytes zero a b c T T' d r ws l e w h = rw w (ap (λ (o : Answer × Tables). (given_words (answered o.0), o.1)) (rw e at h))
call-updated bytes (suc zero) a b c T T' d r ws l e w h = rw w (ap (λ (o : Answer × Tables). (given_words (answered o.0), o.1)) (rw e at h))
call-updated bytes (suc (suc kind)) a b c T T' d r ws l e w h = absurd (omega arith)

-- and any other a delivery.
pub call-delivered : (bytes : List ℕ) (kind a b c : ℕ) (T T' : Tables) (r : Delivered) (ws : List ℕ) → 1 < kind → ws ≡ given_words (resulted r) → (r, T') ≡ deliver T (take b (drop a bytes)) → (ws, T') ≡ worded_call T (call_of bytes kind a b c)
unfolding worded_call call_of call
call-delivered bytes zero a b c T T' r ws l w h = absurd (omega arith)
call-delivered bytes (suc zero) a b c T T' r ws l w h = absurd (omega arith)
call-delivered bytes (suc (suc kind)) a b c T T' r ws l w h = rw w (ap (λ (o : Delivered × Tables). (given_words (resulted o.0), o.1)) h)
