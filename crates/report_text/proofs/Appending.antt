-- Laws of text appended to lent bytes. Assumes nothing.
use Prim.Native.Nat.{ℕ, ◌+◌, ◌/◌, ◌%◌, ◌≤◌, ◌<◌}
use native.Mathlib.Nat.{add-zero}
use mathlib.Core.Path.{◌≡◌, refl, sym, ap, ◌∙◌, subst}
use mathlib.Core.List.{List, [], ◌∷◌, ◌++◌, append-nil, append_assoc}
use native.Mathlib.Numerals.{add-one}
use native.Mathlib.Omega.{arith}
use lib.ListN.{length, take, drop, set, length-append}
use lib.Seq.{take-suc-set, drop-set-lt, drop-drop}
use borrow.Rule.Slice.PartMut.{put_mid}
use Rattle.std.proofs.lemmas.Slice.{take-put_mid, drop-put_mid}
use Rattle.report_text.specs.Text.{decimal}
use Rattle.report_text.specs.inside.Appended.{Appended}
use Rattle.report_text.proofs.Decimal.{decimal_small, decimal_large}

-- One byte.
pub byte_appended : (b : ℕ) (out : List ℕ) (at : ℕ) → at < length out → Appended (b ∷ []) at out (set out at b) (at + 1)
byte_appended b out at h =
    record {
      ends = refl;
      start_and_text = rw (add-one at) (take-suc-set out at b h);
      rest = drop-set-lt (at + 1) out at b (omega arith);
    }

-- No byte.
pub none_appended : (out : List ℕ) (at : ℕ) → Appended [] at out out at
none_appended out at = record { ends = sym (add-zero at); start_and_text = sym (append-nil (take at out)); rest = refl }

-- A text behind another.
pub both_appended : {s t out out' out'' : List ℕ} {at mid end : ℕ} → Appended s at out out' mid → Appended t mid out' out'' end → Appended (s ++ t) at out out'' end
both_appended {s} {t} {out} {out'} {out''} {at} {mid} {end} A B =
    record {
      ends = omega (arith, A.ends, B.ends, length-append s t);
      start_and_text = B.start_and_text ∙ ap (λ (l : List ℕ). l ++ t) A.start_and_text ∙ append_assoc (take at out) s t;
      rest =
          B.rest
          ∙ ap (λ (i : ℕ). drop i out') B.ends
          ∙ sym (drop-drop (length t) mid out')
          ∙ ap (λ (l : List ℕ). drop (length t) l) A.rest
          ∙ drop-drop (length t) mid out
          ∙ ap (λ (i : ℕ). drop i out) (sym B.ends);
    }

-- Equal texts.
pub text_appended : {s t out out' : List ℕ} {at end : ℕ} → s ≡ t → Appended s at out out' end → Appended t at out out' end
text_appended {s} {t} {out} {out'} {at} {end} e A = subst (λ (l : List ℕ). Appended l at out out' end) e A

-- The part from an index on.
pub part_appended : (word out : List ℕ) (at k : ℕ) → length word ≡ k → at + k ≤ length out → Appended word at out (put_mid at k out word) (at + k)
part_appended word out at k e h =
    record {
      ends = omega (arith, e);
      start_and_text = take-put_mid at k out word (at + k) (omega (arith, e)) (omega arith);
      rest = drop-put_mid at k out word (at + k) (omega arith) (omega arith) e;
    }

-- ---- a number, digit by digit

-- It has one digit more than the number without its last digit.
large-length : (n : ℕ) → 10 ≤ n → length (decimal n) ≡ length (decimal (n / 10)) + 1
large-length n h = ap length (decimal_large n h) ∙ length-append (decimal (n / 10)) ((48 + n % 10) ∷ [])

-- Where there is room for a number, there is room for its one digit,
pub small_room : (n at : ℕ) (out : List ℕ) → n < 10 → at + length (decimal n) ≤ length out → at < length out
small_room n at out h r = let e : length (decimal n) ≡ 1 = ap length (decimal_small n h) in omega arith

-- or for its digits before the last,
pub large_room : (n at : ℕ) (out : List ℕ) → 10 ≤ n → at + length (decimal n) ≤ length out → at + length (decimal (n / 10)) ≤ length out
large_room n at out h r = omega (arith, large-length n h)

-- and for the last behind them.
pub last_room : (n at : ℕ) (out out' : List ℕ) (mid : ℕ) → 10 ≤ n → at + length (decimal n) ≤ length out → mid ≡ at + length (decimal (n / 10)) → length out' ≡ length out → mid < length out'
last_room n at out out' mid h r e k = omega (arith, large-length n h)
