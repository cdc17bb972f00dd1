-- Laws of bytes that are put where they fit. Assumes nothing.
use Prim.Native.Nat.{ℕ, ◌+◌, ◌-◌, ◌≤◌, ◌<◌}
use mathlib.Core.Path.{◌≡◌, sym, ap, ◌∙◌}
use mathlib.Core.List.{List, [], ◌∷◌, ◌++◌}
use native.Mathlib.Numerals.{add-one}
use native.Mathlib.Omega.{arith}
use lib.ListN.{length, take, drop, set, length-append}
use lib.Seq.{sets, length-sets}
use Rattle.spec_ntriples.specs.Characters.{codes}
use Rattle.dictionary_bytes.specs.inside.Entries.{length_at, text_at}
use Rattle.ntriples_text.proofs.Writing.{sets-append}
use Rattle.ntriples_room.specs.inside.Put.{Put}

-- ---- what does not fit

-- Bytes for which there is no room.
pub put_none : (out after bytes : List ℕ) (at : ℕ) → length out < at + length bytes → Put out after at bytes 0
put_none out after bytes at h = record { full = λ e. h; behind = λ l. absurd (omega arith); fits = λ l. absurd (omega arith); put = λ l. absurd (omega arith) }

-- ---- what is put

-- Bytes for which there is room.
pub put_some : (out after bytes : List ℕ) (at end : ℕ) → end ≡ at + length bytes → end ≤ length out → 0 < end → after ≡ sets out at bytes → Put out after at bytes end
put_some out after bytes at end e h l p = record { full = λ z. absurd (omega arith); behind = λ z. e; fits = λ z. h; put = λ z. p }

-- A text and a space behind it: not, and put.
pub text_none : (out after t : List ℕ) (at n : ℕ) → n ≡ length t → at ≤ length out → length out - at ≤ n → Put out after at (t ++ codes " ") 0
unfolding codes
text_none out after t at n e h k = put_none out after (t ++ codes " ") at (omega (arith, length-append t (codes " ")))

pub text-some : (out t : List ℕ) (at n : ℕ) → n ≡ length t → at ≤ length out → n < length out - at → Put out (set (sets out at t) (at + n) 32) at (t ++ codes " ") (at + n + 1)
unfolding codes
text-some out t at n e h k =
    put_some
    out
    (set (sets out at t) (at + n) 32)
    (t ++ codes " ")
    at
    (at + n + 1)
    (omega (arith, length-append t (codes " ")))
    (omega arith)
    (omega arith)
    (rw e (sym (sets-append out at t (32 ∷ []))))

-- The same, of an output that came by the text.
pub text-put : (out out' t : List ℕ) (at n : ℕ) → out' ≡ sets out at t → n ≡ length t → at ≤ length out → n < length out - at → Put out (set out' (at + n) 32) at (t ++ codes " ") (at + n + 1)
text-put out out' t at n o e h k = rw o (text-some out t at n e h k)

-- The end of a line: not, and put.
pub end_none : (out after : List ℕ) (at : ℕ) → at ≤ length out → length out - at < 2 → Put out after at (codes ".\n") 0
unfolding codes
end_none out after at h k = put_none out after (codes ".\n") at (omega arith)

pub end-put : (out : List ℕ) (at : ℕ) → at ≤ length out → 2 ≤ length out - at → Put out (set (set out at 46) (at + 1) 10) at (codes ".\n") (at + 2)
unfolding codes
end-put out at h k = put_some out (set (set out at 46) (at + 1) 10) (codes ".\n") at (at + 2) (omega arith) (omega arith) (omega arith) (ap (λ (i : ℕ). set (set out at 46) i 10) (add-one at))

-- The bytes behind the header of an entry are its text.
pub text_part : (bs : List ℕ) (place n : ℕ) → n ≡ length_at bs place → take n (drop (place + 12) bs) ≡ text_at bs place
unfolding text_at
text_part bs place n e = rw e

-- ---- one behind the other

-- Bytes behind others that do not fit, and behind others that were put.
pub put_stop : {out after : List ℕ} {at r : ℕ} (last : List ℕ) (xs ys : List ℕ) → Put out after at xs r → r ≡ 0 → Put out last at (xs ++ ys) 0
put_stop {out} {after} {at} {r} last xs ys p e = put_none out last (xs ++ ys) at (omega (arith, p.full e, length-append xs ys))

pub put_then : {out after last : List ℕ} {at r s : ℕ} (xs ys : List ℕ) → Put out after at xs r → 0 < r → Put after last r ys s → Put out last at (xs ++ ys) s
put_then {out} {after} {last} {at} {r} {s} xs ys p l q =
    let n = length-append xs ys in
    let b = p.behind l in
    let k : length after ≡ length out = ap length (p.put l) ∙ length-sets out at xs in
    record {
      full = λ z. omega (arith, q.full z, n, b, k);
      behind = λ z. omega (arith, q.behind z, n, b);
      fits = λ z. omega (arith, q.fits z, k);
      put = λ z. q.put z ∙ rw (p.put l, b) (sym (sets-append out at xs ys));
    }
