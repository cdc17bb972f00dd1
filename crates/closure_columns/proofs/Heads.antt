-- The counts and the terms of the columns, written before the bits. Assumes nothing.
use mathlib.Core.Path.{◌≡◌, sym, ap, ◌∙◌}
use mathlib.Core.List.{List, ◌++◌}
use Prim.Native.Nat.{ℕ, ◌+◌, ◌*◌, ◌/◌, ◌%◌, ◌≤◌, ◌<◌}
use native.Mathlib.Omega.{arith}
use lib.ListN.{length, get_or, set, take, get_or-append}
use lib.Seq.{get_or-set_other, get_or-append-add, get_or-take, get_or-drop, length-take-le}
use borrow.Rule.Slice.PartMut.{mid_of, post_of, put_mid, mid_len, drop_put}
use Rattle.query_keys.specs.inside.Bits.{bit_of}
use Rattle.saturate_schema.specs.inside.Ascent.{term_of}
use Rattle.closure_words.specs.inside.Layout.{classes_of, columns_of, bit_at}
use Rattle.closure_columns.specs.inside.Headed.{Headed}

-- Words that are equal from 514 on have the same bits.
pub same_bits : (ws₀ ws : List ℕ) → ((q : ℕ) → get_or ws (514 + q) 0 ≡ get_or ws₀ (514 + q) 0) → (i c : ℕ) → bit_at ws i c ≡ bit_at ws₀ i c
same_bits ws₀ ws h i c = let e : 514 + i * 16 + c / 32 ≡ 514 + (i * 16 + c / 32) = omega arith in rw e (ap (λ (x : ℕ). bit_of x (c % 32)) (h (i * 16 + c / 32)))

-- The counts stand before the bits.
pub counts_bits : (ws : List ℕ) (nc ns i c : ℕ) → bit_at (set (set ws 0 nc) 1 ns) i c ≡ bit_at ws i c
counts_bits ws nc ns = same_bits ws (set (set ws 0 nc) 1 ns) (λ q. get_or-set_other (set ws 0 nc) 1 (514 + q) ns 0 (λ e. omega arith) ∙ get_or-set_other ws 0 (514 + q) nc 0 (λ e. omega arith))

-- A word before a part that is put back is as it was,
before_part : (ws ys : List ℕ) (p : ℕ) → 2 ≤ length ws → p < 2 → get_or (put_mid 2 512 ws ys) p 0 ≡ get_or ws p 0
before_part ws ys p l h = get_or-append (take 2 ws) (ys ++ post_of 2 512 ws) 0 p (rw (length-take-le 2 ws l) h) ∙ get_or-take 2 ws p 0 h

-- a word of it is the part's,
part-word : (ws ys : List ℕ) (c : ℕ) → 2 ≤ length ws → c < length ys → get_or (put_mid 2 512 ws ys) (c + 2) 0 ≡ get_or ys c 0
part-word ws ys c l h =
    let e : length (take 2 ws) ≡ 2 = length-take-le 2 ws l in
    let q : c + 2 ≡ length (take 2 ws) + c = omega arith in
    ap (λ (z : ℕ). get_or (put_mid 2 512 ws ys) z 0) q ∙ get_or-append-add (take 2 ws) (ys ++ post_of 2 512 ws) c 0 ∙ get_or-append ys (post_of 2 512 ws) 0 c h

-- and a word behind it is as it was.
after_part : (ws ys : List ℕ) (q : ℕ) → 514 ≤ length ws → length ys ≡ 512 → get_or (put_mid 2 512 ws ys) (514 + q) 0 ≡ get_or ws (514 + q) 0
after_part ws ys q l h = sym (get_or-drop 514 (put_mid 2 512 ws ys) q 0) ∙ ap (λ (z : List ℕ). get_or z q 0) (drop_put 2 514 ws ys (omega arith) l h) ∙ get_or-drop 514 ws q 0

-- The terms of the columns are written behind the counts.
pub headed : (col : List ℕ) (ns nc : ℕ) (ws₀ ws ys : List ℕ) → length ws ≡ 8706 → classes_of ws ≡ nc → columns_of ws ≡ ns → ((i c : ℕ) → bit_at ws i c ≡ bit_at ws₀ i c) → length ys ≡ length (mid_of 2 512 ws) → ns ≤ 512 → ((c : ℕ) → c < ns → get_or ys c 0 ≡ term_of (get_or col c 0)) → Headed col ns nc ws₀ (put_mid 2 512 ws ys)
headed col ns nc ws₀ ws ys l a b s h n t =
    let long : length ys ≡ 512 = h ∙ mid_len 2 514 ws (omega arith) in
    record {
      classes = before_part ws ys 0 (omega arith) (omega arith) ∙ a;
      columns = before_part ws ys 1 (omega arith) (omega arith) ∙ b;
      terms = λ c lc. part-word ws ys c (omega arith) (omega arith) ∙ t c lc;
      bits = λ i c. same_bits ws (put_mid 2 512 ws ys) (λ q. after_part ws ys q (omega arith) long) i c ∙ s i c;
    }
