use Prim.Native.Nat.{◌+◌, ◌-◌, zero-le}
use mathlib.Core.Path.{◌≡◌, refl, sym, ◌∙◌}
use mathlib.Core.List.{[], ◌∷◌}
use native.Mathlib.Nat.{add-zero, sub-zero}
use native.Mathlib.Omega.{arith}
use lib.ListN.{get_or, take, drop}
use Rattle.spec_ntriples.specs.Texts.{is_same_text}
use Rattle.ntriples_own.proofs.Own.{own-stepped}
use Rattle.ntriples_cursor.proofs.Comparing.{pieces_more, pieces_stop, pieces_end}
use Rattle.ntriples_text.proofs.Passing.{left_first, left-some, left_none}
use borrow.Author.Rules.{rules}
use Rattle.ntriples_text_same.proofs.is_text.Goals as goal

pub loop-c-init : goal.loop-c-init
loop-c-init c = (zero-le, λ t H. left_first c.args.line.now c.args.from c.args.end t (λ l. is_same_text t.bytes (take c.args.n (drop c.args.at c.args.text.now)) ≡ is_same_text l (take (c.args.n - 0) (drop (c.args.at + 0) c.args.text.now))) H (simp (add-zero, sub-zero)))

pub returns-then-not-is_byte : goal.returns-then-not-is_byte
returns-then-not-is_byte c = λ t H. let X = c.loop-c.invariant.1 t H in let S = own-stepped c.args.line.now c.args.end c.loop-c.c X.left c.loop-c-test.true (sym c.is_own.ensures ∙ c.if-is_own.true) X.coming in sym (pieces_stop (is_same_text t.bytes (take c.args.n (drop c.args.at c.args.text.now))) c.is_byte.result X.left S.later c.args.text.now (get_or c.args.line.now c.loop-c.c.place 0 ∷ 0 ∷ 0 ∷ 0 ∷ []) 1 (c.args.at + c.loop-c.i) (c.args.n - c.loop-c.i) S.splits.same X.sound c.is_byte.ensures.first c.if-not-is_byte.true)

pub loop-c-preserved-then-is_own : goal.loop-c-preserved-then-is_own
loop-c-preserved-then-is_own c = (omega (arith, c.is_byte.ensures.fits c.if-not-is_byte.false), λ t H. let X = c.loop-c.invariant.1 t H in let S = own-stepped c.args.line.now c.args.end c.loop-c.c X.left c.loop-c-test.true (sym c.is_own.ensures ∙ c.if-is_own.true) X.coming in record { left = S.later; coming = S.splits.coming; sound = pieces_more (is_same_text t.bytes (take c.args.n (drop c.args.at c.args.text.now))) c.is_byte.result X.left S.later c.args.text.now (get_or c.args.line.now c.loop-c.c.place 0 ∷ 0 ∷ 0 ∷ 0 ∷ []) 1 (c.args.at + c.loop-c.i) (c.args.n - c.loop-c.i) S.splits.same X.sound c.is_byte.ensures.first (c.args.at + (c.loop-c.i + 1)) (c.args.n - (c.loop-c.i + 1)) c.if-not-is_byte.false (omega arith) (omega arith) })

pub next_piece-p-requires : goal.next_piece-p-requires
next_piece-p-requires c = record { some_coming = left-some c.args.line.now c.args.end c.loop-c.c _ (c.loop-c.invariant.1 c.requires.token.text c.requires.token.has); place_lt_end = search rules }

pub is_piece-requires : goal.is_piece-requires
is_piece-requires c = let X = c.loop-c.invariant.1 c.requires.token.text c.requires.token.has in let S = c.next_piece-p.ensures X.left X.coming in
    record { len_bound = (S.splits.few, S.splits.four); left_in_bounds = omega arith }

pub returns-then-not-is_piece : goal.returns-then-not-is_piece
returns-then-not-is_piece c = λ t H. let X = c.loop-c.invariant.1 t H in let S = c.next_piece-p.ensures X.left X.coming in sym (pieces_stop (is_same_text t.bytes (take c.args.n (drop c.args.at c.args.text.now))) c.is_piece.result X.left S.later c.args.text.now c.next_piece-p.result.bytes c.next_piece-p.result.len (c.args.at + c.loop-c.i) (c.args.n - c.loop-c.i) S.splits.same X.sound c.is_piece.ensures.first c.if-not-is_piece.true)

pub overflow_add-i-in-loop-c : goal.overflow_add-i-in-loop-c
overflow_add-i-in-loop-c c = omega (arith, c.is_piece.ensures.fits c.if-not-is_piece.false)

pub loop-c-smaller : goal.loop-c-smaller
loop-c-smaller c = let X = c.loop-c.invariant.1 c.requires.token.text c.requires.token.has in let S = c.next_piece-p.ensures X.left X.coming in omega (arith, S.splits.goes)

pub loop-c-preserved : goal.loop-c-preserved
loop-c-preserved c = (omega (arith, c.is_piece.ensures.fits c.if-not-is_piece.false), λ t H. let X = c.loop-c.invariant.1 t H in let S = c.next_piece-p.ensures X.left X.coming in record { left = S.later; coming = S.splits.coming; sound = pieces_more (is_same_text t.bytes (take c.args.n (drop c.args.at c.args.text.now))) c.is_piece.result X.left S.later c.args.text.now c.next_piece-p.result.bytes c.next_piece-p.result.len (c.args.at + c.loop-c.i) (c.args.n - c.loop-c.i) S.splits.same X.sound c.is_piece.ensures.first (c.args.at + (c.loop-c.i + c.next_piece-p.result.len)) (c.args.n - (c.loop-c.i + c.next_piece-p.result.len)) c.if-not-is_piece.false (omega arith) (omega arith) })

pub returns : goal.returns
returns c = λ t H. sym (pieces_end (is_same_text t.bytes (take c.args.n (drop c.args.at c.args.text.now))) [] c.args.text.now (c.args.at + c.loop-c.i) c.args.n c.loop-c.i (left_none c.args.line.now c.args.end c.loop-c.c (λ l. is_same_text t.bytes (take c.args.n (drop c.args.at c.args.text.now)) ≡ is_same_text l (take (c.args.n - c.loop-c.i) (drop (c.args.at + c.loop-c.i) c.args.text.now))) (c.loop-c.invariant.1 t H) (search rules)) refl (omega arith) (search rules))
