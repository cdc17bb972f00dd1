use Prim.Native.Nat.{◌+◌}
use mathlib.Core.Path.{refl, sym, ◌∙◌, ap}
use mathlib.Core.List.{[], ◌∷◌}
use native.Mathlib.Omega.{arith}
use lib.ListN.{length, get_or, take, set, length-set}
use lib.Seq.{length-sets}
use Rattle.ntriples_own.proofs.Own.{own-stepped}
use Rattle.ntriples_own.specs.inside.Own.{own_piece}
use Rattle.ntriples_text.proofs.Passing.{left_first, left-some, left_none, left_more, Wrote, wrote_first, wrote-more, wrote_piece, wrote-all}
use borrow.Author.Rules.{rules}
use Rattle.ntriples_text_written.proofs.write_text.Goals as goal

pub loop-c-init : goal.loop-c-init
loop-c-init c = ((λ t H. left_first c.args.line.now c.args.from c.args.end t (Wrote c.args.out.now c.args.out.now c.args.at c.args.at t.bytes) H (wrote_first c.args.out.now c.args.at t.bytes)), refl)

pub bounds-out-i : goal.bounds-out-i
bounds-out-i c = let X = c.loop-c.invariant.0 c.requires.text c.requires.has in let S = own-stepped c.args.line.now c.args.end c.loop-c.c X.left c.loop-c-test.true (sym c.is_own.ensures ∙ c.if-is_own.true) X.coming in let r = wrote_piece c.args.out.now c.loop-c.out c.args.at c.loop-c.i 1 c.requires.text.bytes (get_or c.args.line.now c.loop-c.c.place 0 ∷ 0 ∷ 0 ∷ 0 ∷ []) S.later (omega (arith, S.splits.few, S.splits.four)) (rw S.splits.same at X.sound) c.requires.room in omega (arith, r)

pub overflow_add-i : goal.overflow_add-i
overflow_add-i c = let X = c.loop-c.invariant.0 c.requires.text c.requires.has in let S = own-stepped c.args.line.now c.args.end c.loop-c.c X.left c.loop-c-test.true (sym c.is_own.ensures ∙ c.if-is_own.true) X.coming in let r = wrote_piece c.args.out.now c.loop-c.out c.args.at c.loop-c.i 1 c.requires.text.bytes (get_or c.args.line.now c.loop-c.c.place 0 ∷ 0 ∷ 0 ∷ 0 ∷ []) S.later (omega (arith, S.splits.few, S.splits.four)) (rw S.splits.same at X.sound) c.requires.room in omega (arith, r)

pub loop-c-preserved-then-is_own : goal.loop-c-preserved-then-is_own
loop-c-preserved-then-is_own c = ((λ t H. let X = c.loop-c.invariant.0 t H in let S = own-stepped c.args.line.now c.args.end c.loop-c.c X.left c.loop-c-test.true (sym c.is_own.ensures ∙ c.if-is_own.true) X.coming in left_more c.args.line.now c.args.end c.loop-c.c (Wrote c.args.out.now c.loop-c.out c.args.at c.loop-c.i t.bytes) X (own_piece c.loop-c.c (get_or c.args.line.now c.loop-c.c.place 0)) S (Wrote c.args.out.now (set c.loop-c.out c.loop-c.i (get_or c.args.line.now c.loop-c.c.place 0)) c.args.at (c.loop-c.i + 1) t.bytes) (wrote-more c.args.out.now c.loop-c.out (set c.loop-c.out c.loop-c.i (get_or c.args.line.now c.loop-c.c.place 0)) c.args.at c.loop-c.i 1 t.bytes (get_or c.args.line.now c.loop-c.c.place 0 ∷ 0 ∷ 0 ∷ 0 ∷ []) S.later (omega (arith, S.splits.few, S.splits.four)) refl)), length-set c.loop-c.out c.loop-c.i (get_or c.args.line.now c.loop-c.c.place 0) ∙ c.loop-c.invariant.1)

pub next_piece-p-requires : goal.next_piece-p-requires
next_piece-p-requires c = record { some_coming = left-some c.args.line.now c.args.end c.loop-c.c _ (c.loop-c.invariant.0 c.requires.text c.requires.has); place_lt_end = search rules }

pub write_piece-requires : goal.write_piece-requires
write_piece-requires c = let X = c.loop-c.invariant.0 c.requires.text c.requires.has in let S = c.next_piece-p.ensures X.left X.coming in
    record { len_bound = (S.splits.few, S.splits.four); len_in_bounds = wrote_piece c.args.out.now c.loop-c.out c.args.at c.loop-c.i c.next_piece-p.result.len c.requires.text.bytes c.next_piece-p.result.bytes S.later (omega (arith, S.splits.few, S.splits.four)) (rw S.splits.same at X.sound) c.requires.room }

pub overflow_add-i-in-loop-c : goal.overflow_add-i-in-loop-c
overflow_add-i-in-loop-c c = let X = c.loop-c.invariant.0 c.requires.text c.requires.has in let S = c.next_piece-p.ensures X.left X.coming in let r = wrote_piece c.args.out.now c.loop-c.out c.args.at c.loop-c.i c.next_piece-p.result.len c.requires.text.bytes c.next_piece-p.result.bytes S.later (omega (arith, S.splits.few, S.splits.four)) (rw S.splits.same at X.sound) c.requires.room in omega (arith, r)

pub loop-c-smaller : goal.loop-c-smaller
loop-c-smaller c = let X = c.loop-c.invariant.0 c.requires.text c.requires.has in let S = c.next_piece-p.ensures X.left X.coming in omega (arith, S.splits.goes)

pub loop-c-preserved : goal.loop-c-preserved
loop-c-preserved c = ((λ t H. let X = c.loop-c.invariant.0 t H in let S = c.next_piece-p.ensures X.left X.coming in left_more c.args.line.now c.args.end c.loop-c.c (Wrote c.args.out.now c.loop-c.out c.args.at c.loop-c.i t.bytes) X c.next_piece-p.result S (Wrote c.args.out.now c.write_piece.new.out c.args.at (c.loop-c.i + c.next_piece-p.result.len) t.bytes) (wrote-more c.args.out.now c.loop-c.out c.write_piece.new.out c.args.at c.loop-c.i c.next_piece-p.result.len t.bytes c.next_piece-p.result.bytes S.later (omega (arith, S.splits.few, S.splits.four)) c.write_piece.ensures)), ap length c.write_piece.ensures ∙ length-sets c.loop-c.out c.loop-c.i (take c.next_piece-p.result.len c.next_piece-p.result.bytes) ∙ c.loop-c.invariant.1)

pub returns : goal.returns
returns c = record { out_after = (λ t H. (wrote-all c.args.out.now c.loop-c.out c.args.at c.loop-c.i t.bytes (left_none c.args.line.now c.args.end c.loop-c.c (Wrote c.args.out.now c.loop-c.out c.args.at c.loop-c.i t.bytes) (c.loop-c.invariant.0 t H) (search rules))).0); value = (λ t H. (wrote-all c.args.out.now c.loop-c.out c.args.at c.loop-c.i t.bytes (left_none c.args.line.now c.args.end c.loop-c.c (Wrote c.args.out.now c.loop-c.out c.args.at c.loop-c.i t.bytes) (c.loop-c.invariant.0 t H) (search rules))).1) }
