use Prim.Native.Nat.{◌+◌}
use mathlib.Core.Path.{◌≡◌, sym, ◌∙◌}
use native.Mathlib.Omega.{arith}
use lib.ListN.{length}
use Rattle.ntriples_text.proofs.Passing.{left_first, left-some, left-within, left_none, left_more, left-own, length_more}
use borrow.Author.Rules.{rules}
use Rattle.ntriples_text.proofs.text_length.Goals as goal

-- src/lib.rt:36:5
pub loop-c-init : goal.loop-c-init
loop-c-init c = (omega arith, λ t H. left_first c.args.line.now c.args.from c.args.end t (λ l. 0 + length l ≡ length t.bytes) H (omega arith))

-- src/lib.rt:36:5
pub loop-c-preserved-then-is_own : goal.loop-c-preserved-then-is_own
loop-c-preserved-then-is_own c = (omega arith, λ t H. left-own c.args.line.now c.args.end c.loop-c.c (λ l. c.loop-c.n + length l ≡ length t.bytes) (c.loop-c.invariant.1 t H) (search rules) (sym c.is_own.ensures ∙ c.if-is_own.true) (λ l. c.loop-c.n + 1 + length l ≡ length t.bytes) (λ later e. omega arith))

-- src/lib.rt:47:13
pub next_piece-p-requires : goal.next_piece-p-requires
next_piece-p-requires c = record { some_coming = left-some c.args.line.now c.args.end c.loop-c.c _ (c.loop-c.invariant.1 c.requires.text c.requires.has); place_lt_end = search rules }

-- src/lib.rt:48:9
pub overflow_add-n-in-loop-c : goal.overflow_add-n-in-loop-c
overflow_add-n-in-loop-c c = omega (arith, (c.next_piece-p.ensures (c.loop-c.invariant.1 c.requires.text c.requires.has).left (c.loop-c.invariant.1 c.requires.text c.requires.has).coming).splits.room, left-within c.args.line.now c.args.end c.next_piece-p.result.next _ (left_more c.args.line.now c.args.end c.loop-c.c _ (c.loop-c.invariant.1 c.requires.text c.requires.has) c.next_piece-p.result (c.next_piece-p.ensures (c.loop-c.invariant.1 c.requires.text c.requires.has).left (c.loop-c.invariant.1 c.requires.text c.requires.has).coming) (λ l. Unit {0}) (λ e. tt)))

-- src/lib.rt:36:5
pub loop-c-smaller : goal.loop-c-smaller
loop-c-smaller c = omega (arith, (c.next_piece-p.ensures (c.loop-c.invariant.1 c.requires.text c.requires.has).left (c.loop-c.invariant.1 c.requires.text c.requires.has).coming).splits.goes)

-- src/lib.rt:36:5
pub loop-c-preserved : goal.loop-c-preserved
loop-c-preserved c = (omega (arith, (c.next_piece-p.ensures (c.loop-c.invariant.1 c.requires.text c.requires.has).left (c.loop-c.invariant.1 c.requires.text c.requires.has).coming).splits.room), λ t H. left_more c.args.line.now c.args.end c.loop-c.c (λ l. c.loop-c.n + length l ≡ length t.bytes) (c.loop-c.invariant.1 t H) c.next_piece-p.result (c.next_piece-p.ensures (c.loop-c.invariant.1 t H).left (c.loop-c.invariant.1 t H).coming) (λ l. c.loop-c.n + c.next_piece-p.result.len + length l ≡ length t.bytes) (length_more c.loop-c.n c.next_piece-p.result.len (length t.bytes) c.next_piece-p.result.bytes (c.next_piece-p.ensures (c.loop-c.invariant.1 t H).left (c.loop-c.invariant.1 t H).coming).later (omega (arith, (c.next_piece-p.ensures (c.loop-c.invariant.1 t H).left (c.loop-c.invariant.1 t H).coming).splits.few, (c.next_piece-p.ensures (c.loop-c.invariant.1 t H).left (c.loop-c.invariant.1 t H).coming).splits.four))))

-- src/lib.rt:26:1
pub returns : goal.returns
returns c = record { value = (λ t H. let e : c.loop-c.n + 0 ≡ length t.bytes = left_none c.args.line.now c.args.end c.loop-c.c (λ l. c.loop-c.n + length l ≡ length t.bytes) (c.loop-c.invariant.1 t H) (search rules) in omega arith); result_bound = omega (arith, left-within c.args.line.now c.args.end c.loop-c.c _ (c.loop-c.invariant.1 c.requires.text c.requires.has)) }
