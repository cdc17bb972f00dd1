use Prim.Native.Nat.{ℕ}
use mathlib.Core.Path.{◌≡◌, refl, sym, ◌∙◌, ap}
use native.Mathlib.Omega.{arith}
use Rattle.dictionary_hash.specs.inside.Hashes.{hash_from, hash}
use Rattle.ntriples_text.proofs.Passing.{left_first, left-some, left_none, left_more, left-own, hash_more}
use borrow.Author.Rules.{rules}
use Rattle.ntriples_text.proofs.text_hash.Goals as goal

-- src/lib.rt:77:5
pub loop-c-init : goal.loop-c-init
unfolding hash
loop-c-init c = (omega arith, λ t H. left_first c.args.line.now c.args.from c.args.end t (λ l. hash_from 0 l ≡ hash t.bytes) H refl)

-- src/lib.rt:77:5
pub loop-c-preserved-then-is_own : goal.loop-c-preserved-then-is_own
unfolding hash_from
loop-c-preserved-then-is_own c = (c.hash_on-h.ensures.upper_bound, λ t H. left-own c.args.line.now c.args.end c.loop-c.c (λ l. hash_from c.loop-c.h l ≡ hash t.bytes) (c.loop-c.invariant.1 t H) (search rules) (sym c.is_own.ensures ∙ c.if-is_own.true) (λ l. hash_from c.hash_on-h.result l ≡ hash t.bytes) (λ later e. ap (λ (x : ℕ). hash_from x later) c.hash_on-h.ensures.value ∙ e))

-- src/lib.rt:89:13
pub next_piece-p-requires : goal.next_piece-p-requires
next_piece-p-requires c = record { some_coming = left-some c.args.line.now c.args.end c.loop-c.c _ (c.loop-c.invariant.1 c.requires.text c.requires.has); place_lt_end = search rules }

-- src/lib.rt:90:9
pub hash_piece-h-requires : goal.hash_piece-h-requires
hash_piece-h-requires c = record { h_bound = c.loop-c.invariant.0; len_bound = ((c.next_piece-p.ensures (c.loop-c.invariant.1 c.requires.text c.requires.has).left (c.loop-c.invariant.1 c.requires.text c.requires.has).coming).splits.few, (c.next_piece-p.ensures (c.loop-c.invariant.1 c.requires.text c.requires.has).left (c.loop-c.invariant.1 c.requires.text c.requires.has).coming).splits.four) }

-- src/lib.rt:77:5
pub loop-c-smaller : goal.loop-c-smaller
loop-c-smaller c = omega (arith, (c.next_piece-p.ensures (c.loop-c.invariant.1 c.requires.text c.requires.has).left (c.loop-c.invariant.1 c.requires.text c.requires.has).coming).splits.goes)

-- src/lib.rt:77:5
pub loop-c-preserved : goal.loop-c-preserved
loop-c-preserved c = (c.hash_piece-h.ensures.upper_bound, λ t H. left_more c.args.line.now c.args.end c.loop-c.c (λ l. hash_from c.loop-c.h l ≡ hash t.bytes) (c.loop-c.invariant.1 t H) c.next_piece-p.result (c.next_piece-p.ensures (c.loop-c.invariant.1 t H).left (c.loop-c.invariant.1 t H).coming) (λ l. hash_from c.hash_piece-h.result l ≡ hash t.bytes) (hash_more c.loop-c.h c.hash_piece-h.result c.next_piece-p.result.len (hash t.bytes) c.next_piece-p.result.bytes (c.next_piece-p.ensures (c.loop-c.invariant.1 t H).left (c.loop-c.invariant.1 t H).coming).later c.hash_piece-h.ensures.value))

-- src/lib.rt:67:1
pub returns : goal.returns
unfolding hash_from
returns c = record { value = (λ t H. left_none c.args.line.now c.args.end c.loop-c.c (λ l. hash_from c.loop-c.h l ≡ hash t.bytes) (c.loop-c.invariant.1 t H) (search rules)); upper_bound = c.loop-c.invariant.0 }
