use Prim.Native.Nat.{◌+◌, ◌-◌}
use mathlib.Core.Path.{◌≡◌}
use native.Mathlib.Omega.{arith}
use Rattle.ntriples_cursor.proofs.Readers.{reads-within, reads-utf8, digits_step, digits_reads, digits_end, digits_first, value_more, value_fits}
use Rattle.ntriples_cursor.proofs.chars.number_char.Goals as goal

pub loop-init : goal.loop-init
loop-init c = ((omega arith, omega arith), λ step close ds rest R D. let e : c.args.count ≡ c.args.count - 0 = omega arith in rw e at (digits_first c.args.line.now step ds rest c.args.count c.args.at (omega arith) D))

pub char_at-m-requires : goal.char_at-m-requires
char_at-m-requires c =
    let r = (digits_reads c.args.line.now c.requires.in_state.step c.requires.in_state.close c.requires.in_state.reader c.requires.in_state.given c.requires.in_state.rest _ c.loop.value c.loop.place (omega arith) (c.loop.invariant.1 c.requires.in_state.step c.requires.in_state.close c.requires.in_state.given c.requires.in_state.rest c.requires.in_state.reader c.requires.in_state.reads)) in
    record { utf8from = reads-utf8 c.args.line.now c.loop.place _ _ _ _ r; at_in_bounds = reads-within c.args.line.now c.loop.place _ _ _ _ r }

pub overflow_mul-value : goal.overflow_mul-value
overflow_mul-value c = omega (arith, value_fits c.loop.counter c.loop.value (omega arith) c.loop.invariant.0.0)

pub overflow_add-value : goal.overflow_add-value
overflow_add-value c = omega (arith, value_fits c.loop.counter c.loop.value (omega arith) c.loop.invariant.0.0, (digits_step c.args.line.now c.requires.in_state.step c.requires.in_state.close c.requires.in_state.reader c.requires.in_state.given c.requires.in_state.rest _ c.loop.value c.loop.place c.char_at-m.result c.char_at-m.ensures (omega arith) (c.loop.invariant.1 c.requires.in_state.step c.requires.in_state.close c.requires.in_state.given c.requires.in_state.rest c.requires.in_state.reader c.requires.in_state.reads)).0)

pub loop-preserved : goal.loop-preserved
loop-preserved c =
    let e : c.args.count - c.loop.counter - 1 ≡ c.args.count - (c.loop.counter + 1) = omega arith in (
      (value_more c.loop.counter c.loop.value c.hex_value.result (omega (arith, (digits_step c.args.line.now c.requires.in_state.step c.requires.in_state.close c.requires.in_state.reader c.requires.in_state.given c.requires.in_state.rest _ c.loop.value c.loop.place c.char_at-m.result c.char_at-m.ensures (omega arith) (c.loop.invariant.1 c.requires.in_state.step c.requires.in_state.close c.requires.in_state.given c.requires.in_state.rest c.requires.in_state.reader c.requires.in_state.reads)).0)) c.loop.invariant.0.0, omega (arith, c.char_at-m.ensures.after)),
      λ step close ds rest R D. rw (← e, c.hex_value.ensures.value) (digits_step c.args.line.now step close R ds rest _ c.loop.value c.loop.place c.char_at-m.result c.char_at-m.ensures (omega arith) (c.loop.invariant.1 step close ds rest R D)).1,
    )

pub returns : goal.returns
returns c = λ step close ds rest R D. digits_end c.args.line.now step close R ds rest _ c.loop.value c.loop.place c.args.at (omega arith) (c.loop.invariant.1 step close ds rest R D) (omega arith)
