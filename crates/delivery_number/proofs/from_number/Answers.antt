use Prim.Native.Nat.{◌+◌, ◌-◌}
use native.Mathlib.Omega.{arith}
use mathlib.Core.Path.{◌≡◌, sym, ◌∙◌}
use Rattle.delivery_format.proofs.Walk.{fields_end_more, fields_end_from, number_more}
use Rattle.delivery_number.proofs.from_number.Goals as goal

pub short_at-requires : goal.short_at-requires
short_at-requires c = omega (arith, c.requires, c.loop-i.invariant.0, fields_end_from c.args.bytes.now c.loop-i.place (c.args.n - c.loop-i.i))

pub returns-then-short_at-eq-NUMBER_TAG : goal.returns-then-short_at-eq-NUMBER_TAG
returns-then-short_at-eq-NUMBER_TAG c = record { same = c.loop-i.invariant.1; end = c.loop-i.invariant.0; tag = λ _. sym c.short_at.ensures.value ∙ c.if-short_at-eq-NUMBER_TAG.true }

pub field_end-place-requires : goal.field_end-place-requires
field_end-place-requires c = omega (arith, c.requires, c.loop-i.invariant.0, fields_end_from c.args.bytes.now c.loop-i.place (c.args.n - c.loop-i.i))

pub loop-i-preserved : goal.loop-i-preserved
loop-i-preserved c =
    let e : c.args.n - (c.loop-i.i + 1) ≡ (c.args.n - c.loop-i.i) - 1 = omega arith in
    rw e (
      fields_end_more c.args.bytes.now c.loop-i.place (c.args.n - c.loop-i.i) _ (omega arith) c.field_end-place.ensures.value ∙ c.loop-i.invariant.0,
      c.loop-i.invariant.1 ∙ number_more c.args.bytes.now c.loop-i.place (c.args.n - c.loop-i.i) _ (omega arith) c.field_end-place.ensures.value (λ z. c.if-short_at-eq-NUMBER_TAG.false (c.short_at.ensures.value ∙ z)),
    )

pub returns : goal.returns
returns c =
    let e : c.args.n - c.loop-i.i ≡ 0 = omega arith in
    let v = rw e at c.loop-i.invariant in
    record { same = v.1; end = v.0; tag = λ h. absurd (omega arith) }
