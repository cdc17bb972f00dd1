-- By the walk to the first field with tag 1, and from there to a second.
use native.Mathlib.Omega.{arith}
use Rattle.delivery_number.proofs.Tagged.{fields_small, right-none, right-length, at_small, more-small, right-more}
use Rattle.delivery_number.proofs.is_number_right.Goals as goal

pub from_number-found-requires : goal.from_number-found-requires
from_number-found-requires c = fields_small c.args.bytes.now c.requires c.extra_fields-f.result c.extra_fields-f.ensures

pub returns-then-found-eq0 : goal.returns-then-found-eq0
returns-then-found-eq0 c = right-none c.args.bytes.now c.requires c.extra_fields-f.result c.extra_fields-f.ensures c.from_number-found.result c.from_number-found.ensures c.if-found-eq0.true

pub overflow_add-at : goal.overflow_add-at
overflow_add-at c = omega (arith, at_small c.args.bytes.now c.requires c.extra_fields-f.result c.extra_fields-f.ensures c.from_number-found.result c.from_number-found.ensures)

pub short_at-requires : goal.short_at-requires
short_at-requires c = omega (arith, at_small c.args.bytes.now c.requires c.extra_fields-f.result c.extra_fields-f.ensures c.from_number-found.result c.from_number-found.ensures)

pub returns-then-short_at-ne-NUMBER_LENGTH : goal.returns-then-short_at-ne-NUMBER_LENGTH
returns-then-short_at-ne-NUMBER_LENGTH c = right-length c.args.bytes.now c.requires c.extra_fields-f.result c.extra_fields-f.ensures c.from_number-found.result c.from_number-found.ensures (omega (arith, c.if-found-eq0.false)) _ c.short_at.ensures.value c.if-short_at-ne-NUMBER_LENGTH.true

pub field_end-requires : goal.field_end-requires
field_end-requires c = omega (arith, at_small c.args.bytes.now c.requires c.extra_fields-f.result c.extra_fields-f.ensures c.from_number-found.result c.from_number-found.ensures)

pub from_number-more-requires : goal.from_number-more-requires
from_number-more-requires c = more-small c.args.bytes.now c.requires c.extra_fields-f.result c.extra_fields-f.ensures c.from_number-found.result c.from_number-found.ensures (omega (arith, c.if-found-eq0.false)) _ c.field_end.ensures.value

pub returns : goal.returns
returns c = right-more c.args.bytes.now c.requires c.extra_fields-f.result c.extra_fields-f.ensures c.from_number-found.result c.from_number-found.ensures (omega (arith, c.if-found-eq0.false)) _ c.field_end.ensures.value _ c.from_number-more.ensures _ c.short_at.ensures.value c.if-short_at-ne-NUMBER_LENGTH.false
