-- By the walk to the field with tag 1.
use native.Mathlib.Omega.{arith}
use mathlib.Core.Path.{◌∙◌}
use Rattle.delivery_number.proofs.Tagged.{fields_small, number-absent, number-found, at_small}
use Rattle.delivery_number.proofs.number.Goals as goal

pub from_number-found-requires : goal.from_number-found-requires
from_number-found-requires c = fields_small c.args.bytes.now c.requires.bytes_value c.extra_fields-f.result c.extra_fields-f.ensures

pub returns-then-found-eq0 : goal.returns-then-found-eq0
returns-then-found-eq0 c = number-absent c.args.bytes.now c.requires.bytes_value c.extra_fields-f.result c.extra_fields-f.ensures c.from_number-found.result c.from_number-found.ensures c.if-found-eq0.true

pub overflow_add-at : goal.overflow_add-at
overflow_add-at c = omega (arith, at_small c.args.bytes.now c.requires.bytes_value c.extra_fields-f.result c.extra_fields-f.ensures c.from_number-found.result c.from_number-found.ensures)

pub word_at-requires : goal.word_at-requires
word_at-requires c = omega (arith, at_small c.args.bytes.now c.requires.bytes_value c.extra_fields-f.result c.extra_fields-f.ensures c.from_number-found.result c.from_number-found.ensures)

pub returns : goal.returns
returns c = c.word_at.ensures ∙ number-found c.args.bytes.now c.requires.bytes_value c.extra_fields-f.result c.extra_fields-f.ensures c.from_number-found.result c.from_number-found.ensures (omega (arith, c.if-found-eq0.false)) c.requires.bytes_value_2
