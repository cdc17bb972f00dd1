use mathlib.Core.Path.{sym, ◌∙◌}
use native.Mathlib.Omega.{arith}
use Rattle.spec.proofs.Ascending.{and_left}
use Rattle.dictionary_step.proofs.Asking.{asked-text, asked-kind, asked-most, asked-number, asked-term, asked-right}
use Rattle.dictionary_step.proofs.Steps.{too_long_lem}
use Rattle.dictionary_step.proofs.next_entry.Goals as goal

-- src/lib.rt:93:9
pub returns-then-dictionary-from : goal.returns-then-dictionary-from
returns-then-dictionary-from c = too_long_lem c.args.dictionary.now c.args.f c.requires.filling c.requires.comes (omega (arith, c.if-dictionary-from.true, c.length_at-n.ensures))

-- src/lib.rt:97:9
pub returns-then-not-is_own_text : goal.returns-then-not-is_own_text
returns-then-not-is_own_text c = asked-text c.args.dictionary.now c.args.f c.requires.filling c.requires.comes c.length_at-n.result c.length_at-n.ensures (omega (arith, c.requires.comes.header, c.if-dictionary-from.false)) (sym c.is_own_text.ensures ∙ c.if-not-is_own_text.true)

-- src/lib.rt:99:9
pub text_kind-kind-requires : goal.text_kind-kind-requires
text_kind-kind-requires c = and_left _ _ (sym c.is_own_text.ensures ∙ c.if-not-is_own_text.false)

-- src/lib.rt:102:9
pub returns-then-number-eq-NUMBERS : goal.returns-then-number-eq-NUMBERS
returns-then-number-eq-NUMBERS c = asked-number c.args.dictionary.now c.args.f c.requires.filling c.requires.comes c.length_at-n.result c.length_at-n.ensures (omega (arith, c.requires.comes.header, c.if-dictionary-from.false)) c.text_kind-kind.result c.number_of-number.result c.text_kind-kind.ensures c.number_of-number.ensures c.if-number-eq-NUMBERS.true

-- src/lib.rt:104:35
pub overflow_mul-kind : goal.overflow_mul-kind
overflow_mul-kind c = omega (arith, asked-kind c.args.dictionary.now c.args.f c.requires.filling c.requires.comes c.length_at-n.result c.length_at-n.ensures (omega (arith, c.requires.comes.header, c.if-dictionary-from.false)) c.text_kind-kind.result c.number_of-number.result c.text_kind-kind.ensures c.number_of-number.ensures)

-- src/lib.rt:104:35
pub overflow_add-kind : goal.overflow_add-kind
overflow_add-kind c = omega (arith, asked-kind c.args.dictionary.now c.args.f c.requires.filling c.requires.comes c.length_at-n.result c.length_at-n.ensures (omega (arith, c.requires.comes.header, c.if-dictionary-from.false)) c.text_kind-kind.result c.number_of-number.result c.text_kind-kind.ensures c.number_of-number.ensures, asked-most c.args.dictionary.now c.args.f c.requires.filling c.requires.comes c.length_at-n.result c.length_at-n.ensures (omega (arith, c.requires.comes.header, c.if-dictionary-from.false)) c.text_kind-kind.result c.number_of-number.result c.text_kind-kind.ensures c.number_of-number.ensures)

-- src/lib.rt:105:9
pub returns-then-term_at-kind : goal.returns-then-term_at-kind
returns-then-term_at-kind c = asked-term c.args.dictionary.now c.args.f c.requires.filling c.requires.comes c.length_at-n.result c.length_at-n.ensures (omega (arith, c.requires.comes.header, c.if-dictionary-from.false)) c.text_kind-kind.result c.number_of-number.result c.text_kind-kind.ensures c.number_of-number.ensures c.term_at.result c.term_at.ensures c.if-term_at-kind.true

-- src/lib.rt:107:20
pub filled_on-requires : goal.filled_on-requires
filled_on-requires c = omega (arith, asked-most c.args.dictionary.now c.args.f c.requires.filling c.requires.comes c.length_at-n.result c.length_at-n.ensures (omega (arith, c.requires.comes.header, c.if-dictionary-from.false)) c.text_kind-kind.result c.number_of-number.result c.text_kind-kind.ensures c.number_of-number.ensures, c.if-number-eq-NUMBERS.false, c.number_of-number.ensures)

-- src/lib.rt:84:1
pub returns : goal.returns
returns c = asked-right c.args.dictionary.now c.args.f c.requires.filling c.requires.comes c.length_at-n.result c.length_at-n.ensures (omega (arith, c.requires.comes.header, c.if-dictionary-from.false)) c.text_kind-kind.result c.number_of-number.result c.text_kind-kind.ensures c.number_of-number.ensures c.term_at.result c.term_at.ensures (λ i. omega (arith, c.type_inv.dictionary i)) (sym c.is_own_text.ensures ∙ c.if-not-is_own_text.false) c.if-number-eq-NUMBERS.false c.if-term_at-kind.false c.filled_on.result c.filled_on.ensures
