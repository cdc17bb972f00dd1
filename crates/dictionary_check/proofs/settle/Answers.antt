use mathlib.Core.Path.{sym, ◌∙◌}
use native.Mathlib.Omega.{arith}
use Rattle.dictionary_step.proofs.Steps.{no_zeros}
use Rattle.dictionary_check.proofs.AllEntries.{all-entries, text_repeats, is_dictionary_lem, is-filled}
use Rattle.dictionary_check.proofs.settle.Goals as goal

-- src/lib.rt:152:9
pub returns-then-not-are_bytes_zero : goal.returns-then-not-are_bytes_zero
returns-then-not-are_bytes_zero c = no_zeros c.args.dictionary.now c.args.f c.requires.filling c.requires.none (sym c.are_bytes_zero.ensures ∙ c.if-not-are_bytes_zero.true)

-- src/lib.rt:154:9
pub are_distinct-requires : goal.are_distinct-requires
are_distinct-requires c = all-entries c.args.dictionary.now c.args.f c.requires

-- src/lib.rt:155:9
pub returns-then-not-are_distinct : goal.returns-then-not-are_distinct
returns-then-not-are_distinct c = text_repeats c.args.dictionary.now c.args.f c.requires (rw c.if-not-are_distinct.true at c.are_distinct.ensures)

-- src/lib.rt:147:1
pub returns : goal.returns
returns c = (is_dictionary_lem c.args.dictionary.now c.args.f c.requires (sym c.are_bytes_zero.ensures ∙ c.if-not-are_bytes_zero.false) (rw c.if-not-are_distinct.false at c.are_distinct.ensures), is-filled c.args.dictionary.now c.args.f c.requires (sym c.are_bytes_zero.ensures ∙ c.if-not-are_bytes_zero.false) (rw c.if-not-are_distinct.false at c.are_distinct.ensures) (omega arith))
