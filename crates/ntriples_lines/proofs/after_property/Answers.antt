use mathlib.Core.Path.{sym, ◌∙◌}
use Rattle.ntriples_lines.proofs.Lines.{no_term, term_found, object-object, no_object, not_ended, all-full}
use Rattle.spec_ntriples.specs.computed.Lines.{read_object}
use Rattle.ntriples_lines.proofs.after_property.Goals as goal

pub returns-in_default : goal.returns-in_default
returns-in_default c = λ s p S P. no_object s p _ (no_term read_object c.args.line.now c.skip-from.result _ c.skip-from.ensures c.in_default.ensures)

pub returns-then-not-is_ended : goal.returns-then-not-is_ended
returns-then-not-is_ended c = λ s p S P. not_ended s p c.args.line.now _ _ _ (term_found read_object c.args.line.now c.skip-from.result _ c.skip-from.ensures object-object _ c.in-Some.ensures) (sym c.is_ended.ensures ∙ c.if-not-is_ended.true)

pub returns : goal.returns
returns c = λ s p S P. all-full s p c.args.line.now _ _ _ (term_found read_object c.args.line.now c.skip-from.result _ c.skip-from.ensures object-object _ c.in-Some.ensures) _ _ S P (sym c.is_ended.ensures ∙ c.if-not-is_ended.false)
