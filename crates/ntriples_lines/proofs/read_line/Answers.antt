use mathlib.Core.Path.{sym, ◌∙◌, ap}
use Rattle.ntriples_bytes.proofs.Decoding.{chars_are}
use Rattle.ntriples_lines.proofs.Lines.{no_term, term_found, subject-object, line_same, line-empty, line_wrong, line-subject, at_front}
use Rattle.spec_ntriples.specs.computed.Lines.{read_subject, is_rest}
use Rattle.ntriples_lines.proofs.read_line.Goals as goal

pub returns-then-is_rest : goal.returns-then-is_rest
returns-then-is_rest c = λ l e. line-empty l (ap is_rest (sym (chars_are (at_front c.args.line.now l c.skip-from.result e c.skip-from.ensures))) ∙ sym c.is_rest.ensures ∙ c.if-is_rest.true)

pub returns-in_default : goal.returns-in_default
returns-in_default c = λ l e.
    let a = at_front c.args.line.now l c.skip-from.result e c.skip-from.ensures in
    line_wrong l (ap is_rest (sym (chars_are a)) ∙ sym c.is_rest.ensures ∙ c.if-is_rest.false) (no_term read_subject c.args.line.now c.skip-from.result _ a c.in_default.ensures)

pub returns : goal.returns
returns c = λ l e.
    let a = at_front c.args.line.now l c.skip-from.result e c.skip-from.ensures in
    let t = term_found read_subject c.args.line.now c.skip-from.result _ a subject-object _ c.in-Some.ensures in
    line_same c.args.line.now _ _ c.after_subject.result (line-subject l c.args.line.now _ _ (ap is_rest (sym (chars_are a)) ∙ sym c.is_rest.ensures ∙ c.if-is_rest.false) t) (c.after_subject.ensures t.text t.has)
