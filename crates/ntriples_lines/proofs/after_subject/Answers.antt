use Rattle.ntriples_lines.proofs.Lines.{no_term, term_found, iri-object, no_property, after-property, line_same}
use Rattle.spec_ntriples.specs.computed.Lines.{read_iri}
use Rattle.ntriples_lines.proofs.after_subject.Goals as goal

pub returns-in_default : goal.returns-in_default
returns-in_default c = λ s S. no_property s _ (no_term read_iri c.args.line.now c.skip-from.result _ c.skip-from.ensures c.in_default.ensures)

pub returns : goal.returns
returns c = λ s S.
    let t = term_found read_iri c.args.line.now c.skip-from.result _ c.skip-from.ensures iri-object _ c.in-Some.ensures in
    line_same c.args.line.now _ _ c.after_property.result (after-property s c.args.line.now _ _ _ t) (c.after_property.ensures s t.text S t.has)
