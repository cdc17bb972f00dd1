use native.Mathlib.Omega.{arith}
use Rattle.ntriples_text_kind.proofs.Vocabulary.{token-within, kind-literal, kind_blank, kind_iri}
use Rattle.ntriples_text_kind.proofs.kind_of.Goals as goal

pub char_at-requires-clause-at_in_bounds : goal.char_at-requires-clause-at_in_bounds
char_at-requires-clause-at_in_bounds c = token-within c.args.line.now c.args.from c.args.end c.requires.text c.requires.has

pub returns-in-34 : goal.returns-in-34
returns-in-34 c = λ t H. kind-literal c.args.line.now c.args.from c.args.end t H c.char_at.result c.char_at.ensures (omega arith)

pub returns-in-95 : goal.returns-in-95
returns-in-95 c = λ t H. kind_blank c.args.line.now c.args.from c.args.end t H c.char_at.result c.char_at.ensures (omega arith)

pub returns-in_default : goal.returns-in_default
returns-in_default c = λ t H. kind_iri c.args.line.now c.args.from c.args.end t H c.char_at.result c.char_at.ensures (λ e. omega arith) (omega arith)
