use mathlib.Core.Path.{sym, ◌∙◌}
use Rattle.ntriples_document.proofs.Counting.{chars_of_lem, utf8_whole, line_decoded, line_broken}
use Rattle.ntriples_lines.proofs.Lines.{line_same}
use Rattle.spec_ntriples.specs.computed.Decoded.{decode}
use Rattle.ntriples_document.proofs.line_of.Goals as goal

pub returns-then-not-is_utf8 : goal.returns-then-not-is_utf8
returns-then-not-is_utf8 c = line_broken (decode c.args.bytes.now) (sym c.is_utf8.ensures ∙ c.if-not-is_utf8.true)

pub read_line-requires : goal.read_line-requires
read_line-requires c = utf8_whole c.args.bytes.now (sym c.is_utf8.ensures ∙ c.if-not-is_utf8.false)

pub returns : goal.returns
returns c = line_same c.args.bytes.now _ _ c.read_line.result (line_decoded _ _ (chars_of_lem (decode c.args.bytes.now) (sym c.is_utf8.ensures ∙ c.if-not-is_utf8.false)).same) (c.read_line.ensures _ (chars_of_lem (decode c.args.bytes.now) (sym c.is_utf8.ensures ∙ c.if-not-is_utf8.false)).same)
