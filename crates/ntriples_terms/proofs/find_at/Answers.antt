use mathlib.Core.Path.{sym, ◌∙◌}
use Prim.Native.Nat.{◌-◌}
use Rattle.ntriples_batch.proofs.Gathering.{line_inside}
use Rattle.ntriples_terms.proofs.Rows.{line_there}
use Rattle.ntriples_terms.proofs.Found.{row_kept}
use Rattle.ntriples_terms.proofs.find_at.Goals as goal

-- src/lib.rt:134:9
pub returns-then-is_named : goal.returns-then-is_named
returns-then-is_named c = λ es t X L. row_kept es t c.args.row (sym c.is_named.ensures ∙ c.if-is_named.true)

-- src/lib.rt:136:9
pub line_end-end-requires : goal.line_end-end-requires
line_end-end-requires c = c.requires.triple_at.line.within

-- src/lib.rt:137:9
pub tokens_at-k-requires : goal.tokens_at-k-requires
tokens_at-k-requires c = (line_there c.args.file.now c.args.begin c.line_end-end.result c.requires.triple_at c.line_end-end.ensures)

-- src/lib.rt:138:39
pub slice_bounds-find_in-end : goal.slice_bounds-find_in-end
slice_bounds-find_in-end c = line_inside c.args.file.now c.args.begin c.line_end-end.result (line_there c.args.file.now c.args.begin c.line_end-end.result c.requires.triple_at c.line_end-end.ensures)

-- src/lib.rt:138:5
pub find_in-requires : goal.find_in-requires
find_in-requires c = record { lead_within = c.requires.lead_within; are_tokens = record { triple = c.requires.triple_at.triple; texts = c.tokens_at-k.ensures c.requires.triple_at.triple c.requires.triple_at.line } }

-- src/lib.rt:121:1
pub returns : goal.returns
returns c = λ es t X L. c.find_in.ensures es t X (c.tokens_at-k.ensures t L)
