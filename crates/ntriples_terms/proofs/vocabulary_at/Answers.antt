use Prim.Native.Nat.{◌-◌}
use Rattle.ntriples_batch.proofs.Gathering.{line_inside}
use Rattle.ntriples_terms.proofs.Rows.{line_there}
use Rattle.ntriples_terms.proofs.vocabulary_at.Goals as goal

-- src/lib.rt:60:9
pub line_end-end-requires : goal.line_end-end-requires
line_end-end-requires c = c.requires.line.within

-- src/lib.rt:61:9
pub tokens_at-k-requires : goal.tokens_at-k-requires
tokens_at-k-requires c = (line_there c.args.file.now c.args.begin c.line_end-end.result c.requires c.line_end-end.ensures)

-- src/lib.rt:62:19
pub slice_bounds-vocabulary_in-end : goal.slice_bounds-vocabulary_in-end
slice_bounds-vocabulary_in-end c = line_inside c.args.file.now c.args.begin c.line_end-end.result (line_there c.args.file.now c.args.begin c.line_end-end.result c.requires c.line_end-end.ensures)

-- src/lib.rt:62:5
pub vocabulary_in-requires : goal.vocabulary_in-requires
vocabulary_in-requires c = record { triple = c.requires.triple; texts = c.tokens_at-k.ensures c.requires.triple c.requires.line }

-- src/lib.rt:56:1
pub returns : goal.returns
returns c = λ t L. c.vocabulary_in.ensures t (c.tokens_at-k.ensures t L)
