use Rattle.ntriples_batch.proofs.Gathering.{line_inside, line-utf8, only-full, have-texts}
use Rattle.ntriples_batch.proofs.tokens_at.Goals as goal

pub slice_bounds-read_line-end : goal.slice_bounds-read_line-end
slice_bounds-read_line-end c = line_inside c.args.file.now c.args.begin c.args.end c.requires

pub read_line-requires : goal.read_line-requires
read_line-requires c = line-utf8 c.args.file.now c.args.begin c.args.end c.requires

pub unreachable-requires : goal.unreachable-requires
unreachable-requires c = only-full c.args.file.now c.args.begin c.args.end c.requires c.read_line.result c.read_line.ensures c.requires.triple c.requires.line c.in_default.not-Full

pub returns : goal.returns
returns c = λ t L. have-texts c.args.file.now c.args.begin c.args.end c.requires c.read_line.result c.read_line.ensures t L _ c.in-Full.is
