-- A repeated subject gives nothing new. Assumes nothing.
use Rattle.query_alternatives.proofs.GatherLaws.{statement-within, subject_plain, below_more, below_again}
use Rattle.query_alternatives.proofs.sources.put_statement.Goals as goal

pub is_repeated-requires : goal.is_repeated-requires
is_repeated-requires c = statement-within c.args.statements.now c.requires.0 c.args.i c.requires.1.0

pub returns-then-is_repeated : goal.returns-then-is_repeated
returns-then-is_repeated c = λ out c₀ A.
    let h = c.is_repeated.ensures c.if-is_repeated.true in
    below_again c.args.statements.now c.args.atom c.args.i A h.0 h.1

pub row_at-row-requires : goal.row_at-row-requires
row_at-row-requires c = statement-within c.args.statements.now c.requires.0 c.args.i c.requires.1.0

pub put_source-requires : goal.put_source-requires
put_source-requires c = (c.requires.0, (subject_plain c.args.statements.now c.requires.0 c.args.i c.row_at-row.result c.requires.1.0 c.row_at-row.ensures, c.requires.1.1))

pub returns : goal.returns
returns c = λ out c₀ A.
    below_more c.args.statements.now c.args.atom c.args.i A c.row_at-row.result c.row_at-row.ensures c.put_source.ensures
