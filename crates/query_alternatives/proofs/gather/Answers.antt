-- All that is put is given. Assumes nothing.
use mathlib.Core.Path.{ap, ◌∙◌}
use mathlib.Core.List.{[], ◌++◌, map}
use lib.ListN.{length}
use Rattle.spec.specs.Rows.{words}
use Rattle.rows_distinct.specs.inside.Collected.{gathered}
use Rattle.query_alternatives.proofs.GatherLaws.{all_put, none-put, all-put, all-given}
use Rattle.query_alternatives.proofs.gather.Goals as goal

pub put_alternative-first-requires : goal.put_alternative-first-requires
put_alternative-first-requires c = (none-put c.args.statements.now c.args.atom c.args.out.now c.requires.1 c.start.ensures).within

pub returns : goal.returns
returns c = c.finish.ensures (map words (all_put c.args.statements.now c.args.atom) ++ []) (all-put c.args.statements.now c.args.atom c.args.out.now c.requires.1 c.start.ensures c.put_alternative-first.ensures c.put_statements-all.ensures)
    ∙ ap (gathered 3 (map words (all_put c.args.statements.now c.args.atom) ++ [])) (c.put_statements-all.auto.out ∙ c.put_alternative-first.auto.out)
    ∙ all-given c.args.statements.now c.args.atom (length c.args.out.now)
