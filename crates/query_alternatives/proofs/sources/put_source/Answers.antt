-- What both facts give are the alternatives with the source. Assumes nothing.
use Rattle.spec.specs.Tables.{rows}
use mathlib.Core.List.{flat_map}
use Rattle.spec.specs.computed.Carried.{carried}
use Rattle.spec.specs.computed.Reformulated.{alternatives_from}
use Rattle.query_alternatives.specs.inside.Putting.{property_fact, class_fact, given}
use Rattle.query_alternatives.proofs.PutLaws.{puts-ext, puts_then}
use Rattle.query_alternatives.proofs.SourceLaws.{carried_alternatives, source_iff}
use Rattle.query_alternatives.proofs.GatherLaws.{statements_plain}
use Rattle.query_alternatives.proofs.sources.put_source.Goals as goal

pub put_carried-classes-requires : goal.put_carried-classes-requires
put_carried-classes-requires c = (c.requires.0, c.requires.1.1)

pub put_carried-requires : goal.put_carried-requires
put_carried-requires c = (c.requires.0, c.put_carried-classes.ensures.within)

pub returns : goal.returns
returns c = let S = rows c.args.statements.now in
    puts-ext (carried_alternatives S c.args.atom c.args.source) (alternatives_from S c.args.atom c.args.source)
    (source_iff S c.args.atom c.args.source (statements_plain c.args.statements.now c.requires.0) c.requires.1.0)
    (puts_then (flat_map (given c.args.atom c.args.source) (carried S (class_fact c.args.source))) (flat_map (given c.args.atom c.args.source) (carried S (property_fact c.args.source))) c.put_carried-classes.ensures c.put_carried.ensures)
