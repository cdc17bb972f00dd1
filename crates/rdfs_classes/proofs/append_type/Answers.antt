-- The object is there just where the property is the type.
use Rattle.rdfs_classes.proofs.ConclusionLaws.{listed-type, listed_untyped}
use borrow.Author.Rules.{rules}
use Rattle.rdfs_classes.proofs.append_type.Goals as goal

pub returns-then-fact-eq-TYPE : goal.returns-then-fact-eq-TYPE
returns-then-fact-eq-TYPE c = record { listed = listed-type c.args.fact c.args.found.now _ c.requires c.if-fact-eq-TYPE.true; upper_bound = search rules }

pub returns : goal.returns
returns c = record { listed = listed_untyped c.args.fact c.args.found.now _ c.if-fact-eq-TYPE.false; upper_bound = search rules }
