use mathlib.Core.Path.{ap, ◌∙◌}
use native.Mathlib.Omega.{arith}
use Rattle.std.specs.Prelude.{Err}
use Rattle.ntriples_naming.specs.declared.Stopped.{Stopped}
use Rattle.ntriples_last.proofs.Steps.{last_begins, last_done, last-lacks, full-leads, last-next}
use Rattle.ntriples_last.proofs.name_last.Goals as goal

-- src/lib.rt:44:11
pub name_terms-requires : goal.name_terms-requires
name_terms-requires c = record { before = c.requires.can.looked.before; old = c.requires.can.looked.behind; triples = c.requires.can.triples; begins = last_begins c.requires.can.old c.requires.can.triples c.args.dictionary.now c.args.first c.args.terms.now c.args.last c.requires.can.looked c.args.slots.now c.args.file.now c.args.lines.now c.args.n c.requires.can.batch c.requires.last; noted = c.requires.can.noted; enough = c.requires.enough; room = c.requires.can.room }

-- src/lib.rt:54:13
pub find_terms-requires : goal.find_terms-requires
find_terms-requires c = record { lead_within = full-leads c.requires.can.old c.requires.can.triples c.args.dictionary.now c.args.first c.args.terms.now c.args.last c.requires.can.looked c.args.slots.now c.args.file.now c.args.lines.now c.args.n c.requires.can.batch c.requires.last c.name_terms.new.slots c.name_terms.new.dictionary c.name_terms.new.terms c.name_terms.result (c.name_terms.ensures c.requires.can.looked.before c.requires.can.looked.behind c.requires.can.triples (last_begins c.requires.can.old c.requires.can.triples c.args.dictionary.now c.args.first c.args.terms.now c.args.last c.requires.can.looked c.args.slots.now c.args.file.now c.args.lines.now c.args.n c.requires.can.batch c.requires.last)) _ (c.in-Err-Full.is ∙ ap (λ (s : Stopped). Err s) c.in-Err-Full.field-0-is); can_be_named = record { triples = c.requires.can.triples; stand = c.requires.can.batch.stand; noted = c.requires.can.noted; room = omega (arith, c.requires.can.room, c.name_terms.auto.terms) } }

-- src/lib.rt:31:1
pub returns-in-Ok : goal.returns-in-Ok
returns-in-Ok c = λ es ts B L S. last_done es ts c.args.dictionary.now c.args.first c.args.terms.now c.args.last L c.args.slots.now c.args.file.now c.args.lines.now c.args.n B S c.name_terms.new.slots c.name_terms.new.dictionary c.name_terms.new.terms c.name_terms.result (c.name_terms.ensures L.before L.behind ts (last_begins es ts c.args.dictionary.now c.args.first c.args.terms.now c.args.last L c.args.slots.now c.args.file.now c.args.lines.now c.args.n B S)) _ c.in-Ok.is

-- src/lib.rt:31:1
pub returns-in-Err-NoSpace : goal.returns-in-Err-NoSpace
returns-in-Err-NoSpace c = λ es ts B L S. last-lacks es ts c.args.dictionary.now c.args.first c.args.terms.now c.args.last L c.args.slots.now c.args.file.now c.args.lines.now c.args.n B S c.name_terms.new.slots c.name_terms.new.dictionary c.name_terms.new.terms c.name_terms.result (c.name_terms.ensures L.before L.behind ts (last_begins es ts c.args.dictionary.now c.args.first c.args.terms.now c.args.last L c.args.slots.now c.args.file.now c.args.lines.now c.args.n B S)) _ (c.in-Err-NoSpace.is ∙ ap (λ (s : Stopped). Err s) c.in-Err-NoSpace.field-0-is)

-- src/lib.rt:31:1
pub returns-in-Err-Full : goal.returns-in-Err-Full
returns-in-Err-Full c = λ es ts B L S. last-next es ts c.args.dictionary.now c.args.first c.args.terms.now c.args.last L c.args.slots.now c.args.file.now c.args.lines.now c.args.n B S c.name_terms.new.slots c.name_terms.new.dictionary c.name_terms.new.terms c.name_terms.result (c.name_terms.ensures L.before L.behind ts (last_begins es ts c.args.dictionary.now c.args.first c.args.terms.now c.args.last L c.args.slots.now c.args.file.now c.args.lines.now c.args.n B S)) _ (c.in-Err-Full.is ∙ ap (λ (s : Stopped). Err s) c.in-Err-Full.field-0-is) c.find_terms.new.terms (λ fs X. c.find_terms.ensures fs ts X B.stand)
