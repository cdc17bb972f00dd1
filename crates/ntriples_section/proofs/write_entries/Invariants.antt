use Rattle.ntriples_section.specs.inside.Sections.{chosen}
use Rattle.ntriples_section.proofs.Writing.{Wrote}
use Rattle.ntriples_section.proofs.write_entries.Given as goal

abbrev pub invariant-loop-i : goal.invariant-loop-i
invariant-loop-i l = Wrote l.initial.out l.at (chosen l.statements l.i l.terms) l.out l.place
