use native.Mathlib.Omega.{arith}
use Rattle.ntriples_section.specs.inside.Sections.{chosen}
use Prim.Native.Nat.{◌+◌, ◌-◌, ◌/◌}
use Rattle.ntriples_section.proofs.Writing.{chosen_few, section_written}
use Rattle.ntriples_section.proofs.write_section.Goals as goal

-- src/lib.rt:66:17
pub overflow_cast-end : goal.overflow_cast-end
overflow_cast-end c = omega (arith, chosen_few c.args.statements c.args.n c.args.terms.now, c.requires, c.write_entries-end.ensures.value)

-- src/lib.rt:58:1
pub returns : goal.returns
returns c = record { out_after = section_written c.args.out.now c.write_entries-end.new.out c.write_short.new.out c.args.at ((c.write_entries-end.result - (c.args.at + 2)) / 12) (chosen c.args.statements c.args.n c.args.terms.now) c.write_entries-end.ensures.out_after (omega (arith, c.write_entries-end.ensures.value)) c.write_short.ensures; value = c.write_entries-end.ensures.value }
