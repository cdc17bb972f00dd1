use native.Mathlib.Omega.{arith}
use lib.ListN.{length}
use Prim.Native.Nat.{◌-◌}
use Rattle.ntriples_delivery.proofs.Whole.{chosen-all, delivery-written}
use borrow.Author.Rules.{rules}
use Rattle.ntriples_delivery.proofs.write_delivery.Goals as goal

-- src/lib.rt:78:9
pub write_section-facts-requires : goal.write_section-facts-requires
write_section-facts-requires c = record { n_in_bounds = (search rules, search rules); terms_in_bounds = omega (arith, chosen-all c.args.n c.args.terms.now, c.requires.n_in_bounds_2, c.clear.auto.out) }

-- src/lib.rt:79:9
pub write_section-end-requires : goal.write_section-end-requires
write_section-end-requires c = record { n_in_bounds = (search rules, search rules); terms_in_bounds = omega (arith, chosen-all c.args.n c.args.terms.now, c.requires.n_in_bounds_2, c.clear.auto.out, c.write_section-facts.auto.out, c.write_section-facts.ensures.value) }

-- src/lib.rt:71:1
pub returns : goal.returns
returns c = record { written = delivery-written c.args.n (length c.args.delivery.now) c.args.terms.now c.requires.n_in_bounds_2 c.clear.new.out c.write_section-facts.new.out c.write_section-end.new.out c.write_section-facts.result c.clear.ensures c.write_section-facts.ensures.out_after c.write_section-facts.ensures.value c.write_section-end.ensures.out_after; whole = omega (arith, chosen-all c.args.n c.args.terms.now, c.write_section-facts.ensures.value, c.write_section-end.ensures.value) }
