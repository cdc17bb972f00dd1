-- The terms are found, the conclusions written and made an ordered set.
use mathlib.Core.Path.{refl, ap, ◌∙◌}
use native.Mathlib.Omega.{arith}
use Prim.Native.Nat.{ℕ}
use lib.ListN.{length, length-replicate}
use Rattle.rdfs_reach.proofs.MarkLaws.{table_statements}
use Rattle.rdfs_derive.proofs.PartLaws.{few-rows}
use Rattle.rdfs_carry.proofs.WrittenLaws.{carried-words}
use Rattle.rdfs_carry.proofs.carry.Goals as goal

pub bounds-statements-0 : goal.bounds-statements-0
bounds-statements-0 c = omega (arith, (table_statements c.args.statements.now _ c.requires.statements_value refl).size)

pub find_terms-ends-requires : goal.find_terms-ends-requires
find_terms-ends-requires c = record { statements = table_statements c.args.statements.now _ c.requires.statements_value refl; in_bounds = omega (arith, ap length c.no_terms-found.ensures ∙ length-replicate {A = ℕ} 1026 0) }

pub write_conclusions-requires : goal.write_conclusions-requires
write_conclusions-requires c = let n = few-rows c.args.statements.now _ c.args.fact c.find_terms-ends.new.found _ _ _ c.requires.statements_value refl c.find_terms-ends.ensures in
    (omega (arith, n, c.find_terms-ends.auto.found, ap length c.no_terms-found.ensures ∙ length-replicate {A = ℕ} 1026 0), omega (arith, n, c.requires.in_bounds))

pub sort_distinct-requires : goal.sort_distinct-requires
sort_distinct-requires c = let n = few-rows c.args.statements.now _ c.args.fact c.find_terms-ends.new.found _ _ _ c.requires.statements_value refl c.find_terms-ends.ensures in omega (arith, n, c.requires.in_bounds, c.write_conclusions.auto.out)

pub returns : goal.returns
returns c =
    let both = carried-words c.args.statements.now _ c.args.fact c.find_terms-ends.new.found _ _ _ c.requires.statements_value refl c.find_terms-ends.ensures c.write_conclusions.new.out c.sort_distinct.new.t _ c.write_conclusions.ensures
    (omega (arith, c.requires.in_bounds, c.write_conclusions.auto.out)) c.sort_distinct.auto.t c.sort_distinct.ensures in
    record { value = both.0; out_after = both.1 }
