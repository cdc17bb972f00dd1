use native.Mathlib.Omega.{arith}
use mathlib.Core.Path.{refl, ◌∙◌, ap}
use Prim.Native.Nat.{◌-◌}
use lib.ListN.{get_or}
use Rattle.ntriples_batch.specs.inside.Batches.{no_triple}
use Rattle.ntriples_terms.specs.inside.Words.{found_row}
use Rattle.ntriples_terms.proofs.Rows.{written_none, written_more, written_all}
use Rattle.ntriples_terms.proofs.find_terms.Goals as goal

-- src/lib.rt:156:5
pub loop-i-init : goal.loop-i-init
loop-i-init c = (refl, λ es ts X A. written_none (found_row es) ts c.args.terms.now)

-- src/lib.rt:157:13
pub find_at-row-requires : goal.find_at-row-requires
find_at-row-requires c = record { lead_within = c.requires.lead_within; triple_at = record { triple = get_or c.requires.can_be_named.triples c.loop-i.i no_triple; line = c.requires.can_be_named.stand c.loop-i.i c.loop-i-test.true } }

-- src/lib.rt:156:5
pub loop-i-preserved : goal.loop-i-preserved
loop-i-preserved c = (c.put_row.auto.terms ∙ c.loop-i.invariant.0, λ es ts X A. written_more (found_row es) ts c.loop-i.i c.args.terms.now c.loop-i.terms (c.loop-i.invariant.1 es ts X A) c.find_at-row.result c.put_row.new.terms (omega (arith, c.requires.can_be_named.room, c.loop-i.invariant.0)) (c.find_at-row.ensures es (get_or ts c.loop-i.i no_triple) X (A c.loop-i.i c.loop-i-test.true) ∙ ap (found_row es (get_or ts c.loop-i.i no_triple)) c.row_from.ensures) c.put_row.ensures)

-- src/lib.rt:142:1
pub returns : goal.returns
returns c = λ es ts X A. written_all (found_row es) ts c.loop-i.i c.args.terms.now c.loop-i.terms (c.loop-i.invariant.1 es ts X A) c.args.n (omega arith)
