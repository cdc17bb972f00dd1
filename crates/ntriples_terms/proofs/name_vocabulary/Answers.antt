use native.Mathlib.Omega.{arith}
use mathlib.Core.Path.{refl, ◌∙◌}
use Prim.Native.Nat.{◌-◌}
use lib.ListN.{get_or}
use Rattle.spec_ntriples.specs.Dictionary.{vocabulary_of}
use Rattle.ntriples_batch.specs.inside.Batches.{no_triple}
use Rattle.ntriples_terms.specs.inside.Words.{triple_by}
use Rattle.ntriples_terms.proofs.Rows.{written_none, written_more, written_all}
use Rattle.ntriples_terms.proofs.name_vocabulary.Goals as goal

-- src/lib.rt:71:5
pub loop-i-init : goal.loop-i-init
loop-i-init c = (refl, λ ts A. written_none (λ t r. triple_by vocabulary_of t) ts c.args.terms.now)

-- src/lib.rt:72:13
pub vocabulary_at-row-requires : goal.vocabulary_at-row-requires
vocabulary_at-row-requires c = record { triple = get_or c.requires.triples c.loop-i.i no_triple; line = c.requires.stand c.loop-i.i c.loop-i-test.true }

-- src/lib.rt:71:5
pub loop-i-preserved : goal.loop-i-preserved
loop-i-preserved c = (c.put_row.auto.terms ∙ c.loop-i.invariant.0, λ ts A. written_more (λ t r. triple_by vocabulary_of t) ts c.loop-i.i c.args.terms.now c.loop-i.terms (c.loop-i.invariant.1 ts A) c.vocabulary_at-row.result c.put_row.new.terms (omega (arith, c.requires.room, c.loop-i.invariant.0)) (c.vocabulary_at-row.ensures (get_or ts c.loop-i.i no_triple) (A c.loop-i.i c.loop-i-test.true)) c.put_row.ensures)

-- src/lib.rt:66:1
pub returns : goal.returns
returns c = λ ts A. written_all (λ t r. triple_by vocabulary_of t) ts c.loop-i.i c.args.terms.now c.loop-i.terms (c.loop-i.invariant.1 ts A) c.args.n (omega arith)
