use mathlib.Core.Path.{sym, ap, ◌∙◌}
use Prim.Native.Nat.{ℕ}
use lib.ListN.{length}
use Rattle.spec_ntriples.specs.computed.Lines.{document}
use Rattle.spec_ntriples.specs.Reading.{read_nTriples}
use Rattle.ntriples_read.proofs.Reading.{refused_1, refused_13, counted-lines}
use Rattle.ntriples_zero.proofs.Zeros.{zeros_kept}
use Rattle.ntriples_read.proofs.read_ntriples.Goals as goal

pub read_triples-requires : goal.read_triples-requires
read_triples-requires c = let k = counted-lines (document c.args.file.now) _ (sym c.count_triples.ensures ∙ c.in-Some-count_triples.is) in let d = (rw c.in-Some.is at c.check_dictionary.ensures) in record { lines = k.lines; said = k.said; counted = k.counted; formed = d.0; filled = d.1; zeros = zeros_kept c.clear.new.out c.args.delivery.now c.clear.ensures c.clear.auto.out }

pub returns-in_default : goal.returns-in_default
returns-in_default c = refused_1 c.args.dictionary.now c.args.file.now (length c.args.delivery.now) c.clear.new.out (rw c.in_default.is at c.check_dictionary.ensures) c.clear.ensures

pub returns-in_default-count_triples : goal.returns-in_default-count_triples
returns-in_default-count_triples c = refused_13 c.args.dictionary.now c.args.file.now (length c.args.delivery.now) c.clear.new.out (rw c.in-Some.is at c.check_dictionary.ensures).0 (sym c.count_triples.ensures ∙ c.in_default-count_triples.is) c.clear.ensures

pub returns : goal.returns
returns c = c.read_triples.ensures ∙ ap (λ (n : ℕ). read_nTriples c.args.dictionary.now c.args.file.now n) c.clear.auto.out
