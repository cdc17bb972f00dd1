use native.Mathlib.Omega.{arith}
use Prim.Native.Nat.{◌-◌, ◌*◌}
use lib.ListN.{get_or, take, drop}
use Rattle.ntriples_batch.specs.inside.Batches.{no_triple}
use Rattle.ntriples_batch.proofs.Gathering.{line_inside}
use Rattle.ntriples_terms.proofs.Rows.{line_there}
use Rattle.ntriples_naming.specs.inside.Progress.{lines_texts}
use Rattle.ntriples_naming.proofs.Batch.{lines-length, texts_in, passed_over}
use Rattle.ntriples_names.proofs.name_at.Goals as goal

-- src/lib.rt:140:9
pub returns-then-is_named : goal.returns-then-is_named
returns-then-is_named c = λ ds es ts h L R. passed_over ds es (lines_texts ts) c.args.slots.now c.args.dictionary.now c.args.first c.args.terms.now c.args.last (c.args.i * 3) c.row_from.result c.is_named.result c.row_from.ensures c.is_named.ensures c.if-is_named.true R

-- src/lib.rt:142:9
pub line_end-end-requires : goal.line_end-end-requires
line_end-end-requires c = c.requires.line.within

-- src/lib.rt:143:9
pub tokens_at-k-requires : goal.tokens_at-k-requires
tokens_at-k-requires c = (line_there c.args.file.now c.args.begin c.line_end-end.result (record { triple = get_or c.requires.triples c.args.i no_triple; line = c.requires.line }) c.line_end-end.ensures)

-- src/lib.rt:144:44
pub slice_bounds-name_line-end : goal.slice_bounds-name_line-end
slice_bounds-name_line-end c = line_inside c.args.file.now c.args.begin c.line_end-end.result (line_there c.args.file.now c.args.begin c.line_end-end.result (record { triple = get_or c.requires.triples c.args.i no_triple; line = c.requires.line }) c.line_end-end.ensures)

-- src/lib.rt:144:73
pub overflow_mul-i : goal.overflow_mul-i
overflow_mul-i c = omega (arith, c.requires.room, c.well_formed.1.1.1.1.1.1.0)

-- src/lib.rt:144:5
pub name_line-requires : goal.name_line-requires
name_line-requires c = record { before = c.requires.before; old = c.requires.old; texts = lines_texts c.requires.triples; reached = c.requires.reached; within = omega (arith, c.requires.within, lines-length c.requires.triples); has = texts_in (take (c.line_end-end.result - c.args.begin) (drop c.args.begin c.args.file.now)) c.tokens_at-k.result c.requires.triples c.args.i (c.tokens_at-k.ensures (get_or c.requires.triples c.args.i no_triple) c.requires.line); enough = c.requires.enough; room = c.requires.room }

-- src/lib.rt:126:1
pub returns : goal.returns
returns c = λ ds es ts h L R. c.name_line.ensures ds es (lines_texts ts) (omega (arith, h, lines-length ts)) (texts_in (take (c.line_end-end.result - c.args.begin) (drop c.args.begin c.args.file.now)) c.tokens_at-k.result ts c.args.i (c.tokens_at-k.ensures (get_or ts c.args.i no_triple) L)) R
