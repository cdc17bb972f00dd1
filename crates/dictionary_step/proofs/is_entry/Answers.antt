use native.Mathlib.Omega.{arith}
use Rattle.dictionary_step.proofs.EntriesRead.{no_room}
use Rattle.dictionary_step.proofs.Asking.{term_comes}
use borrow.Author.Rules.{rules}
use Rattle.dictionary_step.proofs.is_entry.Goals as goal

-- src/lib.rt:77:9
pub returns-then-dictionary-at-lt-HEADER : goal.returns-then-dictionary-at-lt-HEADER
returns-then-dictionary-at-lt-HEADER c = no_room c.args.dictionary.now c.args.at (omega (arith, c.if-dictionary-at-lt-HEADER.true))

-- src/lib.rt:72:1
pub returns : goal.returns
returns c = term_comes c.args.dictionary.now c.args.at c.term_at.result c.term_at.ensures (search rules)
