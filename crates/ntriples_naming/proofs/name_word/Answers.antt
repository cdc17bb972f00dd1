use native.Mathlib.Omega.{arith}
use lib.ListN.{get_or}
use Rattle.dictionary_names.proofs.Naming.{has-kind}
use Rattle.ntriples_naming.specs.inside.Progress.{no_text}
use Rattle.ntriples_naming.proofs.Steps.{few-entries, had-word, reached-known, reached-new, reached-full, reached-no-space}
use Rattle.ntriples_naming.proofs.name_word.Goals as goal

-- src/lib.rt:49:9
pub returns-then-terms-j-gt0 : goal.returns-then-terms-j-gt0
returns-then-terms-j-gt0 c = λ ds es xs h H R. had-word ds es xs c.args.slots.now c.args.dictionary.now c.args.slots.now c.args.dictionary.now c.args.first c.args.terms.now c.args.last c.args.j R h c.requires.room c.if-terms-j-gt0.true

-- src/lib.rt:58:13
pub offset_bounds-terms-j-in-New : goal.offset_bounds-terms-j-in-New
offset_bounds-terms-j-in-New c = omega (arith, c.requires.room, c.well_formed.1.1.1.1.1.1.0)

-- src/lib.rt:60:24
pub overflow_add-result : goal.overflow_add-result
overflow_add-result c = omega (arith, few-entries c.requires.before c.requires.old c.requires.texts c.args.slots.now c.args.dictionary.now c.args.first c.args.terms.now c.args.last c.requires.reached.0)

-- src/lib.rt:35:1
pub returns-in-Known : goal.returns-in-Known
returns-in-Known c = λ ds es xs h H R. reached-known ds es xs c.args.slots.now c.args.dictionary.now c.name_text.new.slots c.name_text.new.dictionary c.args.first c.args.terms.now c.args.last c.args.j R h c.requires.room (omega (arith, c.if-terms-j-gt0.false)) c.name_text.result (c.name_text.ensures ds R.0.entries (get_or xs c.args.j no_text) R.0.last H) _ c.in-Known.is

-- src/lib.rt:35:1
pub returns-in-New : goal.returns-in-New
returns-in-New c = λ ds es xs h H R. reached-new ds es xs c.args.slots.now c.args.dictionary.now c.name_text.new.slots c.name_text.new.dictionary c.args.first c.args.terms.now c.args.last c.args.j R h c.requires.room (omega (arith, c.if-terms-j-gt0.false)) c.name_text.result (c.name_text.ensures ds R.0.entries (get_or xs c.args.j no_text) R.0.last H) _ _ c.in-New.is (has-kind c.args.line.now c.args.token.from c.args.token.end (get_or xs c.args.j no_text) H)

-- src/lib.rt:35:1
pub returns-in-Full : goal.returns-in-Full
returns-in-Full c = λ ds es xs h H R. reached-full ds es xs c.args.slots.now c.args.dictionary.now c.name_text.new.slots c.name_text.new.dictionary c.args.first c.args.terms.now c.args.last c.args.j R h c.requires.room (omega (arith, c.if-terms-j-gt0.false)) c.name_text.result (c.name_text.ensures ds R.0.entries (get_or xs c.args.j no_text) R.0.last H) c.in-Full.is

-- src/lib.rt:35:1
pub returns-in-NoSpace : goal.returns-in-NoSpace
returns-in-NoSpace c = λ ds es xs h H R. reached-no-space ds es xs c.args.slots.now c.args.dictionary.now c.name_text.new.slots c.name_text.new.dictionary c.args.first c.args.terms.now c.args.last c.args.j R h c.requires.room (omega (arith, c.if-terms-j-gt0.false)) c.name_text.result (c.name_text.ensures ds R.0.entries (get_or xs c.args.j no_text) R.0.last H) c.in-NoSpace.is (has-kind c.args.line.now c.args.token.from c.args.token.end (get_or xs c.args.j no_text) H)
