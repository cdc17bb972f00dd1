-- Where the first row has a mark, nothing is to be done; else no row of the subject and the property has one.
use mathlib.Core.Path.{◌∙◌, sym}
use Rattle.rdfs_reach.proofs.MarkLaws.{same_mark, extended_none}
use Rattle.rdfs_reach.proofs.append_objects.Goals as goal

pub returns-then-used-first-ne0 : goal.returns-then-used-first-ne0
returns-then-used-first-ne0 c = extended_none c.args.st.now _ _ _ c.args.used.now c.args.found.now _ c.requires.room (λ j l p q z. let w = same_mark c.args.st.now _ _ _ _ c.args.used.now
    c.args.found.now _ c.requires.statements c.first_row-first.ensures c.requires.room j l (record { subject = q; property = p }) in c.if-used-first-ne0.true (sym w.1 ∙ z))

pub append_block-requires-clause-by_index : goal.append_block-requires-clause-by_index
append_block-requires-clause-by_index c = λ j l h. let w = same_mark c.args.st.now _ _ _ _ c.args.used.now c.args.found.now _ c.requires.statements c.first_row-first.ensures
    c.requires.room j l h in w.1 ∙ c.if-used-first-ne0.false
