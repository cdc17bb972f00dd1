use Prim.Native.Char.{code}
use mathlib.Core.List.{◌∷◌}
use Rattle.ntriples_bytes.proofs.Decoding.{some_at, at_within}
use Rattle.ntriples_cursor.proofs.Following.{mark_front, inner-place, behind-skip}
use Rattle.ntriples_cursor.proofs.steps.type_inner.Goals as goal

pub char_at-first-requires : goal.char_at-first-requires
char_at-first-requires c = record { utf8from = some_at c.requires.stands; at_in_bounds = at_within c.args.line.now c.args.place (code "^") (code "^" ∷ c.requires.typed.behind) (rw c.requires.typed.marks at c.requires.stands) }

pub char_at-behind-requires : goal.char_at-behind-requires
char_at-behind-requires c = record { utf8from = some_at (mark_front c.args.line.now c.args.place (code "^") (code "^" ∷ c.requires.typed.behind) c.char_at-first.result c.char_at-first.ensures (rw c.requires.typed.marks at c.requires.stands)).1; at_in_bounds = at_within c.args.line.now c.char_at-first.result.next (code "^") c.requires.typed.behind (mark_front c.args.line.now c.args.place (code "^") (code "^" ∷ c.requires.typed.behind) c.char_at-first.result c.char_at-first.ensures (rw c.requires.typed.marks at c.requires.stands)).1 }

pub skip-mark-requires : goal.skip-mark-requires
skip-mark-requires c = some_at (mark_front c.args.line.now c.char_at-first.result.next (code "^") c.requires.typed.behind c.char_at-behind.result c.char_at-behind.ensures (mark_front c.args.line.now c.args.place (code "^") (code "^" ∷ c.requires.typed.behind) c.char_at-first.result c.char_at-first.ensures (rw c.requires.typed.marks at c.requires.stands)).1).1

pub char_at-requires : goal.char_at-requires
char_at-requires c = record { utf8from = some_at (behind-skip c.args.line.now c.char_at-behind.result.next c.skip-mark.result c.requires.typed.behind (mark_front c.args.line.now c.char_at-first.result.next (code "^") c.requires.typed.behind c.char_at-behind.result c.char_at-behind.ensures (mark_front c.args.line.now c.args.place (code "^") (code "^" ∷ c.requires.typed.behind) c.char_at-first.result c.char_at-first.ensures (rw c.requires.typed.marks at c.requires.stands)).1).1 c.skip-mark.ensures); at_in_bounds = at_within c.args.line.now c.skip-mark.result (code "<") c.requires.typed.inner (rw c.requires.typed.opens at (behind-skip c.args.line.now c.char_at-behind.result.next c.skip-mark.result c.requires.typed.behind (mark_front c.args.line.now c.char_at-first.result.next (code "^") c.requires.typed.behind c.char_at-behind.result c.char_at-behind.ensures (mark_front c.args.line.now c.args.place (code "^") (code "^" ∷ c.requires.typed.behind) c.char_at-first.result c.char_at-first.ensures (rw c.requires.typed.marks at c.requires.stands)).1).1 c.skip-mark.ensures)) }

pub returns : goal.returns
returns c = λ cs rest given A T. inner-place c.args.line.now c.args.place cs rest given A T c.char_at-first.result c.char_at-first.ensures c.char_at-behind.result c.char_at-behind.ensures c.skip-mark.result (λ ds B. behind-skip c.args.line.now c.char_at-behind.result.next c.skip-mark.result ds B c.skip-mark.ensures) c.char_at.result c.char_at.ensures
