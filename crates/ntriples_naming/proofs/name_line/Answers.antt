use native.Mathlib.Omega.{arith}
use Prim.Native.Nat.{◌+◌}
use mathlib.Core.Path.{◌≡◌}
use Rattle.std.proofs.lemmas.Result.{err_from_is_err_and}
use Rattle.ntriples_naming.proofs.Steps.{stopped}
use Rattle.ntriples_naming.proofs.name_line.Goals as goal

pub name_word-requires : goal.name_word-requires
name_word-requires c = record { before = c.requires.before; old = c.requires.old; texts = c.requires.texts; reached = rw c.in_ok-last.was at c.requires.reached; within = omega (arith, c.requires.within); has = c.requires.has.subject; enough = c.requires.enough; room = omega (arith, c.requires.room) }

pub name_word-requires-2 : goal.name_word-requires-2
name_word-requires-2 c = record { before = c.requires.before; old = c.requires.old; texts = c.requires.texts; reached = c.in_ok-a.ensures c.requires.before c.requires.old c.requires.texts (omega (arith, c.requires.within)) c.requires.has.subject (rw c.in_ok-last.was at c.requires.reached); within = omega (arith, c.requires.within); has = c.requires.has.property; enough = omega (arith, c.requires.enough, c.name_word.auto.slots); room = omega (arith, c.requires.room, c.name_word.auto.terms) }

pub overflow_add-j-2 : goal.overflow_add-j-2
overflow_add-j-2 c = omega (arith, c.requires.room)

pub name_word-requires-3 : goal.name_word-requires-3
name_word-requires-3 c =
    let q : c.args.j + 1 + 1 ≡ c.args.j + 2 = omega arith in
    let A = c.in_ok-a.ensures c.requires.before c.requires.old c.requires.texts (omega (arith, c.requires.within)) c.requires.has.subject (rw c.in_ok-last.was at c.requires.reached) in
    let B = c.in_ok-b.ensures c.requires.before c.requires.old c.requires.texts (omega (arith, c.requires.within)) c.requires.has.property A in
    record { before = c.requires.before; old = c.requires.old; texts = c.requires.texts; reached = rw q at B; within = omega (arith, c.requires.within); has = c.requires.has.object; enough = omega (arith, c.requires.enough, c.name_word.auto.slots, c.name_word-2.auto.slots); room = omega (arith, c.requires.room, c.name_word.auto.terms, c.name_word-2.auto.terms) }

pub returns-in_err-a : goal.returns-in_err-a
returns-in_err-a c = λ ds es xs h T R. let p = err_from_is_err_and c.from_residual-in_err-a.result c.from_residual-in_err-a.ensures.1 in rw (p.1, p.2) (stopped ds es xs _ _ _ _ _ (c.args.j + 1) (c.args.j + 3) (c.in_err-a.ensures ds es xs (omega (arith, h)) T.subject (rw c.in_ok-last.was at R)))

pub returns-in_err-b : goal.returns-in_err-b
returns-in_err-b c = λ ds es xs h T R. let p = err_from_is_err_and c.from_residual-in_err-b.result c.from_residual-in_err-b.ensures.1 in rw (p.1, p.2) (stopped ds es xs _ _ _ _ _ (c.args.j + 1 + 1) (c.args.j + 3) (c.in_err-b.ensures ds es xs (omega (arith, h)) T.property (c.in_ok-a.ensures ds es xs (omega (arith, h)) T.subject (rw c.in_ok-last.was at R))))

pub returns : goal.returns
returns c = λ ds es xs h T R.
    let q : c.args.j + 1 + 1 ≡ c.args.j + 2 = omega arith in
    let r : c.args.j + 2 + 1 ≡ c.args.j + 3 = omega arith in
    let A = c.in_ok-a.ensures ds es xs (omega (arith, h)) T.subject (rw c.in_ok-last.was at R) in
    let B = c.in_ok-b.ensures ds es xs (omega (arith, h)) T.property A in
    rw r at (c.name_word-3.ensures ds es xs (omega (arith, h)) T.object (rw q at B))
