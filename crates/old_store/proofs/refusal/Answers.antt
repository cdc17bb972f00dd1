-- By the questions of `carrying_checks`, one by one; the tables of an old store have words for their counts.
use mathlib.Core.Path.{refl, sym}
use Rattle.spec.specs.Tables.{tables}
use Rattle.old_store.proofs.Carrying.{some_words, store_no, store_yes, both, by_1, by_4, by_5, by_none}
use Rattle.old_store.proofs.refusal.Goals as goal

pub returns-then-not-is_old_store : goal.returns-then-not-is_old_store
returns-then-not-is_old_store c = let T = tables c.args.statements.now c.args.facts.now c.args.kept.now c.args.supports.now in
    let store = store_no T c.is_old_store.ensures c.if-not-is_old_store.true in
    sym (by_1 T c.args.new store)

pub bounds-statements-0 : goal.bounds-statements-0
bounds-statements-0 c = let T = tables c.args.statements.now c.args.facts.now c.args.kept.now c.args.supports.now in
    let store = store_yes T c.is_old_store.ensures c.if-not-is_old_store.false in
    (some_words T store).0

pub bounds-facts-0 : goal.bounds-facts-0
bounds-facts-0 c = let T = tables c.args.statements.now c.args.facts.now c.args.kept.now c.args.supports.now in
    let store = store_yes T c.is_old_store.ensures c.if-not-is_old_store.false in
    (some_words T store).1

pub returns-then-not-has_room : goal.returns-then-not-has_room
returns-then-not-has_room c = let T = tables c.args.statements.now c.args.facts.now c.args.kept.now c.args.supports.now in
    let store = store_yes T c.is_old_store.ensures c.if-not-is_old_store.false in
    let room = both c.has_room.ensures c.has_room-2.ensures c.if-not-has_room.true in
    sym (by_4 T c.args.new store room)

pub bounds-kept-0 : goal.bounds-kept-0
bounds-kept-0 c = let T = tables c.args.statements.now c.args.facts.now c.args.kept.now c.args.supports.now in
    let store = store_yes T c.is_old_store.ensures c.if-not-is_old_store.false in
    (some_words T store).2

pub bounds-kept-0-2 : goal.bounds-kept-0-2
bounds-kept-0-2 c = let T = tables c.args.statements.now c.args.facts.now c.args.kept.now c.args.supports.now in
    let store = store_yes T c.is_old_store.ensures c.if-not-is_old_store.false in
    (some_words T store).2

pub returns-then-not-has_room-kept : goal.returns-then-not-has_room-kept
returns-then-not-has_room-kept c = let T = tables c.args.statements.now c.args.facts.now c.args.kept.now c.args.supports.now in
    let store = store_yes T c.is_old_store.ensures c.if-not-is_old_store.false in
    let room = both c.has_room.ensures c.has_room-2.ensures c.if-not-has_room.false in
    let places = both c.has_room-3.ensures refl c.if-not-has_room-kept.true in
    sym (by_5 T c.args.new store room places)

pub returns : goal.returns
returns c = let T = tables c.args.statements.now c.args.facts.now c.args.kept.now c.args.supports.now in
    let store = store_yes T c.is_old_store.ensures c.if-not-is_old_store.false in
    let room = both c.has_room.ensures c.has_room-2.ensures c.if-not-has_room.false in
    let places = both c.has_room-3.ensures refl c.if-not-has_room-kept.false in
    sym (by_none T c.args.new store room places)
