-- By the tests of `is_support_table`, one by one.
use mathlib.Core.Path.{sym}
use Rattle.table_supports.proofs.Tests.{too_few, enough_places}
use Rattle.table_supports.proofs.is_support_table.Goals as goal

pub returns-then-u-n : goal.returns-then-u-n
returns-then-u-n c = sym (too_few c.args.facts c.args.n c.args.u.now c.if-u-n.true)

pub returns-then-are_supports : goal.returns-then-are_supports
returns-then-are_supports c = rw (enough_places c.args.facts c.args.n c.args.u.now c.if-u-n.false, ← c.are_supports.ensures, c.if-are_supports.true) c.are_supports_zero.ensures

pub returns-else-are_supports : goal.returns-else-are_supports
returns-else-are_supports c = rw (enough_places c.args.facts c.args.n c.args.u.now c.if-u-n.false, ← c.are_supports.ensures, c.if-are_supports.false)
