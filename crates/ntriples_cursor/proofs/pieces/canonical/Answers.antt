use mathlib.Core.Path.{sym}
use Rattle.ntriples_cursor.proofs.Escaped.{letter_canonical, plain_canonical}
use Rattle.ntriples_cursor.proofs.pieces.canonical.Goals as goal

pub returns-in-Some : goal.returns-in-Some
returns-in-Some c = letter_canonical c.args.c _ _ _ (sym c.in-Some.ensures) c.double.ensures

pub returns-in-None : goal.returns-in-None
returns-in-None c = plain_canonical c.args.c _ _ (sym c.in-None.ensures) c.encoded.ensures
