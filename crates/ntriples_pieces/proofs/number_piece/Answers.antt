use Rattle.ntriples_pieces.proofs.number_piece.Goals as goal

pub returns-then-is_scalar-may_escape : goal.returns-then-is_scalar-may_escape
returns-then-is_scalar-may_escape c = rw (← c.is_scalar.ensures, ← c.may_escape.ensures, c.if-is_scalar-may_escape.true)

pub returns : goal.returns
returns c = rw (← c.is_scalar.ensures, ← c.may_escape.ensures, c.if-is_scalar-may_escape.false)
