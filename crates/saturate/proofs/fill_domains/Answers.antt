-- The filled square is the one of which `clear_own` clears each statement's own node.
use mathlib.Core.Path.{◌∙◌}
use Rattle.saturate.proofs.fill_domains.Goals as goal

pub returns : goal.returns
returns c = record { long = c.clear_own.auto.square ∙ c.fill_square.ensures.long; whole = _; closed = c.fill_square.ensures.closed; bits = c.fill_square.ensures.bits; cleared = c.clear_own.ensures }
