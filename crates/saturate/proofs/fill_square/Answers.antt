-- What `close` ensures of a square without bits.
use mathlib.Core.Path.{◌∙◌}
use native.Mathlib.Omega.{arith}
use Rattle.saturate.proofs.fill_square.Goals as goal

pub close-requires : goal.close-requires
close-requires c = record { columns = c.requires.columns; m_in_bounds = omega (arith, c.requires.columns.few, c.requires.columns.rows, c.requires.square_len.0); by_index = c.requires.square_len.1 }

pub returns : goal.returns
returns c = record { long = c.close.auto.square ∙ c.requires.square_len.0; closed = c.close.ensures.closed; bits = c.close.ensures.bits }
