-- Rows of 0 are closed.
use mathlib.Core.Path.{◌∙◌}
use native.Mathlib.Omega.{arith}
use Rattle.statement_closure.proofs.Made.{rows_empty}
use Rattle.statement_closure.proofs.fill_rows.Goals as goal

pub close-requires : goal.close-requires
close-requires c = record { columns = c.requires.columns; m_in_bounds = (c.requires.m_in_bounds.0, c.requires.m_in_bounds.1, c.zero_words.auto.t ∙ c.requires.m_in_bounds.2); by_index = λ i k li lk. rows_empty _ _ _ c.zero_words.ensures i k li (omega (arith, c.requires.columns.few)) }
