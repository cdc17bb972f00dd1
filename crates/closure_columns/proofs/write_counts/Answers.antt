-- Each count is in its word, before the bits.
use Rattle.closure_columns.proofs.Heads.{counts_bits}
use borrow.Author.Rules.{rules}
use Rattle.closure_columns.proofs.write_counts.Goals as goal

pub returns : goal.returns
returns c = record { closure_after = (search rules, search rules); by_index = counts_bits c.args.closure.now _ _ }
