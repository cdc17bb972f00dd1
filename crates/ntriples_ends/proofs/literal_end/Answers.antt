use mathlib.Core.Path.{ap}
use Rattle.ntriples_terminals.specs.inside.Ends.{behind_read}
use Rattle.ntriples_terminals.proofs.Ending.{end_same}
use Rattle.ntriples_ends.proofs.Heads.{literal_none, string_found}
use Rattle.ntriples_ends.proofs.literal_end.Goals as goal

pub returns-in_err-end : goal.returns-in_err-end
returns-in_err-end c = rw c.from_residual.ensures (literal_none _ c.in_err-end.ensures)

pub returns : goal.returns
returns c = let s = string_found _ _ c.in_ok-end.ensures.same in end_same c.args.line.now _ _ c.suffix_end.result (ap behind_read s.same) (c.suffix_end.ensures s.string s.text)
