use mathlib.Core.Path.{sym, ◌∙◌}
use Rattle.ntriples_terminals.proofs.Ending.{end_same}
use Rattle.std.specs.Prelude.{Some}
use Rattle.ntriples_ends.proofs.Heads.{tag_none, tag-some}
use Rattle.ntriples_ends.proofs.language_end.Goals as goal

pub returns-then-is_at_tag : goal.returns-then-is_at_tag
returns-then-is_at_tag c = end_same c.args.line.now _ _ (Some c.tag_end.result) (tag-some _ (sym c.is_at_tag.ensures ∙ c.if-is_at_tag.true)) c.tag_end.ensures

pub returns : goal.returns
returns c = tag_none _ (sym c.is_at_tag.ensures ∙ c.if-is_at_tag.false)
