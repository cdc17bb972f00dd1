-- The row is of the node, or has its column, or neither.
use mathlib.Core.Path.{sym, ◌∙◌}
use Rattle.table.proofs.SearchLaws.{tells_true, tells_equal}
use Rattle.saturate_schema.specs.inside.Squares.{at}
use Rattle.saturate_schema.proofs.Closing.{leads_bit, leads-not}
use mathlib.Core.Logic.{inl}
use Rattle.saturate_squares.proofs.leads.Goals as goal

pub returns-then-subject_node-s : goal.returns-then-subject_node-s
returns-then-subject_node-s c = tells_true (inl (sym c.subject_node.ensures ∙ c.if-subject_node-s.true))

pub returns-then-ss-ns : goal.returns-then-ss-ns
returns-then-ss-ns c = leads_bit c.args.statements.now (at c.args.square.now) _ _ _ _ _ (λ e. c.if-subject_node-s.false (c.subject_node.ensures ∙ e)) c.if-ss-ns.true (tells_equal _ 1)

pub returns : goal.returns
returns c = leads-not c.args.statements.now (at c.args.square.now) _ _ _ _ (λ e. c.if-subject_node-s.false (c.subject_node.ensures ∙ e)) c.if-ss-ns.false
