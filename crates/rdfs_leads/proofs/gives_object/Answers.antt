-- A fact gives its object, no literal, the classes of the example. Assumes nothing.
use mathlib.Core.Path.{sym, ◌∙◌}
use native.Mathlib.Omega.{arith}
use Rattle.rdfs_leads.proofs.FactLaws.{fact-object, literal-object}
use Rattle.rdfs_leads.proofs.gives_object.Goals as goal

pub returns-then-is_literal : goal.returns-then-is_literal
returns-then-is_literal c = record { answer = literal-object _ c.args.fact _ (sym c.is_literal.ensures ∙ c.if-is_literal.true); memory = c.requires.remembers }

pub leads-requires : goal.leads-requires
leads-requires c = record { statements_value = c.requires.statements_value; remembers = c.requires.remembers; not_asked = (λ e. omega arith, λ e. absurd (omega arith)) }

pub returns : goal.returns
returns c = record { answer = fact-object _ c.args.fact _ (sym c.is_literal.ensures ∙ c.if-is_literal.false) c.leads.ensures.answer; memory = c.leads.ensures.memory }
