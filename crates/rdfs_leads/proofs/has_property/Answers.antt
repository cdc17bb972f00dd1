-- The properties of a fact are those of the example. Assumes nothing.
use native.Mathlib.Omega.{arith}
use Rattle.rdfs_leads.proofs.FactLaws.{fact_property}
use Rattle.rdfs_leads.proofs.has_property.Goals as goal

pub leads-requires : goal.leads-requires
leads-requires c = record { statements_value = c.requires.statements_value; remembers = c.requires.remembers; not_asked = (λ e. omega arith, λ e. absurd (omega arith)) }

pub returns : goal.returns
returns c = record { answer = fact_property _ c.args.fact _ c.leads.ensures.answer; memory = c.leads.ensures.memory }
