-- A fact gives its subject the classes of the example. Assumes nothing.
use native.Mathlib.Omega.{arith}
use Rattle.rdfs_leads.proofs.FactLaws.{fact-type, fact-subject}
use Rattle.rdfs_leads.proofs.gives_subject.Goals as goal

pub leads-requires : goal.leads-requires
leads-requires c = record { statements_value = c.requires.statements_value; remembers = c.requires.remembers; not_asked = (λ e. omega arith, λ e. absurd (omega arith)) }

pub returns-then-fact-eq-TYPE : goal.returns-then-fact-eq-TYPE
returns-then-fact-eq-TYPE c = record { answer = fact-type _ c.args.fact _ c.if-fact-eq-TYPE.true c.leads.ensures.answer; memory = c.leads.ensures.memory }

pub leads-requires-2 : goal.leads-requires-2
leads-requires-2 c = record { statements_value = c.requires.statements_value; remembers = c.requires.remembers; not_asked = (λ e. omega arith, λ e. absurd (omega arith)) }

pub returns : goal.returns
returns c = record { answer = fact-subject _ c.args.fact _ c.if-fact-eq-TYPE.false c.leads-2.ensures.answer; memory = c.leads-2.ensures.memory }
