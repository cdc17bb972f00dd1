-- By what the fifth section's start and count are.
use borrow.Author.Rules.{rules}
use Rattle.delivery_number.proofs.extra_fields.Goals as goal

pub returns : goal.returns
returns c = record { begins = search rules; counted = cc; near = search rules; few = search rules }
