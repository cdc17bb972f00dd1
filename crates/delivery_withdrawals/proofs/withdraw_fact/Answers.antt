-- What the withdrawal of a fact leaves, and a bound of its supports. Assumes nothing.
use native.Mathlib.Omega.{arith}
use Rattle.delivery_withdrawals.proofs.Lowered.{lowered_places, lowered-within, lowered_formed}
use Rattle.delivery_withdrawals.proofs.withdraw_fact.Goals as goal

pub overflow_cast-n : goal.overflow_cast-n
overflow_cast-n c = omega (arith, c.type_inv.facts 0)

pub overflow_cast-kept : goal.overflow_cast-kept
overflow_cast-kept c = omega (arith, c.type_inv.kept 0)

pub bound-most-requires : goal.bound-most-requires
bound-most-requires c = record { n_in_bounds = lowered_places c.args.fact c.requires.formed_store c.requires.fact_value c.update_formed-answer.ensures; supports_bound = lowered-within c.args.fact c.requires.formed_store c.requires.fact_value c.update_formed-answer.ensures _ c.requires.supports_bound }

pub returns : goal.returns
returns c = record { supports_after = c.update_formed-answer.ensures; supports_bound_2 = c.bound-most.ensures.lower_bound; formed_value = lowered_formed c.args.fact c.requires.formed_store c.requires.fact_value c.update_formed-answer.ensures c.bound-most.result c.bound-most.ensures.lower_bound c.bound-most.ensures.value }
