use native.Mathlib.Omega.{arith}
use Rattle.ntriples_bytes.proofs.Scanning.{first-due, first_bad, first_ascii, too_low, leads_two, leads_three_low, leads_three_surrogates, leads_three, leads_four_low, leads_four, leads_four_high, too_high}
use Rattle.ntriples_bytes.proofs.first_byte.Goals as goal

pub returns-in_default : goal.returns-in_default
returns-in_default c = first_bad c.args.b (too_low c.args.b (omega arith) (omega arith))

pub returns-in_default-2 : goal.returns-in_default-2
returns-in_default-2 c = first_bad c.args.b (too_high c.args.b (omega arith))

pub returns-in-224 : goal.returns-in-224
returns-in-224 c = first-due c.args.b _ _ _ _ (leads_three_low c.args.b (omega arith))

pub returns-in-237 : goal.returns-in-237
returns-in-237 c = first-due c.args.b _ _ _ _ (leads_three_surrogates c.args.b (omega arith))

pub returns-in-240 : goal.returns-in-240
returns-in-240 c = first-due c.args.b _ _ _ _ (leads_four_low c.args.b (omega arith))

pub returns-in-244 : goal.returns-in-244
returns-in-244 c = first-due c.args.b _ _ _ _ (leads_four_high c.args.b (omega arith))

pub returns-in-0-to-127 : goal.returns-in-0-to-127
returns-in-0-to-127 c = first_ascii c.args.b 0x80 0xBF (omega arith)

pub returns-in-194-to-223 : goal.returns-in-194-to-223
returns-in-194-to-223 c = first-due c.args.b _ _ _ _ (leads_two c.args.b (omega arith) (omega arith))

pub returns-in-225-to-239 : goal.returns-in-225-to-239
returns-in-225-to-239 c = first-due c.args.b _ _ _ _ (leads_three c.args.b (omega arith) (omega arith) (λ x. omega (arith, x)) (λ x. omega (arith, x)))

pub returns-in-241-to-243 : goal.returns-in-241-to-243
returns-in-241-to-243 c = first-due c.args.b _ _ _ _ (leads_four c.args.b (omega arith) (omega arith))
