use native.Mathlib.Omega.{arith}
use Rattle.ntriples_bytes.proofs.Scanning.{none_read, ascii-read, broken-read, all_read}
use Rattle.ntriples_bytes.proofs.is_utf8.Goals as goal

pub loop-b-init : goal.loop-b-init
loop-b-init c = none_read c.args.bytes.now 0x80 0xBF

pub loop-b-preserved-then-due-b : goal.loop-b-preserved-then-due-b
loop-b-preserved-then-due-b c = ascii-read c.args.bytes.now c.loop-b.b-index c.loop-b.due (omega arith) c.if-due-b.true c.loop-b.invariant

pub returns-in_default : goal.returns-in_default
returns-in_default c = broken-read c.args.bytes.now c.loop-b.b-index c.loop-b.due (omega arith) c.loop-b.invariant c.in_default.ensures

pub returns : goal.returns
returns c = all_read c.args.bytes.now c.loop-b.b-index c.loop-b.due (omega arith) c.loop-b.invariant
