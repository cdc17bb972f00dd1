-- By the answer. Assumes nothing.
use Rattle.delivery_tally.proofs.TallyLaws.{applied-tallied, idle-tallied, refused-tallied}
use Rattle.delivery_tally.proofs.raised.Goals as goal

pub returns-in-Applied : goal.returns-in-Applied
returns-in-Applied c = applied-tallied c.args.answer c.args.counted c.in-Applied.is

pub returns-in-Idle : goal.returns-in-Idle
returns-in-Idle c = idle-tallied c.args.answer c.args.counted c.in-Idle.is

pub returns-in-Refused : goal.returns-in-Refused
returns-in-Refused c = refused-tallied c.args.answer _ c.args.counted c.in-Refused.is
