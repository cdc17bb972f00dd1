-- The byte stands at its place. Assumes nothing.
use Rattle.report_text.proofs.Appending.{byte_appended}
use Rattle.report_text.proofs.write_byte.Goals as goal

pub returns : goal.returns
returns c = byte_appended c.args.byte c.args.out.now c.args.at c.requires
