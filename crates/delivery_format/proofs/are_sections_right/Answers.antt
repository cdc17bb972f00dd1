-- By the four tests of `are_sections_right`.
use Rattle.delivery_format.proofs.Sections.{sections_right}
use Rattle.delivery_format.proofs.are_sections_right.Goals as goal

pub returns : goal.returns
returns c = sections_right c.args.bytes.now _ _ _ _ c.is_section_right.ensures c.is_section_right-2.ensures c.is_section_right-3.ensures c.is_section_right-4.ensures
