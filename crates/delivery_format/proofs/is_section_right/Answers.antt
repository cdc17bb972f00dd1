-- A section of a whole delivery lies within the bytes.
use Rattle.delivery_format.proofs.Whole.{section_fits}
use Rattle.delivery_format.proofs.is_section_right.Goals as goal

pub are_entries_right-requires : goal.are_entries_right-requires
are_entries_right-requires c = section_fits c.args.bytes.now c.requires.bytes_value c.args.k _ _ c.requires.k_bound c.section_start-at.ensures.value c.short_at.ensures.value

pub returns : goal.returns
returns c = cc
