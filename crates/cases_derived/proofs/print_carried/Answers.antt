-- What is carried lies within the words lent for it.
use Rattle.rdfs_carry.proofs.WordRows.{rows-within}
use Rattle.cases_derived.proofs.print_carried.Goals as goal

pub print_rows-requires : goal.print_rows-requires
print_rows-requires g c = rows-within _ _ _ c.carry-n.ensures.value c.carry-n.ensures.out_after
