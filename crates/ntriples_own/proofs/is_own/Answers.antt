-- The test of the mode that the cursor stands in. Assumes nothing.
use Rattle.ntriples_own.proofs.Own.{own_iri, own_string}
use Rattle.ntriples_own.proofs.is_own.Goals as goal

pub returns-in-Iri : goal.returns-in-Iri
returns-in-Iri c = own_iri _ _ _ c.in-Iri.is c.is_but.ensures

pub returns-in-Quoted : goal.returns-in-Quoted
returns-in-Quoted c = own_string _ _ _ c.in-Quoted.is c.is_but-in-Quoted.ensures
