-- What the binary search says of the terms, of the columns.
use Rattle.closure_search.proofs.SearchLaws.{column_found, column_missing}
use Rattle.closure_search.proofs.column_for.Goals as goal

pub returns-in-Ok : goal.returns-in-Ok
returns-in-Ok c = column_found _ _ _ _ _ c.requires c.first_column-first.ensures c.end_column-end.ensures _ c.in-Ok.ensures.position

pub returns-in-Err : goal.returns-in-Err
returns-in-Err c = column_missing _ _ _ _ _ c.requires c.first_column-first.ensures c.end_column-end.ensures _ c.in-Err.ensures.position
