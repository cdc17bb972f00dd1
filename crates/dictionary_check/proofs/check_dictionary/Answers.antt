use Rattle.dictionary_check.proofs.check_dictionary.Goals as goal

-- src/lib.rt:166:30
pub settle-requires : goal.settle-requires
settle-requires c = rw c.in_ok-walk.was at c.walk.ensures

-- src/lib.rt:161:1
pub returns-in_err-walk : goal.returns-in_err-walk
returns-in_err-walk c = rw c.from_residual.ensures c.in_err-walk.ensures
