use Prim.Native.Nat.{◌-◌}
use Rattle.ntriples_terms.proofs.Rows.{subject_token, property_token, object_token}
use Rattle.ntriples_terms.proofs.Found.{found-row}
use Rattle.ntriples_terms.proofs.find_in.Goals as goal

-- src/lib.rt:114:18
pub find_word-requires : goal.find_word-requires
find_word-requires c = record { lead_within = c.requires.lead_within; token = subject_token c.args.line.now c.args.k c.requires.are_tokens }

-- src/lib.rt:115:19
pub find_word-requires-2 : goal.find_word-requires-2
find_word-requires-2 c = record { lead_within = c.requires.lead_within; token = property_token c.args.line.now c.args.k c.requires.are_tokens }

-- src/lib.rt:116:17
pub find_word-requires-3 : goal.find_word-requires-3
find_word-requires-3 c = record { lead_within = c.requires.lead_within; token = object_token c.args.line.now c.args.k c.requires.are_tokens }

-- src/lib.rt:98:1
pub returns : goal.returns
returns c = λ es t X H. found-row es t c.args.row _ _ _ (c.find_word.ensures es t.subject X H.subject) (c.find_word-2.ensures es t.property X H.property) (c.find_word-3.ensures es t.object X H.object)
