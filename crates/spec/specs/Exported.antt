-- What the exported functions give: numbers and words (include/families.h). Definitions only.
use Rattle.std.specs.Prelude.{ℕ, List, [], ◌∷◌}
use Rattle.spec.specs.Outputs.{Replied, reply_number, reply_count}
use Rattle.spec.specs.Tables.{Tables}
use Rattle.spec.specs.declared.Answer.{Answer}
use Rattle.spec.specs.Updates.{answer_number}
use Rattle.spec.specs.declared.Delivered.{Delivered}

-- The number of an update's answer, and the tables after it.
abbrev pub updated : ℕ → Tables → ℕ × Tables
updated n T = (n, T)

-- "An update answers 0 applied, 100 idle, or the number that refused it."
abbrev pub numbered_outcome : Answer × Tables → ℕ × Tables
numbered_outcome r = updated (answer_number r.0) r.1

-- The number that refused a delivery or 0, the words of its result, and the tables after it.
abbrev pub received : ℕ → List ℕ → Tables → ℕ × List ℕ × Tables
received n ws T = (n, ws, T)

-- "Result: delivery number, applied, idle, refused."
abbrev pub result_words : Delivered → List ℕ
result_words d = d.number ∷ d.applied ∷ d.idle ∷ d.refused ∷ []

-- "0, or the number that refused the whole."
abbrev pub numbered_delivery : Delivered × Tables → ℕ × List ℕ × Tables
numbered_delivery r = received r.0.refusal (result_words r.0) r.1

-- The number of a reply, its row count, and the words of the output.
abbrev pub listed : ℕ → ℕ → List ℕ → ℕ × ℕ × List ℕ
listed n c ws = (n, c, ws)

-- "0, or the refusing number; count: the rows written, 0 when refused."
abbrev pub numbered_reply : Replied → ℕ × ℕ × List ℕ
numbered_reply r = listed (reply_number r.reply) (reply_count r.reply) r.words
