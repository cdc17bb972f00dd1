use Rattle.ntriples_chars.proofs.is_letter_or_digit.Goals as goal

-- src/chars.rt:36:1
pub returns : goal.returns
returns c = rw (c.is_letter.ensures, c.is_digit.ensures)
