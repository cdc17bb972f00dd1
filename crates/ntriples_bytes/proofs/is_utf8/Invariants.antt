use Rattle.std.proofs.Common.{◌≡◌, drop, Some}
use Rattle.spec_ntriples.specs.computed.Decoded.{decode}
use Rattle.ntriples_bytes.specs.inside.Whole.{are_chars, are_chars_from}
use Rattle.ntriples_bytes.proofs.is_utf8.Given as goal

abbrev pub invariant-loop-b : goal.invariant-loop-b
invariant-loop-b l = are_chars (decode l.bytes) ≡ are_chars_from (drop l.b-index l.bytes) (Some l.due)
