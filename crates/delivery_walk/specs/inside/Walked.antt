-- Where counted fields end. Definitions only.
use Rattle.std.specs.Prelude.{ℕ, ◌+◌, List}
use Rattle.spec.specs.computed.Decoded.{short, fields_end}

-- Where the fields end whose count stands at index at.
unfoldable pub counted_end : List ℕ → ℕ → ℕ
counted_end bs at = fields_end bs (at + 2) (short bs at)
