-- The letters of the characters that canonical text escapes. Definitions only.
use Rattle.std.specs.Prelude.{ℕ, cond, eqb, Option, Some, None}
use Prim.Native.Char.{code}

-- The letter behind the backslash of a character that is escaped in canonical text; none for any other.
unfoldable pub letter_of : ℕ → Option ℕ
letter_of c = cond (eqb c 0x22) (Some (code "\"")) (cond (eqb c 0x5C) (Some (code "\\")) (cond (eqb c 0x0A) (Some (code "n")) (cond (eqb c 0x0D) (Some (code "r")) None)))
