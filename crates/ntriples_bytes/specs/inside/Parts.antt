-- Characters of one part of bytes and of another. Definitions only.
use Rattle.std.specs.Prelude.{ℕ, Bool, false, ◌||◌, List, [], ◌∷◌, ◌++◌}
use Rattle.spec_ntriples.specs.computed.Decoded.{Decoded, broken, decoded}

-- The characters of one part and of the next; broken where one of them is.
unfoldable pub joined : Decoded → Decoded → Decoded
joined broken e = broken
joined (decoded cs) broken = broken
joined (decoded cs) (decoded ds) = decoded (cs ++ ds)

-- Whether some of a list pass a test.
unfoldable pub has_any : (ℕ → Bool) → List ℕ → Bool
has_any test [] = false
has_any test (c ∷ cs) = test c || has_any test cs
