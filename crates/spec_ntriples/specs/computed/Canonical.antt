-- Whether a text is canonical, by reading it. Nobody has to read it: `TextOfTerm` of specs/Meaning.antt says which texts are.
-- Fixed by canonical_means (proofs/Canonical.antt): a text is canonical exactly when it is the one that some spelling of a term means.
use Rattle.std.specs.Prelude.{ℕ, Bool, true, false, ◌&&◌, List, [], ◌∷◌}
use Rattle.spec_ntriples.specs.Texts.{is_same_text}
use Rattle.spec_ntriples.specs.computed.Decoded.{Decoded, broken, decoded, decode}
use Rattle.spec_ntriples.specs.computed.Lines.{Read, nothing, read, read_object}

-- Whether nothing is left.
unfoldable pub is_none : List ℕ → Bool
is_none [] = true
is_none (c ∷ cs) = false

-- Whether what was read of a text is the text itself, to its end.
unfoldable pub gives_itself : List ℕ → Read → Bool
gives_itself t nothing = false
gives_itself t (read u rest) = is_none rest && is_same_text u.bytes t

-- The same of the text's characters.
unfoldable pub decodes_to_itself : List ℕ → Decoded → Bool
decodes_to_itself t broken = false
decodes_to_itself t (decoded cs) = gives_itself t (read_object cs)

-- "Its texts canonical": a text that, read as a term, gives itself.
unfoldable pub is_canonical : List ℕ → Bool
is_canonical t = decodes_to_itself t (decode t)
