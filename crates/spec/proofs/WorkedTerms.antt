-- Worked by computation: words that are terms, triples, and statements with their sides. Assumes nothing.
use Prim.Native.Nat.{ℕ}
use mathlib.Core.Path.{◌≡◌, refl}
use mathlib.Core.Bool.{Bool, true, false}
use mathlib.Core.List.{List, [], ◌∷◌, map}
use Rattle.spec.specs.declared.Triple.{Triple}
use Rattle.spec.specs.Terms.{is_uri, is_blank, is_literal, is_variable, is_vocabulary, triple, is_triple, is_statement, are_sides_allowed, is_allowed_statement, is_allowed_fact}

-- Words, and whether each is a URI, a blank, a literal, a variable and of the vocabulary: number 0 is no term, and a variable has one of 0 to 15.
pub words-worked
    : map (λ w. is_uri w ∷ is_blank w ∷ is_literal w ∷ is_variable w ∷ is_vocabulary w ∷ [])
    (0 ∷ 1 ∷ 5 ∷ 6 ∷ 0x3FFFFFFF ∷ 0x40000000 ∷ 0x40000001 ∷ 0x80000000 ∷ 0x80000001 ∷ 0xC0000000 ∷ 0xC000000F ∷ 0xC0000010 ∷ [])
    ≡ (false ∷ false ∷ false ∷ false ∷ false ∷ [])
    ∷ (true ∷ false ∷ false ∷ false ∷ true ∷ [])
    ∷ (true ∷ false ∷ false ∷ false ∷ true ∷ [])
    ∷ (true ∷ false ∷ false ∷ false ∷ false ∷ [])
    ∷ (true ∷ false ∷ false ∷ false ∷ false ∷ [])
    ∷ (false ∷ false ∷ false ∷ false ∷ false ∷ [])
    ∷ (false ∷ true ∷ false ∷ false ∷ false ∷ [])
    ∷ (false ∷ false ∷ false ∷ false ∷ false ∷ [])
    ∷ (false ∷ false ∷ true ∷ false ∷ false ∷ [])
    ∷ (false ∷ false ∷ false ∷ true ∷ false ∷ [])
    ∷ (false ∷ false ∷ false ∷ true ∷ false ∷ [])
    ∷ (false ∷ false ∷ false ∷ false ∷ false ∷ [])
    ∷ []
unfolding is_uri is_blank is_literal is_variable is_vocabulary
words-worked = refl

-- Triples, and whether each is one: a literal is an object only, a blank no property.
pub triples-worked
    : map is_triple
    (triple 16 17 18 ∷ triple 0x40000001 17 0x40000002 ∷ triple 16 17 0x80000001 ∷ triple 0x80000001 17 16 ∷ triple 16 0x40000001 17 ∷ triple 16 17 0xC0000000 ∷ triple 0 17 18 ∷ [])
    ≡ true ∷ true ∷ true ∷ false ∷ false ∷ false ∷ false ∷ []
unfolding is_uri is_blank is_literal is_triple
triples-worked = refl

-- Statements by their property, and whether their sides are allowed: classes that are blank; properties that are; literals and the vocabulary.
pub sides-worked
    : map is_allowed_statement
    (triple 16 2 17 ∷ triple 0x40000001 2 0x40000002 ∷ triple 16 2 0x80000001 ∷ triple 16 2 1 ∷ triple 5 2 16
    ∷ triple 20 3 21 ∷ triple 20 3 0x40000001 ∷ triple 0x40000001 3 20 ∷ triple 20 3 2
    ∷ triple 20 4 16 ∷ triple 20 5 0x40000001 ∷ triple 0x40000001 4 16 ∷ triple 0x40000001 5 16 ∷ triple 1 5 16
    ∷ triple 16 1 17 ∷ triple 16 6 17 ∷ [])
    ≡ true ∷ true ∷ false ∷ false ∷ false ∷ true ∷ false ∷ false ∷ false ∷ true ∷ true ∷ false ∷ false ∷ false ∷ false ∷ false ∷ []
unfolding is_uri is_blank is_literal is_vocabulary is_triple is_statement are_sides_allowed is_allowed_statement
sides-worked = refl

-- Facts: what is a triple and no statement.
pub facts_worked : map is_allowed_fact (triple 32 1 16 ∷ triple 32 6 0x80000001 ∷ triple 16 2 17 ∷ triple 16 5 17 ∷ triple 0x80000001 1 16 ∷ []) ≡ true ∷ true ∷ false ∷ false ∷ false ∷ []
unfolding is_uri is_blank is_literal is_triple is_statement is_allowed_fact
facts_worked = refl
