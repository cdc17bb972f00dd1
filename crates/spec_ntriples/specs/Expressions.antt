-- Regular expressions over characters and the texts that match them: the notation of the Recommendation's grammar (XML 1.0, section 6).
-- Definitions only.
use Rattle.std.specs.Prelude.{ℕ, zero, suc, ◌≡◌, ◌⊎◌, Bool, true, List, [], ◌∷◌, ◌++◌}
use Prim.Native.String.{String}
use Rattle.spec_ntriples.specs.Characters.{codes, is_one_of}
use Rattle.spec_ntriples.specs.Utf8.{is_between}

infixr 40 ◌then◌
infixr 30 ◌or◌
-- An expression.
pub data Expression : Type 0 where
  -- "[..]": one character of a set.
  set : (ℕ → Bool) → Expression
  -- "'..'": these characters.
  exactly : List ℕ → Expression
  -- "A B": A, and then B.
  ◌then◌ : Expression → Expression → Expression
  -- "A | B": A or B.
  ◌or◌ : Expression → Expression → Expression
  -- "A*": any number of A, one after the other.
  many : Expression → Expression

-- A text of one kind and then one of another.
pub record Joined (P Q : List ℕ → Type 0) (u : List ℕ) : Type 0 where
  pub front : List ℕ
  pub back : List ℕ
  pub spelled : u ≡ front ++ back
  pub first : P front
  pub second : Q back

-- Any number of texts of a kind, one after the other.
pub data Repeated (P : List ℕ → Type 0) : List ℕ → Type 0 where
  end : {u : List ℕ} → u ≡ [] → Repeated P u
  more : {u : List ℕ} (s t : List ℕ) → u ≡ s ++ t → P s → Repeated P t → Repeated P u

-- A text of one character of a set.
pub record Single (test : ℕ → Bool) (u : List ℕ) : Type 0 where
  pub char : ℕ
  pub spelled : u ≡ char ∷ []
  pub allowed : test char ≡ true

-- The texts that match an expression.
abbrev pub Matches : Expression → List ℕ → Type 0
Matches (set test) u = Single test u
Matches (exactly t) u = u ≡ t
Matches (a then b) u = Joined (Matches a) (Matches b) u
Matches (a or b) u = Matches a u ⊎ Matches b u
Matches (many a) u = Repeated (Matches a) u

-- "'..'", a quoted text.
abbrev pub quoted : String → Expression
quoted s = exactly (codes s)

-- "[..]" with its characters quoted.
abbrev pub one_of : String → Expression
one_of s = set (is_one_of (codes s))

-- "[a-b]"
abbrev pub between : ℕ → ℕ → Expression
between l h = set (is_between l h)

-- "A?"
abbrev pub optional : Expression → Expression
optional a = exactly [] or a

-- "A+"
abbrev pub some : Expression → Expression
some a = a then many a

-- "A A .. A", so many.
unfoldable pub times : ℕ → Expression → Expression
times zero a = exactly []
times (suc n) a = a then times n a
