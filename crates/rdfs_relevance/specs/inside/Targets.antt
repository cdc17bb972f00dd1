-- What a property or a class leads to, and a memory of answers. Definitions only.
use Rattle.std.specs.Prelude.{ℕ, ◌+◌, ◌*◌, ◌<◌, ◌≡◌, cond, length, get_or, eqb}
use mathlib.Core.List.{List, [], ◌∷◌, Memᴰ}
use Rattle.spec.specs.declared.Triple.{Triple}
use Rattle.spec.specs.Terms.{type, triple}
use Rattle.spec.specs.computed.Carried.{properties, subject_classes, object_classes}
use Rattle.table.specs.inside.Bounds.{Tells}

-- What can be asked of a word: 1, to which properties it leads as a property; 2, which classes a fact gives its subject that has it as its
-- property; 3, which classes a thing has that has it as its class; 4, which classes a fact gives its object, no literal, that has it as its
-- property; 5, whether these are any. A fact of which that is asked:
abbrev pub example : ℕ → ℕ → Triple
example asked w = cond (eqb asked 3) (triple 6 type w) (triple 6 w 6)

-- 0, which is no term, where there are any terms.
unfoldable pub some : List ℕ → List ℕ
some [] = []
some (x ∷ xs) = 0 ∷ []

-- The targets to which a word leads.
unfoldable pub led_to : List Triple → ℕ → ℕ → List ℕ
led_to S asked w =
    cond (eqb asked 1) (properties S (example asked w))
    (cond (eqb asked 4) (object_classes S (example asked w)) (cond (eqb asked 5) (some (object_classes S (example asked w))) (subject_classes S (example asked w))))

-- A word leads to a target.
abbrev pub Led : List Triple → ℕ → ℕ → ℕ → Type 0
Led S asked w target = Memᴰ target (led_to S asked w)

-- A memory of answers: 4,096 places of four words, which are a word, what is asked, a target and the answer, 1 for yes. A place where
-- nothing is asked is empty; each other has a true answer.
pub record Remembers (S : List Triple) (memory : List ℕ) : Type 0 where
  pub size : length memory ≡ 16384
  pub each : (k : ℕ) → k < 4096 → ¬ (get_or memory (k * 4 + 1) 0 ≡ 0)
      → Tells (eqb (get_or memory (k * 4 + 3) 0) 1) (Led S (get_or memory (k * 4 + 1) 0) (get_or memory (k * 4) 0) (get_or memory (k * 4 + 2) 0))
