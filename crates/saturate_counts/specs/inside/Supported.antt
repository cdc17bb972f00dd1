-- What the run over the subjects needs to know of the supports. st are the words of the m statements; d and r the squares of domains and of
-- ranges; keys the terms of the ns columns, the first nc of them classes; f the words of the n facts. Definitions only.
use Rattle.std.specs.Prelude.{◌≡◌, false, List, ℕ, ◌+◌, ◌^◌, ◌≤◌, ◌<◌, get_or}
use Rattle.spec.specs.Terms.{is_literal, triple}
use Rattle.spec.specs.Saturation.{Kept}
use Rattle.spec.specs.inside.Counts.{lookup}
use Rattle.saturate_schema.specs.inside.Sums.{sum_to}
use Rattle.saturate_schema.specs.inside.Compiled.{subject_at, object_at, explicit_at, subject_adds, object_adds, property_adds}

-- The support of x 1 k, where k is the key of column c: whether it is a fact, what the facts of the subject x add to the column, and what
-- those of the object x and another subject add.
abbrev pub class_sum : List ℕ → ℕ → List ℕ → List ℕ → ℕ → List ℕ → ℕ → ℕ → ℕ → ℕ → ℕ
class_sum st m d r nc f n x k c = sum_to (explicit_at f x 1 k) n + (sum_to (subject_adds st m nc d r f x c) n + sum_to (object_adds st m r f x c) n)

-- These are the supports that K has.
pub record Supported (K : Kept) (st : List ℕ) (m : ℕ) (d r keys : List ℕ) (nc ns : ℕ) (f : List ℕ) (n : ℕ) : Type 0 where
  pub class : (x c : ℕ) → c < nc → is_literal x ≡ false → lookup K (triple x 1 (get_or keys c 0)) ≡ class_sum st m d r nc f n x (get_or keys c 0) c
  pub other_class : (x o : ℕ) → ((c : ℕ) → c < nc → ¬ (get_or keys c 0 ≡ o)) → lookup K (triple x 1 o) ≡ sum_to (explicit_at f x 1 o) n
  pub property : (x o c : ℕ) → nc ≤ c → c < ns → lookup K (triple x (get_or keys c 0) o) ≡ sum_to (explicit_at f x (get_or keys c 0) o) n + sum_to (property_adds st m d f x o c) n
  pub other_property : (x q o : ℕ) → ¬ (q ≡ 1) → ((c : ℕ) → nc ≤ c → c < ns → ¬ (get_or keys c 0 ≡ q)) → lookup K (triple x q o) ≡ sum_to (explicit_at f x q o) n
  pub absent : (x p o : ℕ) → ((y : ℕ) → y < n → ¬ (subject_at f y ≡ x)) → ((y : ℕ) → y < n → is_literal x ≡ false → ¬ (object_at f y ≡ x)) → lookup K (triple x p o) ≡ 0

-- Supports of classes fit 16 bits.
abbrev pub Small : List ℕ → ℕ → List ℕ → List ℕ → List ℕ → ℕ → List ℕ → ℕ → Type 0
Small st m d r keys nc f n = (x c : ℕ) → c < nc → is_literal x ≡ false → class_sum st m d r nc f n x (get_or keys c 0) c < 2 ^ 16

-- Of the places below n those where key is x are i .. e.
pub record Range (key : ℕ → ℕ) (n x i e : ℕ) : Type 0 where
  pub low : i ≤ e
  pub high : e ≤ n
  pub all : (y : ℕ) → i ≤ y → y < e → key y ≡ x
  pub before : (y : ℕ) → y < i → ¬ (key y ≡ x)
  pub after : (y : ℕ) → e ≤ y → y < n → ¬ (key y ≡ x)

-- The counts of the columns: of a class what the facts of the subject x and those of the object x add, of a property what the first add.
pub record CountsOf (st : List ℕ) (m : ℕ) (d r : List ℕ) (nc ns : ℕ) (f : List ℕ) (n x : ℕ) (counts : List ℕ) : Type 0 where
  pub class : (c : ℕ) → c < nc → get_or counts c 0 ≡ sum_to (subject_adds st m nc d r f x c) n + sum_to (object_adds st m r f x c) n
  pub property : (c : ℕ) → nc ≤ c → c < ns → get_or counts c 0 ≡ sum_to (subject_adds st m nc d r f x c) n
