-- What holds of each element of a list, of parts of it and of its members. Assumes nothing.
use mathlib.Core.Path.{refl}
use mathlib.Core.List.{List, [], ◌∷◌, ◌++◌, Memᴰ}
use Rattle.spec.specs.inside.Each.{Each}

module _ {A : Type 0} (P : A → Type 0) where
  -- What holds of each element of two lists holds of each of both,
  pub each_append : (xs ys : List A) → Each P xs → Each P ys → Each P (xs ++ ys)
  each_append [] ys h k = k
  each_append (x ∷ xs) ys h k = (h.0, each_append xs ys h.1 k)

  -- and back.
  pub each_front : (xs ys : List A) → Each P (xs ++ ys) → Each P xs
  each_front [] ys h = tt
  each_front (x ∷ xs) ys h = (h.0, each_front xs ys h.1)

  pub each_back : (xs ys : List A) → Each P (xs ++ ys) → Each P ys
  each_back [] ys h = h
  each_back (x ∷ xs) ys h = each_back xs ys h.1

  -- What holds of each member holds of each element.
  pub each_member : (xs : List A) → ((x : A) → Memᴰ x xs → P x) → Each P xs
  each_member [] h = tt
  each_member (x ∷ xs) h = (h x (Memᴰ.head refl), each_member xs (λ y m. h y (Memᴰ.tail m)))
