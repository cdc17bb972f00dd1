-- Walks of one or more edges, and what one edge more brings. Assumes nothing.
use mathlib.Core.Path.{◌≡◌, refl, ap}
use mathlib.Core.List.Memᴰ
use mathlib.Core.List.{List, [], ◌∷◌, Memᴰ}
use mathlib.Core.Logic.{◌↔◌, ◌⊎◌, inl, inr, ⊎_elim}
use Prim.Native.Nat.{ℕ}
use Rattle.saturate_schema.specs.inside.Walks.{Edge, Plus, edge, more}

-- Two walks, one after the other.
pub plus_trans : {E : List Edge} {a b c : ℕ} → Plus E a b → Plus E b c → Plus E a c
plus_trans p (edge m) = more p m
plus_trans p (more q m) = more (plus_trans p q) m

-- A walk needs no more than its edges.
plus_weaken : {E : List Edge} (e : Edge) {a b : ℕ} → Plus E a b → Plus (e ∷ E) a b
plus_weaken e (edge m) = edge (Memᴰ.tail m)
plus_weaken e (more p m) = more (plus_weaken e p) (Memᴰ.tail m)

-- The node a is s, where an edge starts, or leads there.
abbrev pub To : List Edge → ℕ → ℕ → Type 0
To E a s = (a ≡ s) ⊎ Plus E a s

-- The node b is d, where an edge ends, or is led to from there.
abbrev pub From : List Edge → ℕ → ℕ → Type 0
From E d b = (b ≡ d) ⊎ Plus E d b

-- A walk through the edge e.
by_edge : {E : List Edge} (e : Edge) {a b : ℕ} → To E a e.0 → From E e.1 b → Plus (e ∷ E) a b
by_edge {E} e {a} {b} (inl p) (inl q) = rw (p, q) (edge (Memᴰ.head refl))
by_edge {E} e {a} {b} (inl p) (inr q) = rw p (plus_trans (edge (Memᴰ.head refl)) (plus_weaken e q))
by_edge {E} e {a} {b} (inr p) (inl q) = rw q (more (plus_weaken e p) (Memᴰ.head refl))
by_edge {E} e {a} {b} (inr p) (inr q) = plus_trans (more (plus_weaken e p) (Memᴰ.head refl)) (plus_weaken e q)

-- Equal edges start at one node,
of_fst : {d e : Edge} → d ≡ e → d.0 ≡ e.0
of_fst q = ap (λ (z : Edge). z.0) q

-- and end at one.
of_snd : {d e : Edge} → d ≡ e → d.1 ≡ e.1
of_snd q = ap (λ (z : Edge). z.1) q

-- The walks with the edge e in front of E.
abbrev pub Grown : List Edge → Edge → ℕ → ℕ → Type 0
Grown E e a b = Plus E a b ⊎ (To E a e.0 × From E e.1 b)

-- One edge of them,
grow_edge : {E : List Edge} (e : Edge) {a b : ℕ} → Memᴰ (a, b) (e ∷ E) → Grown E e a b
grow_edge e m = ⊎_elim (λ q. inr (inl (of_fst q), inl (of_snd q))) (λ i. inl (edge i)) (Memᴰ.cases_cons m)

-- one more,
grow_more : {E : List Edge} (e : Edge) {a b c : ℕ} → Grown E e a b → Memᴰ (b, c) (e ∷ E) → Grown E e a c
grow_more {E} e {a} {b} {c} g m = ⊎_elim (λ q. inr (reach g (of_fst q), inl (of_snd q))) (λ i. on g i) (Memᴰ.cases_cons m)
  where
    reach : Grown E e a b → b ≡ e.0 → To E a e.0
    reach (inl p) q = inr (rw q at p)
    reach (inr (t, _)) q = t

    on : Grown E e a b → Memᴰ (b, c) E → Grown E e a c
    on (inl p) i = inl (more p i)
    on (inr (t, inl q)) i = inr (t, inr (edge (rw q at i)))
    on (inr (t, inr p)) i = inr (t, inr (more p i))

-- or many.
grow : {E : List Edge} (e : Edge) {a b : ℕ} → Plus (e ∷ E) a b → Grown E e a b
grow e (edge m) = grow_edge e m
grow e (more p m) = grow_more e (grow e p) m

-- The walks with one edge more are those without it, and those through it.
pub plus-cons : (E : List Edge) (e : Edge) (a b : ℕ) → Plus (e ∷ E) a b ↔ Grown E e a b
plus-cons E e a b = (grow e, λ g. ⊎_elim (plus_weaken e) (λ z. by_edge e z.0 z.1) g)

-- Without edges there is no walk.
pub plus_nil : (a b : ℕ) → ¬ Plus [] a b
plus_nil a b (edge m) = Memᴰ.not-nil m
plus_nil a b (more p m) = Memᴰ.not-nil m

-- An edge that ends at b: a walk ends where an edge ends, and starts where one starts.
pub record EndsWith (E : List Edge) (b : ℕ) : Type 0 where
  pub start : ℕ
  pub there : Memᴰ (start, b) E

-- It ends so.
pub plus_ends : {E : List Edge} {a b : ℕ} → Plus E a b → EndsWith E b
plus_ends {a} (edge m) = record { start = a; there = m }
plus_ends (more {b} p m) = record { start = b; there = m }

-- An edge that starts at a.
pub record StartsWith (E : List Edge) (a : ℕ) : Type 0 where
  pub end : ℕ
  pub there : Memᴰ (a, end) E

-- A walk starts so.
pub plus_starts : {E : List Edge} {a b : ℕ} → Plus E a b → StartsWith E a
plus_starts {b} (edge m) = record { end = b; there = m }
plus_starts (more p m) = plus_starts p
