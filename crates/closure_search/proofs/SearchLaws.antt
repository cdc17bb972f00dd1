-- The search for the column of a term, and what its bit says. Assumes nothing.
use mathlib.Core.Path.{◌≡◌, sym, ap, ◌∙◌}
use mathlib.Core.List.{List}
use mathlib.Core.Logic.{◌↔◌, by_cases}
use Prim.Native.Nat.{ℕ, ◌+◌, ◌-◌, ◌≤◌, ◌<◌}
use native.Mathlib.Omega.{arith}
use native.Mathlib.Decide.{ℕ_discrete, dec_lt}
use Rattle.std.specs.Prelude.{Some, None, Ok, Err, length, get_or, take, drop}
use Rattle.std.proofs.Common.{nat_cmp}
use Rattle.std.specs.List.Sorted.{IsBinarySearchResult}
use Rattle.std.proofs.lemmas.List.{get_or-take, get_or-drop, length-take, length-drop}
use Rattle.std.proofs.lemmas.List.Sorted.{searched}
use Rattle.closure_words.specs.inside.Layout.{term_at, bit_at, first_column, end_column, Shaped}
use Rattle.closure_words.specs.inside.Closure.{LeadsTo, IsStated, IsClosure}
use Rattle.closure_search.specs.inside.Search.{ColumnFor}
use Rattle.closure_words.proofs.Columns.{stand}
use Rattle.closure_words.proofs.Lookup.{leads_of, bit_of_lem}

-- ---- the columns of a property

pub first_few : (ws : List ℕ) (k : ℕ) → Shaped ws → first_column ws k ≤ end_column ws k
first_few ws k s = (stand ws k s).ordered

pub end_few : (ws : List ℕ) (k : ℕ) → Shaped ws → end_column ws k ≤ 512
end_few ws k s = (stand ws k s).few

-- ---- the search among their terms

-- The terms of the columns from lo to before hi.
abbrev terms_of : List ℕ → ℕ → ℕ → List ℕ
terms_of ws lo hi = take (2 + hi - (2 + lo)) (drop (2 + lo) ws)

module _ (ws : List ℕ) (k x lo hi : ℕ) (s : Shaped ws) (e : lo ≡ first_column ws k) (f : hi ≡ end_column ws k) where
  long : length (terms_of ws lo hi) ≡ hi - lo
  long = simp (length-take, length-drop) (omega (arith, s.long, first_few ws k s, end_few ws k s))

  term_among : (i : ℕ) → i < hi - lo → get_or (terms_of ws lo hi) i 0 ≡ term_at ws (lo + i)
  term_among i l =
      get_or-take (2 + hi - (2 + lo)) (drop (2 + lo) ws) i 0 (omega arith)
      ∙ (get_or-drop (2 + lo) ws i 0 ∙ ap (λ (n : ℕ). get_or ws n 0) (omega arith))

  rising : (i j : ℕ) → i ≤ j → j < length (terms_of ws lo hi) → get_or (terms_of ws lo hi) i 0 ≤ get_or (terms_of ws lo hi) j 0
  rising i j a l = by_cases (ℕ_discrete i j)
      (λ q. rw q (omega arith))
      (λ n. omega (arith, long, term_among i (omega (arith, long)), term_among j (omega (arith, long)), s.rising k (lo + i) (lo + j) (omega arith) (omega arith) (omega (arith, long))))

  -- The column found has the term,
  pub column_found : (i : ℕ) → IsBinarySearchResult (λ y. nat_cmp y x) (terms_of ws lo hi) (Ok i) → ColumnFor ws k x (Some (lo + i))
  column_found i h =
      let a = searched (terms_of ws lo hi) x (Ok i) h rising in
      (record { from = omega arith; below = omega (arith, long, a.0) }, sym (term_among i (omega (arith, long, a.0))) ∙ a.1)

  -- and where none is found none has it.
  pub column_missing : (i : ℕ) → IsBinarySearchResult (λ y. nat_cmp y x) (terms_of ws lo hi) (Err i) → ColumnFor ws k x None
  column_missing i h c o q =
      let a = searched (terms_of ws lo hi) x (Err i) h rising in
      let at : lo + (c - lo) ≡ c = omega (arith, o.from) in
      let l : c - lo < hi - lo = omega (arith, o.from, o.below) in
      let t : get_or (terms_of ws lo hi) (c - lo) 0 ≡ x = term_among (c - lo) l ∙ (ap (term_at ws) at ∙ q) in
      by_cases (dec_lt (c - lo) i) (λ b. omega (arith, t, a.1 (c - lo) b)) (λ b. omega (arith, t, a.2 (c - lo) (omega arith) (omega (arith, long))))

-- ---- its bit

module _ (st ws : List ℕ) (i k : ℕ) (h : IsClosure st ws) (s : IsStated st i k) (x : ℕ) where
  -- The column of a term has the bit exactly where the subject leads to the term,
  pub column_leads : (c : ℕ) → ColumnFor ws k x (Some c) → (bit_at ws i c ≡ 1) ↔ LeadsTo st i x
  column_leads c o = (leads_of st ws i k h s c x o.0.below o.1, bit_of_lem st ws i k h s c x o.0 o.1)

  -- and where no column has it the subject does not lead there.
  pub column_none : ColumnFor ws k x None → ¬ LeadsTo st i x
  column_none n p = let o = h.all i k x s p in n o.column o.of_property o.term
