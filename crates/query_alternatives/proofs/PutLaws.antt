-- Alternatives put into an output: none, one, some after others, and row by row. Assumes nothing.
use Prim.Native.Nat.{ℕ, ◌+◌, ◌-◌, ◌*◌, ◌<◌}
use mathlib.Core.Path.{◌≡◌, refl, sym, ap, ◌∙◌, subst}
use mathlib.Core.Logic.{◌↔◌, ⊎_elim}
use mathlib.Core.List.Memᴰ
use mathlib.Core.List.{List, [], ◌∷◌, ◌++◌, map, flat_map, map-append, append-nil, append_assoc, Memᴰ}
use native.Mathlib.Numerals.{add-one}
use native.Mathlib.Omega.{arith}
use Rattle.spec.specs.declared.Triple.{Triple}
use Rattle.spec.proofs.Lists.{flat_map_in}
use Rattle.spec.specs.Tables.{triple_from, first_rows}
use Rattle.spec.proofs.TableRows.{length-first_rows, first_rows-snoc, get_or-first_rows}
use Rattle.table.proofs.Place.{get_or-member}
use Rattle.rows.specs.inside.Rows.{row}
use Rattle.spec.specs.Rows.{words}
use Rattle.rows_distinct.specs.declared.Collected.{Collected}
use Rattle.rows_distinct.specs.inside.Collected.{Collects}
use Rattle.rows_distinct.specs.inside.Effects.{Within}
use Rattle.rows_distinct.proofs.Collecting.{collects_ext, collects_then}
use Rattle.query_alternatives.specs.inside.Putting.{Puts}

-- ---- lists

-- What two lists give is what the first gives and then what the second gives.
flat_map-append : {A B : Type 0} (f : A → List B) (l m : List A) → flat_map f (l ++ m) ≡ flat_map f l ++ flat_map f m
unfolding flat_map
flat_map-append f [] m = refl
flat_map-append f (x ∷ l) m = ap (λ r. f x ++ r) (flat_map-append f l m) ∙ sym (append_assoc (f x) (flat_map f l) (flat_map f m))

-- One row more.
flat_map_more : (f : Triple → List Triple) (i : ℕ) (ws : List ℕ) → flat_map f (first_rows (i + 1) ws) ≡ flat_map f (first_rows i ws) ++ f (triple_from ws (i * 3))
unfolding flat_map
flat_map_more f i ws =
    rw (add-one i, first_rows-snoc i ws, flat_map-append f (first_rows i ws) (triple_from ws (i * 3) ∷ []))
    (ap (λ (l : List Triple). flat_map f (first_rows i ws) ++ l) (append-nil (f (triple_from ws (i * 3)))))

-- ---- what was put

module _ {out : List ℕ} {c : Collected} where
  -- Nothing.
  pub puts_none : Within 3 out c → Puts [] out c out c
  puts_none w = record { within = w; collects = λ R h. h }

  module _ {out₁ : List ℕ} {c₁ : Collected} where
    -- One, as a row of words.
    pub puts_one : (u : Triple) (ws : List ℕ) → row 3 0 ws ≡ words u → Within 3 out₁ c₁ → ((R : List (List ℕ)) → Collects 3 R out c → Collects 3 (row 3 0 ws ∷ R) out₁ c₁) → Puts (u ∷ []) out c out₁ c₁
    puts_one u ws e w f = record { within = w; collects = λ R h. rw e at (f R h) }

    -- Alternatives with the same members: neither order nor repeats matter.
    pub puts-ext : (us vs : List Triple) → ((u : Triple) → Memᴰ u us ↔ Memᴰ u vs) → Puts us out c out₁ c₁ → Puts vs out c out₁ c₁
    puts-ext us vs e A = record {
      within = A.within;
      collects = λ R h. collects_ext (λ r. (along us vs (λ u. (e u).0) R r, along vs us (λ u. (e u).1) R r)) (A.collects R h);
    }
      where
        along : (xs ys : List Triple) → ((u : Triple) → Memᴰ u xs → Memᴰ u ys) → (R : List (List ℕ)) (r : List ℕ) → Memᴰ r (map words xs ++ R) → Memᴰ r (map words ys ++ R)
        along xs ys f R r m =
            ⊎_elim
            (λ i. let q = Memᴰ.of_map words xs i in Memᴰ.append_left R (Memᴰ.cast (sym q.2) (Memᴰ.map words (f q.0 q.1))))
            (λ i. Memᴰ.append_right (map words ys) i)
            (Memᴰ.append_cases (map words xs) m)

    -- Some alternatives, and then others.
    pub puts_then : {out₂ : List ℕ} {c₂ : Collected} (us vs : List Triple) → Puts us out c out₁ c₁ → Puts vs out₁ c₁ out₂ c₂ → Puts (us ++ vs) out c out₂ c₂
    puts_then us vs A B = record {
      within = B.within;
      collects = λ R h. rw (map-append words us vs) (collects_then (map words us) (map words vs) R (B.collects (map words us ++ R) (A.collects R h)));
    }

-- ---- row by row

-- No row yet.
pub puts_start : (f : Triple → List Triple) (ws : List ℕ) {out : List ℕ} {c : Collected} → Within 3 out c → Puts (flat_map f (first_rows 0 ws)) out c out c
unfolding flat_map first_rows
puts_start f ws w = puts_none w

module _ (f : Triple → List Triple) (ws : List ℕ) (i : ℕ) {out : List ℕ} {c : Collected} {out₁ : List ℕ} {c₁ : Collected} (A : Puts (flat_map f (first_rows i ws)) out c out₁ c₁) where
  -- What row i gives is put.
  pub puts_more : (t : Triple) → t ≡ triple_from ws (i * 3) → {out₂ : List ℕ} {c₂ : Collected} → Puts (f t) out₁ c₁ out₂ c₂ → Puts (flat_map f (first_rows (i + 1) ws)) out c out₂ c₂
  puts_more t e B = rw (flat_map_more f i ws, sym e) (puts_then (flat_map f (first_rows i ws)) (f t) A B)

  -- Row i gives what the row before gave.
  pub puts_again : 0 < i → f (triple_from ws ((i - 1) * 3)) ≡ f (triple_from ws (i * 3)) → Puts (flat_map f (first_rows (i + 1) ws)) out c out₁ c₁
  puts_again h e = puts-ext (flat_map f (first_rows i ws)) (flat_map f (first_rows (i + 1) ws)) (λ u. (more u, less u)) A
    where
      listed : Memᴰ (triple_from ws ((i - 1) * 3)) (first_rows i ws)
      listed =
          Memᴰ.cast (sym (get_or-first_rows i ws (i - 1) (triple_from ws 0) (omega arith))) (get_or-member (first_rows i ws) (i - 1) (triple_from ws 0) (omega (arith, length-first_rows i ws)))

      more : (u : Triple) → Memᴰ u (flat_map f (first_rows i ws)) → Memᴰ u (flat_map f (first_rows (i + 1) ws))
      more u m = rw (flat_map_more f i ws) (Memᴰ.append_left (f (triple_from ws (i * 3))) m)

      less : (u : Triple) → Memᴰ u (flat_map f (first_rows (i + 1) ws)) → Memᴰ u (flat_map f (first_rows i ws))
      less u m =
          ⊎_elim (λ j. j) (λ j. flat_map_in f (first_rows i ws) listed (subst (Memᴰ u) (sym e) j))
          (Memᴰ.append_cases (flat_map f (first_rows i ws)) (rw (flat_map_more f i ws) at m))
