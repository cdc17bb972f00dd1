-- The conclusions written are those of `conclusions`. Assumes nothing.
use mathlib.Core.Path.{◌≡◌, refl, sym, ap, ◌∙◌}
use mathlib.Core.Bool.{true}
use mathlib.Core.List.Memᴰ
use mathlib.Core.List.{List, map, Memᴰ}
use mathlib.Core.Logic.{⊎_elim, by_cases}
use Prim.Native.Nat.{ℕ, ◌*◌, ◌≤◌, ◌<◌}
use native.Mathlib.Decide.{dec_lt}
use native.Mathlib.Omega.{arith}
use lib.ListN.{length, get_or, drop, take}
use borrow.Author.Tests.{lt-ltb, le-ltb}
use Rattle.spec.specs.declared.Triple.{Triple}
use Rattle.spec.specs.Terms.{type, triple}
use Rattle.spec.specs.computed.Carried.{ascend, properties, subject_classes, object_classes, conclusions, carried}
use Rattle.spec.proofs.Ascending.{ascend_asc, ascend_in, ascend_out, ascending_ext}
use Rattle.spec.specs.Tables.{triple_from, first_rows, rows, count, flatten, is_statement_table}
use Rattle.spec.proofs.TableRows.{length-first_rows, get_or-first_rows}
use Rattle.table.proofs.Place.{get_or-member, member-get_or}
use Rattle.rows.specs.inside.Rows.{tabulate, row_at as wordsAt}
use Rattle.spec.specs.Rows.{ordered}
use Rattle.rows.specs.inside.Effects.{HoldsRows}
use Rattle.rdfs_derive.specs.inside.Conclusions.{Concluded}
use Rattle.rdfs_derive.proofs.PartLaws.{few-rows}
use Rattle.rdfs_carry.specs.inside.Written.{conclusion_at}
use Rattle.rdfs_carry.proofs.WordRows.{sorted-words}

-- ---- the conclusion at a place

module _ (f : Triple) (a b x i : ℕ) where
  pub at_property : i < a → conclusion_at f a b x i ≡ triple f.subject x f.object
  unfolding conclusion_at
  at_property h = rw (lt-ltb i a h)

  pub at_subject : a ≤ i → i < b → conclusion_at f a b x i ≡ triple f.subject type x
  unfolding conclusion_at
  at_subject h l = rw (le-ltb i a h, lt-ltb i b l)

  pub at_object : a ≤ i → b ≤ i → conclusion_at f a b x i ≡ triple f.object type x
  unfolding conclusion_at
  at_object h l = rw (le-ltb i a h, le-ltb i b l)

-- ---- writing

-- The first i conclusions are written.
abbrev pub Written : Triple → ℕ → ℕ → List ℕ → List ℕ → ℕ → Type 0
Written f a b found out i = (j : ℕ) → j < i → triple_from out (j * 3) ≡ conclusion_at f a b (get_or found j 0) j

-- ---- the members

module _ (S : List Triple) (m : ℕ) (f : Triple) (found : List ℕ) (a b e : ℕ) (c : Concluded S m f found a b e) (t : List ℕ) (w : Written f a b found t e) where
  -- The row at i is a conclusion,
  row_concluded : (i : ℕ) → i < e → Memᴰ (triple_from t (i * 3)) (conclusions S f)
  unfolding conclusions
  row_concluded i l =
      by_cases (dec_lt i a)
      (λ (h : i < a). Memᴰ.cast (w i l ∙ at_property f a b (get_or found i 0) i h)
      (Memᴰ.append_left _ (Memᴰ.map (λ q. triple f.subject q f.object) ((c.as_property (get_or found i 0)).0 (record { at = i; low = omega arith; high = h; is = refl })))))
      (λ h. by_cases (dec_lt i b)
      (λ (k : i < b). Memᴰ.cast (w i l ∙ at_subject f a b (get_or found i 0) i (omega arith) k)
      (Memᴰ.append_right (map (λ q. triple f.subject q f.object) (properties S f))
      (Memᴰ.append_left _ (Memᴰ.map (λ q. triple f.subject type q) ((c.as_subject (get_or found i 0)).0 (record { at = i; low = omega arith; high = k; is = refl }))))))
      (λ k. Memᴰ.cast (w i l ∙ at_object f a b (get_or found i 0) i (omega arith) (omega arith))
      (Memᴰ.append_right (map (λ q. triple f.subject q f.object) (properties S f))
      (Memᴰ.append_right (map (λ q. triple f.subject type q) (subject_classes S f))
      (Memᴰ.map (λ q. triple f.object type q) ((c.as_object (get_or found i 0)).0 (record { at = i; low = omega arith; high = l; is = refl })))))))

  row_in : (i : ℕ) → i < e → Memᴰ (triple_from t (i * 3)) (first_rows e t)
  row_in i l =
      let d : Triple = triple 0 0 0 in
      Memᴰ.cast (sym (get_or-first_rows e t i d l)) (get_or-member (first_rows e t) i d (omega (arith, length-first_rows e t)))

  -- and each conclusion is a row.
  concluded-row : (u : Triple) → Memᴰ u (conclusions S f) → Memᴰ u (first_rows e t)
  unfolding conclusions
  concluded-row u i =
      ⊎_elim
      (λ j.
      let r = Memᴰ.of_map (λ q. triple f.subject q f.object) (properties S f) j in
      let p = (c.as_property r.0).1 r.1 in
      let l : p.at < e = omega (arith, p.high, c.low, c.high) in
      Memᴰ.cast (sym r.2 ∙ sym (w p.at l ∙ (at_property f a b (get_or found p.at 0) p.at p.high ∙ ap (λ (x : ℕ). triple f.subject x f.object) p.is))) (row_in p.at l))
      (λ k. ⊎_elim
      (λ j.
      let r = Memᴰ.of_map (λ q. triple f.subject type q) (subject_classes S f) j in
      let p = (c.as_subject r.0).1 r.1 in
      let l : p.at < e = omega (arith, p.high, c.high) in
      Memᴰ.cast (sym r.2 ∙ sym (w p.at l ∙ (at_subject f a b (get_or found p.at 0) p.at p.low p.high ∙ ap (λ (x : ℕ). triple f.subject type x) p.is))) (row_in p.at l))
      (λ j.
      let r = Memᴰ.of_map (λ q. triple f.object type q) (object_classes S f) j in
      let p = (c.as_object r.0).1 r.1 in
      Memᴰ.cast (sym r.2 ∙ sym (w p.at p.high ∙ (at_object f a b (get_or found p.at 0) p.at (omega (arith, p.low, c.low)) p.low ∙ ap (λ (x : ℕ). triple f.object type x) p.is))) (row_in p.at p.high))
      (Memᴰ.append_cases (map (λ q. triple f.subject type q) (subject_classes S f)) k))
      (Memᴰ.append_cases (map (λ q. triple f.subject q f.object) (properties S f)) i)

  row_out : (u : Triple) → Memᴰ u (first_rows e t) → Memᴰ u (conclusions S f)
  row_out u i =
      let r = member-get_or (first_rows e t) i in
      let l : r.0 < e = omega (arith, r.1, length-first_rows e t) in
      Memᴰ.cast (sym (r.2 u) ∙ get_or-first_rows e t r.0 u l) (row_concluded r.0 l)

  -- The rows written, ascending and each once, are what the fact carries.
  pub written-carried : ascend (first_rows e t) ≡ carried S f
  unfolding carried
  written-carried =
      ascending_ext (ascend (first_rows e t)) (ascend (conclusions S f)) (ascend_asc (first_rows e t)) (ascend_asc (conclusions S f))
      (λ u. (λ i. ascend_in (conclusions S f) (row_out u (ascend_out (first_rows e t) i)), λ i. ascend_in (first_rows e t) (concluded-row u (ascend_out (conclusions S f) i))))

-- ---- the table

pub table-rows : (ws : List ℕ) (m : ℕ) → m ≡ count ws → first_rows m (drop 1 ws) ≡ rows ws
unfolding rows
table-rows ws m e = rw e

-- ---- the whole

-- The words left are those of what the fact carries.
module _ (ws : List ℕ) (m : ℕ) (f : Triple) (found : List ℕ) (a b e : ℕ) (h : is_statement_table ws ≡ true) (z : m ≡ count ws) (c : Concluded (first_rows m (drop 1 ws)) m f found a b e) where
  pub carried-words : (t s : List ℕ) (r : ℕ) → Written f a b found t e → 3078 ≤ length t → length s ≡ length t → HoldsRows 3 e t s r (ordered (tabulate (wordsAt 3 t) 0 e)) →
      (r ≡ length (carried (rows ws) f)) × (take (r * 3) s ≡ flatten (carried (rows ws) f))
  carried-words t s r w l q k =
      let g : ascend (first_rows e t) ≡ carried (rows ws) f = written-carried (first_rows m (drop 1 ws)) m f found a b e c t w ∙ ap (λ (S : List Triple). carried S f) (table-rows ws m z) in
      let p = sorted-words t s e r (omega (arith, few-rows ws m f found a b e h z c)) q k in
      (p.0 ∙ ap length g, p.1 ∙ ap flatten g)
