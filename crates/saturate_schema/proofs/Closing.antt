-- The square of bits says what leads where, one statement at a time. Assumes nothing.
use mathlib.Core.Path.{◌≡◌, refl, sym, ap, ◌∙◌}
use mathlib.Core.Bool.{Bool, true, false, cond}
use mathlib.Core.List.Memᴰ
use mathlib.Core.List.{List, ◌∷◌, Memᴰ}
use mathlib.Core.Logic.{◌↔◌, ◌⊎◌, inl, inr, ⊎_elim, by_cases}
use Prim.Native.Nat.{ℕ, zero, suc, ◌+◌, ◌*◌, ◌^◌, ◌≤◌, ◌<◌}
use native.Mathlib.Omega.{arith}
use native.Mathlib.Decide.{ℕ_discrete}
use native.Mathlib.Numerals.{add-one}
use lib.ListN.{length, get_or, set}
use lib.Seq.{get_or-set_same, get_or-set_other}
use lib.Dec.{eqb}
use borrow.Author.Tests.{eq-eqb, ne_eqb}
use Rattle.spec.proofs.Lists.{true-not_false}
use Rattle.saturate_schema.specs.inside.Walks.{Edge}
use Rattle.table.specs.inside.Bounds.{Tells}
use Rattle.table.proofs.SearchLaws.{tells_false}
use Rattle.saturate_schema.specs.inside.Nodes.{subject_node, object_node, applies, edges, Found, found, none, word, Columns}
use Rattle.saturate_schema.specs.inside.Squares.{Gained, Leads, Extended, Closed, Cleared}
use Rattle.saturate_schema.proofs.Walks.{To, From, plus-cons, plus_nil, plus_ends, plus_starts}
use Rattle.saturate_schema.proofs.Squares.{Spread}

-- The statement that an edge is of.
pub record Of (st : List ℕ) (via n : ℕ) (e : Edge) : Type 0 where
  pub number : ℕ
  pub below : number < n
  pub applied : applies st via number ≡ true
  pub is : e ≡ (subject_node st number, object_node st number)

-- Each edge is of a statement,
pub edges_of : (st : List ℕ) (via n : ℕ) (e : Edge) → Memᴰ e (edges st via n) → Of st via n e
unfolding edges
edges_of st via zero e m = absurd (Memᴰ.not-nil m)
edges_of st via (suc n) e m = go (edges_of st via n e) (applies st via n) refl m
  where
    later : Of st via n e → Of st via (suc n) e
    later o = record { number = o.number; below = omega (arith, o.below); applied = o.applied; is = o.is }

    go : (Memᴰ e (edges st via n) → Of st via n e) → (b : Bool) → applies st via n ≡ b → Memᴰ e (cond b ((subject_node st n, object_node st n) ∷ edges st via n) (edges st via n)) → Of st via (suc n) e
    go f true y i = ⊎_elim (λ q. record { number = n; below = omega arith; applied = y; is = q }) (λ j. later (f j)) (Memᴰ.cases_cons i)
    go f false y i = later (f i)

-- and each statement that applies has its edge.
pub edges_in : (st : List ℕ) (via n i : ℕ) → i < n → applies st via i ≡ true → Memᴰ (subject_node st i, object_node st i) (edges st via n)
unfolding edges
edges_in st via zero i l e = absurd (omega arith)
edges_in st via (suc n) i l e = go (edges_in st via n i) (applies st via n) refl
  where
    go : (i < n → applies st via i ≡ true → Memᴰ (subject_node st i, object_node st i) (edges st via n)) → (b : Bool) → applies st via n ≡ b → Memᴰ (subject_node st i, object_node st i) (cond b ((subject_node st n, object_node st n) ∷ edges st via n) (edges st via n))
    go f true y = by_cases (ℕ_discrete i n) (λ q. Memᴰ.head (rw q)) (λ k. Memᴰ.tail (f (omega arith) e))
    go f false y = by_cases (ℕ_discrete i n) (λ q. absurd (true-not_false (sym e ∙ ap (applies st via) q ∙ y))) (λ k. f (omega arith) e)

-- What one statement more does to the bits.
pub record Step (st : List ℕ) (m : ℕ) (col : List ℕ) (ns : ℕ) (bit bit' : ℕ → ℕ → ℕ) (gain : ℕ → ℕ) (j ss so go : ℕ) : Type 0 where
  pub start : Found (word col) ns (subject_node st j) ss
  pub end : Found (word col) ns (object_node st j) so
  pub on : Found (subject_node st) m (object_node st j) go
  pub gains : Gained bit gain go m so ns
  pub bits : Extended st m bit bit' gain (subject_node st j) ss ns

module _ (st : List ℕ) (m : ℕ) (col : List ℕ) (ns : ℕ) (bit : ℕ → ℕ → ℕ) (via n : ℕ) (le : n ≤ m) (w : Columns st m col ns) (g : Closed st m col ns bit (edges st via n)) where
  -- A row leads to the start of statement j.
  leads_to : (bit' : ℕ → ℕ → ℕ) (gain : ℕ → ℕ) (j ss so go i : ℕ) → i < m → Step st m col ns bit bit' gain j ss so go → Leads st bit (subject_node st j) ss ns i ↔ To (edges st via n) (subject_node st i) (subject_node st j)
  leads_to bit' gain j ss so go i li s = (fore s.start, back s.start)
    where
      fore : Found (word col) ns (subject_node st j) ss → Leads st bit (subject_node st j) ss ns i → To (edges st via n) (subject_node st i) (subject_node st j)
      fore f (inl e) = inl e
      fore (found l e) (inr b) = inr (rw e at ((g i ss li l).0 b.1))
      fore (none e k) (inr b) = absurd (omega (arith, b.0))

      back : Found (word col) ns (subject_node st j) ss → To (edges st via n) (subject_node st i) (subject_node st j) → Leads st bit (subject_node st j) ss ns i
      back f (inl e) = inl e
      back (found l e) (inr p) = inr (l, (g i ss li l).1 (rw e p))
      back (none e k) (inr p) =
          let o = edges_of st via n _ (plus_ends p).there in
          let q : subject_node st j ≡ object_node st o.number = ap (λ (z : Edge). z.1) o.is in
          absurd (omega (arith, w.all o.number ss (omega (arith, o.below)) (none e (λ c h r. k c h (r ∙ sym q)))))

  -- A column is the end of statement j, or led to from there.
  gain_from : (bit' : ℕ → ℕ → ℕ) (gain : ℕ → ℕ) (j ss so go c : ℕ) → c < ns → j < m → Step st m col ns bit bit' gain j ss so go → (gain c ≡ 1) ↔ From (edges st via n) (object_node st j) (get_or col c 0)
  gain_from bit' gain j ss so go c lc lj s = ((λ h. fore s.end s.on ((s.gains c lc).0 h)), λ h. (s.gains c lc).1 (back s.end s.on h))
    where
      fore : Found (word col) ns (object_node st j) so → Found (subject_node st) m (object_node st j) go → ((c ≡ so) ⊎ ((go < m) × (bit go c ≡ 1))) → From (edges st via n) (object_node st j) (get_or col c 0)
      fore (found l e) o (inl q) = inl (ap (word col) q ∙ e)
      fore (none q k) o (inl z) = absurd (omega (arith, w.all j so lj s.end))
      fore f (found l e) (inr b) = inr (rw e at ((g go c l lc).0 b.1))
      fore f (none e k) (inr b) = absurd (omega (arith, b.0))

      back : Found (word col) ns (object_node st j) so → Found (subject_node st) m (object_node st j) go → From (edges st via n) (object_node st j) (get_or col c 0) → (c ≡ so) ⊎ ((go < m) × (bit go c ≡ 1))
      back (found l e) o (inl q) = inl (w.once c so lc l (q ∙ sym e))
      back (none q k) o (inl z) = absurd (omega (arith, w.all j so lj s.end))
      back f (found l e) (inr p) = inr (l, (g go c l lc).1 (rw e p))
      back f (none e k) (inr p) =
          let o = edges_of st via n _ (plus_starts p).there in
          let q : object_node st j ≡ subject_node st o.number = ap (λ (z : Edge). z.0) o.is in
          absurd (k o.number (omega (arith, o.below)) (sym q))

  -- A statement that applies extends the walks,
  pub closed_more : (bit' : ℕ → ℕ → ℕ) (gain : ℕ → ℕ) (ss so go : ℕ) → n < m → Step st m col ns bit bit' gain n ss so go → applies st via n ≡ true → Closed st m col ns bit' (edges st via (n + 1))
  unfolding edges
  closed_more bit' gain ss so go ln s y i c li lc =
      let l = leads_to bit' gain n ss so go i li s in
      let f = gain_from bit' gain n ss so go c lc ln s in
      let p = plus-cons (edges st via n) (subject_node st n, object_node st n) (subject_node st i) (get_or col c 0) in
      rw (add-one n, y) (
        (λ h. p.1 (⊎_elim (λ o. inl ((g i c li lc).0 o)) (λ z. inr (l.0 z.0, f.0 z.1)) ((s.bits i c li lc).0 h))),
        λ h. (s.bits i c li lc).1 (⊎_elim (λ o. inl ((g i c li lc).1 o)) (λ z. inr (l.1 z.0, f.1 z.1)) (p.0 h)),
      )

  -- one that does not leaves them.
  pub closed_pass : applies st via n ≡ false → Closed st m col ns bit (edges st via (n + 1))
  unfolding edges
  closed_pass y i c li lc = rw (add-one n, y) (g i c li lc)

-- Without statements there are no walks, and no bits.
pub closed_start : (st : List ℕ) (m : ℕ) (col : List ℕ) (ns : ℕ) (bit : ℕ → ℕ → ℕ) (via : ℕ) → ((i c : ℕ) → i < m → c < ns → bit i c ≡ 0) → Closed st m col ns bit (edges st via 0)
unfolding edges
closed_start st m col ns bit via z i c li lc = ((λ h. absurd (omega (arith, z i c li lc))), λ p. absurd (plus_nil _ _ p))

-- ---- for the code

-- A row of another node leads to a column where it has the bit,
pub leads_bit : (st : List ℕ) (bit : ℕ → ℕ → ℕ) (s ss ns i : ℕ) (r : Bool) → ¬ (subject_node st i ≡ s) → ss < ns → Tells r (bit i ss ≡ 1) → Tells r (Leads st bit s ss ns i)
leads_bit st bit s ss ns i r n lt t = record { if_true = λ e. inr (lt, t.if_true e); if_false = λ e z. ⊎_elim n (λ w. t.if_false e w.1) z }

-- and nowhere else.
pub leads-not : (st : List ℕ) (bit : ℕ → ℕ → ℕ) (s ss ns i : ℕ) → ¬ (subject_node st i ≡ s) → ns ≤ ss → Tells false (Leads st bit s ss ns i)
leads-not st bit s ss ns i n le = tells_false (λ z. ⊎_elim n (λ w. omega (arith, w.0)) z)

-- A statement 2 starts at a class,
pub subject_class_node : (st : List ℕ) (i : ℕ) → get_or st (i * 3 + 2) 0 ≡ 2 → subject_node st i ≡ get_or st (i * 3 + 1) 0
unfolding subject_node
subject_class_node st i e = rw (eq-eqb (get_or st (i * 3 + 2) 0) 2 e)

-- any other at a property.
pub subject_property_node : (st : List ℕ) (i : ℕ) → ¬ (get_or st (i * 3 + 2) 0 ≡ 2) → subject_node st i ≡ get_or st (i * 3 + 1) 0 + 2 ^ 32
unfolding subject_node
subject_property_node st i e = rw (ne_eqb (get_or st (i * 3 + 2) 0) 2 e)

-- A statement 3 ends at a property,
pub object_property_node : (st : List ℕ) (i : ℕ) → get_or st (i * 3 + 2) 0 ≡ 3 → object_node st i ≡ get_or st (i * 3 + 3) 0 + 2 ^ 32
unfolding object_node
object_property_node st i e = rw (eq-eqb (get_or st (i * 3 + 2) 0) 3 e)

-- any other at a class.
pub object_class_node : (st : List ℕ) (i : ℕ) → ¬ (get_or st (i * 3 + 2) 0 ≡ 3) → object_node st i ≡ get_or st (i * 3 + 3) 0
unfolding object_node
object_class_node st i e = rw (ne_eqb (get_or st (i * 3 + 2) 0) 3 e)

-- Rows that were not reached yet lead where they led.
pub leads_old : (st : List ℕ) (bit₀ bit : ℕ → ℕ → ℕ) (gain : ℕ → ℕ) (s ss ns i : ℕ) → Spread bit₀ bit gain (Leads st bit₀ s ss ns) ns i → Leads st bit s ss ns i ↔ Leads st bit₀ s ss ns i
leads_old st bit₀ bit gain s ss ns i g = ((λ z. ⊎_elim inl (λ w. inr (w.0, sym (g.rest i ss (omega arith) w.0) ∙ w.1)) z), λ z. ⊎_elim inl (λ w. inr (w.0, g.rest i ss (omega arith) w.0 ∙ w.1)) z)

-- Statements 2 apply,
pub applies_two : (st : List ℕ) (via i : ℕ) → get_or st (i * 3 + 2) 0 ≡ 2 → true ≡ applies st via i
unfolding applies
applies_two st via i e = rw (eq-eqb (get_or st (i * 3 + 2) 0) 2 e)

-- statements 3 do,
pub applies_three : (st : List ℕ) (via i : ℕ) → ¬ (get_or st (i * 3 + 2) 0 ≡ 2) → get_or st (i * 3 + 2) 0 ≡ 3 → true ≡ applies st via i
unfolding applies
applies_three st via i n e = rw (ne_eqb (get_or st (i * 3 + 2) 0) 2 n, eq-eqb (get_or st (i * 3 + 2) 0) 3 e)

-- and of the others those of via.
pub applies_via : (st : List ℕ) (via i : ℕ) → ¬ (get_or st (i * 3 + 2) 0 ≡ 2) → ¬ (get_or st (i * 3 + 2) 0 ≡ 3) → eqb (get_or st (i * 3 + 2) 0) via ≡ applies st via i
unfolding applies
applies_via st via i n k = rw (ne_eqb (get_or st (i * 3 + 2) 0) 2 n, ne_eqb (get_or st (i * 3 + 2) 0) 3 k)

-- The end is gained,
pub gain_so : (bit : ℕ → ℕ → ℕ) (go m so c : ℕ) → c ≡ so → (◌≡◌ {A = ℕ} 1 1) ↔ ((c ≡ so) ⊎ ((go < m) × (bit go c ≡ 1)))
gain_so bit go m so c e = ((λ _. inl e), λ _. refl)

-- and what the row of the end has,
pub gain_go : (bit : ℕ → ℕ → ℕ) (go m so c : ℕ) → ¬ (c ≡ so) → go < m → (bit go c ≡ 1) ↔ ((c ≡ so) ⊎ ((go < m) × (bit go c ≡ 1)))
gain_go bit go m so c n l = ((λ h. inr (l, h)), λ z. ⊎_elim (λ e. absurd (n e)) (λ w. w.1) z)

-- if there is one.
pub gain_none : (bit : ℕ → ℕ → ℕ) (go m so c : ℕ) → ¬ (c ≡ so) → m ≤ go → (◌≡◌ {A = ℕ} 0 1) ↔ ((c ≡ so) ⊎ ((go < m) × (bit go c ≡ 1)))
gain_none bit go m so c n l = ((λ h. absurd (omega arith)), λ z. ⊎_elim (λ e. absurd (n e)) (λ w. absurd (omega (arith, w.0))) z)

-- What the calls of one turn did.
pub step_made : (st : List ℕ) (m : ℕ) (col : List ℕ) (ns : ℕ) (bit bit' : ℕ → ℕ → ℕ) (gain : ℕ → ℕ) (n s e ss so go : ℕ) → s ≡ subject_node st n → e ≡ object_node st n → Found (word col) ns s ss → Found (word col) ns e so → Found (subject_node st) m e go → Gained bit gain go m so ns → Extended st m bit bit' gain s ss ns → Step st m col ns bit bit' gain n ss so go
step_made st m col ns bit bit' gain n s e ss so go es ee a b d g h = record { start = rw (← es) a; end = rw (← ee) b; on = rw (← ee) d; gains = g; bits = rw (← es) h }

-- ---- the bit of a row's own node cleared

-- No row was cleared yet.
pub clear_start : (st col : List ℕ) (ns : ℕ) (sq : List ℕ) → Cleared st col ns sq sq 0
clear_start st col ns sq = record { own = λ i c h l e. absurd (omega arith); other = λ i c l n. refl; rest = λ i c l h. refl }

-- The next row had its own node.
pub clear-set : (st col : List ℕ) (ns : ℕ) (sq₀ sq : List ℕ) (k d : ℕ) → ((a b : ℕ) → a < ns → b < ns → get_or col a 0 ≡ get_or col b 0 → a ≡ b) → ns ≤ 512 → Cleared st col ns sq₀ sq k → Found (word col) ns (subject_node st k) d → d < ns → k * 512 + d < length sq → Cleared st col ns sq₀ (set sq (k * 512 + d) 0) (k + 1)
clear-set st col ns sq₀ sq k d once few g (none e z) ld ll = absurd (omega arith)
clear-set st col ns sq₀ sq k d once few g (found l e) ld ll =
    record {
      own = λ i c h lc q. by_cases (ℕ_discrete i k)
          (λ f. let y : c ≡ d = once c d lc ld (sym q ∙ ap (subject_node st) f ∙ sym e) in rw (f, y) (get_or-set_same sq (k * 512 + d) 0 0 ll))
          (λ n. get_or-set_other sq (k * 512 + d) (i * 512 + c) 0 0 (λ z. n (omega arith)) ∙ g.own i c (omega arith) lc q);
      other = λ i c lc n. get_or-set_other sq (k * 512 + d) (i * 512 + c) 0 0 (λ z. n (let y : i ≡ k = omega arith in let x : c ≡ d = omega arith in rw (y, x) (sym e))) ∙ g.other i c lc n;
      rest = λ i c lc h. get_or-set_other sq (k * 512 + d) (i * 512 + c) 0 0 (λ z. omega arith) ∙ g.rest i c lc (omega arith);
    }

-- The next row had no column of its own node.
pub clear_pass : (st col : List ℕ) (ns : ℕ) (sq₀ sq : List ℕ) (k d : ℕ) → Cleared st col ns sq₀ sq k → Found (word col) ns (subject_node st k) d → ns ≤ d → Cleared st col ns sq₀ sq (k + 1)
clear_pass st col ns sq₀ sq k d g (found l e) le = absurd (omega arith)
clear_pass st col ns sq₀ sq k d g (none e z) le =
    record {
      own = λ i c h lc q. by_cases (ℕ_discrete i k) (λ f. absurd (z c lc (sym q ∙ ap (subject_node st) f))) (λ n. g.own i c (omega arith) lc q);
      other = g.other;
      rest = λ i c lc h. g.rest i c lc (omega arith);
    }
