-- What the loops over a row of a square do. Assumes nothing.
use mathlib.Core.Path.{◌≡◌, refl, sym, ◌∙◌}
use mathlib.Core.List.{List}
use mathlib.Core.Logic.{◌↔◌, ◌⊎◌, inl, inr, ⊎_elim, by_cases}
use Prim.Native.Nat.{ℕ, ◌+◌, ◌*◌, ◌≤◌, ◌<◌}
use native.Mathlib.Omega.{arith}
use native.Mathlib.Decide.{ℕ_discrete, dec_lt}
use lib.ListN.{length, get_or, set}
use lib.Seq.{get_or-set_same, get_or-set_other}
use Rattle.saturate_schema.specs.inside.Nodes.{word}
use Rattle.saturate_schema.specs.inside.Squares.{at, Bits, United, Joined, Gained}

-- No column was done yet.
pub united_start : (sq gain : List ℕ) (a : ℕ) → United sq sq gain a 0
united_start sq gain a = record { hit = λ c h g. absurd (omega arith); miss = λ c h n. refl; past = λ c h k. refl; other = λ i c h n. refl }

-- One column more.
pub united_more : (sq₀ sq gain : List ℕ) (a k v : ℕ) → United sq₀ sq gain a k → k < 512 → a * 512 + k < length sq → (get_or gain k 0 ≡ 1 → v ≡ 1) → (¬ (get_or gain k 0 ≡ 1) → v ≡ at sq a k) → United sq₀ (set sq (a * 512 + k) v) gain a (k + 1)
united_more sq₀ sq gain a k v g lk ln one old =
    record {
      hit = λ c h q. by_cases (ℕ_discrete c k)
          (λ e. rw e (get_or-set_same sq (a * 512 + k) v 0 ln ∙ one (rw e at q)))
          (λ n. get_or-set_other sq (a * 512 + k) (a * 512 + c) v 0 (λ z. n (omega arith)) ∙ g.hit c (omega arith) q);
      miss = λ c h n. by_cases (ℕ_discrete c k)
          (λ e. rw e (get_or-set_same sq (a * 512 + k) v 0 ln ∙ old (rw e at n) ∙ g.miss k lk (rw e at n)))
          (λ z. get_or-set_other sq (a * 512 + k) (a * 512 + c) v 0 (λ y. z (omega arith)) ∙ g.miss c h n);
      past = λ c h l. get_or-set_other sq (a * 512 + k) (a * 512 + c) v 0 (λ z. omega arith) ∙ g.past c h (omega arith);
      other = λ i c h n. get_or-set_other sq (a * 512 + k) (i * 512 + c) v 0 (λ z. n (omega arith)) ∙ g.other i c h n;
    }

-- What is united of bits is bits.
pub united_bits : (sq₀ sq gain : List ℕ) (a k : ℕ) → United sq₀ sq gain a k → Bits sq₀ → Bits sq
united_bits sq₀ sq gain a k u b i c l =
    by_cases (ℕ_discrete i a)
    (λ e. rw e (by_cases (ℕ_discrete (get_or gain c 0) 1)
    (λ q. by_cases (dec_lt c k) (λ h. omega (arith, u.hit c h q)) (λ h. omega (arith, u.past c l (omega arith), b a c l)))
    (λ n. omega (arith, u.miss c l n, b a c l))))
    (λ n. omega (arith, u.other i c l n, b i c l))

-- A row that is united has what gain has.
pub united-joined : (sq₀ sq gain : List ℕ) (a ns : ℕ) → ns ≤ 512 → United sq₀ sq gain a ns → Joined (at sq₀) (at sq) (word gain) a ns
united-joined sq₀ sq gain a ns le u = record {
  here = λ c l. (
    λ h. by_cases (ℕ_discrete (get_or gain c 0) 1) inr (λ n. inl (sym (u.miss c (omega arith) n) ∙ h)),
    λ z. by_cases (ℕ_discrete (get_or gain c 0) 1) (u.hit c l) (λ n. ⊎_elim (λ o. u.miss c (omega arith) n ∙ o) (λ w. absurd (n w)) z),
  );
  other = λ i c l n. u.other i c (omega arith) n;
}

-- In the rows below i that lead, gain was united; the rest is as before.
pub record Spread (bit₀ bit : ℕ → ℕ → ℕ) (gain : ℕ → ℕ) (leads : ℕ → Type 0) (ns i : ℕ) : Type 0 where
  pub done : (j c : ℕ) → j < i → c < ns → (bit j c ≡ 1) ↔ ((bit₀ j c ≡ 1) ⊎ (leads j × (gain c ≡ 1)))
  pub rest : (j c : ℕ) → i ≤ j → c < ns → bit j c ≡ bit₀ j c

-- No row was done yet.
pub spread_start : (bit : ℕ → ℕ → ℕ) (gain : ℕ → ℕ) (leads : ℕ → Type 0) (ns : ℕ) → Spread bit bit gain leads ns 0
spread_start bit gain leads ns = record { done = λ j c h l. absurd (omega arith); rest = λ j c h l. refl }

module _ (bit₀ bit : ℕ → ℕ → ℕ) (gain : ℕ → ℕ) (leads : ℕ → Type 0) (ns i : ℕ) (g : Spread bit₀ bit gain leads ns i) where
  -- The next row leads there and was united with gain.
  pub spread_yes : (bit' : ℕ → ℕ → ℕ) (n : ℕ) → ns ≤ n → leads i → Joined bit bit' gain i n → Spread bit₀ bit' gain leads ns (i + 1)
  spread_yes bit' n le yes' u =
      record {
        done = λ j c h l. by_cases (ℕ_discrete j i) (λ e. rw e (here c l)) (λ k. rw (u.other j c (omega arith) k) (g.done j c (omega arith) l));
        rest = λ j c h l. u.other j c (omega arith) (λ e. omega arith) ∙ g.rest j c (omega arith) l;
      }
    where
      here : (c : ℕ) → c < ns → (bit' i c ≡ 1) ↔ ((bit₀ i c ≡ 1) ⊎ (leads i × (gain c ≡ 1)))
      here c l =
          let old : bit i c ≡ bit₀ i c = g.rest i c (omega arith) l in
          let k = u.here c (omega arith) in
          (λ h. ⊎_elim (λ o. inl (sym old ∙ o)) (λ q. inr (yes', q)) (k.0 h), λ z. k.1 (⊎_elim (λ o. inl (old ∙ o)) (λ w. inr w.1) z))

  -- The next row does not lead there.
  pub spread_no : ¬ leads i → Spread bit₀ bit gain leads ns (i + 1)
  spread_no none =
      record {
        done = λ j c h l. by_cases (ℕ_discrete j i) (λ e. rw e (here c l)) (λ n. g.done j c (omega arith) l);
        rest = λ j c h l. g.rest j c (omega arith) l;
      }
    where
      here : (c : ℕ) → c < ns → (bit i c ≡ 1) ↔ ((bit₀ i c ≡ 1) ⊎ (leads i × (gain c ≡ 1)))
      here c l =
          let old : bit i c ≡ bit₀ i c = g.rest i c (omega arith) l in
          (λ h. inl (sym old ∙ h), λ z. ⊎_elim (λ o. old ∙ o) (λ w. absurd (none w.0)) z)

-- One column more.
pub gained_more : (bit : ℕ → ℕ → ℕ) (gain : List ℕ) (go m so k v : ℕ) → Gained bit (word gain) go m so k → k < length gain → ((v ≡ 1) ↔ ((k ≡ so) ⊎ ((go < m) × (bit go k ≡ 1)))) → Gained bit (word (set gain k v)) go m so (k + 1)
gained_more bit gain go m so k v g l h c lc =
    by_cases (ℕ_discrete c k)
    (λ e. rw (e, get_or-set_same gain k v 0 l) h)
    (λ n. rw (get_or-set_other gain k c v 0 n) (g c (omega arith)))
