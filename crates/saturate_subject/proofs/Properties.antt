-- The rows of one subject whose property is not rdf:type, put in the order of their properties. Assumes nothing.
use mathlib.Core.Path.{◌≡◌, refl, sym, ap, ◌∙◌}
use mathlib.Core.List.{List, ◌++◌}
use mathlib.Core.Logic.{◌⊎◌, inl, inr, ⊎_elim, by_cases}
use Prim.Native.Nat.{ℕ, zero, suc, ◌+◌, ◌-◌, ◌^◌, ◌≤◌, ◌<◌}
use native.Mathlib.Omega.{arith}
use native.Mathlib.Decide.{dec_lt, ℕ_discrete}
use lib.ListN.{get_or}
use borrow.Author.Tests.{eq-eqb}
use Rattle.spec.specs.declared.Triple.{Triple}
use Rattle.spec.specs.Terms.{triple}
use Rattle.spec.specs.inside.Comparison.{Less, by_subject, by_property, by_object, triple_eq}
use Rattle.spec.specs.Saturation.{Kept}
use Rattle.spec.specs.inside.Counts.{Counts, lookup}
use Rattle.saturate_schema.specs.inside.Compiled.{property_at}
use Rattle.saturate_merge.specs.inside.Output.{Output, put_all}
use Rattle.saturate_merge.specs.inside.Between.{between}
use Rattle.saturate_merge.specs.inside.Streams.{objects, often}
use Rattle.saturate_merge.proofs.Output.{put-append}
use Rattle.saturate_merge.proofs.Between.{between_none, between-skip}
use Rattle.saturate_merge.proofs.Whole.{between_join}
use Rattle.saturate_blocks.specs.inside.Sums.{sum_from}
use Rattle.saturate_blocks.specs.inside.Blocks.{same_at, led_at}
use Rattle.saturate_counts.specs.inside.Prepared.{Keys, Facts}
use Rattle.saturate_blocks.specs.inside.Plain.{ones, Split}
use Rattle.saturate_subject.specs.inside.Rows.{Of, ColumnRows, PropertyRows, Uncounted}
use Rattle.saturate_blocks.proofs.Ranges.{from_zero, from_part}
use Rattle.saturate_blocks.proofs.Gathering.{led_zero}
use Rattle.saturate_subject.proofs.Plain.{same_property, plain_part, not_before}

-- ---- columns

-- A column whose key is q, or that there is none.
pub record Column (keys : List ℕ) (a b q : ℕ) : Type 0 where
  pub place : ℕ
  pub low : a ≤ place
  pub high : place < b
  pub is : get_or keys place 0 ≡ q

pub column_of : (keys : List ℕ) (a b q : ℕ) → Column keys a b q ⊎ ((c : ℕ) → a ≤ c → c < b → ¬ (get_or keys c 0 ≡ q))
column_of keys a zero q = inr (λ c l u. absurd (omega arith))
column_of keys a (suc b) q =
    by_cases (dec_lt b a)
    (λ l. inr (λ c k u. absurd (omega arith)))
    (λ l. by_cases (ℕ_discrete (get_or keys b 0) q)
    (λ e. inl (record { place = b; low = omega arith; high = omega arith; is = e }))
    (λ n. ⊎_elim
    (λ r. inl (record { place = r.place; low = r.low; high = omega (arith, r.high); is = r.is }))
    (λ h. inr (λ c k u. by_cases (ℕ_discrete c b) (λ e. rw e n) (λ z. h c k (omega arith))))
    (column_of keys a b q)))

-- ---- orders of rows

-- A later property is not before an earlier one.
later : (x v w : ℕ) → v ≤ w → ¬ Less (triple x w 0) (triple x v 0)
later x v w l = not_before x v w 0 l

-- A block of one property has each object as often as its facts are.
pub block-often : (f : List ℕ) (w o z n : ℕ) → ((y : ℕ) → z ≤ y → y < z + n → property_at f y ≡ w) → sum_from (same_at f w o) z n ≡ often o (objects f z n)
unfolding sum_from same_at often objects
block-often f w o z zero h = refl
block-often f w o z (suc n) h = rw (eq-eqb (property_at f z) w (h z (omega arith) (omega arith)), block-often f w o (z + 1) n (λ y l u. h y (omega arith) (omega arith)))

-- ---- the loop over the columns of the properties

-- The rows x q .. with q below bound are put; the columns passed that are not below it were not counted.
pub record Passed (st : List ℕ) (m : ℕ) (d keys : List ℕ) (nc ns : ℕ) (counts f : List ℕ) (x t e room : ℕ) (out₀ out : Output) (q r : ℕ) : Type 0 where
  pub bound : ℕ
  pub from : 2 ≤ bound
  pub top : bound ≤ 2 ^ 32
  pub column_low : nc ≤ r
  pub column_high : r ≤ ns
  pub fact_low : t ≤ q
  pub fact_high : q ≤ e
  pub before : (y : ℕ) → t ≤ y → y < q → property_at f y < bound
  pub after : (y : ℕ) → q ≤ y → y < e → bound ≤ property_at f y
  pub uncounted : (c : ℕ) → nc ≤ c → c < r → bound ≤ get_or keys c 0 → get_or counts c 0 ≡ 0
  pub ahead : (c : ℕ) → r ≤ c → c < ns → bound ≤ get_or keys c 0
  pub rows : (K : Kept) → Counts K → PropertyRows K st m d keys nc ns f x t e → out ≡ put_all room (between (triple x 2 0) (triple x bound 0) K) out₀

module _ (st : List ℕ) (m : ℕ) (d keys : List ℕ) (nc ns : ℕ) (counts f : List ℕ) (n x t e room : ℕ) (out₀ : Output)
    (kw : Keys keys nc ns) (fw : Facts f n) (te : t ≤ e) (en : e ≤ n) (s : Of f x t e) (typed : (y : ℕ) → t ≤ y → y < e → 2 ≤ property_at f y) (un : Uncounted st m d nc ns counts f t e) where
  pub passed_start : Passed st m d keys nc ns counts f x t e room out₀ out₀ t nc
  unfolding put_all
  passed_start =
      record {
        bound = 2;
        from = omega arith;
        top = omega arith;
        column_low = omega arith;
        column_high = kw.classes;
        fact_low = omega arith;
        fact_high = te;
        before = λ y l u. absurd (omega arith);
        after = typed;
        uncounted = λ c l u h. absurd (omega arith);
        ahead = λ c l u. kw.not_type c l u;
        rows = λ K a p. rw (between_none (triple x 2 0) K);
      }

  -- A column that was not counted is passed.
  pub passed_skip : (out : Output) (q r : ℕ) → Passed st m d keys nc ns counts f x t e room out₀ out q r → r < ns → get_or counts r 0 ≡ 0 → Passed st m d keys nc ns counts f x t e room out₀ out q (r + 1)
  passed_skip out q r g l z =
      record {
        bound = g.bound;
        from = g.from;
        top = g.top;
        column_low = omega (arith, g.column_low);
        column_high = omega arith;
        fact_low = g.fact_low;
        fact_high = g.fact_high;
        before = g.before;
        after = g.after;
        uncounted = λ c a b h. by_cases (ℕ_discrete c r) (λ k. rw k z) (λ k. g.uncounted c a (omega arith) h);
        ahead = λ c a b. g.ahead c (omega arith) b;
        rows = g.rows;
      }

  -- Between bound and w only explicit facts support a row.
  plain_support : (K : Kept) → PropertyRows K st m d keys nc ns f x t e → (bound w r : ℕ) → 2 ≤ bound → ((c : ℕ) → nc ≤ c → c < r → bound ≤ get_or keys c 0 → get_or counts c 0 ≡ 0) → ((c : ℕ) → r ≤ c → c < ns → w ≤ get_or keys c 0)
      → (p o : ℕ) → bound ≤ p → p < w → lookup K (triple x p o) ≡ sum_from (same_at f p o) t (e - t)
  plain_support K h bound w r b2 unc ahd p o l u =
      ⊎_elim
      (λ k. let z : sum_from (led_at st m d f o k.place) t (e - t) ≡ 0 = from_zero (led_at st m d f o k.place) t (e - t)
      (λ y a b. led_zero st m d f o k.place y (un k.place y k.low k.high (unc k.place k.low (passed k) (omega (arith, k.is))) a (omega arith))) in
      let q : lookup K (triple x p o) ≡ sum_from (same_at f p o) t (e - t) + sum_from (led_at st m d f o k.place) t (e - t) = rw k.is at (h.column k.place o k.low k.high) in
      omega arith)
      (λ none. h.other p o (omega arith) none)
      (column_of keys nc ns p)
    where
      passed : (k : Column keys nc ns p) → k.place < r
      passed k = by_cases (dec_lt k.place r) (λ a. a) (λ a. absurd (omega (arith, ahd k.place (omega arith) k.high, k.is)))

  -- A column that was counted: the facts below its key as they are, then its rows.
  pub passed_more : (out out₁ out₂ : Output) (q r z b w : ℕ) → Passed st m d keys nc ns counts f x t e room out₀ out q r → r < ns → w ≡ get_or keys r 0
      → Split f q z e w → Split f z b e (w + 1) → out₁ ≡ put_all room (ones f q (z - q)) out
      → ((K : Kept) → Counts K → ColumnRows K st m d r f x w z b t e → out₂ ≡ put_all room (between (triple x w 0) (triple x (w + 1) 0) K) out₁)
      → Passed st m d keys nc ns counts f x t e room out₀ out₂ b (r + 1)
  passed_more out out₁ out₂ q r z b w g l ew lo hi e₁ e₂ =
      record {
        bound = w + 1;
        from = omega (arith, g.from, g.ahead r (omega arith) l);
        top = omega (arith, kw.small r l);
        column_low = omega (arith, g.column_low);
        column_high = omega arith;
        fact_low = omega (arith, g.fact_low, lo.low, hi.low);
        fact_high = hi.high;
        before = λ y a u. by_cases (dec_lt y q) (λ k. omega (arith, g.before y a k, g.ahead r (omega arith) l)) (λ k. by_cases (dec_lt y z) (λ j. omega (arith, lo.before y (omega arith) j)) (λ j. hi.before y (omega arith) u));
        after = λ y a u. hi.after y a u;
        uncounted = λ c a u h. absurd (by_cases (ℕ_discrete c r) (λ k. omega (arith, ap (λ (i : ℕ). get_or keys i 0) k)) (λ k. omega (arith, kw.property_keys c r a (omega arith) l)));
        ahead = λ c a u. omega (arith, kw.property_keys r c g.column_low (omega arith) u);
        rows = λ K a h. all K a h;
      }
    where
      wb : g.bound ≤ w
      wb = omega (arith, g.ahead r (omega arith) l)

      first : (K : Kept) → Counts K → PropertyRows K st m d keys nc ns f x t e → between (triple x g.bound 0) (triple x w 0) K ≡ ones f q (z - q)
      first K a h =
          plain_part K a f n x g.bound w q z fw lo.low (omega (arith, lo.high)) (λ y j u. s y (omega (arith, g.fact_low)) (omega (arith, lo.high))) (λ y j u. g.after y j (omega (arith, lo.high))) lo.before
          (λ p o j u. plain_support K h g.bound w r g.from g.uncounted (λ c k v. by_cases (ℕ_discrete c r) (λ i. omega (arith, ap (λ (i : ℕ). get_or keys i 0) i)) (λ i. omega (arith, kw.property_keys r c g.column_low (omega arith) v))) p o j u
          ∙ from_part (same_at f p o) t q z e g.fact_low lo.low lo.high (λ y k v. same_property f n x fw p o y (λ i. omega (arith, g.before y k v))) (λ y k v. same_property f n x fw p o y (λ i. omega (arith, lo.after y k v))))

      second : (K : Kept) → PropertyRows K st m d keys nc ns f x t e → ColumnRows K st m d r f x w z b t e
      second K h o =
          let p : lookup K (triple x w o) ≡ sum_from (same_at f w o) t (e - t) + sum_from (led_at st m d f o r) t (e - t) = rw (sym ew) at (h.column r o g.column_low l) in
          omega (
            arith,
            from_part (same_at f w o) t z b e (omega (arith, g.fact_low, lo.low)) hi.low hi.high
                (λ y k v. same_property f n x fw w o y (λ i. by_cases (dec_lt y q) (λ j. omega (arith, g.before y k j, wb)) (λ j. omega (arith, lo.before y (omega arith) v))))
                (λ y k v. same_property f n x fw w o y (λ i. omega (arith, hi.after y k v))),
            block-often f w o z (b - z) (λ y k v. let j : y < b = omega (arith, hi.low) in omega (arith, hi.before y k j, lo.after y k (omega (arith, hi.high)))),
          )

      all : (K : Kept) → Counts K → PropertyRows K st m d keys nc ns f x t e → out₂ ≡ put_all room (between (triple x 2 0) (triple x (w + 1) 0) K) out₀
      all K a h =
          let j₁ : between (triple x 2 0) (triple x (w + 1) 0) K ≡ between (triple x 2 0) (triple x w 0) K ++ between (triple x w 0) (triple x (w + 1) 0) K =
          between_join (triple x 2 0) (triple x w 0) (triple x (w + 1) 0) K a (later x 2 w (omega (arith, g.from, wb))) (later x w (w + 1) (omega arith)) in
          let j₂ : between (triple x 2 0) (triple x w 0) K ≡ between (triple x 2 0) (triple x g.bound 0) K ++ between (triple x g.bound 0) (triple x w 0) K =
          between_join (triple x 2 0) (triple x g.bound 0) (triple x w 0) K a (later x 2 g.bound g.from) (later x g.bound w wb) in
          e₂ K a (second K h)
          ∙ ap (put_all room (between (triple x w 0) (triple x (w + 1) 0) K)) (e₁ ∙ ap (put_all room (ones f q (z - q))) (g.rows K a h))
          ∙ ap (put_all room (between (triple x w 0) (triple x (w + 1) 0) K)) (ap (λ (k : Kept). put_all room k (put_all room (between (triple x 2 0) (triple x g.bound 0) K) out₀)) (sym (first K a h)) ∙ sym (put-append room (between (triple x 2 0) (triple x g.bound 0) K) (between (triple x g.bound 0) (triple x w 0) K) out₀) ∙ ap (λ (k : Kept). put_all room k out₀) (sym j₂))
          ∙ sym (put-append room (between (triple x 2 0) (triple x w 0) K) (between (triple x w 0) (triple x (w + 1) 0) K) out₀)
          ∙ ap (λ (k : Kept). put_all room k out₀) (sym j₁)

  -- At the end the facts that are left.
  pub passed_end : (out out₁ : Output) (q r : ℕ) → Passed st m d keys nc ns counts f x t e room out₀ out q r → ns ≤ r → out₁ ≡ put_all room (ones f q (e - q)) out
      → (K : Kept) → Counts K → PropertyRows K st m d keys nc ns f x t e → out₁ ≡ put_all room (between (triple x 2 0) (triple (x + 1) 0 0) K) out₀
  passed_end out out₁ q r g l e₁ K a h =
      let last : between (triple x g.bound 0) (triple x (2 ^ 32) 0) K ≡ ones f q (e - q) =
      plain_part K a f n x g.bound (2 ^ 32) q e fw g.fact_high en (λ y j u. s y (omega (arith, g.fact_low)) u) g.after (λ y j u. fw.property_small y (omega arith))
      (λ p o j u. plain_support K h g.bound (2 ^ 32) r g.from g.uncounted (λ c k v. absurd (omega arith)) p o j u
      ∙ from_part (same_at f p o) t q e e g.fact_low g.fact_high (omega arith) (λ y k v. same_property f n x fw p o y (λ i. omega (arith, g.before y k v))) (λ y k v. absurd (omega arith))) in
      let skip : between (triple x g.bound 0) (triple (x + 1) 0 0) K ≡ between (triple x g.bound 0) (triple x (2 ^ 32) 0) K =
      between-skip (triple x g.bound 0) (triple x (2 ^ 32) 0) (triple (x + 1) 0 0) K a past (λ u j k. beyond K h u j k) in
      let join : between (triple x 2 0) (triple (x + 1) 0 0) K ≡ between (triple x 2 0) (triple x g.bound 0) K ++ between (triple x g.bound 0) (triple (x + 1) 0 0) K =
      between_join (triple x 2 0) (triple x g.bound 0) (triple (x + 1) 0 0) K a (later x 2 g.bound g.from) (over g.bound) in
      e₁ ∙ ap (put_all room (ones f q (e - q))) (g.rows K a h)
      ∙ ap (λ (k : Kept). put_all room k (put_all room (between (triple x 2 0) (triple x g.bound 0) K) out₀)) (sym last ∙ sym skip)
      ∙ sym (put-append room (between (triple x 2 0) (triple x g.bound 0) K) (between (triple x g.bound 0) (triple (x + 1) 0 0) K) out₀)
      ∙ ap (λ (k : Kept). put_all room k out₀) (sym join)
    where
      over : (v : ℕ) → ¬ Less (triple (x + 1) 0 0) (triple x v 0)
      over v (by_subject i) = omega arith
      over v (by_property i k) = omega arith
      over v (by_object i j k) = omega arith

      past : ¬ Less (triple (x + 1) 0 0) (triple x (2 ^ 32) 0)
      past = over (2 ^ 32)

      zero-at : (K : Kept) → PropertyRows K st m d keys nc ns f x t e → (p o : ℕ) → 2 ^ 32 ≤ p → lookup K (triple x p o) ≡ 0
      zero-at K h p o lp =
          h.other p o (omega arith) (λ c k v i. omega (arith, kw.small c v))
          ∙ from_zero (same_at f p o) t (e - t) (λ y k v. same_property f n x fw p o y (λ i. omega (arith, fw.property_small y (omega arith))))

      beyond : (K : Kept) → PropertyRows K st m d keys nc ns f x t e → (u : Triple) → ¬ Less u (triple x (2 ^ 32) 0) → Less u (triple (x + 1) 0 0) → lookup K u ≡ 0
      beyond K h u j (by_property i k) = absurd (omega arith)
      beyond K h u j (by_object i c k) = absurd (omega arith)
      beyond K h u j (by_subject k) =
          by_cases (dec_lt u.subject x)
          (λ v. absurd (j (by_subject v)))
          (λ v. let i : u.subject ≡ x = omega arith in by_cases (dec_lt u.property (2 ^ 32))
          (λ c. absurd (j (by_property i c)))
          (λ c. ap (lookup K) (triple_eq u (triple x u.property u.object) i refl refl) ∙ zero-at K h u.property u.object (omega arith)))
