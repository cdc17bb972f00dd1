-- What carrying over leaves: refused, zeros (carrying_refused_zero); accepted, the old rows and supports, in tables that are well formed under any
-- limits that admit them (carrying_same, carrying_formed, carrying_store), and the same words where the lengths are the same (carrying_exact); and the
-- lengths in every case (carrying_lengths). Assumes nothing.
use Prim.Native.Nat.{ℕ, zero, suc, ◌+◌, ◌-◌, ◌*◌, ◌≤◌}
use mathlib.Core.Path.{◌≡◌, refl, sym, ap, ◌∙◌, subst}
use mathlib.Core.Bool.{Bool, true}
use mathlib.Core.List.{List, [], ◌∷◌, ◌++◌, zip, zip_with}
use mathlib.Core.Logic.{⊎_elim}
use native.Mathlib.Omega.{arith}
use lib.ListN.{length, take, replicate, length-replicate, get_or-append}
use lib.Seq.{get_or-take, length-take-le}
use Rattle.spec.specs.declared.Triple.{Triple}
use Rattle.spec.specs.Tables.{most_statements, most_facts, most_kept, count, rows, layout, is_table, Tables, are_formed, contents, ledger, contents_of, kept_of}
use Rattle.spec.specs.inside.Laid.{WellFormed}
use Rattle.spec.proofs.TableRows.{length-rows, rows-layout, length-layout, count-layout}
use Rattle.spec.proofs.TableAll.{are_zero-replicate}
use Rattle.spec.proofs.TableFormed.{layout-is_table}
use Rattle.table.proofs.Supports.{length-padded, supports-padded}
use Rattle.old_store.specs.declared.Lengths.{Lengths}
use Rattle.old_store.specs.CarryingOver.{is_old_store, lengths, carried_tables, zero_tables, carried, carry_over}
use Rattle.old_store.specs.CarryingPromises.{OldStore, CarryingRefusedBy, CarryingAccepted, AllZero, SameStore, FormedUnder, lengths_of}
use Rattle.old_store.proofs.Tables.{tables_eq}
use Rattle.old_store.proofs.Carrying.{old_store, old_counts, number, outcome, carrying_accepted, carrying_accepted-leaves, carrying_refused-leaves}

-- ---- one table

-- Rows with the first of some supports, whatever is behind them.
zip_front : (ts : List Triple) (us z : List ℕ) (n : ℕ) → length ts ≡ n → n ≤ length us → zip ts (take n us ++ z) ≡ zip ts us
unfolding zip zip_with
zip_front [] us z n e h = refl
zip_front (t ∷ ts) us z zero e h = absurd (omega (arith, e))
zip_front (t ∷ ts) [] z (suc n) e h = absurd (omega arith)
zip_front (t ∷ ts) (u ∷ us) z (suc n) e h = ap (λ (l : List (Triple × ℕ)). (t, u) ∷ l) (zip_front ts us z n (omega (arith, e)) (omega arith))

-- A table laid out anew, with room and within a limit, is well formed.
layout-again
    : {allowed : Triple → Bool} {old : ℕ} {ws : List ℕ} → WellFormed allowed old ws → (len most : ℕ) → count ws * 3 + 1 ≤ len → count ws ≤ most
    → is_table allowed most (layout len (rows ws)) ≡ true
layout-again {allowed} {old} {ws} W len most h k =
    layout-is_table allowed most len (rows ws) (omega (arith, length-rows ws)) (omega (arith, length-rows ws)) W.ascends W.each_allowed

-- It has its length.
length_again : (ws : List ℕ) (len : ℕ) → count ws * 3 + 1 ≤ len → length (layout len (rows ws)) ≡ len
length_again ws len h = length-layout len (rows ws) (omega (arith, length-rows ws))

-- Lengths are equal where each is.
lengths_eq : {s f k u s₁ f₁ k₁ u₁ : ℕ} → s ≡ s₁ → f ≡ f₁ → k ≡ k₁ → u ≡ u₁ → lengths s f k u ≡ lengths s₁ f₁ k₁ u₁
lengths_eq a b c d i = lengths (a i) (b i) (c i) (d i)

-- ---- the four tables

module _ (T : Tables) (L : Lengths) where
  module _ (A : CarryingAccepted T L) where
    store : OldStore T
    store = (old_store T).0 A.store

    same : SameStore T (carried_tables T L)
    unfolding carried_tables contents_of kept_of
    same =
        let n = count T.kept in
        let us = T.supports in
        let z : List ℕ = replicate (L.supports - length (take n us)) 0 in
        let l : length (take n us) ≡ n = length-take-le n us store.supports.within in
        record {
          statements = rows-layout L.statements (rows T.statements);
          facts = rows-layout L.facts (rows T.facts);
          kept = rows-layout L.kept (rows T.kept);
          supports = λ i h. get_or-append (take n us) z 0 i (omega (arith, l)) ∙ get_or-take n us i 0 h;
          contents = simp rows-layout (λ i. contents (ledger (rows T.statements) (rows T.facts)) (zip_front (rows T.kept) us z n (length-rows T.kept) store.supports.within i));
        }

    formed : FormedUnder T (carried_tables T L)
    unfolding carried_tables
    formed =
        let n = count T.kept in
        let F : count (layout L.facts (rows T.facts)) ≡ count T.facts = count-layout L.facts (rows T.facts) ∙ length-rows T.facts in
        let K : count (layout L.kept (rows T.kept)) ≡ n = count-layout L.kept (rows T.kept) ∙ length-rows T.kept in
        record {
          statements = λ most h. layout-again store.statements L.statements most A.statements h;
          facts = λ most h. layout-again store.facts L.facts most A.facts h;
          kept = λ most h. layout-again store.kept L.kept most A.kept h;
          supports =
              rw (F, K) (supports-padded (count T.facts) L.supports n (take n T.supports) (length-take-le n T.supports store.supports.within) A.supports store.supports.each_support);
        }

    carried-lengths : lengths_of (carried_tables T L) ≡ L
    unfolding carried_tables
    carried-lengths =
        let n = count T.kept in
        let few : length (take n T.supports) ≤ L.supports = omega (arith, length-take-le n T.supports store.supports.within, A.supports) in
        lengths_eq
        (length_again T.statements L.statements A.statements)
        (length_again T.facts L.facts A.facts)
        (length_again T.kept L.kept A.kept)
        (length-padded L.supports (take n T.supports) few)

  zeros : AllZero (zero_tables L)
  unfolding zero_tables
  zeros =
      record {
        statements = are_zero-replicate L.statements;
        facts = are_zero-replicate L.facts;
        kept = are_zero-replicate L.kept;
        supports = are_zero-replicate L.supports;
      }

  zero_lengths : lengths_of (zero_tables L) ≡ L
  unfolding zero_tables
  zero_lengths =
      lengths_eq
      (length-replicate {A = ℕ} L.statements _)
      (length-replicate {A = ℕ} L.facts _)
      (length-replicate {A = ℕ} L.kept _)
      (length-replicate {A = ℕ} L.supports _)

  -- The tables that an accepted carrying over leaves.
  leaves : (carry_over T L).0 ≡ 0 → (carry_over T L).1 ≡ carried_tables T L
  leaves e = ap (λ (r : ℕ × Tables). r.1) (carrying_accepted-leaves T L ((carrying_accepted T L).0 e))

  -- ---- the theorems

  -- "A refusal leaves the new tables zero."
  pub carrying_refused_zero : (n : ℕ) → CarryingRefusedBy T L n → AllZero (carry_over T L).1
  carrying_refused_zero n R = subst AllZero (sym (ap (λ (r : ℕ × Tables). r.1) (carrying_refused-leaves T L n R))) zeros

  -- "Rows unchanged, each support the same number": what is carried over holds the same.
  pub carrying_same : (carry_over T L).0 ≡ 0 → SameStore T (carry_over T L).1
  carrying_same e = subst (SameStore T) (sym (leaves e)) (same ((carrying_accepted T L).0 e))

  -- Its tables are well formed under any limits that admit the old rows.
  pub carrying_formed : (carry_over T L).0 ≡ 0 → FormedUnder T (carry_over T L).1
  carrying_formed e = subst (FormedUnder T) (sym (leaves e)) (formed ((carrying_accepted T L).0 e))

  -- Under the present limits, too: they are a well-formed store.
  pub carrying_store : (carry_over T L).0 ≡ 0 → are_formed (carry_over T L).1 ≡ true
  unfolding are_formed
  carrying_store e =
      let F = carrying_formed e in
      let n = old_counts T ((carrying_accepted T L).0 e).store in
      rw (F.statements most_statements (omega (arith, n.0)), F.facts most_facts (omega (arith, n.1)), F.kept most_kept (omega (arith, n.2))) F.supports

  -- Accepted or refused, the new tables keep their lengths.
  pub carrying_lengths : lengths_of (carry_over T L).1 ≡ L
  carrying_lengths =
      ⊎_elim
      (λ (R : CarryingRefusedBy T L (number T L)). ap (λ (r : ℕ × Tables). lengths_of r.1) (carrying_refused-leaves T L (number T L) R) ∙ zero_lengths)
      (λ (A : CarryingAccepted T L). ap (λ (r : ℕ × Tables). lengths_of r.1) (carrying_accepted-leaves T L A) ∙ carried-lengths A)
      (outcome T L)

-- Into tables of the lengths that it has, an old store is carried over word for word.
module _ (T : Tables) (h : is_old_store T ≡ true) where
  accepted : CarryingAccepted T (lengths_of T)
  accepted =
      let S = (old_store T).0 h in
      record {
        store = h;
        statements = omega (arith, S.statements.laid.counted, S.statements.laid.fits);
        facts = omega (arith, S.facts.laid.counted, S.facts.laid.fits);
        kept = omega (arith, S.kept.laid.counted, S.kept.laid.fits);
        supports = S.supports.within;
      }

  carried_exact : carried_tables T (lengths_of T) ≡ T
  unfolding carried_tables
  carried_exact =
      let S = (old_store T).0 h in
      tables_eq (sym S.statements.laid.is_layout) (sym S.facts.laid.is_layout) (sym S.kept.laid.is_layout) (sym S.supports.is_layout)

  pub carrying_exact : carry_over T (lengths_of T) ≡ carried 0 T
  carrying_exact = carrying_accepted-leaves T (lengths_of T) accepted ∙ ap (carried 0) carried_exact
