-- The first statement of a property or a class. Assumes nothing.
use mathlib.Core.Path.{◌≡◌, sym, ap, ◌∙◌}
use mathlib.Core.List.{List}
use mathlib.Core.Logic.{by_cases}
use Prim.Native.Nat.{ℕ, ◌+◌, ◌*◌, ◌^◌, ◌≤◌, ◌<◌}
use native.Mathlib.Omega.{arith}
use native.Mathlib.Decide.{ℕ_discrete, dec_lt}
use lib.ListN.{get_or}
use Rattle.spec.specs.Terms.{triple}
use Rattle.spec.specs.inside.Comparison.{Less, by_subject, by_property, by_object}
use Rattle.spec.specs.Tables.{row_at}
use Rattle.table.specs.inside.Bounds.{Below}
use Rattle.table.proofs.SearchLaws.{rows-less}
use Rattle.saturate_schema.specs.inside.Nodes.{subject_node, Found, none}
use Rattle.saturate_schema.specs.inside.Groups.{Statements, Group}
use Rattle.saturate_schema.proofs.Tables.{row-subject, row_property}
use Rattle.saturate_schema.proofs.Closing.{subject_class_node, subject_property_node}

module _ (st : List ℕ) (m : ℕ) (S : Statements st m) where
  -- Those of the property p are the statements 3, 4 and 5 of its term.
  pub property_starts : (p : ℕ) → p < 2 ^ 32 → Group st m p 3 (p + 2 ^ 32)
  property_starts p s = record {
    has = λ i l e. by_cases (ℕ_discrete (get_or st (i * 3 + 2) 0) 2)
        (λ q. absurd (omega (arith, subject_class_node st i q, S.small i l)))
        (λ n. (omega (arith, subject_property_node st i n), omega (arith, (S.kinds i l).0)));
    down = λ i j l h e a k t. subject_property_node st i (λ q. omega arith) ∙ ap (λ (z : ℕ). z + 2 ^ 32) a;
  }

  -- Those of the class c are the statements 2 of its term.
  pub class_starts : (c : ℕ) → c < 2 ^ 32 → Group st m c 2 c
  class_starts c s = record {
    has = λ i l e. (subject-is i l e, (S.kinds i l).0);
    down = λ i j l h e a k t. subject_class_node st i (omega (arith, kind-is j h e)) ∙ a;
  }
    where
      kind-is : (i : ℕ) → i < m → subject_node st i ≡ c → get_or st (i * 3 + 2) 0 ≡ 2
      kind-is i l e = by_cases (ℕ_discrete (get_or st (i * 3 + 2) 0) 2) (λ q. q) (λ n. absurd (omega (arith, subject_property_node st i n)))

      subject-is : (i : ℕ) → i < m → subject_node st i ≡ c → get_or st (i * 3 + 1) 0 ≡ c
      subject-is i l e = sym (subject_class_node st i (kind-is i l e)) ∙ e

  module _ {a k x r : ℕ} (G : Group st m a k x) (B : Below st m (triple a k 0) r) where
    -- A statement between the first that is not below a k 0 and one of the group is of the group.
    first-in : (i : ℕ) → r < m → i < m → subject_node st i ≡ x → ¬ Less (row_at st r) (triple a k 0) → Less (row_at st r) (row_at st i) → subject_node st r ≡ x
    first-in i h l e n (by_subject q) = absurd (n (by_subject (omega (arith, row-subject st i, (G.has i l e).0))))
    first-in i h l e n (by_property s q) =
        let own : (row_at st r).subject ≡ a = s ∙ row-subject st i ∙ (G.has i l e).0 in
        let least : k ≤ (row_at st r).property = by_cases (dec_lt (row_at st r).property k) (λ (z : (row_at st r).property < k). absurd (n (by_property own z))) (λ z. omega arith) in
        G.down r i h l e (sym (row-subject st r) ∙ own) (omega (arith, row_property st r)) (omega (arith, row_property st r, row_property st i))
    first-in i h l e n (by_object s t q) =
        let same : get_or st (r * 3 + 2) 0 ≡ get_or st (i * 3 + 2) 0 = omega (arith, row_property st r, row_property st i) in
        G.down r i h l e (sym (row-subject st r) ∙ s ∙ row-subject st i ∙ (G.has i l e).0) (omega (arith, (G.has i l e).1)) (omega arith)

    -- One of the group is not below a k 0.
    not_less : (i : ℕ) → i < m → subject_node st i ≡ x → ¬ Less (row_at st i) (triple a k 0)
    not_less i l e (by_subject q) = omega (arith, row-subject st i, (G.has i l e).0)
    not_less i l e (by_property s q) = omega (arith, row_property st i, (G.has i l e).1)
    not_less i l e (by_object s t q) = omega arith

    -- Where that first is not of the group, there is none.
    pub group-none : {y : ℕ} → y ≡ m → (r < m → ¬ (subject_node st r ≡ x)) → Found (subject_node st) m x y
    group-none e n = none e no_row
      where
        no_row : (i : ℕ) → i < m → ¬ (subject_node st i ≡ x)
        no_row i l q =
            by_cases (dec_lt i r) (λ (h : i < r). not_less i l q (B.less i h))
            (λ h. by_cases (ℕ_discrete i r) (λ (z : i ≡ r). n (omega arith) (rw z at q))
            (λ z. n (omega arith) (first-in i (omega arith) l q (B.other r (omega arith) (omega arith)) (rows-less st m S.rising r i (omega arith) l))))
