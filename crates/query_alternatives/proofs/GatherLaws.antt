-- The alternatives of all sources, statement by statement, and what is given of them. Assumes nothing.
use Rattle.std.specs.Prelude.{Err}
use Prim.Native.Nat.{ℕ, ◌+◌, ◌-◌, ◌*◌, ◌≤◌, ◌<◌}
use mathlib.Core.Path.{◌≡◌, sym, ap, ◌∙◌}
use mathlib.Core.Bool.{true, false}
use mathlib.Core.List.{List, [], ◌∷◌, ◌++◌, map, append-nil}
use native.Mathlib.Omega.{arith}
use lib.ListN.{length, get_or, take, drop, replicate, length-take, take-append-drop}
use lib.Dec.{eqb}
use borrow.Author.Tests.{eqb-true}
use Rattle.spec.specs.declared.Triple.{Triple}
use Rattle.spec.specs.Terms.{is_vocabulary, triple, is_allowed_statement}
use Rattle.spec.specs.Refusals.{first_refusal}
use Rattle.spec.proofs.Order.{of_subject}
use Rattle.spec.specs.Tables.{count, triple_from, row_at, first_rows, rows, flatten, most_statements, is_statement_table}
use Rattle.spec.specs.inside.Laid.{WellFormed}
use Rattle.spec.proofs.TableAll.{all-member}
use Rattle.spec.proofs.TableRows.{length-rows, get_d_rows, triple_from-drop, length-flatten, first_rows-flatten}
use Rattle.table.proofs.Place.{get_or-member}
use Rattle.spec.proofs.TableFormed.{is_table_well_formed}
use Rattle.spec.specs.inside.Entailment.{NoVocabulary}
use Rattle.spec.proofs.Entailment.{allowed_no_vocabulary}
use Rattle.spec.specs.Rows.{words}
use Rattle.rdfs_carry.proofs.WordRows.{ordered_words}
use Rattle.spec.specs.Outputs.{replied, give}
use Rattle.rows_distinct.specs.declared.Collected.{Collected}
use Rattle.rows_distinct.specs.inside.Collected.{Collects, gathered}
use Rattle.rows_distinct.specs.inside.Effects.{Within}
use Rattle.spec.specs.Questions.{is_atom}
use Rattle.spec.specs.Alternatives.{reformulate}
use Rattle.spec.specs.computed.Reformulated.{alternatives_from, alternatives}
use Rattle.query_alternatives.specs.inside.Putting.{Puts, alternatives_below, give_alternatives}
use Rattle.query_alternatives.proofs.PutLaws.{puts_then, puts_start, puts_more, puts_again}

-- ---- rows that a fact carries

-- The rows read off the words that `carry` leaves.
pub carried_rows : (n : ℕ) (ws : List ℕ) (ts : List Triple) → n ≡ length ts → take (n * 3) ws ≡ flatten ts → first_rows n ws ≡ ts
carried_rows n ws ts e f =
    ap (first_rows n) (sym (take-append-drop (n * 3) ws) ∙ ap (λ (l : List ℕ). l ++ drop (n * 3) ws) f)
    ∙ ap (λ (k : ℕ). first_rows k (flatten ts ++ drop (n * 3) ws)) e
    ∙ first_rows-flatten ts (drop (n * 3) ws)

-- They lie within the words.
pub carried_fits : (n : ℕ) (ws : List ℕ) (ts : List Triple) → n ≡ length ts → take (n * 3) ws ≡ flatten ts → n * 3 ≤ length ws
carried_fits n ws ts e f = let l : length (take (n * 3) ws) ≡ length ts * 3 = ap length f ∙ length-flatten ts in omega (arith, length-take (n * 3) ws)

-- ---- statements

module _ (S : List ℕ) (e : is_statement_table S ≡ true) where
  -- The words are a well-formed table.
  formed : WellFormed is_allowed_statement most_statements S
  formed = is_table_well_formed is_allowed_statement most_statements S e

  -- Each statement lies within the words.
  pub statement-within : (i : ℕ) → i < count S → i * 3 + 3 < length S
  statement-within i h = omega (arith, formed.laid.fits, formed.laid.counted)

  -- No statement has a vocabulary URI on a side.
  pub statements_plain : NoVocabulary (rows S)
  statements_plain = allowed_no_vocabulary (rows S) (λ t m. all-member is_allowed_statement (rows S) formed.each_allowed m)

  -- The subject of a statement is no vocabulary URI.
  pub subject_plain : (i : ℕ) (t : Triple) → i < count S → t ≡ row_at S i → is_vocabulary t.subject ≡ false
  subject_plain i t h q =
      let l : i < length (rows S) = omega (arith, length-rows S) in
      ap is_vocabulary (of_subject (q ∙ sym (get_d_rows S i t l))) ∙ (statements_plain (get_or (rows S) i t) (get_or-member (rows S) i t l)).0

-- Statements of one subject, as the code compares them.
pub repeated : (S : List ℕ) (i : ℕ) (t u : Triple) → t ≡ row_at S (i - 1) → u ≡ row_at S i → eqb t.subject u.subject ≡ true → (row_at S (i - 1)).subject ≡ (row_at S i).subject
repeated S i t u e f h = of_subject (sym e) ∙ eqb-true t.subject u.subject h ∙ of_subject f

-- ---- statement by statement

-- A statement, read behind the count.
row_behind : (S : List ℕ) (i : ℕ) → row_at S i ≡ triple_from (drop 1 S) (i * 3)
unfolding row_at
row_behind S i = sym (triple_from-drop 1 S (i * 3) (i * 3 + 1) (omega arith))

module _ (S : List ℕ) (a : Triple) where
  -- What a statement gives.
  abbrev from : Triple → List Triple
  from t = alternatives_from (rows S) a t.subject

  -- No statement yet.
  pub below_start : {out : List ℕ} {c : Collected} → Within 3 out c → Puts (alternatives_below S a 0) out c out c
  unfolding alternatives_below
  below_start w = puts_start from (drop 1 S) w

  module _ (i : ℕ) {out : List ℕ} {c : Collected} {out₁ : List ℕ} {c₁ : Collected} (A : Puts (alternatives_below S a i) out c out₁ c₁) where
    -- The alternatives with the subject of statement i as their source are put.
    pub below_more : (t : Triple) → t ≡ row_at S i → {out₂ : List ℕ} {c₂ : Collected} → Puts (alternatives_from (rows S) a t.subject) out₁ c₁ out₂ c₂ → Puts (alternatives_below S a (i + 1)) out c out₂ c₂
    unfolding alternatives_below
    below_more t e B = puts_more from (drop 1 S) i A t (e ∙ row_behind S i) B

    -- The statement before has the same subject.
    pub below_again : 0 < i → (row_at S (i - 1)).subject ≡ (row_at S i).subject → Puts (alternatives_below S a (i + 1)) out c out₁ c₁
    unfolding alternatives_below
    below_again h e =
        puts_again from (drop 1 S) i A h
        (ap (alternatives_from (rows S) a) (of_subject (sym (row_behind S (i - 1))) ∙ e ∙ of_subject (row_behind S i)))

  -- ---- what is given

  -- All that was put: the explicit triple as it is, and the alternatives of all statements.
  abbrev pub all_put : List Triple
  all_put = (triple 0 0 0 ∷ []) ++ alternatives_below S a (count S)

  module _ (out : List ℕ) (z : out ≡ replicate (length out) 0) {c : Collected} (s : (m len : ℕ) → Collects m [] (replicate len 0) c) where
    -- Nothing is put at first.
    pub none-put : Collects 3 [] out c
    none-put = rw z (s 3 (length out))

    -- Then all is.
    pub all-put : {out₁ : List ℕ} {c₁ : Collected} {out₂ : List ℕ} {c₂ : Collected} → Puts (triple 0 0 0 ∷ []) out c out₁ c₁ → Puts (alternatives_below S a (count S)) out₁ c₁ out₂ c₂ → Collects 3 (map words all_put ++ []) out₂ c₂
    all-put A B = (puts_then (triple 0 0 0 ∷ []) (alternatives_below S a (count S)) A B).collects [] none-put

  -- What is given of all that was put.
  pub all-given : (len : ℕ) → gathered 3 (map words all_put ++ []) len ≡ give_alternatives S a len
  unfolding gathered alternatives alternatives_below rows
  all-given len = rw (append-nil (map words all_put), ordered_words all_put)

  -- ---- the questions

  module _ (len : ℕ) where
    -- Statements that are not well formed.
    pub refused_1 : is_statement_table S ≡ false → replied (Err 1) (replicate len 0) ≡ reformulate S a len
    unfolding reformulate first_refusal give
    refused_1 e = rw e

    -- No atom.
    pub refused_6 : is_statement_table S ≡ true → is_atom a ≡ false → replied (Err 6) (replicate len 0) ≡ reformulate S a len
    unfolding reformulate first_refusal give
    refused_6 e f = rw (e, f)

    -- Neither.
    pub passed : is_statement_table S ≡ true → is_atom a ≡ true → give_alternatives S a len ≡ reformulate S a len
    unfolding reformulate first_refusal
    passed e f = rw (e, f)
