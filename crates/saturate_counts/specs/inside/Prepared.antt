-- What is known of the compiled statements and of the facts while the saturation is worked out. st are the words of the m statements;
-- keys the terms of the ns columns, the first nc of them classes; d the square of domains, r the square of ranges; f the words of the n
-- facts. Definitions only.
use Rattle.std.specs.Prelude.{◌≡◌, true, false, List, ℕ, ◌*◌, ◌^◌, ◌≤◌, ◌<◌, length, get_or}
use Rattle.spec.specs.Terms.{is_literal}
use Rattle.spec.specs.inside.Comparison.{Less}
use Rattle.spec.specs.Tables.{row_at}
use Rattle.saturate_schema.specs.inside.Nodes.{property_node, subject_node}
use Rattle.saturate_schema.specs.inside.Squares.{at}
use Rattle.saturate_schema.specs.inside.Groups.{Statements}
use Rattle.saturate_schema.specs.inside.Compiled.{subject_at, property_at, object_at}

-- A square whose words are bits, the same in the rows of one node.
pub record Square (st : List ℕ) (m ns : ℕ) (sq : List ℕ) : Type 0 where
  pub long : m * 512 ≤ length sq
  pub even : (i j c : ℕ) → i < m → j < m → c < ns → subject_node st i ≡ subject_node st j → at sq i c ≡ at sq j c
  pub bits : (i c : ℕ) → i < m → c < ns → at sq i c ≤ 1

-- The keys of the classes ascend, and so do those of the properties, none of which is rdf:type.
pub record Keys (keys : List ℕ) (nc ns : ℕ) : Type 0 where
  pub columns : ns ≤ 512
  pub classes : nc ≤ ns
  pub small : (c : ℕ) → c < ns → get_or keys c 0 < 2 ^ 32
  pub class_keys : (a b : ℕ) → a < b → b < nc → get_or keys a 0 < get_or keys b 0
  pub property_keys : (a b : ℕ) → nc ≤ a → a < b → b < ns → get_or keys a 0 < get_or keys b 0
  pub not_type : (c : ℕ) → nc ≤ c → c < ns → 2 ≤ get_or keys c 0

-- The compiled statements. No statement is about the property rdf:type.
pub record Prepared (st : List ℕ) (m : ℕ) (keys : List ℕ) (nc ns : ℕ) (d r : List ℕ) : Type 0 where
  pub statements : Statements st m
  pub rows : m ≤ 512
  pub keyed : Keys keys nc ns
  pub domains : Square st m ns d
  pub ranges : Square st m ns r
  pub no_type : (i : ℕ) → i < m → ¬ (subject_node st i ≡ property_node 1)

-- The facts ascend; their words are terms, and an object from 2 ^ 31 on is a literal.
pub record Facts (f : List ℕ) (n : ℕ) : Type 0 where
  pub fit : n * 3 < length f
  pub few : n ≤ 65535
  pub ascend : (i j : ℕ) → i < j → j < n → Less (row_at f i) (row_at f j)
  pub subject_small : (y : ℕ) → y < n → subject_at f y < 2 ^ 32
  pub property_small : (y : ℕ) → y < n → property_at f y < 2 ^ 32
  pub object_small : (y : ℕ) → y < n → object_at f y < 2 ^ 32
  pub property_term : (y : ℕ) → y < n → 1 ≤ property_at f y
  pub subjects : (y : ℕ) → y < n → is_literal (subject_at f y) ≡ false
  pub things : (y : ℕ) → y < n → object_at f y < 2 ^ 31 → is_literal (object_at f y) ≡ false
  pub literals : (y : ℕ) → y < n → 2 ^ 31 ≤ object_at f y → is_literal (object_at f y) ≡ true
