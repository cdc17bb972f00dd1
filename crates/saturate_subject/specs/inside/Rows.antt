-- The rows of one subject, as the facts of that subject and the counts of the columns give them. st are the words of the m statements;
-- keys the terms of the ns columns, the first nc of them classes; d the square of domains; f the words of the facts. Definitions only.
use Rattle.std.specs.Prelude.{◌≡◌, List, ℕ, ◌+◌, ◌-◌, ◌≤◌, ◌<◌, get_or}
use Rattle.spec.specs.Terms.{triple}
use Rattle.spec.specs.Saturation.{Kept}
use Rattle.spec.specs.inside.Counts.{lookup}
use Rattle.saturate_merge.specs.inside.Streams.{often, objects}
use Rattle.saturate_schema.specs.inside.Nodes.{property_node}
use Rattle.saturate_schema.specs.inside.Compiled.{subject_at, property_at, node_bit}
use Rattle.saturate_blocks.specs.inside.Sums.{sum_from}
use Rattle.saturate_blocks.specs.inside.Blocks.{same_at, led_at}

-- The facts i .. e are of the subject x.
abbrev pub Of : List ℕ → ℕ → ℕ → ℕ → Type 0
Of f x i e = (y : ℕ) → i ≤ y → y < e → subject_at f y ≡ x

-- In K the row x w o has as support 1 for a fact z .. b with the object o, and 1 for each fact t .. e with that object whose property leads
-- to column c, for each o.
abbrev pub ColumnRows : Kept → List ℕ → ℕ → List ℕ → ℕ → List ℕ → ℕ → ℕ → ℕ → ℕ → ℕ → ℕ → Type 0
ColumnRows K st m d c f x w z b t e = (o : ℕ) → lookup K (triple x w o) ≡ often o (objects f z (b - z)) + sum_from (led_at st m d f o c) t (e - t)

-- What supports the rows of K with the subject x and another property than rdf:type: the facts t .. e as they are, and for the key of a
-- column those whose property leads to it.
pub record PropertyRows (K : Kept) (st : List ℕ) (m : ℕ) (d keys : List ℕ) (nc ns : ℕ) (f : List ℕ) (x t e : ℕ) : Type 0 where
  pub column : (c o : ℕ) → nc ≤ c → c < ns → lookup K (triple x (get_or keys c 0) o) ≡ sum_from (same_at f (get_or keys c 0) o) t (e - t) + sum_from (led_at st m d f o c) t (e - t)
  pub other : (q o : ℕ) → 2 ≤ q → ((c : ℕ) → nc ≤ c → c < ns → ¬ (get_or keys c 0 ≡ q)) → lookup K (triple x q o) ≡ sum_from (same_at f q o) t (e - t)

-- To a column of a property that was not counted no fact t .. e leads.
abbrev pub Uncounted : List ℕ → ℕ → List ℕ → ℕ → ℕ → List ℕ → List ℕ → ℕ → ℕ → Type 0
Uncounted st m d nc ns counts f t e = (c y : ℕ) → nc ≤ c → c < ns → get_or counts c 0 ≡ 0 → t ≤ y → y < e → node_bit st m d (property_node (property_at f y)) c ≡ 0
