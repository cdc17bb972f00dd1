-- What is known of well-formed tables and of the compiled statements, as the run over the subjects asks for it. Assumes nothing.
use mathlib.Core.Path.{◌≡◌, sym, ap, ◌∙◌}
use mathlib.Core.List.{List}
use Prim.Native.Nat.{ℕ, ◌+◌, ◌*◌, ◌^◌, ◌≤◌, ◌<◌}
use native.Mathlib.Omega.{arith}
use lib.ListN.{length, get_or, replicate, length-replicate}
use Rattle.saturate_counts.proofs.Zeros.{zero-words}
use Rattle.saturate_schema.specs.inside.Squares.{at}
use Rattle.spec.specs.Terms.{is_literal, triple, is_allowed_statement, is_allowed_fact}
use Rattle.spec.specs.Tables.{count, rows, most_statements, most_facts}
use Rattle.spec.specs.inside.Laid.{WellFormed}
use Rattle.spec.proofs.TableFormed.{capacity_most}
use Rattle.spec.proofs.TableRows.{length-rows}
use Rattle.spec.specs.computed.Saturated.{saturation}
use Rattle.spec.proofs.Saturation.{saturation-support, saturation_counts, support-bound}
use Rattle.saturate_schema.specs.inside.Nodes.{edges}
use Rattle.saturate_schema.specs.inside.Walks.{Plus}
use Rattle.saturate_schema.specs.inside.Ascent.{Placed, Ends, term_of}
use Rattle.saturate_schema.specs.inside.Compiled.{Compiled, Keyed, object_at}
use Rattle.saturate_schema.proofs.Tables.{fact-words, rows-ascend, row-subject, row_property, row-object, plain_below}
use Rattle.saturate_schema.proofs.Counted.{marks_even, no_type, class-support, class-support_none, property-support, property-support_none, absent-support}
use Rattle.saturate_schema.proofs.Made.{compiled_made, keyed_made}
use Rattle.saturate_counts.specs.inside.Prepared.{Prepared, Facts}
use Rattle.saturate_counts.specs.inside.Supported.{Supported, Small}
use Rattle.saturate_write.specs.inside.Written.{Exists}
use Rattle.saturate.specs.inside.Saturated.{Domains, Ranges}

-- A square of zeros has no bits.
pub no_bits : (length (replicate {A = ℕ} 262144 0) ≡ 262144) × ((i c : ℕ) → at (replicate {A = ℕ} 262144 0) i c ≡ 0)
no_bits = (length-replicate {A = ℕ} 262144 0, λ i c. zero-words 262144 (i * 512 + c))

-- The facts of a well-formed table.
pub facts_are : (f : List ℕ) → WellFormed is_allowed_fact most_facts f → Facts f (count f)
facts_are f v =
    record {
      fit = omega (arith, v.laid.fits, v.laid.counted);
      few = omega (arith, v.within, v.laid.counted, capacity_most most_facts f);
      ascend = rows-ascend is_allowed_fact most_facts f v;
      subject_small = λ y l. omega (arith, (fact-words f v y l).subject_below, row-subject f y);
      property_small = λ y l. omega (arith, (fact-words f v y l).property_small, row_property f y);
      object_small = λ y l. omega (arith, (fact-words f v y l).object_small, row-object f y);
      property_term = λ y l. omega (arith, (fact-words f v y l).property_term, row_property f y);
      subjects = λ y l. ap is_literal (sym (row-subject f y)) ∙ (fact-words f v y l).subject_plain;
      things = λ y l h. plain_below (object_at f y) h;
      literals = λ y l h. ap is_literal (sym (row-object f y)) ∙ (fact-words f v y l).object-literal (omega (arith, row-object f y));
    }

-- The statements of a well-formed table are at most 512.
pub statement-count : (st : List ℕ) → WellFormed is_allowed_statement most_statements st → (count st ≤ 512) × (count st * 3 < length st)
statement-count st w = (omega (arith, w.within, w.laid.counted, capacity_most most_statements st), omega (arith, w.laid.fits, w.laid.counted))

module _ (st f : List ℕ) (w : WellFormed is_allowed_statement most_statements st) (v : WellFormed is_allowed_fact most_facts f) (col keys d r : List ℕ) (ns nc : ℕ)
    (g : Ends st (count st) col ns) (p : Placed col ns (2 ^ 32) nc) (t : (c : ℕ) → c < ns → get_or keys c 0 ≡ term_of (get_or col c 0)) (dw : Domains st (count st) col ns d) (rw' : Ranges st (count st) col ns 5 r) where
  compiled : Compiled st (count st) col ns nc d r
  compiled = compiled_made st w col ns nc g p dw.whole d r dw.closed dw.bits dw.cleared rw'.closed rw'.bits

  keyed : Keyed col ns nc keys
  keyed = keyed_made st w col ns nc g p keys t

  pub prepared : Prepared st (count st) keys nc ns d r
  prepared =
      record {
        statements = compiled.statements;
        rows = (statement-count st w).0;
        keyed = record {
          columns = compiled.columns.few;
          classes = compiled.few;
          small = keyed.small;
          class_keys = keyed.classes_rise;
          property_keys = keyed.properties_rise;
          not_type = keyed.not_type;
        };
        domains = record { long = omega (arith, (statement-count st w).0, dw.long); even = marks_even st col d (count st) ns (λ a b. Plus (edges st 4 (count st)) a b × (¬ (a ≡ b))) compiled.domains compiled.domain_bits; bits = compiled.domain_bits };
        ranges = record { long = omega (arith, (statement-count st w).0, rw'.long); even = marks_even st col r (count st) ns (Plus (edges st 5 (count st))) compiled.ranges compiled.range_bits; bits = compiled.range_bits };
        no_type = no_type st w;
      }

  -- The saturation has the supports that are counted.
  pub saturation_supported : Supported (saturation (rows st) (rows f)) st (count st) d r keys nc ns f (count f)
  saturation_supported =
      record {
        class = λ x c l h. rw (keyed.class_term c l) (saturation-support (rows st) (rows f) (triple x 1 (get_or col c 0)) ∙ class-support st col d r f ns nc w v compiled x c l h);
        other_class = λ x o n. saturation-support (rows st) (rows f) (triple x 1 o) ∙ class-support_none st col d r f ns nc w v compiled x o (λ c l e. n c l (keyed.class_term c l ∙ e));
        property = λ x o c l u. saturation-support (rows st) (rows f) (triple x (get_or keys c 0) o) ∙ property-support st col d r f ns nc w v compiled x (get_or keys c 0) o c (λ q. omega (arith, keyed.not_type c l u)) u (keyed.property_term c l u);
        other_property = λ x q o k n. saturation-support (rows st) (rows f) (triple x q o) ∙ property-support_none st col d r f ns nc w v compiled x q o k (λ c l u e. n c l u (omega (arith, keyed.property_term c l u)));
        absent = λ x q o a b. saturation-support (rows st) (rows f) (triple x q o) ∙ absent-support (rows st) f x q o a b;
      }

  pub exists : Exists st (count st) d r keys nc ns f (count f)
  exists = record { list = saturation (rows st) (rows f); counts = saturation_counts (rows st) (rows f); supported = saturation_supported }

  -- Each support is at most the number of facts.
  pub supports_small : Small st (count st) d r keys nc f (count f)
  supports_small x c l h =
      omega (arith, saturation_supported.class x c l h, saturation-support (rows st) (rows f) (triple x 1 (get_or keys c 0)), support-bound (rows st) (rows f) (triple x 1 (get_or keys c 0)), length-rows f, (facts_are f v).few)
