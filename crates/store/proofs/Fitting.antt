-- Contents that tables can hold: what they are, put into the tables and read again. Assumes nothing.
use Prim.Native.Nat.{ℕ, ◌-◌, ◌*◌, ◌≤◌, ◌<◌}
use mathlib.Core.Path.{◌≡◌, refl, ap, subst}
use mathlib.Core.Bool.{true}
use mathlib.Core.List.{List, [], ◌∷◌, ◌++◌, zip, zip_with, Memᴰ}
use native.Mathlib.Omega.{arith}
use lib.ListN.{length, take, replicate, length-map}
use Rattle.spec.specs.declared.Triple.{Triple}
use Rattle.spec.specs.Terms.{is_allowed_statement, is_allowed_fact}
use Rattle.spec.specs.inside.Comparison.{Ascending}
use Rattle.spec.specs.Tables.{most_statements, most_facts, most_kept, count, rows, is_support, Tables, tables, are_formed, Contents, contents, kept_of, contents_of, put, capacities_of}
use Rattle.spec.specs.inside.Laid.{FormedStore}
use Rattle.spec.proofs.TableRows.{length-rows, rows-layout, length-layout, count-layout}
use Rattle.spec.proofs.TableFormed.{capacity_fits, capacity_most, layout-is_table}
use Rattle.table.proofs.Supports.{length-padded, supports-padded, is_support-between, between-is_support}
use Rattle.spec.proofs.TableAll.{all-member, member-all}
use Rattle.table.proofs.Store.{is_store_formed}
use Rattle.spec.specs.Saturation.{Kept, kept_rows, kept_supports}
use Rattle.spec.proofs.Kept.{length-kept_rows}
use Rattle.spec.proofs.LedgerSets.{Allowed}
use Rattle.update_kept.proofs.Entries.{kept_supports-entries, kept_of-entries}
use Rattle.update_kept.proofs.Formed.{kept_tables, kept_rows_kept_of, length_kept_of}

-- ---- contents read again

zip_kept : (k : Kept) (z : List ℕ) → zip (kept_rows k) (kept_supports k ++ z) ≡ k
unfolding zip zip_with
zip_kept [] z = refl
zip_kept (e ∷ k) z = ap (λ (l : Kept). e ∷ l) (zip_kept k z)

-- What is put into tables is what they hold.
pub contents_of-put : (c : Contents) (T : Tables) → contents_of (put c T) ≡ c
unfolding contents_of put kept_of
contents_of-put c T =
    let z : List ℕ = replicate (length T.supports - length (kept_supports c.kept)) 0 in
    simp rows-layout (λ i. contents c.explicit (zip_kept c.kept z i))

-- ---- contents that fit

-- Contents that tables of the lengths of T can hold, well formed.
pub record Fitting (c : Contents) (T : Tables) : Type 0 where
  pub sets : Allowed c.explicit
  pub kept_ascend : Ascending (kept_rows c.kept)
  pub kept_allowed : (u : Triple) → Memᴰ u (kept_rows c.kept) → is_allowed_fact u ≡ true
  pub statements_fit : length c.explicit.statements ≤ (capacities_of T).statements
  pub facts_fit : length c.explicit.facts ≤ (capacities_of T).facts
  pub kept_fit : length c.kept ≤ (capacities_of T).kept
  pub supports_between : (n : ℕ) → Memᴰ n (kept_supports c.kept) → (1 ≤ n) × (n ≤ length c.explicit.facts)

-- Each table of rows has a word.
pub record Worded (T : Tables) : Type 0 where
  pub statement_words : 0 < length T.statements
  pub fact-words : 0 < length T.facts
  pub kept_words : 0 < length T.kept

-- The tables have the same lengths, and so the same capacities.
pub record SameLengths (T T' : Tables) : Type 0 where
  pub same_statements : length T.statements ≡ length T'.statements
  pub same_facts : length T.facts ≡ length T'.facts
  pub same_kept : length T.kept ≡ length T'.kept
  pub same_supports : length T.supports ≡ length T'.supports

pub length_supports_of : (k : Kept) → length (kept_supports k) ≡ length k
length_supports_of k = length-map k (λ (e : Triple × ℕ). e.1)

module _ {c : Contents} {T : Tables} (X : Fitting c T) (H : Worded T) where
  statement_room : length c.explicit.statements * 3 < length T.statements
  statement_room = capacity_fits most_statements T.statements (length c.explicit.statements) H.statement_words X.statements_fit

  fact_room : length c.explicit.facts * 3 < length T.facts
  fact_room = capacity_fits most_facts T.facts (length c.explicit.facts) H.fact-words X.facts_fit

  kept_room : length (kept_rows c.kept) * 3 < length T.kept
  kept_room = capacity_fits most_kept T.kept (length (kept_rows c.kept)) H.kept_words (rw (length-kept_rows c.kept) (let h = X.kept_fit in omega arith))

  -- Put into the tables they are well formed,
  pub put_formed : are_formed (put c T) ≡ true
  unfolding are_formed put
  put_formed =
      let s = layout-is_table is_allowed_statement most_statements (length T.statements) c.explicit.statements statement_room (let h = X.statements_fit in omega (arith, capacity_most most_statements T.statements)) X.sets.statements_ascend (member-all is_allowed_statement c.explicit.statements X.sets.statements_allowed) in
      let f = layout-is_table is_allowed_fact most_facts (length T.facts) c.explicit.facts fact_room (let h = X.facts_fit in omega (arith, capacity_most most_facts T.facts)) X.sets.facts_ascend (member-all is_allowed_fact c.explicit.facts X.sets.facts_allowed) in
      let k = layout-is_table is_allowed_fact most_kept (length T.kept) (kept_rows c.kept) kept_room (rw (length-kept_rows c.kept) (let h = X.kept_fit in omega (arith, capacity_most most_kept T.kept))) X.kept_ascend (member-all is_allowed_fact (kept_rows c.kept) X.kept_allowed) in
      let u = supports-padded (length c.explicit.facts) (length T.supports) (length c.kept) (kept_supports c.kept) (length_supports_of c.kept) (let h = X.kept_fit in omega arith)
      (member-all (is_support (length c.explicit.facts)) (kept_supports c.kept) (λ n m. let b = X.supports_between n m in between-is_support (length c.explicit.facts) n b.0 b.1)) in
      rw (s, f, k) (simp (count-layout, length-kept_rows c.kept) u)

  -- and the tables keep their lengths.
  pub put-lengths : SameLengths (put c T) T
  unfolding put
  put-lengths = record {
    same_statements = length-layout (length T.statements) c.explicit.statements statement_room;
    same_facts = length-layout (length T.facts) c.explicit.facts fact_room;
    same_kept = length-layout (length T.kept) (kept_rows c.kept) kept_room;
    same_supports = length-padded (length T.supports) (kept_supports c.kept) (rw (length_supports_of c.kept) (let h = X.kept_fit in omega arith));
  }

-- ---- what well-formed tables hold fits them

module _ {S F K U : List ℕ} (W : FormedStore S F K U) where
  -- The supports of the rows, as words.
  pub supports_are : kept_supports (kept_of K U) ≡ take (count K) U
  supports_are = rw (kept_of-entries K U (count K) (length-rows K)) (kept_supports-entries (count K) K U W.supports.within)

  formed_fits : Fitting (contents_of (tables S F K U)) (tables S F K U)
  unfolding contents_of
  formed_fits = record {
    sets = record {
      statements_ascend = W.statements.ascends;
      facts_ascend = W.facts.ascends;
      statements_allowed = λ u m. all-member is_allowed_statement (rows S) W.statements.each_allowed m;
      facts_allowed = λ u m. all-member is_allowed_fact (rows F) W.facts.each_allowed m;
    };
    kept_ascend = rw (kept_rows_kept_of W) W.kept.ascends;
    kept_allowed = λ u m. all-member is_allowed_fact (rows K) W.kept.each_allowed (subst (Memᴰ u) (kept_rows_kept_of W) m);
    statements_fit = W.statements.within;
    facts_fit = W.facts.within;
    kept_fit = let a = W.kept.within in let b = (kept_tables W).places in omega (arith, length_kept_of W);
    supports_between = λ n m. rw (length-rows F) (is_support-between (count F) n (all-member (is_support (count F)) (take (count K) U) W.supports.each_support (subst (Memᴰ n) supports_are m)));
  }

  formed-words : Worded (tables S F K U)
  formed-words = record {
    statement_words = omega (arith, W.statements.laid.fits);
    fact-words = omega (arith, W.facts.laid.fits);
    kept_words = omega (arith, W.kept.laid.fits);
  }

-- What well-formed tables hold fits them, and each has a word.
pub formed_fitting : (T : Tables) → are_formed T ≡ true → Fitting (contents_of T) T
formed_fitting T e = formed_fits (is_store_formed T.statements T.facts T.kept T.supports e)

pub formed_worded : (T : Tables) → are_formed T ≡ true → Worded T
formed_worded T e = formed-words (is_store_formed T.statements T.facts T.kept T.supports e)
