-- What carrying over promises (document 02, slip 5), in words that its theorems use. Definitions only.
use Rattle.std.specs.Prelude.{ℕ, ◌+◌, ◌*◌, ◌≤◌, ◌<◌, ◌≡◌, true, false, ◌⊎◌, length, get_or}
use Rattle.spec.specs.Terms.{is_allowed_statement, is_allowed_fact}
use Rattle.spec.specs.Tables.{count, rows, are_zero, is_table, is_support_table, Tables, contents_of}
use Rattle.spec.specs.inside.Laid.{WellFormed, Supports}
use Rattle.old_store.specs.declared.Lengths.{Lengths}
use Rattle.old_store.specs.CarryingOver.{is_old_store, lengths}

-- The four tables of a well-formed store of the old form.
pub record OldStore (T : Tables) : Type 0 where
  pub statements : WellFormed is_allowed_statement 512 T.statements
  pub facts : WellFormed is_allowed_fact 65535 T.facts
  pub kept : WellFormed is_allowed_fact 262143 T.kept
  pub supports : Supports (count T.facts) (count T.kept) T.supports

-- Why carrying over is refused, and by which number: the first "no" of 1, 4 and 5.
pub data CarryingRefusedBy (T : Tables) (L : Lengths) (n : ℕ) : Type 0 where
  no_store : n ≡ 1 → is_old_store T ≡ false → CarryingRefusedBy T L n
  no_room
      : n ≡ 4 → is_old_store T ≡ true → (L.statements < count T.statements * 3 + 1) ⊎ (L.facts < count T.facts * 3 + 1)
      → CarryingRefusedBy T L n
  no-kept-room
      : n ≡ 5 → is_old_store T ≡ true → count T.statements * 3 + 1 ≤ L.statements → count T.facts * 3 + 1 ≤ L.facts
      → (L.kept < count T.kept * 3 + 1) ⊎ (L.supports < count T.kept) → CarryingRefusedBy T L n

-- That it is accepted.
pub record CarryingAccepted (T : Tables) (L : Lengths) : Type 0 where
  pub store : is_old_store T ≡ true
  pub statements : count T.statements * 3 + 1 ≤ L.statements
  pub facts : count T.facts * 3 + 1 ≤ L.facts
  pub kept : count T.kept * 3 + 1 ≤ L.kept
  pub supports : count T.kept ≤ L.supports

-- "A refusal leaves the new tables zero": each word of N.
pub record AllZero (N : Tables) : Type 0 where
  pub statements : are_zero N.statements ≡ true
  pub facts : are_zero N.facts ≡ true
  pub kept : are_zero N.kept ≡ true
  pub supports : are_zero N.supports ≡ true

-- "Rows unchanged, each support the same number": of an old store T and the new one N.
pub record SameStore (T N : Tables) : Type 0 where
  pub statements : rows N.statements ≡ rows T.statements
  pub facts : rows N.facts ≡ rows T.facts
  pub kept : rows N.kept ≡ rows T.kept
  pub supports : (i : ℕ) → i < count T.kept → get_or N.supports i 0 ≡ get_or T.supports i 0
  pub contents : contents_of N ≡ contents_of T

-- Well formed under any limits that admit the rows of the old store T, its own among them.
pub record FormedUnder (T N : Tables) : Type 0 where
  pub statements : (most : ℕ) → count T.statements ≤ most → is_table is_allowed_statement most N.statements ≡ true
  pub facts : (most : ℕ) → count T.facts ≤ most → is_table is_allowed_fact most N.facts ≡ true
  pub kept : (most : ℕ) → count T.kept ≤ most → is_table is_allowed_fact most N.kept ≡ true
  pub supports : is_support_table (count N.facts) (count N.kept) N.supports ≡ true

-- The lengths of tables.
abbrev pub lengths_of : Tables → Lengths
lengths_of T = lengths (length T.statements) (length T.facts) (length T.kept) (length T.supports)
