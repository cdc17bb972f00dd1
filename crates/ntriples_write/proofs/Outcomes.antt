-- What a writing gives, by the first question that says no, or by none. Assumes nothing.
use Rattle.std.specs.Prelude.{Err}
use Prim.Native.Nat.{ℕ}
use mathlib.Core.Path.{◌≡◌}
use mathlib.Core.Bool.{Bool, true, false}
use mathlib.Core.List.{List}
use lib.ListN.{replicate}
use Rattle.spec.specs.Lists.{all}
use Rattle.spec.specs.Refusals.{first_refusal}
use Rattle.spec.specs.Tables.{rows}
use Rattle.spec_ntriples.specs.Dictionary.{entries, is_dictionary}
use Rattle.spec_writing.specs.Writing.{Written, has_texts, rows_bytes, written, give_bytes, write_rows}
use Rattle.ntriples_rows.specs.inside.Fitting.{given_room}

module _ (table dictionary : List ℕ) (len : ℕ) (w : Written) where
  -- A table that is well formed.
  pub formed-written : (formed : Bool) → formed ≡ true → w ≡ write_rows true table dictionary len → w ≡ write_rows formed table dictionary len
  formed-written formed h k = rw h k

  -- 1: the table, or the dictionary.
  pub no_table : (formed : Bool) → formed ≡ false → w ≡ written (Err 1) (replicate len 0) → w ≡ write_rows formed table dictionary len
  unfolding write_rows give_bytes first_refusal
  no_table formed h k = rw h k

  pub no_dictionary : (formed : Bool) → formed ≡ true → is_dictionary dictionary ≡ false → w ≡ written (Err 1) (replicate len 0) → w ≡ write_rows formed table dictionary len
  unfolding write_rows give_bytes first_refusal
  no_dictionary formed f h k = rw (f, h) k

  -- 16, and the rest.
  module _ (d : is_dictionary dictionary ≡ true) where
    pub no_text_lem : all (has_texts (entries dictionary)) (rows table) ≡ false → w ≡ written (Err 16) (replicate len 0) → w ≡ write_rows true table dictionary len
    unfolding write_rows give_bytes first_refusal
    no_text_lem h k = rw (d, h) k

    pub with-texts : all (has_texts (entries dictionary)) (rows table) ≡ true → w ≡ given_room (rows_bytes (entries dictionary) (rows table)) len → w ≡ write_rows true table dictionary len
    unfolding write_rows first_refusal given_room
    with-texts t k = rw (d, t) k
