-- The places behind the rows that are left, set to zero in both tables. Assumes nothing.
use Prim.Native.Nat.{ℕ, ◌+◌, ◌-◌, ◌*◌, ◌≤◌, ◌<◌}
use mathlib.Core.Path.{◌≡◌, sym, ap, ap₂, ◌∙◌}
use mathlib.Core.List.{List, ◌++◌}
use native.Mathlib.Omega.{arith}
use lib.ListN.{length, take, drop, replicate, replicate-append-replicate}
use lib.Seq.{drop_at, length-take-le, ext_get_or}
use Rattle.spec.specs.declared.Triple.{Triple}
use Rattle.spec.specs.Tables.{row_at}
use Rattle.spec.specs.inside.Comparison.{triple_eq}
use Rattle.rows_zero.specs.inside.Effects.{WordsZeroed}
use Rattle.rows_zero.proofs.Zeroed.{zeroed_is}
use Rattle.update_kept.specs.inside.Entries.{entries, Room}
use Rattle.update_kept.proofs.Entries.{no_entry, length-entries, get_or-entries}
use Rattle.update_lower.specs.inside.Lowering.{Cleared}

-- The part and what is behind it.
parts : (a e n m : ℕ) → a ≤ e → e ≤ n → m ≡ n → e - a + (n - e) ≡ m - a
parts a e n m h l q = omega arith

-- Where all words behind a part are zero and the part is set to zero, all words from its first on are zero.
zeros_behind : (a e : ℕ) (t s : List ℕ) → a ≤ e → e ≤ length t → length s ≡ length t → drop e t ≡ replicate (length t - e) 0 → WordsZeroed a e t s → drop a s ≡ replicate (length s - a) 0
zeros_behind a e t s h l q z w =
    ap (drop a) (zeroed_is a e t s h l q w)
    ∙ drop_at (take a t) (replicate (e - a) 0 ++ drop e t) a (length-take-le a t (omega arith))
    ∙ ap (λ (r : List ℕ). replicate (e - a) 0 ++ r) z
    ∙ replicate-append-replicate (e - a) (length t - e) 0 ∙ ap (λ (k : ℕ). replicate k 0) (parts a e (length t) (length s) h l q)

module _ {k n : ℕ} {ws us ws' us' : List ℕ} (h : k ≤ n) (R : Room n ws us) (lw : length ws' ≡ length ws) (zw : WordsZeroed (k * 3 + 1) (n * 3 + 1) ws ws') (lu : length us' ≡ length us) (zu : WordsZeroed k n us us') where
  -- A row before them is as it was.
  same_row : (i : ℕ) → i < k → row_at ws' i ≡ row_at ws i
  unfolding row_at
  same_row i l = triple_eq _ _ (zw.low _ (omega arith)) (zw.low _ (omega arith)) (zw.low _ (omega arith))

  same_entries : entries k ws' us' ≡ entries k ws us
  same_entries =
      let p : k ≤ length us = omega (arith, R.places) in
      let p' : k ≤ length us' = omega (arith, R.places) in
      ext_get_or no_entry (entries k ws' us') (entries k ws us) (length-entries k ws' us' p' ∙ sym (length-entries k ws us p))
      (λ i g.
      let l : i < k = omega (arith, length-entries k ws' us' p') in
      get_or-entries k ws' us' p' i l ∙ ap₂ (λ (t : Triple) (u : ℕ). (t, u)) (same_row i l) (zu.low i l) ∙ sym (get_or-entries k ws us p i l))

  -- From place k on both tables are zero, and before it as they were.
  pub places_cleared : Cleared k ws us ws' us'
  places_cleared =
      record {
        room =
            record {
              words = omega (arith, R.words);
              places = omega (arith, R.places);
              zero-words = zeros_behind (k * 3 + 1) (n * 3 + 1) ws ws' (omega arith) (omega (arith, R.words)) lw R.zero-words zw;
              zero_places = zeros_behind k n us us' h R.places lu R.zero_places zu;
            };
        same-words = lw;
        same_places = lu;
        same_entries = same_entries;
      }
