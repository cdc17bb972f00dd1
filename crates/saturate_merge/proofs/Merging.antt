-- Streams merged into rows of one subject and property. Assumes nothing.
use mathlib.Core.Path.{◌≡◌}
use mathlib.Core.List.{List}
use Prim.Native.Nat.{ℕ, ◌+◌, ◌*◌, ◌^◌, ◌≤◌, ◌<◌}
use native.Mathlib.Omega.{arith}
use lib.ListN.{length, get_or}
use Rattle.spec.specs.Terms.{triple}
use Rattle.spec.specs.Saturation.{Kept}
use Rattle.spec.specs.inside.Counts.{Counts}
use Rattle.saturate_merge.specs.inside.Output.{Output, put_one, put_all}
use Rattle.saturate_merge.specs.inside.Between.{between}
use Rattle.saturate_merge.specs.inside.Streams.{least_of, hits, strips, tally, AllRising, streams, Inside, Tallied}
use Rattle.saturate_merge.proofs.Streams.{tally_below, tally_least, hits_least, tally-strips, rising-strips, least-strips, tally_above, remaining, remaining-strips, least_small}
use Rattle.saturate_merge.proofs.Listing.{Listing, listing_start, listing-put, listing_end}

-- The rows below the least object are put, and the streams have the others.
abbrev Merging : Kept → ℕ → ℕ → ℕ → Output → Output → List (List ℕ) → Type 0
Merging K x q room out₀ out ls = Listing K x q room out₀ out (λ o. tally o ls) (least_of ls)

merge_start : (K : Kept) (x q room : ℕ) (out : Output) (ls : List (List ℕ)) → Counts K → AllRising ls → Tallied K x q ls → Merging K x q room out out ls
merge_start K x q room out ls a r t = listing_start K x q room out (λ o. tally o ls) (least_of ls) a t (λ o h. tally_below o ls r h)

merge_turn : (K : Kept) (x q room : ℕ) (out₀ out : Output) (ls : List (List ℕ)) → Counts K → AllRising ls → least_of ls < 2 ^ 32 → Merging K x q room out₀ out ls → Merging K x q room out₀ (put_one room (triple x q (least_of ls), hits (least_of ls) ls) out) (strips (least_of ls) ls)
merge_turn K x q room out₀ out ls a r lt g =
    let m = least_of ls in
    listing-put K x q room out₀ out (λ o. tally o ls) (λ o. tally o (strips m ls)) m (least_of (strips m ls)) (hits m ls) a g (tally_least ls r) (hits_least ls lt)
    (least-strips m ls r (omega arith) lt) (λ o h. tally-strips m o ls h) (λ o _ h. tally_below o (strips m ls) (rising-strips m ls r) h)

merge_end : (K : Kept) (x q room : ℕ) (out₀ out : Output) (ls : List (List ℕ)) → Counts K → AllRising ls → least_of ls ≡ 2 ^ 32 → Merging K x q room out₀ out ls → out ≡ put_all room (between (triple x q 0) (triple x (q + 1) 0) K) out₀
merge_end K x q room out₀ out ls a r top g = listing_end K x q room out₀ out (λ o. tally o ls) (least_of ls) a g (λ o h. tally_above o ls r (omega arith))

-- What holds at each turn of the loop.
pub record Turn (f ends₀ ends : List ℕ) (k x q room : ℕ) (out₀ out : Output) : Type 0 where
  pub fits : Inside f ends k
  pub rising : AllRising (streams f ends k)
  pub rows : (K : Kept) → Counts K → Tallied K x q (streams f ends₀ k) → Merging K x q room out₀ out (streams f ends k)

pub turn_start : (f ends : List ℕ) (k x q room : ℕ) (out : Output) → Inside f ends k → AllRising (streams f ends k) → Turn f ends ends k x q room out out
turn_start f ends k x q room out i r = record { fits = i; rising = r; rows = λ K a t. merge_start K x q room out (streams f ends k) a r t }

module _ (f ends₀ ends : List ℕ) (k x q room : ℕ) (out₀ out : Output) (o : ℕ) (g : Turn f ends₀ ends k x q room out₀ out) (first : o ≡ least_of (streams f ends k)) where
  pub turn_more : (ends' : List ℕ) (out' : Output) (c : ℕ) → o < 2 ^ 32 → length ends' ≡ length ends → c ≡ hits o (streams f ends k) → streams f ends' k ≡ strips o (streams f ends k) → ((y : ℕ) → get_or ends' (y * 2 + 1) 0 ≡ get_or ends (y * 2 + 1) 0) → out' ≡ put_one room (triple x q o, c) out → Turn f ends₀ ends' k x q room out₀ out'
  turn_more ends' out' c lt l ec es same est =
      record {
        fits = (omega (arith, g.fits.0), λ y h. rw (same y) (g.fits.1 y h));
        rising = rw es (rising-strips o (streams f ends k) g.rising);
        rows = λ K a t. rw (est, ec, es, first) (merge_turn K x q room out₀ out (streams f ends k) a g.rising (rw first at lt) (g.rows K a t));
      }

  pub turn-less : (ends' : List ℕ) → o < 2 ^ 32 → streams f ends' k ≡ strips o (streams f ends k) → remaining (streams f ends' k) < remaining (streams f ends k)
  turn-less ends' lt es =
      let h : 0 < hits o (streams f ends k) = rw first (hits_least (streams f ends k) (rw first at lt)) in
      rw es (omega (arith, remaining-strips o (streams f ends k)))

  pub turn_end : 2 ^ 32 ≤ o → (K : Kept) → Counts K → Tallied K x q (streams f ends₀ k) → out ≡ put_all room (between (triple x q 0) (triple x (q + 1) 0) K) out₀
  turn_end le K a t =
      merge_end K x q room out₀ out (streams f ends k) a g.rising (omega (arith, first, least_small (streams f ends k))) (g.rows K a t)
