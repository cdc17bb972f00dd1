-- A store after the withdrawal of a fact, and the bound of its supports. Assumes nothing.
use Prim.Native.Nat.{ℕ, ◌≤◌, ◌<◌}
use mathlib.Core.Path.{◌≡◌, sym, ap, subst, ◌∙◌}
use mathlib.Core.Bool.{true, false}
use mathlib.Core.List.{List}
use native.Mathlib.Omega.{arith}
use lib.ListN.{length, take}
use lib.Dec.{leb}
use borrow.Author.Tests.{not-true, leb-true, leb-false}
use Rattle.spec.specs.declared.Triple.{Triple}
use Rattle.spec.specs.Terms.{is_statement}
use Rattle.spec.proofs.Lists.{by_test}
use Rattle.spec.specs.Tables.{count, Tables, tables, are_formed}
use Rattle.spec.specs.inside.Laid.{FormedStore}
use Rattle.table.proofs.Store.{formed_is_store}
use Rattle.spec.specs.declared.Answer.{Answer}
use Rattle.spec.specs.Updates.{withdraw}
use Rattle.store.proofs.Lowered.{supports_of, are_supports_within, formed-within, withdraw_fact_formed, withdraw_fact-within, withdraw_fact_places}
use Rattle.spec.specs.Deliveries.{is_fact}
use Rattle.delivery_supports.specs.inside.Highest.{highest}
use Rattle.delivery_supports.proofs.HighestLaws.{within-highest, highest-within}

-- The number of facts is a bound of the supports of a well-formed store.
pub formed-bound : {S F K U : List ℕ} → FormedStore S F K U → highest (take (count K) U) ≤ count F
formed-bound {S} {F} {K} {U} W = within-highest (count F) (take (count K) U) (formed-within (tables S F K U) (formed_is_store W))

-- What the withdrawal of a fact makes of well-formed tables T.
record Lowered (T T' : Tables) : Type 0 where
  within : (b : ℕ) → highest (supports_of T) ≤ b → highest (supports_of T') ≤ b
  places : count T'.kept ≤ length T'.supports
  formed : are_formed T' ≡ are_supports_within (count T'.facts) T'

fact-not_statement : (t : Triple) → is_fact t ≡ true → is_statement t ≡ false
fact-not_statement t e = not-true (is_statement t) e

withdrawn : (T : Tables) (t : Triple) → is_fact t ≡ true → are_formed T ≡ true → Lowered T (withdraw T t).1
withdrawn T t f e =
    let s = fact-not_statement t f in
    record {
      within = λ b h. within-highest b (supports_of (withdraw T t).1) (withdraw_fact-within T t s e b (highest-within b (supports_of T) h));
      places = withdraw_fact_places T t s e;
      formed = withdraw_fact_formed T t s e;
    }

module _ {S F K U S' F' K' U' : List ℕ} {a : Answer} (t : Triple) (W : FormedStore S F K U) (f : is_fact t ≡ true) (e : (a, tables S' F' K' U') ≡ withdraw (tables S F K U) t) where
  lowered : Lowered (tables S F K U) (tables S' F' K' U')
  lowered = subst (Lowered (tables S F K U)) (sym (ap (λ (r : Answer × Tables). r.1) e)) (withdrawn (tables S F K U) t f (formed_is_store W))

  -- A bound of the supports before it is one after it,
  pub lowered-within : (b : ℕ) → highest (take (count K) U) ≤ b → highest (take (count K') U') ≤ b
  lowered-within b h = lowered.within b h

  -- each kept fact has a place for its support,
  pub lowered_places : count K' ≤ length U'
  lowered_places = lowered.places

  -- and a bound that is the highest support where it is above the number of facts tells whether the tables are well formed.
  pub lowered_formed : (b : ℕ) → highest (take (count K') U') ≤ b → (count F' < b → b ≡ highest (take (count K') U')) → leb b (count F') ≡ are_formed (tables S' F' K' U')
  lowered_formed b h c =
      let us : List ℕ = take (count K') U' in
      by_test (leb b (count F'))
      (λ l. l ∙ sym (lowered.formed ∙ highest-within (count F') us (omega (arith, leb-true b (count F') l, h))))
      (λ l.
      let high : count F' < b = leb-false b (count F') l in
      by_test (are_formed (tables S' F' K' U'))
      (λ w. absurd (omega (arith, within-highest (count F') us (sym lowered.formed ∙ w), c high, high)))
      (λ w. l ∙ sym w))
