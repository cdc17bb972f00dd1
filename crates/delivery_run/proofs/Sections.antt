-- The four sections of a whole delivery, one after the other. Assumes nothing.
use Prim.Native.Nat.{ℕ}
use mathlib.Core.Path.{◌≡◌, sym, ap, ◌∙◌}
use mathlib.Core.Bool.{Bool, true}
use mathlib.Core.List.{List}
use native.Mathlib.Omega.{arith}
use Rattle.spec.specs.declared.Triple.{Triple}
use Rattle.spec.specs.Terms.{is_statement}
use Rattle.spec.proofs.Ascending.{and_left, and_right}
use Rattle.spec.specs.Tables.{Tables, are_formed}
use Rattle.spec.specs.Lists.{all}
use Rattle.spec.specs.Deliveries.{is_fact, are_sections_right, tally, run_entries, run_message}
use Rattle.spec.specs.inside.Pairs.{progress}
use Rattle.spec.specs.computed.Decoded.{read, is_whole}
use Rattle.spec.specs.declared.Change.TheVariants.{Addition, Withdrawal}
use Rattle.spec.specs.Updates.{update}
use Rattle.spec.specs.declared.Tally.{Tally}
use Rattle.delivery_section.specs.inside.Running.{keeps_formed, section, Next}
use Rattle.delivery_section.proofs.Runs.{additions_formed}

-- ---- what is asked of each

-- The first is run with no tallies.
pub first-section : (bs : List ℕ) (y : Tally) → is_whole bs ≡ true → y ≡ tally 0 0 0 → Next bs 0 y
first-section bs y w q = rw q (record { whole = w; entries = omega arith; few = omega arith })

-- Its entries keep a store well formed.
pub first_keeps : (bs : List ℕ) → are_sections_right (read bs) ≡ true → all (keeps_formed Withdrawal) (section bs 0) ≡ true
unfolding are_sections_right read
first_keeps bs e = and_left (all is_statement (section bs 0)) _ e

-- Those of the second are facts.
pub second_facts : (bs : List ℕ) → are_sections_right (read bs) ≡ true → all is_fact (section bs 1) ≡ true
unfolding are_sections_right read
second_facts bs e = and_left (all is_fact (section bs 1)) _ (and_right (all is_statement (section bs 0)) _ e)

-- What was known of a store before additions is true after them.
pub still_formed : {T' : Tables} {y' : Tally} (b : Bool) (ts : List Triple) (T : Tables) (y : Tally) → b ≡ are_formed T → progress T' y' ≡ run_entries (update Addition) ts (progress T y) → b ≡ are_formed T'
still_formed b ts T y e q = e ∙ sym (ap (λ (g : Tables × Tally). are_formed g.0) q ∙ additions_formed ts (progress T y))

-- ---- all four

-- The sections run one after the other are the message run.
pub message-run : {T₄ : Tables} {y₄ : Tally} (bs : List ℕ) (T₀ T₁ T₂ T₃ : Tables) (y₀ y₁ y₂ y₃ : Tally) → y₀ ≡ tally 0 0 0
    → progress T₁ y₁ ≡ run_entries (update Withdrawal) (section bs 0) (progress T₀ y₀)
    → progress T₂ y₂ ≡ run_entries (update Withdrawal) (section bs 1) (progress T₁ y₁)
    → progress T₃ y₃ ≡ run_entries (update Addition) (section bs 2) (progress T₂ y₂)
    → progress T₄ y₄ ≡ run_entries (update Addition) (section bs 3) (progress T₃ y₃)
    → progress T₄ y₄ ≡ run_message update (read bs) (progress T₀ (tally 0 0 0))
unfolding run_message read
message-run bs T₀ T₁ T₂ T₃ y₀ y₁ y₂ y₃ q a b c d =
    d
    ∙ ap (run_entries (update Addition) (section bs 3)) (c
    ∙ ap (run_entries (update Addition) (section bs 2)) (b
    ∙ ap (run_entries (update Withdrawal) (section bs 1)) (a
    ∙ ap (λ (y : Tally). run_entries (update Withdrawal) (section bs 0) (progress T₀ y)) q)))
