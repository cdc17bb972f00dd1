-- Which updates keep a store well formed, and what a store that is not makes of every entry. Assumes nothing.
use Prim.Native.Nat.{ℕ}
use mathlib.Core.Path.{◌≡◌, refl, sym, ap, ◌∙◌}
use mathlib.Core.Bool.{true}
use mathlib.Core.List.{List, [], ◌∷◌}
use Rattle.spec.specs.declared.Triple.{Triple}
use Rattle.spec.proofs.Lists.{by_test}
use Rattle.spec.specs.Tables.{Tables, tables, are_formed}
use Rattle.spec.specs.Lists.{all}
use Rattle.spec.specs.inside.Laid.{FormedStore}
use Rattle.table.proofs.Store.{is_store_formed, formed_is_store}
use Rattle.spec.specs.declared.Answer.{Answer}
use Rattle.spec.specs.declared.Change.{Change}
use Rattle.spec.specs.declared.Change.TheVariants.{Addition, Withdrawal}
use Rattle.spec.specs.Updates.{update, add}
use Rattle.spec.proofs.Outcomes.{update_malformed}
use Rattle.store.proofs.Laws.{add_formed, statement_formed}
use Rattle.delivery_section.specs.inside.Running.{keeps_formed}

keeps_formed_lem : (d : Change) (T : Tables) (t : Triple) → keeps_formed d t ≡ true → are_formed T ≡ true → are_formed (update d T t).1 ≡ true
keeps_formed_lem Addition T t k e = add_formed T t e
keeps_formed_lem Withdrawal T t k e = statement_formed Withdrawal T t k e

-- The tables after an addition or a statement's withdrawal are well formed.
pub stays_formed : {S F K U S' F' K' U' : List ℕ} (d : Change) (a : Answer) (t : Triple) → keeps_formed d t ≡ true → FormedStore S F K U → (a, tables S' F' K' U') ≡ update d (tables S F K U) t → FormedStore S' F' K' U'
stays_formed {S} {F} {K} {U} {S'} {F'} {K'} {U'} d a t k W e =
    is_store_formed S' F' K' U' (ap (λ (r : Answer × Tables). are_formed r.1) e ∙ keeps_formed_lem d (tables S F K U) t k (formed_is_store W))

-- Every addition does.
pub all_keep : (ts : List Triple) → all (keeps_formed Addition) ts ≡ true
unfolding all
all_keep [] = refl
all_keep (t ∷ ts) = all_keep ts

-- An addition changes nothing of whether tables are well formed.
pub adding_formed : (T : Tables) (t : Triple) → are_formed (add T t).1 ≡ are_formed T
adding_formed T t =
    by_test (are_formed T)
    (λ e. add_formed T t e ∙ sym e)
    (λ e. ap (λ (r : Answer × Tables). are_formed r.1) (update_malformed Addition T t e))
