-- Laws of updates: what each answer says, and what an update keeps true of a store. Assumes nothing.
use Prim.Native.Nat.{ℕ, zero, suc, ◌≤◌, ◌<◌}
use mathlib.Core.Path.{◌≡◌, refl, sym, ap, ◌∙◌}
use mathlib.Core.Bool.{Bool, true, false, ◌||◌, not, cond}
use mathlib.Core.Logic.{⊎_elim}
use mathlib.Core.List.{List, [], ◌∷◌, ◌++◌, zip, zip_with, Memᴰ}
use native.Mathlib.Omega.{arith}
use lib.ListN.{length, replicate}
use borrow.Author.Tests.{not-true, leb-true}
use Rattle.spec.specs.declared.Triple.{Triple}
use Rattle.spec.specs.Terms.{is_triple, is_statement, are_sides_allowed}
use Rattle.spec.specs.Refusals.{first_refusal, triple_checks}
use Rattle.spec.proofs.Tests.{is_in_iff}
use Rattle.spec.proofs.Lists.{true-not_false, by_test, or_cases}
use Rattle.spec.specs.Tables.{rows, Tables, tables, are_formed, capacities_of, Ledger, ledger, Contents, contents, contents_of, kept_of, put}
use Rattle.spec.proofs.TableRows.{rows-layout}
use Rattle.table.proofs.Store.{layout-empty, empty_is_store}
use Rattle.spec.specs.computed.Saturated.{saturation}
use Rattle.spec.proofs.Saturation.{raise-saturation, lower-saturation}
use Rattle.spec.specs.declared.Answer.{Answer}
use Rattle.spec.specs.declared.Answer.TheVariants.{Applied, Idle, Refused}
use Rattle.spec.specs.declared.Change.{Change}
use Rattle.spec.specs.declared.Change.TheVariants.{Addition, Withdrawal}
use Rattle.spec.specs.Updates.{set_of, is_member, changed, applying, is_change, is_admitted, settle, kept_after, contents_after, is_kept_fitting, update_checks, update, add}
use Rattle.spec.proofs.Outcomes.{member_yes}
use Rattle.store.proofs.Passing.{fact_allowed}
use Rattle.store.proofs.Fitting.{contents_of-put, Fitting, SameLengths, put_formed, put-lengths, formed_fitting, formed_worded}
use Rattle.store.proofs.Applied.{statement_changes, fact_enters, fact_goes}

-- ---- the three answers

-- What holds of each answer holds of what is settled,
settle_elim : {A : Type 0} (Q : Answer × A → Type 0) (q : ℕ) (b : Bool) (after before : A)
    → ((n : ℕ) → q ≡ suc n → Q (Refused (suc n), before)) → (q ≡ 0 → b ≡ true → Q (Applied, after)) → (q ≡ 0 → b ≡ false → Q (Idle, before)) → Q (settle q b after before)
unfolding settle
settle_elim Q (suc n) b x y r a i = r n refl
settle_elim Q zero true x y r a i = a refl refl
settle_elim Q zero false x y r a i = i refl refl

-- and so of an update.
pub update_elim : (Q : Answer × Tables → Type 0) (d : Change) (T : Tables) (t : Triple)
    → ((n : ℕ) → first_refusal (update_checks d t T) ≡ suc n → Q (Refused (suc n), T))
    → (first_refusal (update_checks d t T) ≡ 0 → is_change d t (contents_of T).explicit ≡ true → Q (Applied, put (contents_after d t (contents_of T)) T))
    → (first_refusal (update_checks d t T) ≡ 0 → is_change d t (contents_of T).explicit ≡ false → Q (Idle, T)) → Q (update d T t)
unfolding update
update_elim Q d T t r a i = settle_elim Q (first_refusal (update_checks d t T)) (is_change d t (contents_of T).explicit) (put (contents_after d t (contents_of T)) T) T r a i

-- What the answer of an update says, whatever it is.
abbrev Says : Change → Tables → Triple → Answer × Tables → Type 0
Says d T t o =
    ((n : ℕ) → o.0 ≡ Refused n → (first_refusal (update_checks d t T) ≡ n) × (0 < n) × (o.1 ≡ T))
    × (o.0 ≡ Idle → (first_refusal (update_checks d t T) ≡ 0) × (is_change d t (contents_of T).explicit ≡ false) × (o.1 ≡ T))
    × (o.0 ≡ Applied → (first_refusal (update_checks d t T) ≡ 0) × (is_change d t (contents_of T).explicit ≡ true) × (o.1 ≡ put (contents_after d t (contents_of T)) T))

-- Two constructors are never equal.
no_path : {A : Type 0} → ◌≡◌ {A = ℕ} 0 1 → A
no_path z = absurd (omega arith)

says : (d : Change) (T : Tables) (t : Triple) → Says d T t (update d T t)
says d T t =
    update_elim (Says d T t) d T t
    (λ n e. (λ m p. let s : suc n ≡ m = cc in (e ∙ s, omega arith, refl), λ p. no_path (cc), λ p. no_path (cc)))
    (λ e f. (λ m p. no_path (cc), λ p. no_path (cc), λ p. (e, f, refl)))
    (λ e f. (λ m p. no_path (cc), λ p. (e, f, refl), λ p. no_path (cc)))

-- An update is refused with n only where n is the number of the first "no", and then changes no word.
pub update_refused : (d : Change) (T : Tables) (t : Triple) (n : ℕ) → (update d T t).0 ≡ Refused n → (first_refusal (update_checks d t T) ≡ n) × (0 < n) × ((update d T t).1 ≡ T)
update_refused d T t n e = (says d T t).0 n e

-- It is idle only where every answer is yes and it would change nothing, and then changes no word.
pub update_idle_only : (d : Change) (T : Tables) (t : Triple) → (update d T t).0 ≡ Idle → (first_refusal (update_checks d t T) ≡ 0) × (is_change d t (contents_of T).explicit ≡ false) × ((update d T t).1 ≡ T)
update_idle_only d T t e = (says d T t).1 e

-- It is applied only where every answer is yes and it changes the contents, and then the tables hold these.
pub update_applied_only : (d : Change) (T : Tables) (t : Triple) → (update d T t).0 ≡ Applied → (first_refusal (update_checks d t T) ≡ 0) × (is_change d t (contents_of T).explicit ≡ true) × ((update d T t).1 ≡ put (contents_after d t (contents_of T)) T)
update_applied_only d T t e = (says d T t).2 e

-- What the tables hold after an applied update.
pub update-contents : (d : Change) (T : Tables) (t : Triple) → (update d T t).0 ≡ Applied → contents_of (update d T t).1 ≡ contents_after d t (contents_of T)
update-contents d T t e = ap contents_of (update_applied_only d T t e).2 ∙ contents_of-put (contents_after d t (contents_of T)) T

-- ---- what the answers to the questions say

-- Where every question is answered yes, so is the first, and so are the rest.
yes_first : (n : ℕ) (b : Bool) (qs : List (ℕ × Bool)) → first_refusal ((suc n, b) ∷ qs) ≡ 0 → (b ≡ true) × (first_refusal qs ≡ 0)
unfolding first_refusal
yes_first n true qs e = (refl, e)
yes_first n false qs e = absurd (omega arith)

-- What is no member is not in its set,
pub member_false : (t : Triple) (L : Ledger) → is_member t L ≡ false → ¬ Memᴰ t (set_of t L)
member_false t L e m = true-not_false (sym (member_yes t L m) ∙ e)

-- and what is one is.
pub member_true : (t : Triple) (L : Ledger) → is_member t L ≡ true → Memᴰ t (set_of t L)
unfolding is_member
member_true t L = (is_in_iff t (set_of t L)).0

-- The answers to the questions of an update, where all are yes and it changes something.
pub record Asked (d : Change) (t : Triple) (T : Tables) : Type 0 where
  pub is_triple : is_triple t ≡ true
  pub passed : first_refusal (triple_checks t) ≡ 0
  pub admitted : is_admitted (capacities_of T) d t (contents_of T).explicit ≡ true
  pub few : length (contents_after d t (contents_of T)).kept ≤ (capacities_of T).kept

-- Where the left is false the right is true.
or_right : (a b : Bool) → (a || b) ≡ true → a ≡ false → b ≡ true
or_right a b e f = ⊎_elim (λ h. absurd (true-not_false (sym h ∙ f))) (λ h. h) (or_cases a b e)

-- What question 5 says.
fitting_le : (c : Contents) (T : Tables) → is_kept_fitting c T ≡ true → length c.kept ≤ (capacities_of T).kept
unfolding is_kept_fitting
fitting_le c T e = leb-true (length c.kept) (capacities_of T).kept e

pub asked : (d : Change) (t : Triple) (T : Tables) → first_refusal (update_checks d t T) ≡ 0 → is_change d t (contents_of T).explicit ≡ true → Asked d t T
unfolding first_refusal
asked d t T e b =
    let c : Contents = contents_of T in
    let sides : Bool = cond (is_statement t) (are_sides_allowed t) true in
    let admitted : Bool = is_admitted (capacities_of T) d t c.explicit in
    let fits : Bool = not (is_change d t c.explicit) || is_kept_fitting (contents_after d t c) T in
    let q₁ = yes_first 0 (are_formed T) (triple_checks t ++ ((4, admitted) ∷ (5, fits) ∷ [])) e in
    let q₂ = yes_first 1 (is_triple t) ((3, sides) ∷ (4, admitted) ∷ (5, fits) ∷ []) q₁.1 in
    let q₃ = yes_first 2 sides ((4, admitted) ∷ (5, fits) ∷ []) q₂.1 in
    let q₄ = yes_first 3 admitted ((5, fits) ∷ []) q₃.1 in
    let q₅ = yes_first 4 fits [] q₄.1 in
    record {
      is_triple = q₂.0;
      passed = rw (q₂.0, q₃.0) refl;
      admitted = q₄.0;
      few = fitting_le (contents_after d t c) T (or_right (not (is_change d t c.explicit)) (is_kept_fitting (contents_after d t c) T) q₅.0 (rw b refl));
    }

-- ---- the saturation

-- The kept facts are the saturation of the statements and the facts.
abbrev pub Saturated : Contents → Type 0
Saturated c = c.kept ≡ saturation c.explicit.statements c.explicit.facts

-- Contents that an update changes are saturated again.
pub after-saturated : (d : Change) (t : Triple) (c : Contents) → is_change d t c.explicit ≡ true → Saturated c → Saturated (contents_after d t c)
unfolding contents_after kept_after applying changed is_change
after-saturated Addition t c b e =
    let n = member_false t c.explicit (not-true (is_member t c.explicit) b) in
    by_test (is_statement t)
    (λ s. rw s refl)
    (λ s. rw (s, e) (raise-saturation c.explicit.statements c.explicit.facts t (rw s at n)))
after-saturated Withdrawal t c b e =
    let m = member_true t c.explicit b in
    by_test (is_statement t)
    (λ s. rw s refl)
    (λ s. rw (s, e) (lower-saturation c.explicit.statements c.explicit.facts t (rw s at m)))

-- Every update leaves a saturated store saturated, whatever its answer.
pub update-saturated : (d : Change) (T : Tables) (t : Triple) → Saturated (contents_of T) → Saturated (contents_of (update d T t).1)
update-saturated d T t e =
    update_elim (λ (o : Answer × Tables). Saturated (contents_of o.1)) d T t
    (λ _ _. e) (λ _ b. rw contents_of-put (after-saturated d t (contents_of T) b e)) (λ _ _. e)

-- ---- the contents after an applied update fit

-- That of a statement,
statement_fitting : (d : Change) (T : Tables) (t : Triple) → are_formed T ≡ true → is_statement t ≡ true → Asked d t T → is_change d t (contents_of T).explicit ≡ true → Fitting (contents_after d t (contents_of T)) T
statement_fitting d T t e s A b = statement_changes (formed_fitting T e) t A.passed d s b A.admitted A.few

-- any addition,
add_fitting : (T : Tables) (t : Triple) → are_formed T ≡ true → Asked Addition t T → is_change Addition t (contents_of T).explicit ≡ true → Fitting (contents_after Addition t (contents_of T)) T
unfolding is_change
add_fitting T t e A b =
    let n = member_false t (contents_of T).explicit (not-true (is_member t (contents_of T).explicit) b) in
    by_test (is_statement t)
    (λ s. statement_fitting Addition T t e s A b)
    (λ s. fact_enters (formed_fitting T e) t A.passed s (fact_allowed t A.is_triple s) (rw s at n) b A.admitted A.few)

-- and any update of a saturated store.
update_fitting : (d : Change) (T : Tables) (t : Triple) → are_formed T ≡ true → Saturated (contents_of T) → Asked d t T → is_change d t (contents_of T).explicit ≡ true → Fitting (contents_after d t (contents_of T)) T
unfolding is_change
update_fitting Addition T t e k A b = add_fitting T t e A b
update_fitting Withdrawal T t e k A b =
    let m = member_true t (contents_of T).explicit b in
    by_test (is_statement t)
    (λ s. statement_fitting Withdrawal T t e s A b)
    (λ s. fact_goes (formed_fitting T e) t A.passed s k (rw s at m) b)

-- ---- well-formed tables

-- An addition leaves well-formed tables well formed, whatever its answer,
pub add_formed : (T : Tables) (t : Triple) → are_formed T ≡ true → are_formed (add T t).1 ≡ true
add_formed T t e =
    update_elim (λ (o : Answer × Tables). are_formed o.1 ≡ true) Addition T t
    (λ _ _. e) (λ q b. put_formed (add_fitting T t e (asked Addition t T q b) b) (formed_worded T e)) (λ _ _. e)

-- so does any update of a statement,
pub statement_formed : (d : Change) (T : Tables) (t : Triple) → is_statement t ≡ true → are_formed T ≡ true → are_formed (update d T t).1 ≡ true
statement_formed d T t s e =
    update_elim (λ (o : Answer × Tables). are_formed o.1 ≡ true) d T t
    (λ _ _. e) (λ q b. put_formed (statement_fitting d T t e s (asked d t T q b) b) (formed_worded T e)) (λ _ _. e)

-- and so does any where the kept facts are the saturation. (A fact withdrawn from a store that was lent, and not grown, can leave a support
-- above the number of facts.)
pub update_formed : (d : Change) (T : Tables) (t : Triple) → are_formed T ≡ true → Saturated (contents_of T) → are_formed (update d T t).1 ≡ true
update_formed d T t e k =
    update_elim (λ (o : Answer × Tables). are_formed o.1 ≡ true) d T t
    (λ _ _. e) (λ q b. put_formed (update_fitting d T t e k (asked d t T q b) b) (formed_worded T e)) (λ _ _. e)

-- ---- lengths

-- What is not changed has its lengths.
same-lengths : (T : Tables) → SameLengths T T
same-lengths T = record { same_statements = refl; same_facts = refl; same_kept = refl; same_supports = refl }

-- No update changes the lengths of well-formed tables whose kept facts are the saturation, and so no capacity.
pub update-lengths : (d : Change) (T : Tables) (t : Triple) → are_formed T ≡ true → Saturated (contents_of T) → SameLengths (update d T t).1 T
update-lengths d T t e k =
    update_elim (λ (o : Answer × Tables). SameLengths o.1 T) d T t
    (λ _ _. same-lengths T) (λ q b. put-lengths (update_fitting d T t e k (asked d t T q b) b) (formed_worded T e)) (λ _ _. same-lengths T)

-- ---- grown stores

-- A store whose tables are well formed and whose kept facts are the saturation.
pub record Sound (T : Tables) : Type 0 where
  pub formed : are_formed T ≡ true
  pub saturated : Saturated (contents_of T)

-- Every update leaves it so.
pub update_sound : (d : Change) (T : Tables) (t : Triple) → Sound T → Sound (update d T t).1
update_sound d T t G = record { formed = update_formed d T t G.formed G.saturated; saturated = update-saturated d T t G.saturated }

-- An empty store is one.
empty-rows : (n : ℕ) → 0 < n → rows (replicate n 0) ≡ []
empty-rows n h = rw (← layout-empty n h) (rows-layout n [])

-- It holds nothing,
pub empty-contents : (s f k u : ℕ) → 0 < s → 0 < f → 0 < k → contents_of (tables (replicate s 0) (replicate f 0) (replicate k 0) (replicate u 0)) ≡ contents (ledger [] []) []
unfolding contents_of kept_of zip zip_with
empty-contents s f k u h i j = rw (empty-rows s h, empty-rows f i, empty-rows k j) refl

-- and is sound.
pub empty_sound : (s f k u : ℕ) → 0 < s → 0 < f → 0 < k → Sound (tables (replicate s 0) (replicate f 0) (replicate k 0) (replicate u 0))
unfolding saturation
empty_sound s f k u h i j = record { formed = empty_is_store s f k u h i j; saturated = rw (empty-contents s f k u h i j) refl }
