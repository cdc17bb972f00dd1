-- What an update comes to, by the answers to its questions. Assumes nothing.
use Prim.Native.Nat.{ℕ}
use mathlib.Core.Path.{◌≡◌, refl, ◌∙◌}
use mathlib.Core.Bool.{Bool, true, false, cond}
use mathlib.Core.List.{List, ◌∷◌, ◌++◌, Memᴰ}
use borrow.Author.Tests.{not-false}
use Rattle.spec.specs.declared.Triple.{Triple}
use Rattle.spec.specs.Terms.{is_triple, is_statement, are_sides_allowed}
use Rattle.spec.specs.Refusals.{first_refusal, triple_checks}
use Rattle.spec.proofs.Tests.{is_in_iff, is_in_no}
use Rattle.spec.specs.declared.Answer.TheVariants.{Applied, Idle, Refused}
use Rattle.spec.specs.declared.Change.{Change}
use Rattle.spec.specs.declared.Change.TheVariants.{Addition, Withdrawal}
use Rattle.spec.specs.Tables.{Tables, are_formed, Capacities, capacities_of, Ledger, contents_of, put}
use Rattle.spec.specs.Updates.{set_of, is_member, is_change, is_admitted, settle, contents_after, is_kept_fitting, update}
use Rattle.spec.specs.inside.Pairs.{outcome}

-- ---- the first "no" of numbered questions

-- A question answered yes is passed over,
no_yes : (n : ℕ) (b : Bool) (qs : List (ℕ × Bool)) → b ≡ true → first_refusal ((n, b) ∷ qs) ≡ first_refusal qs
unfolding first_refusal
no_yes n b qs e = rw e refl

-- Questions 1 to 3 are passed.
pub record Passes (T : Tables) (t : Triple) : Type 0 where
  pub formed : are_formed T ≡ true
  pub is_triple : is_triple t ≡ true
  pub sides : cond (is_statement t) (are_sides_allowed t) true ≡ true

three_passed : {T : Tables} {t : Triple} → Passes T t → (qs : List (ℕ × Bool)) → first_refusal ((1, are_formed T) ∷ (triple_checks t ++ qs)) ≡ first_refusal qs
three_passed {T} {t} P qs =
    no_yes 1 (are_formed T) (triple_checks t ++ qs) P.formed
    ∙ no_yes 2 (is_triple t) ((3, cond (is_statement t) (are_sides_allowed t) true) ∷ qs) P.is_triple
    ∙ no_yes 3 (cond (is_statement t) (are_sides_allowed t) true) qs P.sides

-- ---- questions 1 to 3

pub update_malformed : (d : Change) (T : Tables) (t : Triple) → are_formed T ≡ false → update d T t ≡ outcome (Refused 1) T
unfolding update settle first_refusal
update_malformed d T t e = rw e refl

pub update_no_triple : (d : Change) (T : Tables) (t : Triple) → are_formed T ≡ true → is_triple t ≡ false → update d T t ≡ outcome (Refused 2) T
unfolding update settle first_refusal
update_no_triple d T t e f = rw (e, f) refl

pub update_wrong_sides : (d : Change) (T : Tables) (t : Triple) → are_formed T ≡ true → is_triple t ≡ true → cond (is_statement t) (are_sides_allowed t) true ≡ false → update d T t ≡ outcome (Refused 3) T
unfolding update settle first_refusal
update_wrong_sides d T t e f g = rw (e, f, g) refl

-- ---- questions 4 and 5

-- What changes nothing is admitted, whatever the capacities.
pub idle_admitted : (d : Change) (C : Capacities) (t : Triple) (L : Ledger) → is_change d t L ≡ false → is_admitted C d t L ≡ true
unfolding is_change is_admitted
idle_admitted Addition C t L e = rw (not-false (is_member t L) e) refl
idle_admitted Withdrawal C t L e = refl

module _ (d : Change) {T : Tables} {t : Triple} (P : Passes T t) where
  -- What changes nothing is idle.
  pub update_idle : is_change d t (contents_of T).explicit ≡ false → update d T t ≡ outcome Idle T
  unfolding update settle first_refusal
  update_idle e = rw (three_passed P, idle_admitted d (capacities_of T) t (contents_of T).explicit e, e) refl

  -- A full table.
  pub update_full : is_admitted (capacities_of T) d t (contents_of T).explicit ≡ false → update d T t ≡ outcome (Refused 4) T
  unfolding update settle first_refusal
  update_full e = rw (three_passed P, e) refl

  module _ (c : is_change d t (contents_of T).explicit ≡ true) (e : is_admitted (capacities_of T) d t (contents_of T).explicit ≡ true) where
    -- Kept facts that do not fit.
    pub update-unfit : is_kept_fitting (contents_after d t (contents_of T)) T ≡ false → update d T t ≡ outcome (Refused 5) T
    unfolding update settle first_refusal
    update-unfit f = rw (three_passed P, c, e, f) refl

    pub update-applied : is_kept_fitting (contents_after d t (contents_of T)) T ≡ true → update d T t ≡ outcome Applied (put (contents_after d t (contents_of T)) T)
    unfolding update settle first_refusal
    update-applied f = rw (three_passed P, c, e, f) refl

-- ---- what is in its set

pub member_yes : (t : Triple) (L : Ledger) → Memᴰ t (set_of t L) → is_member t L ≡ true
unfolding is_member
member_yes t L m = (is_in_iff t (set_of t L)).1 m

pub member_no : (t : Triple) (L : Ledger) → ¬ Memᴰ t (set_of t L) → is_member t L ≡ false
unfolding is_member
member_no t L n = is_in_no t (set_of t L) n
