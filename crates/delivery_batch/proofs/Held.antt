-- Updates of tables that hold contents which fit: the tables stay those of the same lengths, whatever was put into them before. Assumes nothing.
use Prim.Native.Nat.{ℕ, ◌≤◌}
use mathlib.Core.Path.{◌≡◌, refl, ap, ◌∙◌}
use mathlib.Core.Bool.{true, false}
use mathlib.Core.List.{List}
use native.Mathlib.Omega.{arith}
use lib.ListN.{length}
use borrow.Author.Tests.{le-leb}
use Rattle.spec.specs.declared.Triple.{Triple}
use Rattle.spec.specs.Terms.{is_triple, is_statement}
use Rattle.spec.specs.Refusals.{first_refusal, triple_checks}
use Rattle.spec.specs.Tables.{capacity, Tables, tables, are_formed, Capacities, capacities_of, Contents, contents_of, put}
use Rattle.spec.specs.declared.Answer.TheVariants.{Applied, Idle, Refused}
use Rattle.spec.specs.declared.Change.{Change}
use Rattle.spec.specs.Updates.{is_change, is_admitted, contents_after, is_kept_fitting, update}
use Rattle.spec.specs.inside.Pairs.{outcome}
use Rattle.spec.specs.inside.Laid.{FormedStore}
use Rattle.spec.proofs.Outcomes.{Passes, update_no_triple, update_idle, update-applied}
use Rattle.table.proofs.Store.{is_store_formed}
use Rattle.update_kept.proofs.Formed.{kept_rows_kept_of}
use Rattle.store.proofs.Fitting.{contents_of-put, Fitting, Worded, SameLengths, put_formed, put-lengths, supports_are}

-- ---- contents put into tables

-- What well-formed tables hold, put into them again, is there.
formed-put : {S F K U : List ℕ} → FormedStore S F K U → put (contents_of (tables S F K U)) (tables S F K U) ≡ tables S F K U
unfolding put contents_of
formed-put {S} {F} {K} {U} W =
    rw (kept_rows_kept_of W, supports_are W, ← W.statements.laid.is_layout, ← W.facts.laid.is_layout, ← W.kept.laid.is_layout, ← W.supports.is_layout) refl

pub put_held : (T : Tables) → are_formed T ≡ true → put (contents_of T) T ≡ T
put_held T e = formed-put (is_store_formed T.statements T.facts T.kept T.supports e)

-- Tables of the same lengths hold the same,
put_same : {T T' : Tables} → SameLengths T T' → (c : Contents) → put c T ≡ put c T'
unfolding put
put_same L c = rw (L.same_statements, L.same_facts, L.same_kept, L.same_supports) refl

-- and as much.
capacities_same : {T T' : Tables} → SameLengths T T' → capacities_of T ≡ capacities_of T'
unfolding capacity
capacities_same L = rw (L.same_statements, L.same_facts, L.same_kept, L.same_supports) refl

kept_fits : {T T' : Tables} → SameLengths T T' → (c : Contents) → length c.kept ≤ (capacities_of T').kept → is_kept_fitting c T ≡ true
unfolding is_kept_fitting
kept_fits {T} {T'} L c h = le-leb (length c.kept) (capacities_of T).kept (omega (arith, h, ap (λ (C : Capacities). C.kept) (capacities_same L)))

-- ---- updates

-- 3 asks nothing of a fact.
pub fact_passes : (t : Triple) → is_triple t ≡ true → is_statement t ≡ false → first_refusal (triple_checks t) ≡ 0
unfolding first_refusal
fact_passes t e s = rw (e, s) refl

module _ (d : Change) {c : Contents} {T : Tables} (X : Fitting c T) (H : Worded T) (t : Triple) (s : is_statement t ≡ false) where
  -- What is no triple is refused.
  pub held_refused : is_triple t ≡ false → update d (put c T) t ≡ outcome (Refused 2) (put c T)
  held_refused e = update_no_triple d (put c T) t (put_formed X H) e

  held_passes : is_triple t ≡ true → Passes (put c T) t
  held_passes e = record { formed = put_formed X H; is_triple = e; sides = rw s refl }

  -- What changes nothing is idle.
  pub held_idle : is_triple t ≡ true → is_change d t c.explicit ≡ false → update d (put c T) t ≡ outcome Idle (put c T)
  held_idle e b = update_idle d (held_passes e) (rw (contents_of-put c T) b)

  -- What changes something, is admitted and whose kept facts fit is applied.
  pub held_applied : is_triple t ≡ true → is_change d t c.explicit ≡ true → is_admitted (capacities_of T) d t c.explicit ≡ true → length (contents_after d t c).kept ≤ (capacities_of T).kept
      → update d (put c T) t ≡ outcome Applied (put (contents_after d t c) T)
  held_applied e b a f =
      let L : SameLengths (put c T) T = put-lengths X H in
      let is : contents_of (put c T) ≡ c = contents_of-put c T in
      let same : capacities_of (put c T) ≡ capacities_of T = capacities_same L in
      update-applied d (held_passes e) (rw is b) (rw (is, same) a) (rw is (kept_fits L (contents_after d t c) f))
      ∙ ap (outcome Applied) (rw is (put_same L (contents_after d t c)))
