-- Two holders of triples whose updates go alike: entries, deliveries and lists of calls go alike on them. Assumes nothing.
use Prim.Native.Nat.{ℕ, zero, suc}
use mathlib.Core.Path.{◌≡◌, refl, ap, ap₂}
use mathlib.Core.List.{List, [], ◌∷◌}
use Rattle.spec.specs.declared.Triple.{Triple}
use Rattle.spec.specs.declared.Tally.{Tally}
use Rattle.spec.specs.declared.Change.{Change}
use Rattle.spec.specs.declared.Change.TheVariants.{Addition, Withdrawal}
use Rattle.spec.specs.Deliveries.{number_fields, number_of, tally, tallied, Update, run_entries, run_message, delivered, conclude}
use Rattle.spec.specs.inside.Pairs.{progress}
use Rattle.spec.specs.Messages.{Message}
use Rattle.spec.specs.Ledger.{Call, lone, delivery, answered, resulted, Run, Entries, call, calls}

module _ {A B : Type 0} (R : A → B → Type 0) where
  -- Two results are alike: they give the same, and what holds the triples after them is related.
  pub record Same {G : Type 0} (p : G × A) (q : G × B) : Type 0 where
    pub gives : p.0 ≡ q.0
    pub leaves : R p.1 q.1

  -- Updates go alike on related holders.
  abbrev pub UpdatesAlike : Update A → Update B → Type 0
  UpdatesAlike f g = (d : Change) (a : A) (b : B) (t : Triple) → R a b → Same (f d a t) (g d b t)

  -- Two deliveries stand alike: related holders, and the same tallies.
  pub record StandAlike (g : A × Tally) (h : B × Tally) : Type 0 where
    pub holders : R g.0 h.0
    pub tallies : g.1 ≡ h.1

  -- Entries keep them so.
  entries_alike : (f : Update A) (g : Update B) → UpdatesAlike f g → (d : Change) (ts : List Triple) (p : A × Tally) (q : B × Tally) → StandAlike p q → StandAlike (run_entries (f d) ts p) (run_entries (g d) ts q)
  unfolding run_entries
  entries_alike f g u d [] p q s = s
  entries_alike f g u d (t ∷ ts) p q s =
      let a = f d p.0 t in
      let b = g d q.0 t in
      let r = u d p.0 q.0 t s.holders in
      entries_alike f g u d ts (a.1, tallied a.0 p.1) (b.1, tallied b.0 q.1) (record { holders = r.leaves; tallies = ap₂ tallied r.gives s.tallies })

  module _ (f : Update A) (g : Update B) (u : UpdatesAlike f g) where
    -- So do the four sections of a message.
    message-alike : (m : Message) (p : A × Tally) (q : B × Tally) → StandAlike p q → StandAlike (run_message f m p) (run_message g m q)
    unfolding run_message
    message-alike m p q s =
        entries_alike f g u Addition m.facts_added _ _
        (entries_alike f g u Addition m.statements_added _ _
        (entries_alike f g u Withdrawal m.facts_withdrawn _ _
        (entries_alike f g u Withdrawal m.statements_withdrawn p q s)))

    -- A delivery that is asked the same, of the same message, gives the same and leaves related holders.
    pub conclude-alike : (n : ℕ) (m : Message) (a : A) (b : B) → R a b → Same (conclude f n m a) (conclude g n m b)
    unfolding conclude
    conclude-alike (suc n) m a b r = record { gives = refl; leaves = r }
    conclude-alike zero m a b r =
        let s = message-alike m (progress a (tally 0 0 0)) (progress b (tally 0 0 0)) (record { holders = r; tallies = refl }) in
        record { gives = ap (delivered 0 (number_of (number_fields m.fields))) s.tallies; leaves = s.holders }

  -- Updates and deliveries go alike on related holders.
  pub record EntriesAlike (E : Entries A) (F : Entries B) : Type 0 where
    pub updating : UpdatesAlike E.updates F.updates
    pub delivering : (a : A) (b : B) (bs : List ℕ) → R a b → Same (E.delivers a bs) (F.delivers b bs)

  -- Two runs are alike: each call gave the same, and the holders after them are related.
  pub record RunsAlike (p : Run A) (q : Run B) : Type 0 where
    pub gives : p.given ≡ q.given
    pub leaves : R p.after q.after

  module _ (E : Entries A) (F : Entries B) (X : EntriesAlike E F) where
    -- One call gives the same and leaves related holders.
    call-alike : (c : Call) (a : A) (b : B) → R a b → Same (call E a c) (call F b c)
    unfolding call
    call-alike (lone d t) a b r = let s = X.updating d a b t r in record { gives = ap answered s.gives; leaves = s.leaves }
    call-alike (delivery bs) a b r = let s = X.delivering a b bs r in record { gives = ap resulted s.gives; leaves = s.leaves }

    -- So does every list of calls.
    pub calls-alike : (cs : List Call) (a : A) (b : B) → R a b → RunsAlike (calls E cs a) (calls F cs b)
    unfolding calls
    calls-alike [] a b r = record { gives = refl; leaves = r }
    calls-alike (c ∷ cs) a b r =
        let s = call-alike c a b r in
        let q = calls-alike cs (call E a c).1 (call F b c).1 s.leaves in
        record { gives = ap₂ ◌∷◌ s.gives q.gives; leaves = q.leaves }
