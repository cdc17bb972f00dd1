-- A grown store agrees with the ledger of what it holds: its updates and deliveries go as the ledger's. Assumes nothing.
use Prim.Native.Nat.{ℕ, zero, suc}
use mathlib.Core.Path.{◌≡◌, refl, ap, ◌∙◌}
use mathlib.Core.Bool.{Bool, true, false, ◌||◌, not}
use mathlib.Core.Logic.{⊎_elim}
use mathlib.Core.List.Memᴰ
use mathlib.Core.List.{List, [], ◌∷◌, ◌++◌, Memᴰ}
use lib.ListN.{length, length-replicate}
use borrow.Author.Tests.{le-leb, not-false}
use Rattle.spec.specs.declared.Triple.{Triple}
use Rattle.spec.specs.Terms.{is_statement}
use Rattle.spec.specs.Order.{insert}
use Rattle.spec.specs.inside.Comparison.{Ascending}
use Rattle.spec.specs.Refusals.{first_refusal, triple_checks}
use Rattle.spec.proofs.Lists.{by_test}
use Rattle.spec.proofs.Ascending.{insert_asc, insert_old, insert_cases, ascending_ext}
use Rattle.spec.specs.Tables.{capacity, Tables, are_formed, capacities_of, Ledger, ledger, Contents, contents_of, put}
use Rattle.table_change.proofs.Change.{remove_absent}
use Rattle.spec.specs.declared.Answer.{Answer}
use Rattle.spec.specs.declared.Change.{Change}
use Rattle.spec.specs.declared.Change.TheVariants.{Addition, Withdrawal}
use Rattle.spec.specs.Updates.{is_member, changed, applying, is_change, is_admitted, settle, contents_after, is_kept_fitting, update_checks, update}
use Rattle.store.proofs.Fitting.{contents_of-put, Fitting, SameLengths, formed_fitting}
use Rattle.store.proofs.Laws.{member_false, member_true, after-saturated, Saturated, update-lengths, Sound, update_sound}
use Rattle.spec.specs.Deliveries.{message_checks, deliver}
use Rattle.spec.specs.computed.Decoded.{read}
use Rattle.spec.specs.Ledger.{is_fitting, entry_checks, ledger_update, receive, ledger_entries}
use Rattle.spec.specs.Demand3.{store_entries, empty_store}
use Rattle.ledger.proofs.Alike.{Same, conclude-alike, EntriesAlike}

-- ---- what changes nothing

-- An ascending list with one of its own triples is itself.
insert-member : (t : Triple) (F : List Triple) → Ascending F → Memᴰ t F → insert t F ≡ F
insert-member t F a m =
    ascending_ext (insert t F) F (insert_asc t F a) a
    (λ u. (λ i. ⊎_elim (λ (e : u ≡ t). Memᴰ.cast e m) (λ j. j) (insert_cases t F i), insert_old t F))

-- An update that changes nothing leaves both sets.
applying_idle : (d : Change) {c : Contents} {T : Tables} → Fitting c T → (t : Triple) → is_change d t c.explicit ≡ false → applying d t c.explicit ≡ c.explicit
unfolding applying changed is_change
applying_idle Addition {c} X t e =
    let S : List Triple = c.explicit.statements in
    let F : List Triple = c.explicit.facts in
    let m = member_true t c.explicit (not-false (is_member t c.explicit) e) in
    by_test (is_statement t)
    (λ s. rw s (ap (λ (Z : List Triple). ledger Z F) (insert-member t S X.sets.statements_ascend (rw s at m))))
    (λ s. rw s (ap (λ (Z : List Triple). ledger S Z) (insert-member t F X.sets.facts_ascend (rw s at m))))
applying_idle Withdrawal {c} X t e =
    let S : List Triple = c.explicit.statements in
    let F : List Triple = c.explicit.facts in
    let n = member_false t c.explicit e in
    by_test (is_statement t)
    (λ s. rw s (ap (λ (Z : List Triple). ledger Z F) (remove_absent t S (rw s at n))))
    (λ s. rw s (ap (λ (Z : List Triple). ledger S Z) (remove_absent t F (rw s at n))))

-- The sets after an update are those that the contents after it have.
after_explicit : (d : Change) (t : Triple) (c : Contents) → applying d t c.explicit ≡ (contents_after d t c).explicit
unfolding contents_after
after_explicit d t c = refl

-- ---- the questions

-- Question 5 is the same of kept facts that are the saturation,
fitting-saturated : (c : Contents) (T : Tables) → Saturated c → is_fitting (capacities_of T) c.explicit ≡ is_kept_fitting c T
unfolding is_fitting is_kept_fitting
fitting-saturated c T e = rw e refl

-- yes of those that a store holds,
fitting_held : (T : Tables) → Sound T → is_fitting (capacities_of T) (contents_of T).explicit ≡ true
unfolding is_kept_fitting
fitting_held T G = fitting-saturated (contents_of T) T G.saturated ∙ le-leb _ _ (formed_fitting T G.formed).kept_fit

-- and so of every update.
applying_fits : (d : Change) (T : Tables) (t : Triple) → Sound T → is_fitting (capacities_of T) (applying d t (contents_of T).explicit) ≡ (not (is_change d t (contents_of T).explicit) || is_kept_fitting (contents_after d t (contents_of T)) T)
applying_fits d T t G =
    by_test (is_change d t (contents_of T).explicit)
    (λ e. rw e (changed-fits e))
    (λ e. rw (e, applying_idle d (formed_fitting T G.formed) t e) (fitting_held T G))
  where
    changed-fits : is_change d t (contents_of T).explicit ≡ true → is_fitting (capacities_of T) (applying d t (contents_of T).explicit) ≡ is_kept_fitting (contents_after d t (contents_of T)) T
    changed-fits e = rw (after_explicit d t (contents_of T)) (fitting-saturated (contents_after d t (contents_of T)) T (after-saturated d t (contents_of T) e G.saturated))

-- A question that is answered yes refuses nothing.
yes_passed : (n : ℕ) (b : Bool) (qs : List (ℕ × Bool)) → b ≡ true → first_refusal qs ≡ first_refusal ((n, b) ∷ qs)
unfolding first_refusal
yes_passed n b qs e = rw e refl

-- Store and ledger refuse an update by the same number.
alike-asked : (d : Change) (T : Tables) (t : Triple) → Sound T → first_refusal (entry_checks (capacities_of T) d (contents_of T).explicit t) ≡ first_refusal (update_checks d t T)
alike-asked d T t G =
    ap (λ (b : Bool). first_refusal (triple_checks t ++ ((4, is_admitted (capacities_of T) d t (contents_of T).explicit) ∷ (5, b) ∷ []))) (applying_fits d T t G)
    ∙ yes_passed 1 (are_formed T) _ G.formed

-- ---- updates

-- What is settled by the same answers in the ledger is what is settled in the store.
alike_settled : (q : ℕ) (b : Bool) (c : Contents) (T : Tables) → settle q b c.explicit (contents_of T).explicit ≡ ((settle q b (put c T) T).0, (contents_of (settle q b (put c T) T).1).explicit)
unfolding settle
alike_settled (suc n) b c T = refl
alike_settled zero true c T = rw contents_of-put refl
alike_settled zero false c T = refl

-- The ledger's update is the store's, on what it holds.
ledger_updates : (d : Change) (T : Tables) (t : Triple) → Sound T → ledger_update (capacities_of T) d (contents_of T).explicit t ≡ ((update d T t).0, (contents_of (update d T t).1).explicit)
unfolding ledger_update update
ledger_updates d T t G = rw (alike-asked d T t G, after_explicit d t (contents_of T)) (alike_settled _ _ (contents_after d t (contents_of T)) T)

-- ---- agreement

-- Tables of s, f and k words and u support places that are grown and hold the ledger's sets.
pub record Agrees (s f k u : ℕ) (T : Tables) (L : Ledger) : Type 0 where
  pub sound : Sound T
  pub statement_words : length T.statements ≡ s
  pub fact-words : length T.facts ≡ f
  pub kept_words : length T.kept ≡ k
  pub places : length T.supports ≡ u
  pub is : L ≡ (contents_of T).explicit

module _ (s f k u : ℕ) where
  -- Tables of the same lengths that are grown agree with the ledger of what they hold.
  agrees_on : {T T' : Tables} {L : Ledger} → Agrees s f k u T L → Sound T' → SameLengths T' T → Agrees s f k u T' (contents_of T').explicit
  agrees_on A G E = record {
    sound = G;
    statement_words = E.same_statements ∙ A.statement_words;
    fact-words = E.same_facts ∙ A.fact-words;
    kept_words = E.same_kept ∙ A.kept_words;
    places = E.same_supports ∙ A.places;
    is = refl;
  }

  -- An update whose outcome the ledger gives goes alike.
  same_outcome : {T T' : Tables} {L : Ledger} {a : Answer} (r : Answer × Ledger) → Agrees s f k u T L → Sound T' → SameLengths T' T → r ≡ (a, (contents_of T').explicit) → Same (Agrees s f k u) (a, T') r
  same_outcome r A G E e = rw e (record { gives = refl; leaves = agrees_on A G E })

  -- The capacities are those of the tables.
  of_lengths : {T : Tables} {L : Ledger} → Agrees s f k u T L → capacities_of (empty_store s f k u) ≡ capacities_of T
  unfolding capacity
  of_lengths A = rw (A.statement_words, A.fact-words, A.kept_words, A.places, length-replicate {A = ℕ} s 0, length-replicate {A = ℕ} f 0, length-replicate {A = ℕ} k 0, length-replicate {A = ℕ} u 0) refl

  -- An update goes alike,
  update_alike : (d : Change) (T : Tables) (L : Ledger) (t : Triple) → Agrees s f k u T L → Same (Agrees s f k u) (update d T t) (ledger_update (capacities_of (empty_store s f k u)) d L t)
  update_alike d T L t A =
      same_outcome (ledger_update (capacities_of (empty_store s f k u)) d L t) A (update_sound d T t A.sound) (update-lengths d T t A.sound.formed A.sound.saturated)
      (rw (of_lengths A, A.is) (ledger_updates d T t A.sound))

  -- and a delivery.
  deliver_alike : (T : Tables) (L : Ledger) (bs : List ℕ) → Agrees s f k u T L → Same (Agrees s f k u) (deliver T bs) (receive (capacities_of (empty_store s f k u)) L bs)
  unfolding deliver receive
  deliver_alike T L bs A =
      rw (← yes_passed 1 (are_formed T) (message_checks bs) A.sound.formed)
      (conclude-alike (Agrees s f k u) update (ledger_update (capacities_of (empty_store s f k u))) update_alike (first_refusal (message_checks bs)) (read bs) T L A)

  -- So updates and deliveries do.
  pub entries_agree : EntriesAlike (Agrees s f k u) store_entries (ledger_entries (capacities_of (empty_store s f k u)))
  entries_agree = record { updating = update_alike; delivering = deliver_alike }
