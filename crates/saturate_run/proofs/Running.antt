-- The run over the subjects: each has its rows put before the next. Assumes nothing.
use mathlib.Core.Path.{◌≡◌, refl, sym, ap, ◌∙◌}
use mathlib.Core.Bool.{false, cond}
use mathlib.Core.List.{List, [], ◌++◌}
use mathlib.Core.Logic.{◌⊎◌, inl, inr, ⊎_elim, by_cases}
use Prim.Native.Nat.{ℕ, ◌+◌, ◌-◌, ◌^◌, ◌≤◌, ◌<◌}
use native.Mathlib.Omega.{arith}
use native.Mathlib.Decide.{dec_lt, ℕ_discrete}
use lib.ListN.{get_or}
use lib.Dec.{eqb}
use borrow.Author.Tests.{lt-ltb, le-ltb, eq-eqb, ne_eqb}
use Rattle.spec.specs.declared.Triple.{Triple}
use Rattle.spec.specs.Terms.{is_literal, triple}
use Rattle.spec.specs.inside.Comparison.{Less, by_subject, by_property, by_object, triple_eq}
use Rattle.spec.proofs.Lists.{true-not_false}
use Rattle.spec.specs.Saturation.{Kept}
use Rattle.spec.specs.inside.Counts.{Counts, lookup}
use Rattle.saturate_schema.specs.inside.Compiled.{subject_at, object_at}
use Rattle.saturate_schema.proofs.Sums.{sum_at_is, sum_zero, sum_term}
use Rattle.saturate_schema.proofs.Tables.{row-subject}
use Rattle.saturate_merge.specs.inside.Output.{Output, put_all}
use Rattle.saturate_merge.specs.inside.Between.{between, Within}
use Rattle.saturate_merge.specs.inside.Streams.{lesser_of}
use Rattle.saturate_merge.proofs.Output.{put-append}
use Rattle.saturate_merge.proofs.Between.{between_none, between-skip}
use Rattle.saturate_merge.proofs.Streams.{lesser_left, lesser_right}
use Rattle.saturate_merge.proofs.Whole.{between_join, between-all}
use Rattle.saturate_index.specs.inside.Index.{object_of, Once, Sorted}
use Rattle.saturate_counts.specs.inside.Prepared.{Facts}
use Rattle.saturate_counts.specs.inside.Supported.{Supported, Range}
use Rattle.saturate_next.proofs.NextLaws.{subject_none, subject-some, thing-literal, thing_none, thing-some}
use Rattle.saturate_next.specs.inside.Run.{EndOf, subject_from, thing_from, next_subject}

-- A lesser row has no greater subject.
less-subject : {t u : Triple} → Less t u → t.subject ≤ u.subject
less-subject (by_subject h) = omega arith
less-subject (by_property e h) = omega arith
less-subject (by_object e q h) = omega arith

-- The next subject is the subject of fact i, or the object at place j.
pub data NextIs (f ix : List ℕ) (n i j v : ℕ) : Type 0 where
  a_subject : i < n → subject_at f i ≡ v → NextIs f ix n i j v
  an_object : j < n → object_of f ix j ≡ v → v < 2 ^ 31 → NextIs f ix n i j v

-- What holds at each turn: the rows of all subjects below the next are put.
pub record Running (f ix : List ℕ) (n : ℕ) (st : List ℕ) (m : ℕ) (d r keys : List ℕ) (nc ns room : ℕ) (out₀ out : Output) (i j : ℕ) : Type 0 where
  pub subjects : i ≤ n
  pub objects : j ≤ n
  pub subject_before : (y : ℕ) → y < i → subject_at f y < next_subject f ix n i j
  pub object_before : (a : ℕ) → a < j → object_of f ix a < next_subject f ix n i j
  pub rows : (K : Kept) → Counts K → Supported K st m d r keys nc ns f n → out ≡ put_all room (between (triple 0 0 0) (triple (next_subject f ix n i j) 0 0) K) out₀

module _ (f ix : List ℕ) (n : ℕ) (fw : Facts f n) (once : Once n ix) (sorted : Sorted f ix n) where
  subjects_climb : (y z : ℕ) → y ≤ z → z < n → subject_at f y ≤ subject_at f z
  subjects_climb y z l u = by_cases (ℕ_discrete y z) (λ q. rw q (omega arith)) (λ k. omega (arith, less-subject (fw.ascend y z (omega arith) u), row-subject f y, row-subject f z))

  objects_climb : (a b : ℕ) → a ≤ b → b < n → object_of f ix a ≤ object_of f ix b
  objects_climb a b l u = by_cases (ℕ_discrete a b) (λ q. rw q (omega arith)) (λ k. sorted a b (omega arith) u)

  next_subjects : (i j y : ℕ) → i ≤ y → y < n → next_subject f ix n i j ≤ subject_at f y
  next_subjects i j y l u = omega (arith, lesser_left (subject_from f n i) (thing_from f ix n j), subject-some f n i (omega arith), subjects_climb i y l u)

  next-objects : (i j a : ℕ) → j ≤ a → a < n → object_of f ix a < 2 ^ 31 → next_subject f ix n i j ≤ object_of f ix a
  next-objects i j a l u h =
      let c : object_of f ix j ≤ object_of f ix a = objects_climb j a l u in
      omega (arith, lesser_right (subject_from f n i) (thing_from f ix n j), thing-some f ix n j (omega arith) (omega arith))

  next_top : (i j : ℕ) → next_subject f ix n i j ≤ 2 ^ 32
  next_top i j =
      by_cases (dec_lt i n)
      (λ l. omega (arith, lesser_left (subject_from f n i) (thing_from f ix n j), subject-some f n i l, fw.subject_small i l))
      (λ l. omega (arith, lesser_left (subject_from f n i) (thing_from f ix n j), subject_none f n i (omega arith)))

  lesser_cases : (a b : ℕ) → (lesser_of a b ≡ a) ⊎ (lesser_of a b ≡ b)
  lesser_cases a b = by_cases (dec_lt a b) (λ l. inl (rw (lt-ltb a b l))) (λ l. let k : b ≤ a = omega arith in inr (rw (le-ltb a b k)))

  next_is : (i j v : ℕ) → v ≡ next_subject f ix n i j → v < 2 ^ 32 → NextIs f ix n i j v
  next_is i j v e l =
      ⊎_elim
      (λ q. by_cases (dec_lt i n)
      (λ h. a_subject h (sym (subject-some f n i h) ∙ sym q ∙ sym e))
      (λ h. absurd (omega (arith, subject_none f n i (omega arith)))))
      (λ q. by_cases (dec_lt j n)
      (λ h. by_cases (dec_lt (object_of f ix j) (2 ^ 31))
      (λ k. an_object h (sym (thing-some f ix n j h k) ∙ sym q ∙ sym e) (omega (arith, thing-some f ix n j h k)))
      (λ k. absurd (omega (arith, thing-literal f ix n j h (omega arith)))))
      (λ h. absurd (omega (arith, thing_none f ix n j (omega arith)))))
      (lesser_cases (subject_from f n i) (thing_from f ix n j))

  -- An object that no place has no fact has.
  mark : ℕ → ℕ → ℕ
  mark s y = cond (eqb (object_at f y) s) 1 0

  marked : (s y : ℕ) → object_at f y ≡ s → mark s y ≡ 1
  unfolding mark
  marked s y e = rw (eq-eqb (object_at f y) s e)

  unmarked : (s y : ℕ) → ¬ (object_at f y ≡ s) → mark s y ≡ 0
  unfolding mark
  unmarked s y e = rw (ne_eqb (object_at f y) s e)

  no_object : (s : ℕ) → ((a : ℕ) → a < n → ¬ (object_of f ix a ≡ s)) → (y : ℕ) → y < n → ¬ (object_at f y ≡ s)
  no_object s h y l e =
      omega (
        arith,
        marked s y e,
        sum_term (mark s) y n l,
        once (mark s),
        sum_at_is (mark s) ix n,
        sum_zero (λ a. mark s (get_or ix a 0)) n (λ a k. unmarked s (get_or ix a 0) (h a k)),
      )

  thing-objects : (a : ℕ) → a < n → get_or ix a 0 < n → (is_literal (object_of f ix a) ≡ false → object_of f ix a < 2 ^ 31)
  thing-objects a l b h = by_cases (dec_lt (object_of f ix a) (2 ^ 31)) (λ k. k) (λ k. absurd (true-not_false (sym (fw.literals (get_or ix a 0) b (omega arith)) ∙ h)))

  module _ (below : (a : ℕ) → a < n → get_or ix a 0 < n) (st : List ℕ) (m : ℕ) (d r keys : List ℕ) (nc ns room : ℕ) where
    not_first : (u : Triple) → ¬ Less u (triple 0 0 0)
    not_first u (by_subject h) = omega arith
    not_first u (by_property e h) = omega arith
    not_first u (by_object e q h) = omega arith

    subject-order : (a b : ℕ) → a ≤ b → ¬ Less (triple b 0 0) (triple a 0 0)
    subject-order a b l (by_subject h) = omega arith
    subject-order a b l (by_property e h) = omega arith
    subject-order a b l (by_object e q h) = omega arith

    -- No row has a subject from lo on below v.
    gap : (K : Kept) → Counts K → Supported K st m d r keys nc ns f n → (i j lo v : ℕ) → lo ≤ v → v ≡ next_subject f ix n i j → ((y : ℕ) → y < i → subject_at f y < lo) → ((a : ℕ) → a < j → object_of f ix a < lo)
        → between (triple 0 0 0) (triple v 0 0) K ≡ between (triple 0 0 0) (triple lo 0 0) K
    gap K a s i j lo v le e bs bo = between-skip (triple 0 0 0) (triple lo 0 0) (triple v 0 0) K a (subject-order lo v le) (λ u h k. ap (lookup K) (triple_eq u (triple u.subject u.property u.object) refl refl refl) ∙ none u.subject u.property u.object (from u h) (upto u k))
      where
        from : (u : Triple) → ¬ Less u (triple lo 0 0) → lo ≤ u.subject
        from u h = by_cases (dec_lt u.subject lo) (λ k. absurd (h (by_subject k))) (λ k. omega arith)

        upto : (u : Triple) → Less u (triple v 0 0) → u.subject < v
        upto u (by_subject h) = h
        upto u (by_property q h) = absurd (omega arith)
        upto u (by_object q w h) = absurd (omega arith)

        none : (x p o : ℕ) → lo ≤ x → x < v → lookup K (triple x p o) ≡ 0
        none x p o l u =
            s.absent x p o
            (λ y k q. by_cases (dec_lt y i) (λ h. omega (arith, bs y h)) (λ h. omega (arith, next_subjects i j y (omega arith) k)))
            (λ y k t. no_object x (λ b h q. by_cases (dec_lt b j)
            (λ z. omega (arith, bo b z))
            (λ z. omega (arith, next-objects i j b (omega arith) h (thing-objects b h (below b h) (ap is_literal q ∙ t))))) y k)

    pub run-start : (out : Output) → Running f ix n st m d r keys nc ns room out out 0 0
    unfolding put_all
    run-start out =
        record {
          subjects = omega arith;
          objects = omega arith;
          subject_before = λ y l. absurd (omega arith);
          object_before = λ y l. absurd (omega arith);
          rows = λ K a s. let q : between (triple 0 0 0) (triple (next_subject f ix n 0 0) 0 0) K ≡ [] = gap K a s 0 0 0 (next_subject f ix n 0 0) (omega arith) refl (λ y l. absurd (omega arith)) (λ y l. absurd (omega arith)) ∙ between_none (triple 0 0 0) K in rw q;
        }

    module _ (out₀ out : Output) (i j v : ℕ) (g : Running f ix n st m d r keys nc ns room out₀ out i j) (next : v ≡ next_subject f ix n i j) (lv : v < 2 ^ 32) where
      -- The subject is no literal.
      pub run-thing : is_literal v ≡ false
      run-thing = go (next_is i j v next lv)
        where
          go : NextIs f ix n i j v → is_literal v ≡ false
          go (a_subject l e) = ap is_literal (sym e) ∙ fw.subjects i l
          go (an_object l e h) = ap is_literal (sym e) ∙ fw.things (get_or ix j 0) (below j l) (omega arith)

      -- Its facts are those found,
      pub run-subjects : (e : ℕ) → EndOf (subject_at f) n v i e → Range (subject_at f) n v i e
      run-subjects e w =
          record {
            low = w.low;
            high = w.high;
            all = w.all;
            before = λ y l q. omega (arith, g.subject_before y l);
            after = λ y l u q. w.next (omega arith) (omega (arith, subjects_climb e y l u, next_subjects i j e w.low (omega arith), next));
          }

      -- and so are those of which it is the object.
      pub run-objects : (h : ℕ) → EndOf (object_of f ix) n v j h → Range (object_of f ix) n v j h
      run-objects h w =
          record {
            low = w.low;
            high = w.high;
            all = w.all;
            before = λ a l q. omega (arith, g.object_before a l);
            after = λ a l u q.
                let t : object_of f ix a < 2 ^ 31 = thing-objects a u (below a u) (ap is_literal q ∙ run-thing) in
                let c : object_of f ix h ≤ object_of f ix a = objects_climb h a l u in
                w.next (omega arith) (omega (arith, next-objects i j h w.low (omega arith) (omega arith), next));
          }

      -- One of the two goes on.
      pub run-less : (e h : ℕ) → EndOf (subject_at f) n v i e → EndOf (object_of f ix) n v j h → (n - e) + (n - h) < (n - i) + (n - j)
      run-less e h w z = go (next_is i j v next lv)
        where
          go : NextIs f ix n i j v → (n - e) + (n - h) < (n - i) + (n - j)
          go (a_subject l q) = by_cases (ℕ_discrete i e) (λ k. absurd (w.next (omega arith) (rw (← k) q))) (λ k. omega (arith, w.low, w.high, z.low, z.high))
          go (an_object l q t) = by_cases (ℕ_discrete j h) (λ k. absurd (z.next (omega arith) (rw (← k) q))) (λ k. omega (arith, w.low, w.high, z.low, z.high))

      later : (e h v' : ℕ) → EndOf (subject_at f) n v i e → EndOf (object_of f ix) n v j h → v' ≡ next_subject f ix n e h → v < v'
      later e h v' w z q = by_cases (dec_lt v' (2 ^ 32)) (λ l. go (next_is e h v' q l)) (λ l. omega arith)
        where
          go : NextIs f ix n e h v' → v < v'
          go (a_subject l k) = by_cases (ℕ_discrete (subject_at f e) v) (λ b. absurd (w.next l b)) (λ b. omega (arith, next_subjects i j e w.low l, next))
          go (an_object l k t) = by_cases (ℕ_discrete (object_of f ix h) v) (λ b. absurd (z.next l b)) (λ b. omega (arith, next-objects i j h z.low l (omega arith), next))

      pub run_more : (e h : ℕ) (out' : Output) → EndOf (subject_at f) n v i e → EndOf (object_of f ix) n v j h
          → ((K : Kept) → Counts K → Supported K st m d r keys nc ns f n → out' ≡ put_all room (between (triple v 0 0) (triple (v + 1) 0 0) K) out)
          → Running f ix n st m d r keys nc ns room out₀ out' e h
      run_more e h out' w z rows' =
          record {
            subjects = w.high;
            objects = z.high;
            subject_before = λ y l. omega (arith, up-subject y l, beyond);
            object_before = λ a l. omega (arith, up-object a l, beyond);
            rows = λ K a s.
                let j₁ : between (triple 0 0 0) (triple (v + 1) 0 0) K ≡ between (triple 0 0 0) (triple v 0 0) K ++ between (triple v 0 0) (triple (v + 1) 0 0) K =
                between_join (triple 0 0 0) (triple v 0 0) (triple (v + 1) 0 0) K a (not_first (triple v 0 0)) (subject-order v (v + 1) (omega arith)) in
                rows' K a s
                ∙ ap (put_all room (between (triple v 0 0) (triple (v + 1) 0 0) K)) (here K a s)
                ∙ sym (put-append room (between (triple 0 0 0) (triple v 0 0) K) (between (triple v 0 0) (triple (v + 1) 0 0) K) out₀)
                ∙ ap (λ (k : Kept). put_all room k out₀) (sym (gap K a s e h (v + 1) (next_subject f ix n e h) (omega (arith, beyond)) refl (λ y l. omega (arith, up-subject y l)) (λ y l. omega (arith, up-object y l)) ∙ j₁));
          }
        where
          beyond : v < next_subject f ix n e h
          beyond = later e h (next_subject f ix n e h) w z refl

          here : (K : Kept) → Counts K → Supported K st m d r keys nc ns f n → out ≡ put_all room (between (triple 0 0 0) (triple v 0 0) K) out₀
          here K a s = rw next (g.rows K a s)

          up-subject : (y : ℕ) → y < e → subject_at f y ≤ v
          up-subject y l = by_cases (dec_lt y i) (λ k. omega (arith, g.subject_before y k)) (λ k. omega (arith, w.all y (omega arith) l))

          up-object : (a : ℕ) → a < h → object_of f ix a ≤ v
          up-object a l = by_cases (dec_lt a j) (λ k. omega (arith, g.object_before a k)) (λ k. omega (arith, z.all a (omega arith) l))

    -- At the end all rows are put.
    pub run_end : (out₀ out : Output) (i j : ℕ) → Running f ix n st m d r keys nc ns room out₀ out i j → 2 ^ 32 ≤ next_subject f ix n i j → (K : Kept) → Counts K → Supported K st m d r keys nc ns f n → out ≡ put_all room K out₀
    run_end out₀ out i j g l K a s =
        let e : next_subject f ix n i j ≡ 2 ^ 32 = omega (arith, next_top i j) in
        g.rows K a s ∙ ap (λ (k : Kept). put_all room k out₀) (rw e (between-all (triple 0 0 0) (triple (2 ^ 32) 0 0) K a (λ u w. none u w)))
      where
        none : (u : Triple) → ¬ Within (triple 0 0 0) (triple (2 ^ 32) 0 0) u → lookup K u ≡ 0
        none u w =
            by_cases (dec_lt u.subject (2 ^ 32))
            (λ k. absurd (w (not_first u, by_subject k)))
            (λ k. ap (lookup K) (triple_eq u (triple u.subject u.property u.object) refl refl refl) ∙ s.absent u.subject u.property u.object (λ y b q. omega (arith, fw.subject_small y b)) (λ y b t q. omega (arith, fw.object_small y b)))
