-- Laws of marks on statements, and of the rows of one subject and property. Assumes nothing.
use mathlib.Core.Path.{◌≡◌, refl, sym, ◌∙◌}
use mathlib.Core.Bool.{true, ◌&&◌}
use mathlib.Core.List.Memᴰ
use mathlib.Core.List.{List, Memᴰ}
use mathlib.Core.Logic.{by_cases}
use Prim.Native.Nat.{ℕ, zero, suc, ◌+◌, ◌-◌, ◌*◌, ◌≤◌, ◌<◌}
use native.Mathlib.Decide.{ℕ_discrete, dec_lt}
use native.Mathlib.Omega.{arith}
use lib.ListN.{length, get_or, drop, set, replicate, length-set, length-replicate}
use lib.Seq.{get_or-set_same, get_or-set_other}
use lib.Dec.{eqb}
use borrow.Author.Tests.{eq-eqb, eqb-true}
use Rattle.spec.specs.declared.Triple.{Triple}
use Rattle.spec.specs.Terms.{triple}
use Rattle.spec.specs.inside.Comparison.{Less, by_subject, by_property, by_object, triple_eq}
use Rattle.spec.proofs.Ascending.{and_left, and_right}
use Rattle.spec.specs.Tables.{row_at, first_rows, rows, count, is_statement_table}
use Rattle.spec.proofs.TableRows.{length-first_rows, get_or-row_at, length-rows}
use Rattle.table.proofs.Place.{get_or-member, member-get_or}
use Rattle.spec.proofs.TableFormed.{is_table_well_formed, capacity_most, ready}
use Rattle.table.specs.inside.Bounds.{Tells, Rising}
use Rattle.table.proofs.SearchLaws.{rows-less}
use Rattle.rdfs_reach.specs.inside.Marks.{Statements, HasSubject, Begins, Within, unused, Unused, Room, Grown, Extended}

-- ---- how many statements have no mark

unused_past : (m : ℕ) (used : List ℕ) (j v : ℕ) → m ≤ j → unused m (set used j v) ≡ unused m used
unfolding unused
unused_past zero used j v h = refl
unused_past (suc m) used j v h = rw (get_or-set_other used j m v 0 (λ e. omega arith), unused_past m used j v (omega arith))

-- A mark more is one statement less without a mark.
pub unused-set : (m : ℕ) (used : List ℕ) (j : ℕ) → j < m → j < length used → get_or used j 0 ≡ 0 → unused m (set used j 1) + 1 ≡ unused m used
unfolding unused
unused-set zero used j h l z = absurd (omega arith)
unused-set (suc m) used j h l z =
    by_cases (ℕ_discrete j m)
    (λ e. let z' : get_or used m 0 ≡ 0 = rw e at z in let l' : m < length used = omega arith in
    rw (e, get_or-set_same used m 1 0 l', unused_past m used m 1 (omega arith), z') (omega arith))
    (λ n. rw (get_or-set_other used j m 1 0 (λ e. n (sym e))) (omega (arith, unused-set m used j (omega arith) l z)))

-- ---- the rows as members of a list, and their order

-- A triple for places past the end.
no_triple : Triple
no_triple = triple 0 0 0

-- Row j is one of the rows.
pub row-member : (st : List ℕ) (m j : ℕ) → j < m → Memᴰ (row_at st j) (first_rows m (drop 1 st))
row-member st m j h =
    let l : j < length (first_rows m (drop 1 st)) = omega (arith, length-first_rows m (drop 1 st)) in
    Memᴰ.cast (sym (get_or-row_at st m j no_triple h)) (get_or-member (first_rows m (drop 1 st)) j no_triple l)

-- The row that a triple is.
pub record RowOf (st : List ℕ) (m : ℕ) (t : Triple) : Type 0 where
  pub at : ℕ
  pub below : at < m
  pub is : row_at st at ≡ t

pub member-row : (st : List ℕ) (m : ℕ) (t : Triple) → Memᴰ t (first_rows m (drop 1 st)) → RowOf st m t
member-row st m t i =
    let r = member-get_or (first_rows m (drop 1 st)) i in
    let l : r.0 < m = omega (arith, r.1, length-first_rows m (drop 1 st)) in
    record { at = r.0; below = l; is = sym (get_or-row_at st m r.0 t l) ∙ r.2 t }

-- A row of the subject x and the property k, as a member.
pub has-member : (st : List ℕ) (m x k j : ℕ) → j < m → HasSubject st x k j → Memᴰ (triple x k (row_at st j).object) (first_rows m (drop 1 st))
has-member st m x k j l h = Memᴰ.cast (triple_eq (triple x k (row_at st j).object) (row_at st j) (sym h.subject) (sym h.property) refl) (row-member st m j l)

-- The test of a row's subject and property.
pub has_tells : (st : List ℕ) (x k j : ℕ) → Tells (eqb (get_or st (j * 3 + 1) 0) x && eqb (get_or st (j * 3 + 1 + 1) 0) k) (HasSubject st x k j)
unfolding row_at
has_tells st x k j = record {
  if_true = λ e. record { subject = eqb-true _ _ (and_left _ _ e); property = eqb-true _ _ (and_right (eqb (get_or st (j * 3 + 1) 0) x) _ e) };
  if_false = λ e h. let z : ◌≡◌ {A = ℕ} 0 1 = cc (eq-eqb _ _ h.subject, eq-eqb _ _ h.property) in omega arith;
}

-- The rows ascend.
pub statements_rising : {st : List ℕ} {m : ℕ} → Statements st m → Rising st m
statements_rising s = record { fits = s.size; ascends = s.ascends }

-- A row below one of the subject x and the property k, and not below all of them, is one of them.
between : {x k : ℕ} (t u : Triple) → Less t u → x ≤ t.subject → (t.subject ≡ x → k ≤ t.property) → u.subject ≡ x → u.property ≡ k → (t.subject ≡ x) × (t.property ≡ k)
between {x} {k} t u (by_subject h) a b p q = absurd (omega arith)
between {x} {k} t u (by_property e h) a b p q = let z : k ≤ t.property = b (omega arith) in absurd (omega arith)
between {x} {k} t u (by_object e f h) a b p q = (omega arith, omega arith)

-- Past a row that is not below all of the subject x and the property k, and is none of them, there is none of them.
past : {x k : ℕ} (t u : Triple) → Less t u → x ≤ t.subject → (t.subject ≡ x → k ≤ t.property) → ((t.subject ≡ x) × (t.property ≡ k) → ⊥) → u.subject ≡ x → u.property ≡ k → ⊥
past t u h a b n p q = n (between t u h a b p q)

-- Where the rows of the subject x and the property k begin, the first is one of them if any is,
begins_first : (st : List ℕ) (m x k first i : ℕ) → Statements st m → Begins st m x k first → i < m → HasSubject st x k i → HasSubject st x k first
begins_first st m x k first i s b l h =
    by_cases (dec_lt i first) (λ (c : i < first). absurd (b.before i c h))
    (λ c. by_cases (ℕ_discrete i first) (λ q. rw q at h)
    (λ q. let w = between (row_at st first) (row_at st i) (rows-less st m (statements_rising s) first i (omega arith) l) (b.subjects first (omega arith) (omega arith)) (b.properties first (omega arith) (omega arith)) h.subject h.property in
    record { subject = w.0; property = w.1 }))

-- and they have the mark of the first.
pub same_mark : (st : List ℕ) (m x k first : ℕ) (used found : List ℕ) (n : ℕ) → Statements st m → Begins st m x k first → Room st m used found n → (i : ℕ) → i < m → HasSubject st x k i → (first < m) × (get_or used i 0 ≡ get_or used first 0)
same_mark st m x k first used found n s b room i l h =
    let f : first < m = by_cases (dec_lt i first) (λ (c : i < first). absurd (b.before i c h)) (λ c. omega arith) in
    let g = begins_first st m x k first i s b l h in
    (f, room.uniform i first l f (h.subject ∙ sym g.subject) (h.property ∙ sym g.property))

-- ---- the loop over the rows of one subject and property

-- The rows from first on, below j, are of the subject x and the property k, they have marks, and their objects stand in found from n on, below e.
pub record Block (st : List ℕ) (m k x first : ℕ) (used₀ found₀ : List ℕ) (n : ℕ) (used found : List ℕ) (e j : ℕ) : Type 0 where
  pub low : first ≤ j
  pub high : j ≤ m
  pub count : e + first ≡ n + j
  pub size_used : length used ≡ length used₀
  pub size_found : length found ≡ length found₀
  pub cost : e + unused m used ≡ n + unused m used₀
  pub rows : (i : ℕ) → first ≤ i → i < j → HasSubject st x k i
  pub marks : (i : ℕ) → first ≤ i → i < j → get_or used i 0 ≡ 1
  pub before : (i : ℕ) → i < first → get_or used i 0 ≡ get_or used₀ i 0
  pub after : (i : ℕ) → j ≤ i → get_or used i 0 ≡ get_or used₀ i 0
  pub kept : (i : ℕ) → i < n → get_or found i 0 ≡ get_or found₀ i 0
  pub objects : (i p : ℕ) → first ≤ i → i < j → p + first ≡ n + i → get_or found p 0 ≡ (row_at st i).object

module _ (st : List ℕ) (m k x first : ℕ) (used₀ found₀ : List ℕ) (n : ℕ) (used found : List ℕ) (e j : ℕ) (b : Block st m k x first used₀ found₀ n used found e j)
    (room : Room st m used₀ found₀ n) where
  module _ (l : j < m) (h : HasSubject st x k j) (free : (i : ℕ) → i < m → HasSubject st x k i → get_or used₀ i 0 ≡ 0) where
    in-used : j < length used
    in-used = omega (arith, b.size_used, room.marks)

    here : unused m (set used j 1) + 1 ≡ unused m used
    here = unused-set m used j l in-used (b.after j (omega arith) ∙ free j l h)

    -- There is a place for one object more.
    pub block-place : e < length found
    block-place = omega (arith, here, b.cost, b.size_found, room.places)

    pub block_more : Block st m k x first used₀ found₀ n (set used j 1) (set found e (row_at st j).object) (e + 1) (j + 1)
    block_more = record {
      low = omega (arith, b.low);
      high = omega arith;
      count = omega (arith, b.count);
      size_used = length-set used j 1 ∙ b.size_used;
      size_found = length-set found e (row_at st j).object ∙ b.size_found;
      cost = omega (arith, here, b.cost);
      rows = λ i a c. by_cases (ℕ_discrete i j) (λ q. rw q h) (λ q. b.rows i a (omega arith));
      marks = λ i a c. by_cases (ℕ_discrete i j) (λ q. rw q (get_or-set_same used j 1 0 in-used)) (λ q. get_or-set_other used j i 1 0 q ∙ b.marks i a (omega arith));
      before = λ i a. get_or-set_other used j i 1 0 (λ q. omega (arith, b.low)) ∙ b.before i a;
      after = λ i a. get_or-set_other used j i 1 0 (λ q. omega arith) ∙ b.after i (omega arith);
      kept = λ i a. get_or-set_other found e i (row_at st j).object 0 (λ q. omega (arith, b.count, b.low)) ∙ b.kept i a;
      objects = λ i p a c d. by_cases (ℕ_discrete i j)
          (λ q. let z : p ≡ e = omega (arith, b.count) in rw (z, q) (get_or-set_same found e (row_at st j).object 0 block-place))
          (λ q. get_or-set_other found e p (row_at st j).object 0 (λ z. q (omega (arith, b.count))) ∙ b.objects i p a (omega arith) d);
    }

  module _ (begins : Begins st m x k first) (none : (i : ℕ) → j ≤ i → i < m → HasSubject st x k i → ⊥) where
    -- A row of the subject x and the property k is one of those passed.
    inside : (i : ℕ) → i < m → HasSubject st x k i → (first ≤ i) × (i < j)
    inside i l h =
        by_cases (dec_lt i first) (λ (c : i < first). absurd (begins.before i c h))
        (λ c. by_cases (dec_lt i j) (λ (d : i < j). (omega arith, d)) (λ d. absurd (none i (omega arith) l h)))

    -- Any other has the mark that it had.
    outside : (i : ℕ) → ((first ≤ i) × (i < j) → ⊥) → get_or used i 0 ≡ get_or used₀ i 0
    outside i n = by_cases (dec_lt i first) (λ (c : i < first). b.before i c) (λ c. b.after i (by_cases (dec_lt i j) (λ (d : i < j). absurd (n (omega arith, d))) (λ d. omega arith)))

    -- A property that holds of a row passed, and of each other row.
    side : (Q : Type 0) (i : ℕ) → (first ≤ i → i < j → Q) → (((first ≤ i) × (i < j) → ⊥) → Q) → Q
    side Q i f g =
        by_cases (dec_lt i first) (λ (c : i < first). g (λ z. omega (arith, z.0)))
        (λ c. by_cases (dec_lt i j) (λ (d : i < j). f (omega arith) d) (λ d. g (λ z. omega (arith, z.1))))

    grown : Grown st m k used₀ found₀ n used found e
    grown = record {
      grows = omega (arith, b.count, b.low);
      cost = b.cost;
      kept = b.kept;
      other = λ i l p. outside i (λ z. p (b.rows i z.0 z.1).property);
      uniform = λ i i' l l' p q. side (get_or used i 0 ≡ get_or used i' 0) i
          (λ a c.
          let h = b.rows i a c in
          let w = inside i' l' (record { subject = sym p ∙ h.subject; property = sym q ∙ h.property }) in
          b.marks i a c ∙ sym (b.marks i' w.0 w.1))
          (λ z.
          let z' : (first ≤ i') × (i' < j) → ⊥ = λ w. (let h = b.rows i' w.0 w.1 in z (inside i l (record { subject = p ∙ h.subject; property = q ∙ h.property }))) in
          outside i z ∙ room.uniform i i' l l' p q ∙ sym (outside i' z'));
    }

    pub block-end : Extended st m k (λ y. y ≡ x) used₀ found₀ n used found e
    block-end = record {
      grown = grown;
      marked = λ i l p q. side ⊥ i (λ a c. omega (arith, b.marks i a c)) (λ z. p (sym (outside i z) ∙ q));
      gained = λ i l p q. side (Within found n e (row_at st i).object) i
          (λ a c. record { at = n + (i - first); low = omega arith; high = omega (arith, b.count); is = b.objects i (n + (i - first)) a c (omega arith) })
          (λ z. absurd (q (outside i z ∙ p)));
      origin = λ p a c.
          let i : ℕ = first + (p - n) in
          let l : i < j = omega (arith, b.count) in
          let o : get_or found p 0 ≡ (row_at st i).object = b.objects i p (omega arith) l (omega arith) in
          record { subject = x; holds = refl; statement = rw o (has-member st m x k i (omega (arith, b.high)) (b.rows i (omega arith) l)) };
      done = λ i l p q z. let w = inside i l (record { subject = q; property = p }) in omega (arith, b.marks i w.0 w.1);
    }

-- Where row j is not of the subject x and the property k, no later row is.
pub block_stops : (st : List ℕ) (m k x first j : ℕ) → Statements st m → Begins st m x k first → first ≤ j → j < m → (HasSubject st x k j → ⊥) → (i : ℕ) → j ≤ i → i < m → HasSubject st x k i → ⊥
block_stops st m k x first j s b f l n i a c h =
    by_cases (ℕ_discrete i j) (λ q. n (rw q at h))
    (λ q. past (row_at st j) (row_at st i) (rows-less st m (statements_rising s) j i (omega arith) c) (b.subjects j f l) (b.properties j f l) (λ z. n (record { subject = z.0; property = z.1 })) h.subject h.property)

-- Nothing is appended where each statement of the subjects has its mark.
pub extended_none : (st : List ℕ) (m k : ℕ) (Q : ℕ → Type 0) (used found : List ℕ) (n : ℕ) → Room st m used found n → ((j : ℕ) → j < m → (row_at st j).property ≡ k → Q (row_at st j).subject → ¬ (get_or used j 0 ≡ 0)) → Extended st m k Q used found n used found n
extended_none st m k Q used found n room d = record {
  grown = record { grows = omega arith; cost = refl; kept = λ i a. refl; other = λ j l p. refl; uniform = room.uniform };
  marked = λ j l p. p;
  gained = λ j l p q. absurd (q p);
  origin = λ i a c. absurd (omega arith);
  done = d;
}

-- ---- no marks

zeros-at : (n j : ℕ) → get_or (replicate {A = ℕ} n 0) j 0 ≡ 0
zeros-at zero j = refl
zeros-at (suc n) zero = refl
zeros-at (suc n) (suc j) = zeros-at n j

unused_zeros : (m n : ℕ) → unused m (replicate n 0) ≡ m
unfolding unused
unused_zeros zero n = refl
unused_zeros (suc m) n = rw (zeros-at n m) (omega (arith, unused_zeros m n))

pub zeros-unused : (st : List ℕ) (m k : ℕ) (used : List ℕ) → used ≡ replicate 512 0 → Unused st m k used
zeros-unused st m k used e j l p = rw e (zeros-at 512 j)

pub zeros_room : (st : List ℕ) (m : ℕ) (used found : List ℕ) (n : ℕ) → Statements st m → used ≡ replicate 512 0 → n + m ≤ length found → Room st m used found n
zeros_room st m used found n s e l = record {
  marks = rw (e, length-replicate {A = ℕ} 512 0) s.few;
  places = rw (e, unused_zeros m 512) l;
  uniform = λ i j a b p q. rw e (zeros-at 512 i ∙ sym (zeros-at 512 j));
}

pub zeros-count : (m : ℕ) (used : List ℕ) → used ≡ replicate 512 0 → unused m used ≡ m
zeros-count m used e = rw e (unused_zeros m 512)

-- ---- the table

-- The words of a well-formed table of statements hold its statements.
pub table_statements : (ws : List ℕ) (m : ℕ) → is_statement_table ws ≡ true → m ≡ count ws → Statements ws m
table_statements ws m h e =
    let W = is_table_well_formed _ _ ws h in
    let q : length (rows ws) ≡ m = length-rows ws ∙ sym e in
    record { size = omega (arith, W.laid.fits); few = omega (arith, W.within, capacity_most 512 ws); ascends = ready W m q }
