-- The claim of demand 3 fixes the whole run: what each call gave, and every word; and it fixes the reply to each question. Assumes nothing.
use Rattle.std.specs.Prelude.{Ok}
use Prim.Native.Nat.{ℕ, ◌*◌, ◌≤◌, ◌<◌}
use mathlib.Core.Path.{◌≡◌, refl, sym, ap, ap₂, ◌∙◌}
use mathlib.Core.Bool.{Bool, true, false}
use mathlib.Core.List.{List, ◌∷◌}
use native.Mathlib.Omega.{arith}
use lib.ListN.{length}
use Rattle.spec.specs.declared.Triple.{Triple}
use Rattle.spec.specs.Order.{ListOf}
use Rattle.spec.proofs.Lists.{true-not_false}
use Rattle.spec.proofs.Ascending.{ascending_ext, is_ascending_iff}
use Rattle.spec.proofs.OrderedRows.{ordered_ext}
use Rattle.spec.specs.Tables.{layout, Tables, tables, Ledger}
use Rattle.spec.specs.Lists.{padded}
use Rattle.spec.specs.Outputs.{Replied, replied, filled}
use Rattle.spec.specs.Questions.{head_count, is_question, is_head_bound, ask_kept, ask_rewritten}
use Rattle.spec.specs.Ledger.{Run, run}
use Rattle.spec.specs.Demand3.{Supported, none, row, RowsOf, Replies, refused_6, refused_7, given, refused_8, Demand3}

-- ---- the tables

-- The triples of which something holds make one list,
pub list_unique : {P : Triple → Type 0} (K H : List Triple) → ListOf P K → ListOf P H → K ≡ H
list_unique K H x y = ascending_ext K H ((is_ascending_iff K).0 x.ascend) ((is_ascending_iff H).0 y.ascend) (λ t. (λ m. (y.exactly t).1 ((x.exactly t).0 m), λ m. (x.exactly t).1 ((y.exactly t).0 m)))

-- and so do the supports of some rows.
supports_unique : {S F K : List Triple} {U W : List ℕ} → Supported S F K U → Supported S F K W → U ≡ W
supports_unique none none = refl
supports_unique (row {fs} c x) (row {fs = gs} d y) = ap₂ ◌∷◌ (ap length (list_unique fs gs c d)) (supports_unique x y)

-- Two runs of which the claim holds, beside the same run of the ledger, are one.
pub fixes : (s f k u : ℕ) (L : Run Ledger) (T T' : Run Tables) → Demand3 s f k u L T → Demand3 s f k u L T' → T ≡ T'
fixes s f k u L T T' D E =
    let a : T.given ≡ T'.given = D.answers ∙ sym E.answers in
    let K : D.kept ≡ E.kept = list_unique D.kept E.kept D.kept_follow E.kept_follow in
    let U : D.supports ≡ E.supports = supports_unique (rw K at D.supports_count) E.supports_count in
    let w : T.after ≡ T'.after = D.words ∙ (λ i. tables (layout s L.after.statements) (layout f L.after.facts) (layout k (K i)) (padded u (U i))) ∙ sym E.words in
    λ i. run (a i) (w i)

-- ---- the replies

-- The rows of a question make one list.
rows_unique : {G : Triple → Type 0} {q : List ℕ} (R Q : List (List ℕ)) → RowsOf G q R → RowsOf G q Q → R ≡ Q
rows_unique R Q x y = sym x.ascend ∙ ordered_ext R Q (λ r. (λ m. (y.exactly r).1 ((x.exactly r).0 m), λ m. (x.exactly r).1 ((y.exactly r).0 m))) ∙ y.ascend

-- A test does not give both answers.
no_both : {A : Type 0} (b : Bool) → b ≡ true → b ≡ false → A
no_both b e f = absurd (true-not_false (sym e ∙ f))

-- Rows do not both fit and exceed the room.
no_room : {A : Type 0} (m len : ℕ) (R Q : List (List ℕ)) → R ≡ Q → length R * m ≤ len → len < length Q * m → A
no_room m len R Q e h k = let l : len < length R * m = rw e k in absurd (omega arith)

-- So a question has one reply.
pub replies_unique : {G : Triple → Type 0} {q : List ℕ} {len : ℕ} {a b : Replied} → Replies G q len a → Replies G q len b → a ≡ b
replies_unique (refused_6 e) (refused_6 _) = refl
replies_unique {q} (refused_6 e) (refused_7 i _) = no_both (is_question q) i e
replies_unique {q} (refused_6 e) (given i _ _ _) = no_both (is_question q) i e
replies_unique {q} (refused_6 e) (refused_8 i _ _ _) = no_both (is_question q) i e
replies_unique {q} (refused_7 e f) (refused_6 i) = no_both (is_question q) e i
replies_unique (refused_7 e f) (refused_7 _ _) = refl
replies_unique {q} (refused_7 e f) (given _ j _ _) = no_both (is_head_bound q) j f
replies_unique {q} (refused_7 e f) (refused_8 _ j _ _) = no_both (is_head_bound q) j f
replies_unique {q} (given e f x h) (refused_6 i) = no_both (is_question q) e i
replies_unique {q} (given e f x h) (refused_7 _ j) = no_both (is_head_bound q) f j
replies_unique {len} (given {R} e f x h) (given {R = Q} _ _ y _) = ap (λ (P : List (List ℕ)). replied (Ok (length P)) (filled len P)) (rows_unique R Q x y)
replies_unique {q} {len} (given {R} e f x h) (refused_8 {R = Q} _ _ y k) = no_room (head_count q) len R Q (rows_unique R Q x y) h k
replies_unique {q} (refused_8 e f x h) (refused_6 i) = no_both (is_question q) e i
replies_unique {q} (refused_8 e f x h) (refused_7 _ j) = no_both (is_head_bound q) f j
replies_unique {q} {len} (refused_8 {R} e f x h) (given {R = Q} _ _ y k) = no_room (head_count q) len Q R (rows_unique Q R y x) k h
replies_unique (refused_8 e f x h) (refused_8 _ _ _ _) = refl

-- Where the claim holds, both ways reply alike to every question.
pub ways_agree : {s f k u : ℕ} {L : Run Ledger} (T : Run Tables) → Demand3 s f k u L T → (q : List ℕ) (len : ℕ)
    → ask_kept T.after.statements T.after.kept q len ≡ ask_rewritten T.after.statements T.after.facts q len
ways_agree T D q len = replies_unique (D.kept_way q len) (D.rewritten_way q len)
