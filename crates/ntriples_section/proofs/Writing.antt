-- Laws of the bytes of a section, written one behind the other. Assumes nothing.
use Prim.Native.Nat.{ℕ, zero, suc, ◌+◌, ◌-◌, ◌*◌, ◌/◌, ◌%◌, ◌≤◌, ◌<◌}
use mathlib.Core.Path.{◌≡◌, refl, sym, ap, ◌∙◌}
use mathlib.Core.Bool.{Bool, true, false, not, beq}
use mathlib.Core.List.{List, [], ◌∷◌, ◌++◌, append_assoc, append-nil}
use native.Mathlib.Numerals.{add-one}
use native.Mathlib.Omega.{arith}
use lib.ListN.{length, set, length-append}
use lib.Seq.{sets, set_comm}
use Rattle.spec.specs.declared.Triple.{Triple}
use Rattle.spec.specs.Terms.{is_statement}
use Rattle.spec.specs.Lists.{select}
use Rattle.spec.specs.Tables.{triple_from, first_rows}
use Rattle.spec.proofs.Lists.{select-length}
use Rattle.spec.proofs.TableRows.{length-first_rows, first_rows-snoc}
use Rattle.spec.specs.Messages.{short_bytes, word_bytes, entry_bytes, entries_bytes, section_bytes}
use Rattle.delivery_format.specs.inside.Sections.{is_right_in}
use Rattle.spec_ntriples.proofs.Numbers.{select-append}
use Rattle.spec_ntriples.proofs.ReadingRefused.{entries-length}
use borrow.Rule.Slice.PartMut.{put_mid}
use Rattle.std.specs.Int.{to_le_bytes}
use mir.Syntax.{w16}
use Rattle.ntriples_text.proofs.Writing.{sets-append, part_sets}
use Rattle.ntriples_section.specs.inside.Sections.{chosen}

-- ---- numbers, words and entries

-- The bytes of a 16-bit number, low byte first.
short-bytes : (n : ℕ) → n < 65536 → to_le_bytes w16 n ≡ short_bytes n
unfolding short_bytes
short-bytes n h = let e : n / 256 % 256 ≡ n / 256 = omega arith in rw e

pub short-written : (out ys : List ℕ) (at k n : ℕ) → n < 65536 → ys ≡ to_le_bytes w16 n → k ≡ 2 → at + 2 ≤ length out → put_mid at k out ys ≡ sets out at (short_bytes n)
unfolding short_bytes
short-written out ys at k n h e f l = part_sets out (short_bytes n) ys at k (e ∙ short-bytes n h) f (omega arith)

pub word-written : (out a b : List ℕ) (at w : ℕ) → a ≡ sets out at (short_bytes (w % 65536)) → b ≡ sets a (at + 2) (short_bytes (w / 65536)) → b ≡ sets out at (word_bytes w)
unfolding word_bytes short_bytes
word-written out a b at w e f =
    f ∙ ap (λ (o : List ℕ). sets o (at + 2) (short_bytes (w / 65536))) e ∙ sym (sets-append out at (short_bytes (w % 65536)) (short_bytes (w / 65536)))

pub entry-written
    : (out a b d : List ℕ) (at : ℕ) (t : Triple) → a ≡ sets out at (word_bytes t.subject) → b ≡ sets a (at + 4) (word_bytes t.property) → d ≡ sets b (at + 8) (word_bytes t.object)
    → d ≡ sets out at (entry_bytes t)
unfolding entry_bytes word_bytes short_bytes
entry-written out a b d at t e f g =
    let k : at + 4 + 4 ≡ at + 8 = omega arith in
    g ∙ ap (λ (o : List ℕ). sets o (at + 8) (word_bytes t.object)) f
    ∙ ap (λ (i : ℕ). sets (sets a (at + 4) (word_bytes t.property)) i (word_bytes t.object)) (sym k)
    ∙ sym (sets-append a (at + 4) (word_bytes t.property) (word_bytes t.object))
    ∙ ap (λ (o : List ℕ). sets o (at + 4) (word_bytes t.property ++ word_bytes t.object)) e
    ∙ sym (sets-append out at (word_bytes t.subject) (word_bytes t.property ++ word_bytes t.object))

-- ---- entries

entries-append : (ss ts : List Triple) → entries_bytes (ss ++ ts) ≡ entries_bytes ss ++ entries_bytes ts
unfolding entries_bytes
entries-append [] ts = refl
entries-append (s ∷ ss) ts = ap (λ (l : List ℕ). entry_bytes s ++ l) (entries-append ss ts) ∙ sym (append_assoc (entry_bytes s) (entries_bytes ss) (entries_bytes ts))

-- One entry more.
entries-snoc : (ss : List Triple) (t : Triple) → entries_bytes (ss ++ (t ∷ [])) ≡ entries_bytes ss ++ entry_bytes t
unfolding entries_bytes
entries-snoc ss t = entries-append ss (t ∷ []) ∙ ap (λ (l : List ℕ). entries_bytes ss ++ l) (append-nil (entry_bytes t))

module _ (statements : Bool) (n : ℕ) (ws : List ℕ) where
  chosen_more : chosen statements (n + 1) ws ≡ chosen statements n ws ++ select (is_right_in statements) (triple_from ws (n * 3) ∷ [])
  unfolding chosen
  chosen_more = rw (add-one n, first_rows-snoc n ws) (select-append (is_right_in statements) (first_rows n ws) (triple_from ws (n * 3) ∷ []))

  pub chosen_one : is_right_in statements (triple_from ws (n * 3)) ≡ true → chosen statements (n + 1) ws ≡ chosen statements n ws ++ (triple_from ws (n * 3) ∷ [])
  unfolding select
  chosen_one q = chosen_more ∙ rw q

  pub chosen_none : is_right_in statements (triple_from ws (n * 3)) ≡ false → chosen statements (n + 1) ws ≡ chosen statements n ws
  unfolding select
  chosen_none q = chosen_more ∙ rw q (append-nil (chosen statements n ws))

-- The test for it.
is_it : (b : Bool) → beq b true ≡ b
is_it true = refl
is_it false = refl

is_not : (b : Bool) → beq b false ≡ not b
is_not true = refl
is_not false = refl

right_in : (statements : Bool) (t : Triple) → beq (is_statement t) statements ≡ is_right_in statements t
unfolding is_right_in
right_in true t = is_it (is_statement t)
right_in false t = is_not (is_statement t)

pub tested : (statements : Bool) (t u : Triple) (r b : Bool) → r ≡ is_statement t → t ≡ u → beq r statements ≡ b → is_right_in statements u ≡ b
tested statements t u r b e f q = ap (is_right_in statements) (sym f) ∙ sym (right_in statements t) ∙ ap (λ (x : Bool). beq x statements) (sym e) ∙ q

-- Of more rows at least as many are chosen.
chosen_grows : (statements : Bool) (ws : List ℕ) (i k : ℕ) → length (chosen statements i ws) ≤ length (chosen statements (i + k) ws)
chosen_grows statements ws i zero = let e : i + 0 ≡ i = omega arith in rw e (omega arith)
chosen_grows statements ws i (suc k) =
    let e : i + suc k ≡ i + k + 1 = omega arith in
    rw e (omega (
      arith,
      chosen_grows statements ws i k,
      ap length (chosen_more statements (i + k) ws),
      length-append (chosen statements (i + k) ws) (select (is_right_in statements) (triple_from ws ((i + k) * 3) ∷ [])),
    ))

-- At most all are.
pub chosen_few : (statements : Bool) (n : ℕ) (ws : List ℕ) → length (chosen statements n ws) ≤ n
unfolding chosen
chosen_few statements n ws = omega (arith, select-length (is_right_in statements) (first_rows n ws), length-first_rows n ws)

-- So there is room for one more.
pub chosen_room : (statements : Bool) (ws : List ℕ) (i n : ℕ) → i < n → is_right_in statements (triple_from ws (i * 3)) ≡ true → length (chosen statements i ws) < length (chosen statements n ws)
chosen_room statements ws i n h q =
    let e : i + 1 + (n - (i + 1)) ≡ n = omega arith in
    omega (
      arith,
      ap length (chosen_one statements i ws q),
      length-append (chosen statements i ws) (triple_from ws (i * 3) ∷ []),
      ap (λ (k : ℕ). length (chosen statements k ws)) e,
      chosen_grows statements ws (i + 1) (n - (i + 1)),
    )

-- Entries written from an index on, up to another.
pub record Wrote (out₀ : List ℕ) (at : ℕ) (ts : List Triple) (out : List ℕ) (place : ℕ) : Type 0 where
  pub written : out ≡ sets out₀ at (entries_bytes ts)
  pub behind : place ≡ at + length ts * 12

pub wrote_none : (statements : Bool) (ws out : List ℕ) (at : ℕ) → Wrote out at (chosen statements 0 ws) out at
unfolding entries_bytes chosen first_rows select
wrote_none statements ws out at = record { written = refl; behind = omega arith }

pub wrote-more
    : (out₀ : List ℕ) (at : ℕ) (ts : List Triple) (out : List ℕ) (place : ℕ) → Wrote out₀ at ts out place
    → (t : Triple) (next : List ℕ) → next ≡ sets out place (entry_bytes t) → Wrote out₀ at (ts ++ (t ∷ [])) next (place + 12)
wrote-more out₀ at ts out place W t next e =
    let k : at + length (entries_bytes ts) ≡ place = omega (arith, entries-length ts, W.behind) in
    record {
      written =
          e ∙ ap (λ (o : List ℕ). sets o place (entry_bytes t)) W.written
          ∙ ap (λ (i : ℕ). sets (sets out₀ at (entries_bytes ts)) i (entry_bytes t)) (sym k)
          ∙ sym (ap (sets out₀ at) (entries-snoc ts t) ∙ sets-append out₀ at (entries_bytes ts) (entry_bytes t));
      behind = omega (arith, W.behind, length-append ts (t ∷ []));
    }

-- What is written for the same triples.
pub wrote_same : (out₀ : List ℕ) (at : ℕ) (ts us : List Triple) (out : List ℕ) (place : ℕ) → us ≡ ts → Wrote out₀ at ts out place → Wrote out₀ at us out place
wrote_same out₀ at ts us out place e W = rw e W

-- ---- sections

-- A byte before others can be stored after them.
set_before : (out : List ℕ) (at : ℕ) (vs : List ℕ) (i a : ℕ) → i < at → set (sets out at vs) i a ≡ sets (set out i a) at vs
set_before out at [] i a h = refl
set_before out at (v ∷ vs) i a h =
    set_before (set out at v) (suc at) vs i a (omega arith)
    ∙ ap (λ (o : List ℕ). sets o (suc at) vs) (set_comm out at i v a (λ e. omega arith))

-- The count of a section, written when its entries are.
pub section_written
    : (out a b : List ℕ) (at c : ℕ) (ts : List Triple) → a ≡ sets out (at + 2) (entries_bytes ts) → c ≡ length ts → b ≡ sets a at (short_bytes c)
    → b ≡ sets out at (section_bytes ts)
unfolding section_bytes short_bytes
section_written out a b at c ts e l f =
    let k : at + 2 ≡ suc (suc at) = omega arith in
    f ∙ rw (e, l, k)
    (ap (λ (o : List ℕ). set o (suc at) (length ts / 256)) (set_before out (suc (suc at)) (entries_bytes ts) at (length ts % 256) (omega arith))
    ∙ set_before (set out at (length ts % 256)) (suc (suc at)) (entries_bytes ts) (suc at) (length ts / 256) (omega arith))

pub section-length : (ts : List Triple) → length (section_bytes ts) ≡ 2 + length ts * 12
unfolding section_bytes short_bytes
section-length ts = omega (arith, entries-length ts)
