-- Entries with the next number of their kind: what their terms are, and that they differ. Assumes nothing.
use Prim.Native.Nat.{ℕ, zero, suc, ◌+◌, ◌*◌, ◌^◌, ◌≤◌, ◌<◌}
use Prim.Native.Char.{code}
use mathlib.Core.Path.{◌≡◌, refl, sym}
use mathlib.Core.Bool.{Bool, true, ◌&&◌, and_assoc}
use mathlib.Core.List.{List, [], ◌∷◌, ◌++◌, append-nil}
use native.Mathlib.Omega.{arith}
use lib.ListN.{length, get_or, length-append}
use lib.Seq.{append_snoc}
use lib.Dec.{eqb, leb}
use borrow.Author.Tests.{eqb-true, eq-eqb, leb-true}
use Rattle.spec.specs.Terms.{kind, number}
use Rattle.spec.specs.Lists.{select}
use Rattle.spec.proofs.Lists.{by_test}
use Rattle.spec.proofs.Ascending.{and_left, and_right}
use Rattle.spec.proofs.Each.{each_append}
use Rattle.spec.specs.inside.Each.{Each}
use Rattle.spec_ntriples.specs.Dictionary.{Entry, are_numbers_enough, first_number, next_number, next_term, kind_of, are_numbered}

-- ---- what holds of each of a list

module _ {A : Type 0} where
  pub each_map : (P Q : A → Type 0) (xs : List A) → ((x : A) → P x → Q x) → Each P xs → Each Q xs
  each_map P Q [] f h = tt
  each_map P Q (x ∷ xs) f h = (f x h.0, each_map P Q xs f h.1)

-- ---- how many texts of a kind

-- The texts of a kind that some entries have.
unfoldable pub texts_of_kind : ℕ → List Entry → ℕ
texts_of_kind k es = length (select (λ (e : Entry). eqb (kind_of e.text) k) es)

pub select-append : {A : Type 0} (test : A → Bool) (xs ys : List A) → select test (xs ++ ys) ≡ select test xs ++ select test ys
unfolding select
select-append test [] ys = refl
select-append test (x ∷ xs) ys = by_test (test x) (λ p. rw (p, select-append test xs ys)) (λ p. rw (p, select-append test xs ys))

pub kinds-append : (k : ℕ) (xs ys : List Entry) → texts_of_kind k (xs ++ ys) ≡ texts_of_kind k xs + texts_of_kind k ys
unfolding texts_of_kind
kinds-append k xs ys =
    let test : Entry → Bool = λ (e : Entry). eqb (kind_of e.text) k in
    rw (select-append test xs ys) (length-append (select test xs) (select test ys))

pub kinds_one : (e : Entry) → texts_of_kind (kind_of e.text) (e ∷ []) ≡ 1
unfolding texts_of_kind select
kinds_one e = rw (eq-eqb (kind_of e.text) (kind_of e.text) refl)

-- Enough numbers, as numbers.
pub record Enough (es : List Entry) : Type 0 where
  pub uris : 16 + texts_of_kind 0 es ≤ 2 ^ 30
  pub blanks : 1 + texts_of_kind 1 es ≤ 2 ^ 30
  pub literals : 1 + texts_of_kind 2 es ≤ 2 ^ 30

pub numbers_enough : (es : List Entry) → are_numbers_enough es ≡ true → Enough es
unfolding are_numbers_enough next_number first_number texts_of_kind
numbers_enough es h =
    let a = leb (next_number 0 es) (2 ^ 30) in
    let b = leb (next_number 1 es) (2 ^ 30) in
    let c = leb (next_number 2 es) (2 ^ 30) in
    let t : (b && c) ≡ true = and_right a (b && c) h in
    record { uris = leb-true _ _ (and_left a (b && c) h); blanks = leb-true _ _ (and_left b c t); literals = leb-true _ _ (and_right b c t) }

pub kind_least : (t : List ℕ) → kind_of t ≤ 2
unfolding kind_of
kind_least t =
    by_test (eqb (get_or t 0 0) (code "<")) (λ p. rw p (omega arith))
    (λ p. by_test (eqb (get_or t 0 0) (code "_")) (λ q. rw (p, q) (omega arith)) (λ q. rw (p, q) (omega arith)))

-- Of one kind.
pub enough-kind : (k : ℕ) (es : List Entry) → k ≤ 2 → Enough es → first_number k + texts_of_kind k es ≤ 2 ^ 30
unfolding first_number
enough-kind zero es h E = E.uris
enough-kind (suc zero) es h E = E.blanks
enough-kind (suc (suc zero)) es h E = E.literals
enough-kind (suc (suc (suc k))) es h E = absurd (omega (arith, h))

-- ---- where an entry stands

-- An entry has a number of its kind, below the next one behind some entries.
pub record Numbered (es : List Entry) (e : Entry) : Type 0 where
  pub number : ℕ
  pub is : e.term ≡ kind_of e.text * 2 ^ 30 + number
  pub first : first_number (kind_of e.text) ≤ number
  pub next : number < first_number (kind_of e.text) + texts_of_kind (kind_of e.text) es
  pub small : number < 2 ^ 30

pub first_positive : (k : ℕ) → 0 < first_number k
unfolding first_number
first_positive zero = omega arith
first_positive (suc k) = omega arith

numbered_more : (xs ys : List Entry) (e : Entry) → Numbered xs e → Numbered (xs ++ ys) e
numbered_more xs ys e N =
    record {
      number = N.number;
      is = N.is;
      first = N.first;
      next = omega (arith, N.next, kinds-append (kind_of e.text) xs ys);
      small = N.small;
    }

-- Its term has its text's kind.
pub numbered-kind : (es : List Entry) (e : Entry) → Numbered es e → kind e.term ≡ kind_of e.text
numbered-kind es e N = omega (arith, N.is, N.small, kind_least e.text)

pub next-number : (k : ℕ) (es : List Entry) → next_number k es ≡ first_number k + texts_of_kind k es
unfolding next_number texts_of_kind
next-number k es = refl

pub enough_front : (xs ys : List Entry) → Enough (xs ++ ys) → Enough xs
enough_front xs ys E =
    record {
      uris = omega (arith, E.uris, kinds-append 0 xs ys);
      blanks = omega (arith, E.blanks, kinds-append 1 xs ys);
      literals = omega (arith, E.literals, kinds-append 2 xs ys);
    }

-- An entry with the next term behind some entries.
numbered_next : (xs : List Entry) (e : Entry) → Enough (xs ++ (e ∷ [])) → e.term ≡ next_term (kind_of e.text) xs → Numbered (xs ++ (e ∷ [])) e
numbered_next xs e E q =
    let k = kind_of e.text in
    let a = kinds-append k xs (e ∷ []) in
    let b = kinds_one e in
    let c = enough-kind k (xs ++ (e ∷ [])) (kind_least e.text) E in
    let d = next-number k xs in
    record {
      number = next_number k xs;
      is = q;
      first = omega (arith, d);
      next = omega (arith, a, b, d);
      small = omega (arith, a, b, c, d);
    }

-- ---- entries so numbered

pub numbered_split : (b xs ys : List Entry) → are_numbered b (xs ++ ys) ≡ (are_numbered b xs && are_numbered (b ++ xs) ys)
unfolding are_numbered
numbered_split b [] ys = rw (append-nil b)
numbered_split b (x ∷ xs) ys =
    rw (numbered_split (b ++ (x ∷ [])) xs ys, append_snoc b x xs)
    (sym (and_assoc (eqb x.term (next_term (kind_of x.text) b)) (are_numbered (b ++ (x ∷ [])) xs) (are_numbered (b ++ (x ∷ xs)) ys)))

pub all_numbered : (b es : List Entry) → Each (Numbered b) b → are_numbered b es ≡ true → Enough (b ++ es) → Each (Numbered (b ++ es)) (b ++ es)
unfolding are_numbered
all_numbered b [] h q E = rw (append-nil b) h
all_numbered b (e ∷ es) h q E =
    let c : List Entry = b ++ (e ∷ []) in
    let s : c ++ es ≡ b ++ (e ∷ es) = append_snoc b e es in
    let w : e.term ≡ next_term (kind_of e.text) b = eqb-true _ _ (and_left _ (are_numbered c es) q) in
    let E' : Enough (c ++ es) = rw s E in
    let n = numbered_next b e (enough_front c es E') w in
    let i : Each (Numbered c) c = each_append (Numbered c) b (e ∷ []) (each_map (Numbered b) (Numbered c) b (numbered_more b (e ∷ [])) h) (n, tt) in
    rw s at (all_numbered c es i (and_right (eqb e.term (next_term (kind_of e.text) b)) _ q) E')

-- Entries numbered from the first.
pub numbered-entries : (es : List Entry) → are_numbered [] es ≡ true → Enough es → Each (Numbered es) es
numbered-entries es q E = all_numbered [] es tt q E
