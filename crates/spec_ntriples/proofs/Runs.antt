-- White space, labels and tags are read exactly as their productions say. Assumes nothing.
use Prim.Native.Nat.{ℕ}
use Prim.Native.Char.{code}
use mathlib.Core.Path.{◌≡◌, refl, sym, ap, ◌∙◌, subst}
use mathlib.Core.Bool.{Bool, true, false, ◌&&◌, ◌||◌, or-false}
use mathlib.Core.Logic.{inl, inr, ⊎_elim}
use mathlib.Core.List.{List, [], ◌∷◌, ◌++◌, map, append_assoc, map-append}
use native.Mathlib.Omega.{arith}
use lib.Dec.{eqb}
use borrow.Author.Tests.{eqb-true, eq-eqb}
use Rattle.spec.proofs.Lists.{by_test, or_cases, true-not_false}
use Rattle.spec.proofs.Ascending.{and_left, and_right}
use Rattle.spec_ntriples.specs.Utf8.{is_between}
use Rattle.spec_ntriples.specs.Characters.{codes, is_one_of, is_letter, is_digit, is_letter_or_digit, is_pn_chars_base, is_pn_chars_u, is_pn_chars}
use Rattle.spec_ntriples.specs.computed.Terminals.{Got, none, got, push, dotted, label, head_is, tag, skip}
use Rattle.spec_ntriples.specs.Texts.{lower_char}
use Rattle.spec_ntriples.specs.Expressions.{Expression, Matches, Single, Repeated, set, exactly, ◌then◌, ◌or◌, many, quoted, between, optional, some}
use Rattle.spec_ntriples.specs.Productions.{PN_CHARS_BASE, PN_CHARS_U, PN_CHARS, WS}
use Rattle.spec_ntriples.proofs.Escapes.{each_one, pushed, none-not}

-- ---- sets

-- An expression matches each character that passes a test, and nothing else.
pub record OfSet (e : Expression) (test : ℕ → Bool) : Type 0 where
  pub out : (u : List ℕ) → Matches e u → Single test u
  pub back : (u : List ℕ) → Single test u → Matches e u

set-set : (test : ℕ → Bool) → OfSet (set test) test
set-set test = record { out = λ u s. s; back = λ u s. s }

char-set : (d : ℕ) → OfSet (exactly (d ∷ [])) (λ c. eqb c d)
char-set d =
    record { out = λ u e. record { char = d; spelled = e; allowed = eq-eqb d d refl }; back = λ u s. s.spelled ∙ ap (λ x. x ∷ []) (eqb-true s.char d s.allowed) }

or_right : (a b : Bool) → b ≡ true → (a || b) ≡ true
or_right true b e = refl
or_right false b e = e

-- Either of two sets.
or_set : (a b : Expression) (p q : ℕ → Bool) → OfSet a p → OfSet b q → OfSet (a or b) (λ c. p c || q c)
or_set a b p q h k =
    record {
      out = λ u m. ⊎_elim
          (λ x. let s = h.out u x in record { char = s.char; spelled = s.spelled; allowed = rw s.allowed })
          (λ x. let s = k.out u x in record { char = s.char; spelled = s.spelled; allowed = or_right (p s.char) (q s.char) s.allowed })
          m;
      back = λ u s. ⊎_elim
          (λ x. inl (h.back u (record { char = s.char; spelled = s.spelled; allowed = x })))
          (λ x. inr (k.back u (record { char = s.char; spelled = s.spelled; allowed = x })))
          (or_cases (p s.char) (q s.char) s.allowed);
    }

same_set : (e : Expression) (p q : ℕ → Bool) → ((c : ℕ) → p c ≡ q c) → OfSet e p → OfSet e q
same_set e p q h k =
    record {
      out = λ u m. let s = k.out u m in record { char = s.char; spelled = s.spelled; allowed = sym (h s.char) ∙ s.allowed };
      back = λ u s. k.back u (record { char = s.char; spelled = s.spelled; allowed = h s.char ∙ s.allowed });
    }

-- The sets of labels' characters are those of the grammar.
pub pn_chars_u : OfSet PN_CHARS_U is_pn_chars_u
unfolding codes is_pn_chars_u is_one_of
pn_chars_u =
    same_set PN_CHARS_U (λ c. is_pn_chars_base c || (eqb c (code "_") || eqb c (code ":"))) is_pn_chars_u (λ c. rw (or-false (eqb c (code ":"))))
    (or_set PN_CHARS_BASE (quoted "_" or quoted ":") is_pn_chars_base (λ c. eqb c (code "_") || eqb c (code ":")) (set-set is_pn_chars_base)
    (or_set (quoted "_") (quoted ":") (λ c. eqb c (code "_")) (λ c. eqb c (code ":")) (char-set (code "_")) (char-set (code ":"))))

pub pn_chars : OfSet PN_CHARS is_pn_chars
unfolding codes is_pn_chars
pn_chars =
    or_set PN_CHARS_U _ is_pn_chars_u _ pn_chars_u
    (or_set (quoted "-") _ (λ c. eqb c (code "-")) _ (char-set (code "-"))
    (or_set (between (code "0") (code "9")) _ (λ c. is_digit c) _ (set-set _)
    (or_set (exactly (0x00B7 ∷ [])) _ (λ c. eqb c 0x00B7) _ (char-set 0x00B7)
    (or_set (between 0x0300 0x036F) (between 0x203F 0x2040) (is_between 0x0300 0x036F) (is_between 0x203F 0x2040) (set-set _) (set-set _)))))

pub label_first : OfSet (PN_CHARS_U or set is_digit) (λ c. is_pn_chars_u c || is_digit c)
label_first = or_set PN_CHARS_U (set is_digit) is_pn_chars_u is_digit pn_chars_u (set-set is_digit)

-- ---- white space

-- Characters with the white space in front of them.
pub record Skipped (cs : List ℕ) : Type 0 where
  pub white : List ℕ
  pub matched : Matches WS white
  pub spelled : cs ≡ white ++ skip cs

-- What is passed over is white space.
pub skipped : (cs : List ℕ) → Skipped cs
unfolding skip
skipped [] = record { white = []; matched = Repeated.end refl; spelled = refl }
skipped (c ∷ cs) =
    let r = skipped cs in
    by_test (is_one_of (codes "\t ") c)
    (λ p. record { white = c ∷ r.white; matched = Repeated.more (c ∷ []) r.white refl (record { char = c; spelled = refl; allowed = p }) r.matched; spelled = rw p (ap (λ x. c ∷ x) r.spelled) })
    (λ p. record { white = []; matched = Repeated.end refl; spelled = rw p })

-- White space is passed over.
pub skip_white : (w r : List ℕ) → Matches WS w → skip (w ++ r) ≡ skip r
unfolding skip
skip_white w r (Repeated.end e) = rw e
skip_white w r (Repeated.more s t e m n) = rw (e, m.spelled, m.allowed) (skip_white t r n)

-- Another character is not.
pub skip_keeps : (c : ℕ) (r : List ℕ) → is_one_of (codes "\t ") c ≡ false → skip (c ∷ r) ≡ c ∷ r
unfolding skip
skip_keeps c r h = rw h

-- ---- labels

-- [141s] BLANK_NODE_LABEL behind its first character.
abbrev pub label_rest : Expression
label_rest = optional (many (PN_CHARS or quoted ".") then PN_CHARS)

-- A label's characters, and those behind.
pub record Labelled (cs ls rest : List ℕ) : Type 0 where
  pub spelled : cs ≡ ls ++ rest
  pub matched : Matches label_rest ls

longer : (c : ℕ) (ls : List ℕ) → is_pn_chars c ≡ true → Matches label_rest ls → Matches label_rest (c ∷ ls)
longer c ls h m =
    ⊎_elim
    (λ e. inr (record { front = []; back = c ∷ []; spelled = rw e; first = Repeated.end refl; second = pn_chars.back (c ∷ []) (record { char = c; spelled = refl; allowed = h }) }))
    (λ j. inr (record { front = c ∷ j.front; back = j.back; spelled = ap (λ x. c ∷ x) j.spelled; first = Repeated.more (c ∷ []) j.front refl (inl (pn_chars.back (c ∷ []) (record { char = c; spelled = refl; allowed = h }))) j.first; second = j.second }))
    m

dot_longer : (c d : ℕ) (ls : List ℕ) → c ≡ code "." → Matches label_rest (d ∷ ls) → Matches label_rest (c ∷ d ∷ ls)
unfolding codes
dot_longer c d ls h m =
    ⊎_elim
    (λ e. cons-nil (e))
    (λ j. inr (record { front = c ∷ j.front; back = j.back; spelled = ap (λ x. c ∷ x) j.spelled; first = Repeated.more (c ∷ []) j.front refl (inr (rw h)) j.first; second = j.second }))
    m
  where
    cons-nil : {C : Type 0} {x : ℕ} {xs : List ℕ} → x ∷ xs ≡ [] → C
    cons-nil e = let z : ◌≡◌ {A = ℕ} 0 1 = cc in absurd (omega arith)

dotted_is : (c : ℕ) (cs ls rest : List ℕ) (g : Got) → c ≡ code "." → ((ls' rest' : List ℕ) → g ≡ got ls' rest' → Labelled cs ls' rest') → dotted c cs g ≡ got ls rest → Labelled (c ∷ cs) ls rest
unfolding dotted
dotted_is c cs ls rest none h ih e = none-not e
dotted_is c cs ls rest (got [] r) h ih e =
    let p : [] ≡ ls = cc in
    let q : c ∷ cs ≡ rest = cc in
    record { spelled = rw (← p, ← q); matched = inl (sym p) }
dotted_is c cs ls rest (got (d ∷ ds) r) h ih e =
    let p : c ∷ d ∷ ds ≡ ls = cc in
    let q : r ≡ rest = cc in
    let i = ih (d ∷ ds) r refl in
    record { spelled = rw (← p, ← q) (ap (λ x. c ∷ x) i.spelled); matched = rw (← p) (dot_longer c d ds h i.matched) }

-- What is read as a label is one.
pub labelled : (cs ls rest : List ℕ) → label cs ≡ got ls rest → Labelled cs ls rest
unfolding label
labelled [] ls rest e =
    let p : [] ≡ ls = cc in
    let q : [] ≡ rest = cc in
    record { spelled = rw (← p, ← q); matched = inl (sym p) }
labelled (c ∷ cs) ls rest e =
    let ih : (ls' rest' : List ℕ) → label cs ≡ got ls' rest' → Labelled cs ls' rest' = λ ls' rest' e'. labelled cs ls' rest' e' in
    by_test (is_pn_chars c)
    (λ p. let g = pushed c (label cs) ls rest (rw p at e) in
    let i = ih g.later rest g.read in
    record { spelled = rw (← g.same) (ap (λ x. c ∷ x) i.spelled); matched = subst (Matches label_rest) g.same (longer c g.later p i.matched) })
    (λ p. by_test (eqb c (code "."))
    (λ q. dotted_is c cs ls rest (label cs) (eqb-true c (code ".") q) ih (rw (p, q) at e))
    (λ q. let f : got [] (c ∷ cs) ≡ got ls rest = rw (p, q) at e in
    let a : [] ≡ ls = cc in
    let b : c ∷ cs ≡ rest = cc in
    record { spelled = rw (← a, ← b); matched = inl (sym a) }))

-- One character more, in front of a label.
label_one : (c : ℕ) (us zs r : List ℕ) → is_pn_chars c ≡ true → label us ≡ got zs r → label (c ∷ us) ≡ got (c ∷ zs) r
unfolding label push
label_one c us zs r h e = rw (h, e)

-- A dot is no character of PN_CHARS.
dot_apart : is_pn_chars (code ".") ≡ false
unfolding is_pn_chars is_pn_chars_u is_pn_chars_base is_one_of codes
dot_apart = refl

-- A dot more, where more of the label is behind it.
label_dot : (us t : List ℕ) (x : ℕ) (ls r : List ℕ) → label us ≡ got (t ++ (x ∷ ls)) r → label (code "." ∷ us) ≡ got (code "." ∷ (t ++ (x ∷ ls))) r
unfolding label dotted
label_dot us [] x ls r e = rw (dot_apart, e)
label_dot us (y ∷ t) x ls r e = rw (dot_apart, e)

-- Characters of a label in front of one.
label_many : (m : List ℕ) (x : ℕ) (ls r : List ℕ) → Matches (many (PN_CHARS or quoted ".")) m → label (x ∷ (ls ++ r)) ≡ got (x ∷ ls) r → label (m ++ (x ∷ (ls ++ r))) ≡ got (m ++ (x ∷ ls)) r
unfolding codes
label_many m x ls r (Repeated.end e) h = rw e h
label_many m x ls r (Repeated.more s t e k n) h =
    let i = label_many t x ls r n h in
    rw e
    (⊎_elim
    (λ m. let z = pn_chars.out s m in rw z.spelled (label_one z.char (t ++ (x ∷ (ls ++ r))) (t ++ (x ∷ ls)) r z.allowed i))
    (λ (z : s ≡ codes "."). rw z (label_dot (t ++ (x ∷ (ls ++ r))) t x ls r i))
    k)

-- A label is read, where none goes on behind it.
pub label-read : (ls r : List ℕ) → Matches label_rest ls → label r ≡ got [] r → label (ls ++ r) ≡ got ls r
label-read ls r m h =
    ⊎_elim
    (λ e. rw e h)
    (λ j. let z = pn_chars.out j.back j.second in
    let c = z.char in
    rw (j.spelled, z.spelled, append_assoc j.front (c ∷ []) r) (label_many j.front c [] r j.first (label_one c r [] r z.allowed h)))
    m

-- No label goes on at a character that is in none.
pub label_stops : (c : ℕ) (r : List ℕ) → is_pn_chars c ≡ false → eqb c (code ".") ≡ false → label (c ∷ r) ≡ got [] (c ∷ r)
unfolding label
label_stops c r h k = rw (h, k)

-- Nor at a dot behind which none goes on.
pub label_stops_dot : (r : List ℕ) → label r ≡ got [] r → label (code "." ∷ r) ≡ got [] (code "." ∷ r)
unfolding label dotted
label_stops_dot r h = rw (dot_apart, h)

-- Nor at white space.
white_apart : (c : ℕ) → is_one_of (codes "\t ") c ≡ true → (is_pn_chars c ≡ false) × (eqb c (code ".") ≡ false)
unfolding is_pn_chars is_pn_chars_u is_pn_chars_base is_one_of codes
white_apart c h = each_one (λ x. (is_pn_chars x ≡ false) × (eqb x (code ".") ≡ false)) (codes "\t ") c ((refl, refl), ((refl, refl), tt)) h

pub label_white : (w r : List ℕ) → Matches WS w → label r ≡ got [] r → label (w ++ r) ≡ got [] (w ++ r)
label_white w r (Repeated.end e) h = rw e h
label_white w r (Repeated.more s t e m n) h =
    rw (e, m.spelled) (label_stops m.char (t ++ r) (white_apart m.char m.allowed).0 (white_apart m.char m.allowed).1)

-- ---- tags

-- One of the groups behind the first letters of a tag.
abbrev pub tag_group : Expression
tag_group = quoted "-" then some (set is_letter_or_digit)

-- A tag's characters, in lower case in ls, and those behind.
pub record Tagged (test : ℕ → Bool) (cs ls rest : List ℕ) : Type 0 where
  pub front : List ℕ
  pub back : List ℕ
  pub spelled : cs ≡ front ++ (back ++ rest)
  pub lower : ls ≡ map lower_char (front ++ back)
  pub letters : Matches (many (set test)) front
  pub begun : head_is test cs ≡ true → Matches (some (set test)) front
  pub groups : Matches (many tag_group) back

no_more : (test : ℕ → Bool) (cs ls rest : List ℕ) → head_is test cs ≡ false → got [] cs ≡ got ls rest → Tagged test cs ls rest
no_more test cs ls rest h e =
    let p : [] ≡ ls = cc in
    let q : cs ≡ rest = cc in
    record { front = []; back = []; spelled = q; lower = sym p; letters = Repeated.end refl; begun = λ k. absurd (true-not_false (sym k ∙ h)); groups = Repeated.end refl }

letter_more : (test : ℕ → Bool) (c : ℕ) (cs ls ls' rest : List ℕ) → test c ≡ true → Tagged test cs ls' rest → lower_char c ∷ ls' ≡ ls → Tagged test (c ∷ cs) ls rest
letter_more test c cs ls ls' rest h i e =
    record {
      front = c ∷ i.front;
      back = i.back;
      spelled = ap (λ x. c ∷ x) i.spelled;
      lower = sym e ∙ ap (λ x. lower_char c ∷ x) i.lower;
      letters = Repeated.more (c ∷ []) i.front refl (record { char = c; spelled = refl; allowed = h }) i.letters;
      begun = λ k. record { front = c ∷ []; back = i.front; spelled = refl; first = record { char = c; spelled = refl; allowed = h }; second = i.letters };
      groups = i.groups;
    }

hyphen-lower : (c : ℕ) → c ≡ code "-" → lower_char c ≡ c
unfolding lower_char
hyphen-lower c h = rw h

group_more : (test : ℕ → Bool) (c : ℕ) (cs ls ls' rest : List ℕ) → test c ≡ false → c ≡ code "-" → head_is is_letter_or_digit cs ≡ true → Tagged is_letter_or_digit cs ls' rest → c ∷ ls' ≡ ls → Tagged test (c ∷ cs) ls rest
unfolding head_is codes
group_more test c cs ls ls' rest h k l i e =
    record {
      front = [];
      back = c ∷ (i.front ++ i.back);
      spelled = ap (λ x. c ∷ x) (i.spelled ∙ sym (append_assoc i.front i.back rest));
      lower = sym e ∙ rw (hyphen-lower c k, i.lower);
      letters = Repeated.end refl;
      begun = λ x. absurd (true-not_false (sym x ∙ h));
      groups = Repeated.more (c ∷ i.front) i.back refl (record { front = c ∷ []; back = i.front; spelled = refl; first = rw k; second = i.begun l }) i.groups;
    }

-- What is read as a tag is one.
pub tagged : (cs : List ℕ) (test : ℕ → Bool) (ls rest : List ℕ) → tag test cs ≡ got ls rest → Tagged test cs ls rest
unfolding tag head_is
tagged [] test ls rest e = no_more test [] ls rest refl e
tagged (c ∷ cs) test ls rest e =
    let ih : (test' : ℕ → Bool) (ls' rest' : List ℕ) → tag test' cs ≡ got ls' rest' → Tagged test' cs ls' rest' = λ test' ls' rest' e'. tagged cs test' ls' rest' e' in
    by_test (test c)
    (λ p. let g = pushed (lower_char c) (tag test cs) ls rest (rw p at e) in letter_more test c cs ls g.later rest p (ih test g.later rest g.read) g.same)
    (λ p. by_test (eqb c (code "-") && head_is is_letter_or_digit cs)
    (λ q. let g = pushed c (tag is_letter_or_digit cs) ls rest (rw (p, q) at e) in
    group_more test c cs ls g.later rest p (eqb-true c (code "-") (and_left _ (head_is is_letter_or_digit cs) q)) (and_right (eqb c (code "-")) _ q) (ih is_letter_or_digit g.later rest g.read) g.same)
    (λ q. no_more test (c ∷ cs) ls rest p (rw (p, q) at e)))

-- Letters in front of what is read.
tag_letters : (test : ℕ → Bool) (m r ls rest : List ℕ) → Matches (many (set test)) m → tag test r ≡ got ls rest → tag test (m ++ r) ≡ got (map lower_char m ++ ls) rest
unfolding tag push
tag_letters test m r ls rest (Repeated.end e) h = rw e h
tag_letters test m r ls rest (Repeated.more s t e k n) h = rw (e, k.spelled, k.allowed, tag_letters test t r ls rest n h)

-- Some letters are any number of them, and the first is one.
some_many : (test : ℕ → Bool) (m : List ℕ) → Matches (some (set test)) m → Matches (many (set test)) m
some_many test m j = Repeated.more j.front j.back j.spelled j.first j.second

some-head : (test : ℕ → Bool) (m r : List ℕ) → Matches (some (set test)) m → head_is test (m ++ r) ≡ true
unfolding head_is
some-head test m r j = rw (j.spelled, j.first.spelled) j.first.allowed

-- A group in front of what is read.
tag_group_lem : (test : ℕ → Bool) (s r ls rest : List ℕ) → Matches tag_group s → test (code "-") ≡ false → tag is_letter_or_digit r ≡ got ls rest → tag test (s ++ r) ≡ got (map lower_char s ++ ls) rest
unfolding tag push codes lower_char
tag_group_lem test s r ls rest j h e =
    rw (j.spelled, j.first, h, some-head is_letter_or_digit j.back r j.second, tag_letters is_letter_or_digit j.back r ls rest (some_many is_letter_or_digit j.back j.second) e)

-- Groups are read, where no tag goes on behind them.
tag_groups : (test : ℕ → Bool) (g r : List ℕ) → Matches (many tag_group) g → test (code "-") ≡ false → tag test r ≡ got [] r → tag is_letter_or_digit r ≡ got [] r → tag test (g ++ r) ≡ got (map lower_char g) r
tag_groups test g r (Repeated.end e) h k l = rw e k
tag_groups test g r (Repeated.more s t e m n) h k l =
    rw (e, append_assoc s t r, map-append lower_char s t) (tag_group_lem test s (t ++ r) (map lower_char t) r m h (tag_groups is_letter_or_digit t r n refl l l))

-- Where no tag goes on.
pub record NoTag (r : List ℕ) : Type 0 where
  pub letters : tag is_letter r ≡ got [] r
  pub others : tag is_letter_or_digit r ≡ got [] r

-- [144s] LANGTAG behind "@".
abbrev pub tag_rest : Expression
tag_rest = some (set is_letter) then many tag_group

-- A tag is read, in lower case, where none goes on behind it.
pub tag_read : (u r : List ℕ) → Matches tag_rest u → NoTag r → tag is_letter (u ++ r) ≡ got (map lower_char u) r
tag_read u r m n =
    rw (m.spelled, append_assoc m.front m.back r, map-append lower_char m.front m.back)
    (tag_letters is_letter m.front (m.back ++ r) (map lower_char m.back) r (some_many is_letter m.front m.first) (tag_groups is_letter m.back r m.second refl n.letters n.others))

-- Its first character is a letter.
pub tag-head : (u r : List ℕ) → Matches tag_rest u → head_is is_letter (u ++ r) ≡ true
tag-head u r m = rw (m.spelled, append_assoc m.front m.back r) (some-head is_letter m.front (m.back ++ r) m.first)

-- No tag goes on at a character that is in none.
pub tag_stops : (c : ℕ) (r : List ℕ) → is_letter c ≡ false → is_letter_or_digit c ≡ false → eqb c (code "-") ≡ false → NoTag (c ∷ r)
unfolding tag
tag_stops c r h k l = record { letters = rw (h, l); others = rw (k, l) }

white_no_tag : (c : ℕ) → is_one_of (codes "\t ") c ≡ true → (is_letter c ≡ false) × (is_letter_or_digit c ≡ false) × (eqb c (code "-") ≡ false)
unfolding is_one_of codes
white_no_tag c h = each_one (λ x. (is_letter x ≡ false) × (is_letter_or_digit x ≡ false) × (eqb x (code "-") ≡ false)) (codes "\t ") c ((refl, refl, refl), ((refl, refl, refl), tt)) h

-- Nor at white space.
pub tag_white : (w r : List ℕ) → Matches WS w → NoTag r → NoTag (w ++ r)
tag_white w r (Repeated.end e) h = rw e h
tag_white w r (Repeated.more s t e m n) h =
    let a = white_no_tag m.char m.allowed in
    rw (e, m.spelled) (tag_stops m.char (t ++ r) a.0 a.1 a.2)
