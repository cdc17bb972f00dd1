-- A file is read exactly as its lines say (document-read, document_refused, at the end). Assumes nothing.
use Prim.Native.Nat.{ℕ}
use mathlib.Core.Path.{◌≡◌, refl, sym, ap, ◌∙◌, subst}
use mathlib.Core.Bool.{Bool, true, false, not}
use mathlib.Core.Logic.{◌↔◌, inl}
use mathlib.Core.List.{List, [], ◌∷◌, ◌++◌, append-nil}
use native.Mathlib.Omega.{arith}
use borrow.Author.Tests.{not-true}
use Rattle.spec.specs.Lists.{all}
use Rattle.spec.proofs.Lists.{cond_elim}
use Rattle.spec.proofs.Ascending.{and_left, and_right}
use Rattle.spec_ntriples.specs.computed.Decoded.{Decoded, broken, decoded, decode}
use Rattle.spec_ntriples.specs.Characters.{codes, is_one_of}
use Rattle.spec_ntriples.specs.Texts.{TextTriple}
use Rattle.spec_ntriples.specs.computed.Lines.{Line, wrong, empty, full, read_line, add_to_line, lines, Document, refused, triples, with_triple, with_line, read_lines, document_of, document}
use Rattle.spec_ntriples.specs.Expressions.{Matches, Repeated, many, one_of}
use Rattle.spec_ntriples.specs.Meaning.{is_one_line, LineSays, Says, FileSays}
use Rattle.spec_ntriples.proofs.Decoding.{decode-encode}
use Rattle.spec_ntriples.proofs.LineRead.{line_read, line-empty}

-- Whether a character ends a line.
abbrev pub is_eol : ℕ → Bool
is_eol c = is_one_of (codes "\r\n") c

-- ---- characters are cut into lines

-- Lines with one character between each two.
data Cut : List ℕ → List (List ℕ) → Type 0 where
  last : {u : List ℕ} → is_one_line u ≡ true → Cut u (u ∷ [])
  more : {u : List ℕ} {ls : List (List ℕ)} (l : List ℕ) (e : ℕ) (r : List ℕ) → u ≡ l ++ (e ∷ r) → is_one_line l ≡ true → is_eol e ≡ true → Cut r ls → Cut u (l ∷ ls)

longer : (c : ℕ) (l : List ℕ) → is_eol c ≡ false → is_one_line l ≡ true → is_one_line (c ∷ l) ≡ true
unfolding all
longer c l h k = rw h k

add_cut : (c : ℕ) (u : List ℕ) (ls : List (List ℕ)) → is_eol c ≡ false → Cut u ls → Cut (c ∷ u) (add_to_line c ls)
unfolding add_to_line
add_cut c u ls h (Cut.last k) = Cut.last (longer c u h k)
add_cut c u ls h (Cut.more l e r q k i t) = Cut.more (c ∷ l) e r (ap (λ x. c ∷ x) q) (longer c l h k) i t

cut : (cs : List ℕ) → Cut cs (lines cs)
unfolding lines all
cut [] = Cut.last refl
cut (c ∷ cs) =
    let i = cut cs in
    cond_elim (Cut (c ∷ cs)) (is_eol c) (λ p. Cut.more [] c cs refl refl p i) (λ p. add_cut c cs (lines cs) p i)

-- ---- what is read is said

pub refused-not : {C : Type 0} {ts : List TextTriple} → refused ≡ triples ts → C
refused-not e = let z : ◌≡◌ {A = ℕ} 0 1 = cc in absurd (omega arith)

-- A triple in front of others.
pub record First (t : TextTriple) (d : Document) (ts : List TextTriple) : Type 0 where
  pub later : List TextTriple
  pub behind : d ≡ triples later
  pub same : ts ≡ t ∷ later

pub first : (t : TextTriple) (d : Document) (ts : List TextTriple) → with_triple t d ≡ triples ts → First t d ts
unfolding with_triple
first t refused ts e = refused-not e
first t (triples us) ts e = record { later = us; behind = refl; same = cc }

-- A line, and what those behind it say.
record Said (l : List ℕ) (d : Document) (ts : List TextTriple) : Type 0 where
  ls : List TextTriple
  us : List TextTriple
  line : LineSays l ls
  behind : d ≡ triples us
  same : ts ≡ ls ++ us

line_said : (l : List ℕ) (x : Line) (d : Document) (ts : List TextTriple) → read_line l ≡ x → with_line x d ≡ triples ts → Said l d ts
unfolding with_line
line_said l wrong d ts p e = refused-not e
line_said l empty d ts p e = record { ls = []; us = ts; line = LineSays.no_triple ((line-empty l).0 p) refl; behind = e; same = refl }
line_said l (full t) d ts p e =
    let f = first t d ts e in
    record { ls = t ∷ []; us = f.later; line = LineSays.one_triple t ((line_read l t).0 p) refl; behind = f.behind; same = f.same }

lines_said : (cs : List ℕ) (ls : List (List ℕ)) (ts : List TextTriple) → Cut cs ls → read_lines ls ≡ triples ts → Says cs ts
unfolding read_lines
lines_said cs ls ts (Cut.last h) e =
    let s = line_said cs (read_line cs) (triples []) ts refl e in
    let b : s.us ≡ [] = cc in
    Says.last h (subst (LineSays cs) (sym (s.same ∙ ap (λ x. s.ls ++ x) b ∙ append-nil s.ls)) s.line)
lines_said cs ls ts (Cut.more {ls = ms} l c r q h i t) e =
    let s = line_said l (read_line l) (read_lines ms) ts refl e in
    Says.more l (c ∷ []) r s.ls s.us q h s.line
    (record { front = c ∷ []; back = []; spelled = refl; first = record { char = c; spelled = refl; allowed = i }; second = Repeated.end refl })
    (lines_said r ms s.us t s.behind) s.same

-- ---- what is said is read

not_eol : (c : ℕ) (l : List ℕ) → is_one_line (c ∷ l) ≡ true → is_eol c ≡ false
unfolding all
not_eol c l h = not-true (is_eol c) (and_left (not (is_eol c)) (is_one_line l) h)

one_line_lem : (l : List ℕ) → is_one_line l ≡ true → lines l ≡ l ∷ []
unfolding lines all add_to_line
one_line_lem [] h = refl
one_line_lem (c ∷ l) h = rw (not_eol c l h, one_line_lem l (and_right (not (is_eol c)) _ h))

pub line_more : (l : List ℕ) (c : ℕ) (r : List ℕ) → is_one_line l ≡ true → is_eol c ≡ true → lines (l ++ (c ∷ r)) ≡ l ∷ lines r
unfolding lines all add_to_line
line_more [] c r h k = rw k
line_more (d ∷ l) c r h k = rw (not_eol d l h, line_more l c r (and_right (not (is_eol d)) _ h) k)

-- A line of no character is empty.
nothing-empty : read_line [] ≡ empty
nothing-empty = (line-empty []).1 (record { front = []; back = []; spelled = refl; first = Repeated.end refl; second = inl refl })

-- Further ends of lines say nothing.
eols_nothing : (es r : List ℕ) → Matches (many (one_of "\r\n")) es → read_lines (lines (es ++ r)) ≡ read_lines (lines r)
unfolding lines read_lines with_line
eols_nothing es r (Repeated.end q) = rw q
eols_nothing es r (Repeated.more s t q m n) = rw (q, m.spelled, m.allowed, nothing-empty) (eols_nothing t r n)

line-read_as : (l : List ℕ) (ls us : List TextTriple) → LineSays l ls → with_line (read_line l) (triples us) ≡ triples (ls ++ us)
unfolding with_line with_triple
line-read_as l ls us (LineSays.no_triple m e) = rw ((line-empty l).1 m, e)
line-read_as l ls us (LineSays.one_triple t L e) = rw ((line_read l t).1 L, e)

said-lines : (cs : List ℕ) (ts : List TextTriple) → Says cs ts → read_lines (lines cs) ≡ triples ts
unfolding read_lines
said-lines cs ts (Says.last h s) = rw (one_line_lem cs h) (line-read_as cs ts [] s ∙ ap triples (append-nil ts))
said-lines cs ts (Says.more l e r ls us q h s m t k) =
    rw (q, m.spelled, m.first.spelled, line_more l m.first.char (m.back ++ r) h m.first.allowed, eols_nothing m.back r m.second, said-lines r us t, k) (line-read_as l ls us s)

-- ---- the theorems

file-read : (bs : List ℕ) (d : Decoded) (ts : List TextTriple) → decode bs ≡ d → document_of d ≡ triples ts → FileSays bs ts
unfolding document_of
file-read bs broken ts p e = refused-not e
file-read bs (decoded cs) ts p e =
    let u = (decode-encode bs cs).0 p in
    record { chars = cs; scalar = u.0; encoded = u.1; says = lines_said cs (lines cs) ts (cut cs) e }

file_said : (bs : List ℕ) (ts : List TextTriple) → FileSays bs ts → document bs ≡ triples ts
unfolding document document_of
file_said bs ts F = rw ((decode-encode bs F.chars).1 (F.scalar, F.encoded)) (said-lines F.chars ts F.says)

-- A file is read as triples exactly where it is UTF-8 and its lines say them.
pub document-read : (bs : List ℕ) (ts : List TextTriple) → (document bs ≡ triples ts) ↔ FileSays bs ts
unfolding document
document-read bs ts = (λ e. file-read bs (decode bs) ts refl e, file_said bs ts)

-- A file is refused exactly where it says nothing of the kind.
pub document_refused : (bs : List ℕ) → (document bs ≡ refused) ↔ ((ts : List TextTriple) → FileSays bs ts → ⊥)
document_refused bs = (λ e ts F. refused-not (sym e ∙ file_said bs ts F), λ h. go (document bs) refl h)
  where
    go : (d : Document) → document bs ≡ d → ((ts : List TextTriple) → FileSays bs ts → ⊥) → d ≡ refused
    go refused e h = refl
    go (triples ts) e h = absurd (h ts ((document-read bs ts).0 e))

-- A file says one list of triples at most.
pub document_unique : (bs : List ℕ) (ts us : List TextTriple) → FileSays bs ts → FileSays bs us → ts ≡ us
document_unique bs ts us F G = let e : triples ts ≡ triples us = sym (file_said bs ts F) ∙ file_said bs us G in cc
