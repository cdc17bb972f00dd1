-- Laws of what the first characters of terms say. Assumes nothing.
use Prim.Native.Nat.{ℕ}
use Prim.Native.Char.{code}
use mathlib.Core.Path.{◌≡◌, refl}
use mathlib.Core.Bool.{Bool, true, false, ◌||◌}
use mathlib.Core.List.{List, [], ◌∷◌}
use native.Mathlib.Omega.{arith}
use lib.Dec.{eqb}
use Rattle.spec_ntriples.specs.Characters.{is_letter, is_digit, is_pn_chars_u}
use Rattle.spec_ntriples.specs.computed.Terminals.{Got, none, got, outside, string_step, scan, label, head_is, tag, skip}
use Rattle.spec_ntriples.specs.Texts.{Text, text, string_text}
use Rattle.spec_ntriples.specs.computed.Lines.{Read, nothing, read, read_iri, blank_of, read_blank, typed_of, read_type, tagged_of, suffixed, literal_of, read_subject, read_object}
use Rattle.ntriples_bytes.proofs.Marking.{by_test}
use Rattle.ntriples_terminals.specs.inside.Ends.{nowhere, behind, behind_head, behind_got, behind_read}
use Rattle.ntriples_labels.specs.declared.Part.TheVariants.{First}
use Rattle.ntriples_labels.specs.inside.Inside.{goes_on}
use Rattle.ntriples_ends.specs.inside.Reading.{behind_labelled, behind_tag, behind_type}

-- ---- the first character

-- The first of some characters passes a test, and others are behind it.
pub record HeadIs (test : ℕ → Bool) (cs ds : List ℕ) : Type 0 where
  pub char : ℕ
  pub same : cs ≡ char ∷ ds
  pub passes : test char ≡ true

pub head_found : (test : ℕ → Bool) (cs ds : List ℕ) → behind_head test cs ≡ behind ds → HeadIs test cs ds
unfolding behind_head
head_found test [] ds e = let z : ◌≡◌ {A = ℕ} 0 1 = cc in absurd (omega arith)
head_found test (c ∷ cs) ds e =
    by_test (test c)
    (λ q. let f : behind cs ≡ behind ds = rw q at e in record { char = c; same = cc; passes = q })
    (λ q. let f : nowhere ≡ behind ds = rw q at e in let z : ◌≡◌ {A = ℕ} 0 1 = cc in absurd (omega arith))

pub head-missing : (test : ℕ → Bool) (cs : List ℕ) → behind_head test cs ≡ nowhere → head_is test cs ≡ false
unfolding behind_head head_is
head-missing test [] e = refl
head-missing test (c ∷ cs) e =
    by_test (test c) (λ q. let f : behind cs ≡ nowhere = rw q at e in let z : ◌≡◌ {A = ℕ} 0 1 = cc in absurd (omega arith)) (λ q. q)

-- ---- blank nodes

pub labelled_none : (cs : List ℕ) → head_is (λ c. is_pn_chars_u c || is_digit c) cs ≡ false → behind_labelled cs ≡ nowhere
unfolding behind_labelled head_is
labelled_none [] q = refl
labelled_none (c ∷ cs) q = rw q

pub labelled-some : (cs ds : List ℕ) → HeadIs (λ c. is_pn_chars_u c || is_digit c) cs ds → behind_labelled cs ≡ behind_got (label ds)
unfolding behind_labelled
labelled-some cs ds H = rw (H.same, H.passes)

blank_behind : (c : ℕ) (g : Got) → behind_read (blank_of c g) ≡ behind_got g
unfolding behind_read blank_of behind_got
blank_behind c none = refl
blank_behind c (got cs rest) = refl

pub blank_none : (cs : List ℕ) → head_is (λ c. eqb c (code ":")) cs ≡ false → behind_read (read_blank cs) ≡ nowhere
unfolding behind_read read_blank head_is
blank_none [] q = refl
blank_none (c ∷ []) q = refl
blank_none (c ∷ d ∷ cs) q = rw q

blank-labelled : (c : ℕ) (ds : List ℕ) → eqb c (code ":") ≡ true → behind_read (read_blank (c ∷ ds)) ≡ behind_labelled ds
unfolding behind_read read_blank behind_labelled
blank-labelled c [] q = refl
blank-labelled c (d ∷ ds) q = rw q (by_test (is_pn_chars_u d || is_digit d) (λ t. rw t (blank_behind d (label ds))) (λ t. rw t))

pub blank-some : (cs ds : List ℕ) → HeadIs (λ c. eqb c (code ":")) cs ds → behind_read (read_blank cs) ≡ behind_labelled ds
blank-some cs ds H = rw H.same (blank-labelled H.char ds H.passes)

-- ---- subjects

pub subject_iri : (cs : List ℕ) → head_is (λ c. eqb c (code "_")) cs ≡ false → read_subject cs ≡ read_iri cs
unfolding read_subject head_is read_iri
subject_iri [] q = refl
subject_iri (c ∷ cs) q = rw q

pub subject_blank : (cs ds : List ℕ) → HeadIs (λ c. eqb c (code "_")) cs ds → read_subject cs ≡ read_blank ds
unfolding read_subject
subject_blank cs ds H = rw (H.same, H.passes)

-- ---- literals

typed_behind : (string : List ℕ) (r : Read) → behind_read (typed_of string r) ≡ behind_read r
unfolding behind_read typed_of
typed_behind string nothing = refl
typed_behind string (read t rest) = refl

pub type_none : (string cs : List ℕ) → head_is (λ c. eqb c (code "^")) cs ≡ false → behind_read (read_type string cs) ≡ nowhere
unfolding behind_read read_type head_is
type_none string [] q = refl
type_none string (c ∷ cs) q = rw q

pub type-some : (string cs ds : List ℕ) → HeadIs (λ c. eqb c (code "^")) cs ds → behind_read (read_type string cs) ≡ behind_read (read_iri (skip ds))
unfolding read_type
type-some string cs ds H = rw (H.same, H.passes) (typed_behind string (read_iri (skip ds)))

pub tag_none : (cs : List ℕ) → head_is (goes_on First) cs ≡ false → behind_tag cs ≡ nowhere
unfolding behind_tag goes_on
tag_none cs q = rw q

pub tag-some : (cs : List ℕ) → head_is (goes_on First) cs ≡ true → behind_tag cs ≡ behind_got (tag (goes_on First) cs)
unfolding behind_tag goes_on
tag-some cs q = rw q

pub typed_none : (string end cs : List ℕ) → head_is (λ c. eqb c (code "^")) cs ≡ false → behind_type string end cs ≡ behind end
unfolding behind_type head_is
typed_none string end [] q = refl
typed_none string end (c ∷ cs) q = rw q

pub typed-some : (string end cs ds : List ℕ) → HeadIs (λ c. eqb c (code "^")) cs ds → behind_type string end cs ≡ behind_read (read_type string ds)
unfolding behind_type
typed-some string end cs ds H = rw (H.same, H.passes)

pub suffix-none
    : (string : List ℕ) (t : Text) (end cs : List ℕ) → head_is (λ c. eqb c (code "@")) cs ≡ false
    → behind_read (suffixed string (read t end) cs) ≡ behind_type string end cs
unfolding behind_read suffixed behind_type head_is
suffix-none string t end [] q = refl
suffix-none string t end (c ∷ cs) q = rw q (by_test (eqb c (code "^")) (λ r. rw r) (λ r. rw r))

tagged_behind : (string : List ℕ) (g : Got) → behind_read (tagged_of string g) ≡ behind_got g
unfolding behind_read tagged_of behind_got
tagged_behind string none = refl
tagged_behind string (got cs rest) = refl

pub suffix-some
    : (string : List ℕ) (t : Text) (end cs ds : List ℕ) → HeadIs (λ c. eqb c (code "@")) cs ds
    → behind_read (suffixed string (read t end) cs) ≡ behind_tag ds
unfolding suffixed behind_tag behind_read
suffix-some string t end cs ds H =
    rw (H.same, H.passes) (by_test (head_is is_letter ds) (λ q. rw q (tagged_behind string (tag is_letter ds))) (λ q. rw q))

pub literal_none : (g : Got) → behind_got g ≡ nowhere → behind_read (literal_of g) ≡ nowhere
unfolding behind_read literal_of behind_got
literal_none none e = refl
literal_none (got cs rest) e = let z : ◌≡◌ {A = ℕ} 0 1 = cc in absurd (omega arith)

-- A string was read; other characters are behind it.
pub record StringIs (g : Got) (rest : List ℕ) : Type 0 where
  pub string : List ℕ
  pub text : Text
  pub same : literal_of g ≡ suffixed string (read text rest) (skip rest)

pub string_found : (g : Got) (rest : List ℕ) → behind_got g ≡ behind rest → StringIs g rest
unfolding behind_got literal_of
string_found none rest e = let z : ◌≡◌ {A = ℕ} 0 1 = cc in absurd (omega arith)
string_found (got cs ds) rest e =
    let f : ds ≡ rest = cc in record { string = string_text cs; text = text 2 (string_text cs); same = rw f }

-- ---- objects

pub object-subject : (cs : List ℕ) → head_is (λ c. eqb c (code "\"")) cs ≡ false → read_object cs ≡ read_subject cs
unfolding read_object head_is read_subject
object-subject [] q = refl
object-subject (c ∷ cs) q = rw q

pub object-literal : (cs ds : List ℕ) → HeadIs (λ c. eqb c (code "\"")) cs ds → read_object cs ≡ literal_of (scan string_step outside ds)
unfolding read_object
object-literal cs ds H = rw (H.same, H.passes)
