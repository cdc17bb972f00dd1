-- Worked examples of the theorems about reading: a file with a line twice, what they say of it, and texts of terms. Assumes nothing.
use Rattle.std.specs.Prelude.{Ok}
use Prim.Native.Nat.{ℕ}
use mathlib.Core.Path.{◌≡◌, refl}
use mathlib.Core.List.{List, [], ◌∷◌, map}
use native.Mathlib.Omega.{arith}
use lib.ListN.{replicate}
use Rattle.spec_ntriples.specs.Characters.{codes}
use Rattle.spec_ntriples.specs.Texts.{text, TextTriple}
use Rattle.spec_ntriples.specs.Dictionary.{entry, bytes_of_entries, dictionary_bytes}
use Rattle.spec_ntriples.specs.Reading.{read_file, read_nTriples}
use Rattle.spec_ntriples.specs.Sights.{first_sights, known_texts, text_of}
use Rattle.spec_ntriples.specs.Promises.{Accepted, Entered, Delivers}
use Rattle.spec_ntriples.specs.inside.Compute.{compute}
use Rattle.spec_ntriples.proofs.ReadingDictionary.{reading-dictionary}
use Rattle.spec_ntriples.proofs.ReadingDelivery.{reading-delivery}
use Rattle.spec_ntriples.proofs.ReadingAgain.{reading_again}

-- A fact twice, whose subject is its object.
abbrev twice : List ℕ
twice = codes "<p:a><p:q><p:a>.\n<p:a><p:q><p:a>."

-- Its triple.
abbrev loop : TextTriple
loop = record { subject = text 0 (codes "<p:a>"); property = text 0 (codes "<p:q>"); object = text 0 (codes "<p:a>") }

-- Each text has one entry, and each line a triple.
pub twice-read
    : read_nTriples (replicate 36 0) twice 35
    ≡ read_file (Ok 34) (dictionary_bytes 36 (entry 16 (codes "<p:a>") ∷ entry 17 (codes "<p:q>") ∷ []))
    (0 ∷ 0 ∷ 0 ∷ 0 ∷ 0 ∷ 0 ∷ 2 ∷ 0 ∷ 16 ∷ 0 ∷ 0 ∷ 0 ∷ 17 ∷ 0 ∷ 0 ∷ 0 ∷ 16 ∷ 0 ∷ 0 ∷ 0 ∷ 16 ∷ 0 ∷ 0 ∷ 0 ∷ 17 ∷ 0 ∷ 0 ∷ 0 ∷ 16 ∷ 0 ∷ 0 ∷ 0 ∷ 0 ∷ 0 ∷ 0 ∷ [])
unfolding compute
twice-read = refl

-- It is accepted, so that the theorems speak of it.
abbrev twice_accepted : Accepted (replicate 36 0) twice 35 34
unfolding compute
twice_accepted =
    record { lines = loop ∷ loop ∷ []; formed = refl; said = refl; space = omega arith; numbers = refl; room = omega arith; size = refl }

pub twice_entered : Entered (replicate 36 0) (read_nTriples (replicate 36 0) twice 35).dictionary (loop ∷ loop ∷ [])
unfolding compute
twice_entered = reading-dictionary (replicate 36 0) twice 35 34 twice_accepted (omega arith)

pub twice_delivers : Delivers (read_nTriples (replicate 36 0) twice 35).dictionary (read_nTriples (replicate 36 0) twice 35).delivery 35 34 (loop ∷ loop ∷ [])
unfolding compute
twice_delivers = reading-delivery (replicate 36 0) twice 35 34 twice_accepted (omega arith)

pub twice_again : read_nTriples (read_nTriples (replicate 36 0) twice 35).dictionary twice 35 ≡ read_nTriples (replicate 36 0) twice 35
unfolding compute
twice_again = reading_again (replicate 36 0) twice 35 34 twice_accepted (omega arith)

-- Texts seen first, where one is known: of each its first place counts, and none of the vocabulary.
pub sights-worked
    : first_sights (known_texts (entry 16 (codes "<p:a>") ∷ []))
    (codes "<p:a>" ∷ codes "_:b" ∷ codes "<p:c>" ∷ codes "<http://www.w3.org/2000/01/rdf-schema#domain>" ∷ codes "_:b" ∷ codes "\"c\"" ∷ [])
    ≡ codes "_:b" ∷ codes "<p:c>" ∷ codes "\"c\"" ∷ []
unfolding compute
sights-worked = refl

-- The texts of 1 to 6, 16 and 17 where there is one entry.
pub texts-worked
    : map (text_of (entry 16 (codes "<p:a>") ∷ [])) (1 ∷ 2 ∷ 3 ∷ 4 ∷ 5 ∷ 6 ∷ 16 ∷ 17 ∷ [])
    ≡ codes "<http://www.w3.org/1999/02/22-rdf-syntax-ns#type>"
    ∷ codes "<http://www.w3.org/2000/01/rdf-schema#subClassOf>"
    ∷ codes "<http://www.w3.org/2000/01/rdf-schema#subPropertyOf>"
    ∷ codes "<http://www.w3.org/2000/01/rdf-schema#domain>"
    ∷ codes "<http://www.w3.org/2000/01/rdf-schema#range>"
    ∷ []
    ∷ codes "<p:a>"
    ∷ []
    ∷ []
unfolding compute
texts-worked = refl

-- An entry byte by byte: the term in 4 and the length in 8, the low byte first, then the text.
pub entry_worked : bytes_of_entries (entry 0x40000102 (codes "_:b") ∷ []) ≡ 2 ∷ 1 ∷ 0 ∷ 64 ∷ 3 ∷ 0 ∷ 0 ∷ 0 ∷ 0 ∷ 0 ∷ 0 ∷ 0 ∷ 95 ∷ 58 ∷ 98 ∷ []
unfolding compute
entry_worked = refl
