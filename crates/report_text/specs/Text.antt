-- The text that the program `families` prints, as bytes in ASCII (document 01, "Shelf examples"). Definitions only.
use Rattle.std.specs.Prelude.{ℕ, zero, suc, ◌+◌, ◌/◌, ◌%◌, cond, List, [], ◌∷◌, ◌++◌, length, replicate, eqb, ltb}
use Rattle.spec.specs.declared.Triple.{Triple}
use Rattle.spec.specs.Saturation.{Kept}
use Rattle.spec.specs.Tables.{Tables, tables, kept_of}
use Rattle.spec.specs.declared.Delivered.{Delivered}
use Rattle.spec.specs.Deliveries.{deliver}

-- ---- numbers

-- The decimal digits of n, the most significant first, where fuel is above n. The byte of a digit is 48 and the digit.
unfoldable pub digits : ℕ → ℕ → List ℕ
digits zero n = []
digits (suc fuel) n = cond (ltb n 10) ((48 + n) ∷ []) (digits fuel (n / 10) ++ ((48 + n % 10) ∷ []))

-- "In decimal": no zero leads, but that of 0 itself.
unfoldable pub decimal : ℕ → List ℕ
decimal n = digits (suc n) n

-- ---- words

-- What separates two words of a line.
abbrev pub space : ℕ
space = 32

-- "Each line ended by byte 10."
abbrev pub newline : ℕ
newline = 10

-- "delivery "
abbrev pub delivery_word : List ℕ
delivery_word = 100 ∷ 101 ∷ 108 ∷ 105 ∷ 118 ∷ 101 ∷ 114 ∷ 121 ∷ 32 ∷ []

-- "applied "
abbrev pub applied_word : List ℕ
applied_word = 97 ∷ 112 ∷ 112 ∷ 108 ∷ 105 ∷ 101 ∷ 100 ∷ 32 ∷ []

-- "idle "
abbrev pub idle_word : List ℕ
idle_word = 105 ∷ 100 ∷ 108 ∷ 101 ∷ 32 ∷ []

-- "refused "
abbrev pub refused_word : List ℕ
refused_word = 114 ∷ 101 ∷ 102 ∷ 117 ∷ 115 ∷ 101 ∷ 100 ∷ 32 ∷ []

-- "rows "
abbrev pub rows_word : List ℕ
rows_word = 114 ∷ 111 ∷ 119 ∷ 115 ∷ 32 ∷ []

-- ---- lines

-- A number, and the byte after it.
abbrev pub field : ℕ → ℕ → List ℕ
field n after = decimal n ++ (after ∷ [])

-- A word, the number that it names, and the byte after it.
abbrev pub labelled : List ℕ → ℕ → ℕ → List ℕ
labelled word n after = word ++ field n after

-- "The result": the delivery number and the three tallies.
unfoldable pub result_line : Delivered → List ℕ
result_line d =
    labelled delivery_word d.number space
    ++ (labelled applied_word d.applied space
    ++ (labelled idle_word d.idle space
    ++ labelled refused_word d.refused newline))

-- "The number of kept rows."
unfoldable pub rows_line : ℕ → List ℕ
rows_line n = labelled rows_word n newline

-- "Each kept row (subject, property, object, support)": one of them.
unfoldable pub row_line : Triple × ℕ → List ℕ
row_line e = field e.0.subject space ++ (field e.0.property space ++ (field e.0.object space ++ field e.1 newline))

-- Each of them, in order.
unfoldable pub row_lines : Kept → List ℕ
row_lines [] = []
row_lines (e ∷ k) = row_line e ++ row_lines k

-- ---- the whole

-- "The result, the number of kept rows, then each kept row."
unfoldable pub report_text : Delivered → Kept → List ℕ
report_text d k = result_line d ++ (rows_line (length k) ++ row_lines k)

-- "For a refused delivery it prints only the word refused and the number."
unfoldable pub refusal_text : ℕ → List ℕ
refusal_text n = labelled refused_word n newline

-- The text of a result and the kept facts after it.
unfoldable pub outcome_text : Delivered → Kept → List ℕ
outcome_text d k = cond (eqb d.refusal 0) (report_text d k) (refusal_text d.refusal)

-- "An empty store of capacities 512 statements, 1,024 facts and 4,096 kept facts."
abbrev pub empty_store : Tables
empty_store = tables (replicate 1537 0) (replicate 3073 0) (replicate 12289 0) (replicate 4096 0)

-- What is printed for the bytes of a delivery to that store.
unfoldable pub response : List ℕ → List ℕ
response bs = let r = deliver empty_store bs in outcome_text r.0 (kept_of r.1.kept r.1.supports)
