-- Worked by computation: a list of calls with what the ledger answers, and questions, alternatives and a delivery with their replies. Assumes
-- nothing.
use Rattle.std.specs.Prelude.{Ok, Err}
use Prim.Native.Nat.{ℕ}
use mathlib.Core.Path.{◌≡◌, refl}
use mathlib.Core.List.{List, [], ◌∷◌, flat_map}
use Rattle.spec.specs.declared.Triple.{Triple}
use Rattle.spec.specs.Terms.{is_uri, is_blank, is_literal, is_variable, is_vocabulary, triple, is_triple, is_statement, are_sides_allowed, is_allowed_statement, is_allowed_fact}
use Rattle.spec.specs.Order.{is_same, is_ascending, insert, remove}
use Rattle.spec.specs.computed.Carried.{ascend, leaves, steps, spread, reach, objects, properties, subject_classes, object_classes, conclusions, carried}
use Rattle.spec.specs.Rows.{less, insert_once, ordered, flat}
use Rattle.spec.specs.Saturation.{raise, raise_all}
use Rattle.spec.specs.computed.Saturated.{saturation}
use Rattle.spec.specs.Refusals.{first_refusal}
use Rattle.spec.specs.Tables.{capacity, first_rows, rows, are_zero, is_table, Tables, tables, are_formed, Ledger, ledger}
use Rattle.spec.specs.Lists.{all, any, select}
use Rattle.spec.specs.declared.Answer.TheVariants.{Applied, Idle, Refused}
use Rattle.spec.specs.Outputs.{are_fitting, filled, Replied, replied, give}
use Rattle.spec.specs.Questions.{atoms, head, is_atom, is_laid_out, is_question, stands_in_one, is_head_bound, ask, ask_kept, ask_rewritten}
use Rattle.spec.specs.computed.Closed.{pairs_from, pairs, closed}
use Rattle.spec.specs.computed.Solutions.{bound_to, is_bound, bind, match_word, match_triple, solutions, answers}
use Rattle.spec.specs.Alternatives.{reformulate}
use Rattle.spec.specs.computed.Reformulated.{to_classes, to_properties, without, alternatives_from, alternatives}
use Rattle.spec.specs.Deliveries.{number_fields, are_sections_right, is_number_right, number_of, tally, tallied, run_entries, run_message, delivered, conclude, deliver, Update}
use Rattle.spec.specs.inside.Pairs.{progress}
use Rattle.spec.specs.Messages.{Field, Message, short_bytes, word_bytes, entry_bytes, entries_bytes, section_bytes, field_bytes, fields_bytes, encode}
use Rattle.spec.specs.computed.Decoded.{short, word, entries_from, section_end, section_start, field_end, fields_from, fields_end, read, is_whole}
use Rattle.spec.specs.declared.Change.{Change}
use Rattle.spec.specs.declared.Change.TheVariants.{Addition, Withdrawal}
use Rattle.spec.specs.Updates.{is_member, changed, applying, is_change, is_admitted, settle}
use Rattle.spec.specs.Ledger.{Call, lone, delivery, is_fitting, ledger_update, receive, Given, answered, resulted, run, call, calls}
use Rattle.spec.specs.Demand3.{ledger_run}
use Rattle.spec.specs.Exported.{listed, numbered_reply}

-- The definitions that these need to compute, by one name.
unfoldable pub compute : Unit {0}
unfolding flat_map is_uri is_blank is_literal is_variable is_vocabulary is_triple is_statement are_sides_allowed is_allowed_statement is_allowed_fact first_refusal any is_same is_ascending insert remove ascend less insert_once ordered flat leaves steps spread reach objects properties subject_classes object_classes conclusions carried raise raise_all saturation capacity first_rows rows all are_zero is_table are_fitting filled give atoms head is_atom is_laid_out is_question stands_in_one is_head_bound bound_to is_bound bind match_word match_triple solutions answers pairs_from pairs closed ask ask_kept ask_rewritten select to_classes to_properties without alternatives_from alternatives reformulate short word entries_from section_end section_start field_end fields_from fields_end number_fields short_bytes word_bytes entry_bytes entries_bytes section_bytes field_bytes fields_bytes encode read is_whole are_sections_right is_number_right number_of tallied run_entries run_message conclude deliver is_member is_fitting settle receive call calls are_formed changed applying is_change is_admitted ledger_update
compute = tt

-- ---- a list of calls

-- A delivery that adds a statement, for which there is no room, a fact that is there and one that is not; with an unknown field and number 5.
abbrev pub worked_delivery : List ℕ
worked_delivery = 0 ∷ 0 ∷ 0 ∷ 0 ∷ 1 ∷ 0 ∷ 17 ∷ 0 ∷ 0 ∷ 0 ∷ 2 ∷ 0 ∷ 0 ∷ 0 ∷ 18 ∷ 0 ∷ 0 ∷ 0 ∷ 2 ∷ 0 ∷ 32 ∷ 0 ∷ 0 ∷ 0 ∷ 1 ∷ 0 ∷ 0 ∷ 0 ∷ 16 ∷ 0 ∷ 0 ∷ 0 ∷ 32 ∷ 0 ∷ 0 ∷ 0 ∷ 19 ∷ 0 ∷ 0 ∷ 0 ∷ 33 ∷ 0 ∷ 0 ∷ 0 ∷ 2 ∷ 0 ∷ 7 ∷ 0 ∷ 1 ∷ 0 ∷ 9 ∷ 1 ∷ 0 ∷ 4 ∷ 0 ∷ 5 ∷ 0 ∷ 0 ∷ 0 ∷ []

-- One that withdraws a fact as a statement, and has a byte too many: 9 and 10 would refuse it.
abbrev pub broken_delivery : List ℕ
broken_delivery = 1 ∷ 0 ∷ 32 ∷ 0 ∷ 0 ∷ 0 ∷ 1 ∷ 0 ∷ 0 ∷ 0 ∷ 16 ∷ 0 ∷ 0 ∷ 0 ∷ 0 ∷ 0 ∷ 0 ∷ 0 ∷ 0 ∷ 0 ∷ 0 ∷ 0 ∷ 0 ∷ []

-- Over tables for one statement, two facts and four kept facts, with three support places: additions that are applied, two that are idle, one
-- of them where its table is full, those that 2, 3, 4 and 5 refuse, a withdrawal that is idle, the two deliveries, and a withdrawal that is
-- applied.
abbrev pub worked_calls : List Call
worked_calls =
    lone Addition (triple 16 2 17)
    ∷ lone Addition (triple 32 1 16)
    ∷ lone Addition (triple 32 1 16)
    ∷ lone Addition (triple 16 2 17)
    ∷ lone Addition (triple 0 1 16)
    ∷ lone Addition (triple 16 2 1)
    ∷ lone Addition (triple 17 2 18)
    ∷ lone Addition (triple 33 1 16)
    ∷ lone Withdrawal (triple 40 19 41)
    ∷ delivery worked_delivery
    ∷ delivery broken_delivery
    ∷ lone Withdrawal (triple 32 19 33)
    ∷ []

-- What they give.
abbrev pub worked_answers : List Given
worked_answers =
    answered Applied
    ∷ answered Applied
    ∷ answered Idle
    ∷ answered Idle
    ∷ answered (Refused 2)
    ∷ answered (Refused 3)
    ∷ answered (Refused 4)
    ∷ answered (Refused 5)
    ∷ answered Idle
    ∷ resulted (delivered 0 5 (tally 1 1 1))
    ∷ resulted (delivered 9 0 (tally 0 0 0))
    ∷ answered Applied
    ∷ []

-- What they leave in the ledger,
abbrev pub worked_ledger : Ledger
worked_ledger = ledger (triple 16 2 17 ∷ []) (triple 32 1 16 ∷ [])

-- and in the store.
abbrev pub worked_tables : Tables
worked_tables =
    tables
    (1 ∷ 16 ∷ 2 ∷ 17 ∷ [])
    (1 ∷ 32 ∷ 1 ∷ 16 ∷ 0 ∷ 0 ∷ 0 ∷ [])
    (2 ∷ 32 ∷ 1 ∷ 16 ∷ 32 ∷ 1 ∷ 17 ∷ 0 ∷ 0 ∷ 0 ∷ 0 ∷ 0 ∷ 0 ∷ [])
    (1 ∷ 1 ∷ 0 ∷ [])

-- The ledger's run.
pub worked-ledger : ledger_run 4 7 13 3 worked_calls ≡ run worked_answers worked_ledger
unfolding compute
worked-ledger = refl

-- Tables with no word are malformed, and so refuse a delivery by 1 that 9 would refuse too.
pub worked_malformed : deliver (tables [] [] [] []) broken_delivery ≡ (delivered 1 0 (tally 0 0 0), tables [] [] [] [])
unfolding compute
worked_malformed = refl

-- ---- the sections of a delivery

-- An extra field whose tag has two bytes.
abbrev pub worked_field : Field
worked_field = record { tag = 0x0102; bytes = 9 ∷ [] }

-- A message with one entry in each section, one of its words with four bytes that differ.
abbrev pub worked_message : Message
worked_message =
    record {
      statements_withdrawn = triple 16 2 17 ∷ [];
      facts_withdrawn = triple 32 1 16 ∷ [];
      statements_added = triple 19 3 20 ∷ [];
      facts_added = triple 32 19 0x01020304 ∷ [];
      fields = worked_field ∷ [];
    }

-- Its bytes.
abbrev pub worked_bytes : List ℕ
worked_bytes = 1 ∷ 0 ∷ 16 ∷ 0 ∷ 0 ∷ 0 ∷ 2 ∷ 0 ∷ 0 ∷ 0 ∷ 17 ∷ 0 ∷ 0 ∷ 0 ∷ 1 ∷ 0 ∷ 32 ∷ 0 ∷ 0 ∷ 0 ∷ 1 ∷ 0 ∷ 0 ∷ 0 ∷ 16 ∷ 0 ∷ 0 ∷ 0 ∷ 1 ∷ 0 ∷ 19 ∷ 0 ∷ 0 ∷ 0 ∷ 3 ∷ 0 ∷ 0 ∷ 0 ∷ 20 ∷ 0 ∷ 0 ∷ 0 ∷ 1 ∷ 0 ∷ 32 ∷ 0 ∷ 0 ∷ 0 ∷ 19 ∷ 0 ∷ 0 ∷ 0 ∷ 4 ∷ 3 ∷ 2 ∷ 1 ∷ 1 ∷ 0 ∷ 2 ∷ 1 ∷ 1 ∷ 0 ∷ 9 ∷ []

pub worked_bytes_lem : encode worked_message ≡ worked_bytes
unfolding compute
worked_bytes_lem = refl

-- What they say.
pub worked-read : read worked_bytes ≡ worked_message
unfolding compute
worked-read = refl

-- An update that only notes what it was asked.
abbrev pub noted : Update (List (Change × Triple))
noted d h t = (Applied, (d, t) ∷ h)

-- What is noted last stands in front: the sections run in their order, the first two as withdrawals, the others as additions.
pub worked_sections : run_message noted worked_message (progress [] (tally 0 0 0)) ≡
    progress ((Addition, triple 32 19 0x01020304) ∷ (Addition, triple 19 3 20) ∷ (Withdrawal, triple 32 1 16) ∷ (Withdrawal, triple 16 2 17) ∷ []) (tally 4 0 0)
unfolding compute
worked_sections = refl

-- ---- questions after these calls

-- "v0 1 17", for v0: the things of class 17.
abbrev pub worked_question : List ℕ
worked_question = 1 ∷ 1 ∷ 0xC0000000 ∷ 1 ∷ 17 ∷ 0xC0000000 ∷ []

-- One row in eight words: 32, which is of class 16 and so of class 17.
abbrev pub worked_reply : Replied
worked_reply = replied (Ok 1) (32 ∷ 0 ∷ 0 ∷ 0 ∷ 0 ∷ 0 ∷ 0 ∷ 0 ∷ [])

-- Both ways give it.
pub worked_kept : ask_kept worked_tables.statements worked_tables.kept worked_question 8 ≡ worked_reply
unfolding compute
worked_kept = refl

pub worked_rewritten : ask_rewritten worked_tables.statements worked_tables.facts worked_question 8 ≡ worked_reply
unfolding compute
worked_rewritten = refl

-- Asked for v1, which stands in no atom, it is refused by 7.
pub worked_unbound : ask_kept worked_tables.statements worked_tables.kept (1 ∷ 1 ∷ 0xC0000000 ∷ 1 ∷ 17 ∷ 0xC0000001 ∷ []) 3 ≡ replied (Err 7) (0 ∷ 0 ∷ 0 ∷ [])
unfolding compute
worked_unbound = refl

-- ---- alternatives

-- Those of "v0 1 17", in an output that they fill.
pub worked-alternatives : reformulate worked_tables.statements (triple 0xC0000000 1 17) 6 ≡ replied (Ok 2) (0 ∷ 0 ∷ 0 ∷ 1 ∷ 16 ∷ 17 ∷ [])
unfolding compute
worked-alternatives = refl

-- An atom that names a blank is refused by 6.
pub worked_blank : reformulate worked_tables.statements (triple 0x40000001 1 17) 6 ≡ replied (Err 6) (0 ∷ 0 ∷ 0 ∷ 0 ∷ 0 ∷ 0 ∷ [])
unfolding compute
worked_blank = refl

-- ---- exported numbers

-- The exported count is the row count, however large.
pub worked-count : numbered_reply (replied (Ok 4294967296) []) ≡ listed 0 4294967296 []
worked-count = refl
