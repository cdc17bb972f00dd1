-- The worked example of document 01, computed: the text for the delivery that this program is run with. Assumes nothing.
use mathlib.Core.Path.{◌≡◌, refl}
use mathlib.Core.List.{List, [], ◌∷◌, zip, zip_with}
use Prim.Native.Nat.{ℕ}
use Rattle.spec.specs.Terms.{is_uri, is_blank, is_literal, is_vocabulary, is_triple, is_statement, are_sides_allowed, is_allowed_statement, is_allowed_fact}
use Rattle.spec.specs.Refusals.{first_refusal}
use Rattle.spec.specs.Order.{is_same, is_ascending, insert, remove}
use Rattle.spec.specs.computed.Carried.{ascend, leaves, steps, spread, reach, objects, properties, subject_classes, object_classes, conclusions, carried}
use Rattle.spec.specs.Tables.{capacity, first_rows, rows, flatten, layout, are_zero, is_table, is_support_table, contents_of, kept_of, put, are_formed}
use Rattle.spec.specs.Lists.{all, any, select}
use Rattle.spec.specs.Rows.{less}
use Rattle.spec.specs.Saturation.{raise, raise_all}
use Rattle.spec.specs.computed.Saturated.{saturation}
use Rattle.spec.specs.Updates.{is_kept_fitting, is_member, changed, applying, is_change, is_admitted, settle, kept_after, contents_after, update}
use Rattle.spec.specs.Deliveries.{number_fields, are_sections_right, is_number_right, number_of, tallied, run_entries, run_message, conclude, deliver}
use Rattle.spec.specs.computed.Decoded.{short, word, entries_from, section_end, section_start, field_end, fields_from, fields_end, read, is_whole}
use Rattle.report_text.specs.Text.{digits, decimal, result_line, rows_line, row_line, row_lines, report_text, refusal_text, outcome_text, response}

-- The 94 bytes.
abbrev pub worked_delivery : List ℕ
worked_delivery =
    0 ∷ 0 ∷ 0 ∷ 0 ∷ 5 ∷ 0 ∷ 16 ∷ 0 ∷ 0 ∷ 0 ∷ 2 ∷ 0 ∷ 0 ∷ 0 ∷ 17 ∷ 0 ∷ 0 ∷ 0 ∷ 17 ∷ 0 ∷ 0 ∷ 0 ∷ 2 ∷ 0 ∷ 0 ∷ 0 ∷ 18 ∷ 0 ∷
    0 ∷ 0 ∷ 19 ∷ 0 ∷ 0 ∷ 0 ∷ 3 ∷ 0 ∷ 0 ∷ 0 ∷ 20 ∷ 0 ∷ 0 ∷ 0 ∷ 20 ∷ 0 ∷ 0 ∷ 0 ∷ 4 ∷ 0 ∷ 0 ∷ 0 ∷ 17 ∷ 0 ∷ 0 ∷ 0 ∷ 20 ∷
    0 ∷ 0 ∷ 0 ∷ 5 ∷ 0 ∷ 0 ∷ 0 ∷ 16 ∷ 0 ∷ 0 ∷ 0 ∷ 2 ∷ 0 ∷ 32 ∷ 0 ∷ 0 ∷ 0 ∷ 19 ∷ 0 ∷ 0 ∷ 0 ∷ 33 ∷ 0 ∷ 0 ∷ 0 ∷ 32 ∷ 0 ∷
    0 ∷ 0 ∷ 1 ∷ 0 ∷ 0 ∷ 0 ∷ 16 ∷ 0 ∷ 0 ∷ 0 ∷ 0 ∷ 0 ∷ []

-- What is printed for them.
abbrev pub worked_text : List ℕ
worked_text =
    100 ∷ 101 ∷ 108 ∷ 105 ∷ 118 ∷ 101 ∷ 114 ∷ 121 ∷ 32 ∷ 48 ∷ 32 ∷ 97 ∷ 112 ∷ 112 ∷ 108 ∷ 105 ∷ 101 ∷ 100 ∷ 32 ∷ 55 ∷
    32 ∷ 105 ∷ 100 ∷ 108 ∷ 101 ∷ 32 ∷ 48 ∷ 32 ∷ 114 ∷ 101 ∷ 102 ∷ 117 ∷ 115 ∷ 101 ∷ 100 ∷ 32 ∷ 48 ∷ 10 ∷ 114 ∷ 111 ∷
    119 ∷ 115 ∷ 32 ∷ 56 ∷ 10 ∷ 51 ∷ 50 ∷ 32 ∷ 49 ∷ 32 ∷ 49 ∷ 54 ∷ 32 ∷ 49 ∷ 10 ∷ 51 ∷ 50 ∷ 32 ∷ 49 ∷ 32 ∷ 49 ∷ 55 ∷
    32 ∷ 50 ∷ 10 ∷ 51 ∷ 50 ∷ 32 ∷ 49 ∷ 32 ∷ 49 ∷ 56 ∷ 32 ∷ 50 ∷ 10 ∷ 51 ∷ 50 ∷ 32 ∷ 49 ∷ 57 ∷ 32 ∷ 51 ∷ 51 ∷ 32 ∷ 49 ∷
    10 ∷ 51 ∷ 50 ∷ 32 ∷ 50 ∷ 48 ∷ 32 ∷ 51 ∷ 51 ∷ 32 ∷ 49 ∷ 10 ∷ 51 ∷ 51 ∷ 32 ∷ 49 ∷ 32 ∷ 49 ∷ 54 ∷ 32 ∷ 49 ∷ 10 ∷ 51 ∷
    51 ∷ 32 ∷ 49 ∷ 32 ∷ 49 ∷ 55 ∷ 32 ∷ 49 ∷ 10 ∷ 51 ∷ 51 ∷ 32 ∷ 49 ∷ 32 ∷ 49 ∷ 56 ∷ 32 ∷ 49 ∷ 10 ∷ []

pub worked : response worked_delivery ≡ worked_text
unfolding zip zip_with is_uri is_blank is_literal is_vocabulary is_triple is_statement are_sides_allowed is_allowed_statement is_allowed_fact first_refusal any select less is_same is_ascending insert remove ascend capacity first_rows rows flatten layout are_zero all is_table is_support_table leaves steps spread reach objects properties subject_classes object_classes conclusions carried raise raise_all saturation contents_of kept_of put is_kept_fitting short word entries_from section_end section_start field_end fields_from fields_end number_fields read is_whole are_sections_right is_number_right number_of tallied run_entries run_message conclude deliver digits decimal result_line rows_line row_line row_lines report_text refusal_text outcome_text response are_formed is_member changed applying is_change is_admitted settle kept_after contents_after update
worked = refl
