-- Where `compute` unfolds, the definitions of N-Triples compute on closed terms. Definitions only.
use mathlib.Core.List.{flat_map}
use Rattle.spec.specs.Refusals.{first_refusal}
use Rattle.spec.specs.Terms.{is_statement, is_vocabulary}
use Rattle.spec.specs.Lists.{select}
use Rattle.spec.specs.Messages as encoding
use Rattle.spec_ntriples.specs.Utf8.{is_scalar, encode_char, utf8}
use Rattle.spec_ntriples.specs.computed.Decoded.{with_char, first_byte, further_byte, next_byte, no_byte, decode_from, decode}
use Rattle.spec_ntriples.specs.Characters.{codes, is_one_of, is_iri_char, is_string_char, is_pn_chars_base, is_pn_chars_u, is_pn_chars, hex_value, echar}
use Rattle.spec_ntriples.specs.computed.Terminals.{push, digit, hex_step, iri_step, string_step, after_step, scan, dotted, label, head_is, tag, skip}
use Rattle.spec_ntriples.specs.Texts.{lower_char, is_same_text, is_scheme, is_absolute, iri_text, blank_text, canonical_char, canonical_chars, string_text, tagged_text, typed_text}
use Rattle.spec_ntriples.specs.computed.Lines.{iri_of, read_iri, blank_of, read_blank, typed_of, read_type, tagged_of, suffixed, literal_of, read_subject, read_object, is_rest, end_of, after_object, after_property, after_subject, read_line, add_to_line, lines, with_triple, with_line, read_lines, document_of, document}
use Rattle.spec_ntriples.specs.Dictionary.{number_bytes, bytes_of_entry, bytes_of_entries, dictionary_bytes, bytes_number, entries_at_most, entries, place_of, term_in, term_of, first_number, next_number, are_numbers_enough, kind_of, are_numbered, are_texts, is_dictionary}
use Rattle.spec_ntriples.specs.computed.Canonical.{is_none, gives_itself, decodes_to_itself, is_canonical}
use Rattle.spec_ntriples.specs.Reading.{with_text, with_texts, with_all, triple_of, additions, text_triples, is_right, conclude_reading, read_nTriples}
use Rattle.spec_ntriples.specs.Sights.{triple_texts, file_texts, is_among, first_sights, known_texts, text_in, text_of, word_texts}

-- Nothing but what its `unfolding` line names.
unfoldable pub compute : Unit {0}
unfolding first_refusal is_statement select encoding.short_bytes encoding.word_bytes encoding.entry_bytes encoding.entries_bytes encoding.section_bytes encoding.fields_bytes encoding.encode is_scalar encode_char utf8 with_char first_byte further_byte next_byte no_byte decode_from decode codes is_one_of is_iri_char is_string_char is_pn_chars_base is_pn_chars_u is_pn_chars hex_value echar push digit hex_step iri_step string_step after_step scan dotted label head_is lower_char tag skip is_same_text is_scheme is_absolute iri_text blank_text canonical_char canonical_chars string_text tagged_text typed_text iri_of read_iri blank_of read_blank typed_of read_type tagged_of suffixed literal_of read_subject read_object is_rest end_of after_object after_property after_subject read_line add_to_line lines with_triple with_line read_lines document_of document number_bytes bytes_of_entry bytes_of_entries dictionary_bytes bytes_number entries_at_most entries place_of term_in term_of first_number next_number are_numbers_enough kind_of are_numbered is_none gives_itself decodes_to_itself is_canonical are_texts is_dictionary with_text with_texts with_all triple_of additions text_triples is_right conclude_reading read_nTriples flat_map triple_texts file_texts is_among first_sights known_texts is_vocabulary text_in text_of word_texts
compute = tt
