-- Question by question, as the code asks them. Assumes nothing.
use mathlib.Core.Path.{sym, ◌∙◌}
use Rattle.table.proofs.Store.{is_store_formed}
use Rattle.delivery_run.proofs.Conclusions.{refused_by_tables, refused_by_length, refused_by_section, refused_by_number, accepted}
use Rattle.delivery_run.proofs.deliver.Goals as goal

pub returns-then-not-is_store : goal.returns-then-not-is_store
returns-then-not-is_store c = refused_by_tables _ c.args.bytes.now _ (sym c.is_store.ensures ∙ c.if-not-is_store.true) c.refuse.ensures

pub returns-then-not-is_whole : goal.returns-then-not-is_whole
returns-then-not-is_whole c = refused_by_length _ c.args.bytes.now _ (sym c.is_store.ensures ∙ c.if-not-is_store.false) (sym c.is_whole.ensures ∙ c.if-not-is_whole.true) c.refuse-then-not-is_whole.ensures

pub are_sections_right-requires : goal.are_sections_right-requires
are_sections_right-requires c = sym c.is_whole.ensures ∙ c.if-not-is_whole.false

pub returns-then-not-are_sections_right : goal.returns-then-not-are_sections_right
returns-then-not-are_sections_right c = refused_by_section _ c.args.bytes.now _ (sym c.is_store.ensures ∙ c.if-not-is_store.false) (sym c.is_whole.ensures ∙ c.if-not-is_whole.false) (sym c.are_sections_right.ensures ∙ c.if-not-are_sections_right.true) c.refuse-then-not-are_sections_right.ensures

pub is_number_right-requires : goal.is_number_right-requires
is_number_right-requires c = sym c.is_whole.ensures ∙ c.if-not-is_whole.false

pub returns-then-not-is_number_right : goal.returns-then-not-is_number_right
returns-then-not-is_number_right c = refused_by_number _ c.args.bytes.now _ (sym c.is_store.ensures ∙ c.if-not-is_store.false) (sym c.is_whole.ensures ∙ c.if-not-is_whole.false) (sym c.are_sections_right.ensures ∙ c.if-not-are_sections_right.false) (sym c.is_number_right.ensures ∙ c.if-not-is_number_right.true) c.refuse-then-not-is_number_right.ensures

pub run_message-counted-requires : goal.run_message-counted-requires
run_message-counted-requires c = record { formed_store = is_store_formed _ _ _ _ (sym c.is_store.ensures ∙ c.if-not-is_store.false); bytes_value = sym c.is_whole.ensures ∙ c.if-not-is_whole.false; bytes_value_2 = sym c.are_sections_right.ensures ∙ c.if-not-are_sections_right.false }

pub number-requires : goal.number-requires
number-requires c = record { bytes_value = sym c.is_whole.ensures ∙ c.if-not-is_whole.false; bytes_value_2 = sym c.is_number_right.ensures ∙ c.if-not-is_number_right.false }

pub returns : goal.returns
returns c = accepted _ c.args.bytes.now c.number.result (sym c.is_store.ensures ∙ c.if-not-is_store.false) (sym c.is_whole.ensures ∙ c.if-not-is_whole.false) (sym c.are_sections_right.ensures ∙ c.if-not-are_sections_right.false) (sym c.is_number_right.ensures ∙ c.if-not-is_number_right.false) c.number.ensures c.run_message-counted.ensures
