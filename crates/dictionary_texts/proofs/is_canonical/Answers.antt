use mathlib.Core.Path.{sym, ◌∙◌}
use Rattle.spec_ntriples.specs.computed.Decoded.{decode}
use Rattle.ntriples_document.proofs.Counting.{chars_of_lem, utf8_whole}
use Rattle.dictionary_texts.proofs.Reading.{broken-text, no_text_lem, term-read, more-text, whole-text}
use borrow.Author.Rules.{rules}
use Rattle.dictionary_texts.proofs.is_canonical.Goals as goal

pub returns-then-not-is_utf8 : goal.returns-then-not-is_utf8
returns-then-not-is_utf8 c = broken-text c.args.text.now (sym c.is_utf8.ensures ∙ c.if-not-is_utf8.true)

pub object_end-requires : goal.object_end-requires
object_end-requires c = utf8_whole c.args.text.now (sym c.is_utf8.ensures ∙ c.if-not-is_utf8.false)

pub returns-then-end-text : goal.returns-then-end-text
returns-then-end-text c = more-text c.args.text.now (chars_of_lem (decode c.args.text.now) (sym c.is_utf8.ensures ∙ c.if-not-is_utf8.false)) _ c.in-Some.ensures c.if-end-text.true

pub is_text-requires : goal.is_text-requires
is_text-requires c = record { token = record { text = _; has = (term-read c.args.text.now (chars_of_lem (decode c.args.text.now) (sym c.is_utf8.ensures ∙ c.if-not-is_utf8.false)) _ c.in-Some.ensures).has }; n_in_bounds = search rules }

pub returns-in-None : goal.returns-in-None
returns-in-None c = no_text_lem c.args.text.now (chars_of_lem (decode c.args.text.now) (sym c.is_utf8.ensures ∙ c.if-not-is_utf8.false)) c.in-None.ensures

pub returns-else-end-text : goal.returns-else-end-text
returns-else-end-text c = c.is_text.ensures _ (term-read c.args.text.now (chars_of_lem (decode c.args.text.now) (sym c.is_utf8.ensures ∙ c.if-not-is_utf8.false)) _ c.in-Some.ensures).has ∙ whole-text c.args.text.now (chars_of_lem (decode c.args.text.now) (sym c.is_utf8.ensures ∙ c.if-not-is_utf8.false)) _ c.in-Some.ensures c.if-end-text.false
