use Prim.Native.Char.{code}
use mathlib.Core.Path.{sym, ◌∙◌}
use mathlib.Core.List.{[], ◌∷◌, ◌++◌}
use Rattle.spec_ntriples.specs.computed.Terminals.{skip}
use Rattle.ntriples_bytes.proofs.Decoding.{some_at}
use Rattle.spec_ntriples.specs.Utf8.{utf8}
use Rattle.ntriples_cursor.proofs.Literals.{type-coming, literal_end, mark-within, literal-tag, found_type, literal-string, literal-type}
use Rattle.ntriples_cursor.proofs.Following.{behind-skip}
use Rattle.ntriples_cursor.proofs.steps.behind_string.Goals as goal

pub returns-then-place-end : goal.returns-then-place-end
returns-then-place-end c = λ cs rest more A E F. literal_end c.args.line.now c.args.end c.args.place cs rest more A E F c.if-place-end.true

pub skip-mark-requires : goal.skip-mark-requires
skip-mark-requires c = some_at c.requires.stands

pub char_at-requires : goal.char_at-requires
char_at-requires c = record { utf8from = some_at (behind-skip c.args.line.now c.args.place c.skip-mark.result c.requires.chars c.requires.stands c.skip-mark.ensures); at_in_bounds = mark-within c.args.line.now c.args.end c.args.place c.requires.chars c.requires.rest c.requires.more c.requires.stands c.requires.ends c.requires.follows c.if-place-end.false c.skip-mark.result (behind-skip c.args.line.now c.args.place c.skip-mark.result c.requires.chars c.requires.stands c.skip-mark.ensures) }

pub returns-then-char_at-eq-AT_SIGN : goal.returns-then-char_at-eq-AT_SIGN
returns-then-char_at-eq-AT_SIGN c = λ cs rest more A E F. literal-tag c.args.line.now c.args.end c.args.place cs rest more A E F c.if-place-end.false c.skip-mark.result (behind-skip c.args.line.now c.args.place c.skip-mark.result cs A c.skip-mark.ensures) c.char_at.result c.char_at.ensures c.if-char_at-eq-AT_SIGN.true

pub type_inner-requires : goal.type_inner-requires
type_inner-requires c = record { chars = skip c.requires.chars; rest = c.requires.rest; given = (found_type c.args.line.now c.args.end c.args.place c.requires.chars c.requires.rest c.requires.more c.requires.stands c.requires.ends c.requires.follows c.if-place-end.false c.skip-mark.result (behind-skip c.args.line.now c.args.place c.skip-mark.result c.requires.chars c.requires.stands c.skip-mark.ensures) c.char_at.result c.char_at.ensures c.if-char_at-eq-AT_SIGN.false).given; stands = behind-skip c.args.line.now c.args.place c.skip-mark.result c.requires.chars c.requires.stands c.skip-mark.ensures; typed = (found_type c.args.line.now c.args.end c.args.place c.requires.chars c.requires.rest c.requires.more c.requires.stands c.requires.ends c.requires.follows c.if-place-end.false c.skip-mark.result (behind-skip c.args.line.now c.args.place c.skip-mark.result c.requires.chars c.requires.stands c.skip-mark.ensures) c.char_at.result c.char_at.ensures c.if-char_at-eq-AT_SIGN.false).typed }

pub is_string_type-requires : goal.is_string_type-requires
is_string_type-requires c = record { bytes = (utf8 (found_type c.args.line.now c.args.end c.args.place c.requires.chars c.requires.rest c.requires.more c.requires.stands c.requires.ends c.requires.follows c.if-place-end.false c.skip-mark.result (behind-skip c.args.line.now c.args.place c.skip-mark.result c.requires.chars c.requires.stands c.skip-mark.ensures) c.char_at.result c.char_at.ensures c.if-char_at-eq-AT_SIGN.false).given ++ (code ">" ∷ [])); coming = (type-coming c.args.line.now c.args.end c.type_inner.result (skip c.requires.chars) c.requires.rest (found_type c.args.line.now c.args.end c.args.place c.requires.chars c.requires.rest c.requires.more c.requires.stands c.requires.ends c.requires.follows c.if-place-end.false c.skip-mark.result (behind-skip c.args.line.now c.args.place c.skip-mark.result c.requires.chars c.requires.stands c.skip-mark.ensures) c.char_at.result c.char_at.ensures c.if-char_at-eq-AT_SIGN.false).given (found_type c.args.line.now c.args.end c.args.place c.requires.chars c.requires.rest c.requires.more c.requires.stands c.requires.ends c.requires.follows c.if-place-end.false c.skip-mark.result (behind-skip c.args.line.now c.args.place c.skip-mark.result c.requires.chars c.requires.stands c.skip-mark.ensures) c.char_at.result c.char_at.ensures c.if-char_at-eq-AT_SIGN.false).typed (c.type_inner.ensures (skip c.requires.chars) c.requires.rest (found_type c.args.line.now c.args.end c.args.place c.requires.chars c.requires.rest c.requires.more c.requires.stands c.requires.ends c.requires.follows c.if-place-end.false c.skip-mark.result (behind-skip c.args.line.now c.args.place c.skip-mark.result c.requires.chars c.requires.stands c.skip-mark.ensures) c.char_at.result c.char_at.ensures c.if-char_at-eq-AT_SIGN.false).given (behind-skip c.args.line.now c.args.place c.skip-mark.result c.requires.chars c.requires.stands c.skip-mark.ensures) (found_type c.args.line.now c.args.end c.args.place c.requires.chars c.requires.rest c.requires.more c.requires.stands c.requires.ends c.requires.follows c.if-place-end.false c.skip-mark.result (behind-skip c.args.line.now c.args.place c.skip-mark.result c.requires.chars c.requires.stands c.skip-mark.ensures) c.char_at.result c.char_at.ensures c.if-char_at-eq-AT_SIGN.false).typed).0 c.requires.ends) }

pub returns-then-is_string_type : goal.returns-then-is_string_type
returns-then-is_string_type c = λ cs rest more A E F. literal-string c.args.line.now c.args.end c.args.place cs rest more A E F c.if-place-end.false c.skip-mark.result (behind-skip c.args.line.now c.args.place c.skip-mark.result cs A c.skip-mark.ensures) c.char_at.result c.char_at.ensures (found_type c.args.line.now c.args.end c.args.place cs rest more A E F c.if-place-end.false c.skip-mark.result (behind-skip c.args.line.now c.args.place c.skip-mark.result cs A c.skip-mark.ensures) c.char_at.result c.char_at.ensures c.if-char_at-eq-AT_SIGN.false) (sym (c.is_string_type.ensures (utf8 (found_type c.args.line.now c.args.end c.args.place cs rest more A E F c.if-place-end.false c.skip-mark.result (behind-skip c.args.line.now c.args.place c.skip-mark.result cs A c.skip-mark.ensures) c.char_at.result c.char_at.ensures c.if-char_at-eq-AT_SIGN.false).given ++ (code ">" ∷ [])) (type-coming c.args.line.now c.args.end c.type_inner.result (skip cs) rest (found_type c.args.line.now c.args.end c.args.place cs rest more A E F c.if-place-end.false c.skip-mark.result (behind-skip c.args.line.now c.args.place c.skip-mark.result cs A c.skip-mark.ensures) c.char_at.result c.char_at.ensures c.if-char_at-eq-AT_SIGN.false).given (found_type c.args.line.now c.args.end c.args.place cs rest more A E F c.if-place-end.false c.skip-mark.result (behind-skip c.args.line.now c.args.place c.skip-mark.result cs A c.skip-mark.ensures) c.char_at.result c.char_at.ensures c.if-char_at-eq-AT_SIGN.false).typed (c.type_inner.ensures (skip cs) rest (found_type c.args.line.now c.args.end c.args.place cs rest more A E F c.if-place-end.false c.skip-mark.result (behind-skip c.args.line.now c.args.place c.skip-mark.result cs A c.skip-mark.ensures) c.char_at.result c.char_at.ensures c.if-char_at-eq-AT_SIGN.false).given (behind-skip c.args.line.now c.args.place c.skip-mark.result cs A c.skip-mark.ensures) (found_type c.args.line.now c.args.end c.args.place cs rest more A E F c.if-place-end.false c.skip-mark.result (behind-skip c.args.line.now c.args.place c.skip-mark.result cs A c.skip-mark.ensures) c.char_at.result c.char_at.ensures c.if-char_at-eq-AT_SIGN.false).typed).0 E)) ∙ c.if-is_string_type.true)

pub returns : goal.returns
returns c = λ cs rest more A E F. literal-type c.args.line.now c.args.end c.args.place cs rest more A E F c.if-place-end.false c.skip-mark.result (behind-skip c.args.line.now c.args.place c.skip-mark.result cs A c.skip-mark.ensures) c.char_at.result c.char_at.ensures (found_type c.args.line.now c.args.end c.args.place cs rest more A E F c.if-place-end.false c.skip-mark.result (behind-skip c.args.line.now c.args.place c.skip-mark.result cs A c.skip-mark.ensures) c.char_at.result c.char_at.ensures c.if-char_at-eq-AT_SIGN.false) (sym (c.is_string_type.ensures (utf8 (found_type c.args.line.now c.args.end c.args.place cs rest more A E F c.if-place-end.false c.skip-mark.result (behind-skip c.args.line.now c.args.place c.skip-mark.result cs A c.skip-mark.ensures) c.char_at.result c.char_at.ensures c.if-char_at-eq-AT_SIGN.false).given ++ (code ">" ∷ [])) (type-coming c.args.line.now c.args.end c.type_inner.result (skip cs) rest (found_type c.args.line.now c.args.end c.args.place cs rest more A E F c.if-place-end.false c.skip-mark.result (behind-skip c.args.line.now c.args.place c.skip-mark.result cs A c.skip-mark.ensures) c.char_at.result c.char_at.ensures c.if-char_at-eq-AT_SIGN.false).given (found_type c.args.line.now c.args.end c.args.place cs rest more A E F c.if-place-end.false c.skip-mark.result (behind-skip c.args.line.now c.args.place c.skip-mark.result cs A c.skip-mark.ensures) c.char_at.result c.char_at.ensures c.if-char_at-eq-AT_SIGN.false).typed (c.type_inner.ensures (skip cs) rest (found_type c.args.line.now c.args.end c.args.place cs rest more A E F c.if-place-end.false c.skip-mark.result (behind-skip c.args.line.now c.args.place c.skip-mark.result cs A c.skip-mark.ensures) c.char_at.result c.char_at.ensures c.if-char_at-eq-AT_SIGN.false).given (behind-skip c.args.line.now c.args.place c.skip-mark.result cs A c.skip-mark.ensures) (found_type c.args.line.now c.args.end c.args.place cs rest more A E F c.if-place-end.false c.skip-mark.result (behind-skip c.args.line.now c.args.place c.skip-mark.result cs A c.skip-mark.ensures) c.char_at.result c.char_at.ensures c.if-char_at-eq-AT_SIGN.false).typed).0 E)) ∙ c.if-is_string_type.false)
