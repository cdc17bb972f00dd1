use mathlib.Core.Path.{refl}
use native.Mathlib.Omega.{arith}
use borrow.Author.Tests.{lt-ltb, le-ltb}
use Rattle.spec_ntriples.specs.Utf8.{encode_char}
use Rattle.ntriples_cursor.proofs.pieces.encoded.Goals as goal

pub returns-then-c-lt128 : goal.returns-then-c-lt128
unfolding encode_char
returns-then-c-lt128 c = rw (lt-ltb _ _ c.if-c-lt128.true) c.single.ensures

pub returns-then-c-lt2048 : goal.returns-then-c-lt2048
unfolding encode_char
returns-then-c-lt2048 c = rw (le-ltb _ _ c.if-c-lt128.false, lt-ltb _ _ c.if-c-lt2048.true) c.double.ensures

pub returns-then-c-lt65536 : goal.returns-then-c-lt65536
unfolding encode_char
returns-then-c-lt65536 c = rw (le-ltb _ _ c.if-c-lt128.false, le-ltb _ _ c.if-c-lt2048.false, lt-ltb _ _ c.if-c-lt65536.true) c.triple.ensures

pub returns : goal.returns
unfolding encode_char
returns c = record { bytes = rw (le-ltb _ _ c.if-c-lt128.false, le-ltb _ _ c.if-c-lt2048.false, le-ltb _ _ c.if-c-lt65536.false); leads = refl; few = omega arith; four = omega arith }
