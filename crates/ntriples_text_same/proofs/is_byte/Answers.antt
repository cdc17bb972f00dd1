use Prim.Native.Nat.{ℕ}
use mathlib.Core.Path.{◌≡◌}
use native.Mathlib.Omega.{arith}
use Rattle.ntriples_text_same.proofs.Comparing.{byte_more, byte_none}
use borrow.Author.Rules.{rules}
use Rattle.ntriples_text_same.proofs.is_byte.Goals as goal

pub returns-then-left-eq0 : goal.returns-then-left-eq0
returns-then-left-eq0 c = record { fits = (λ e. let z : ◌≡◌ {A = ℕ} 0 1 = cc in absurd (omega arith)); first = λ later. byte_none c.args.b c.args.text.now later c.args.at c.args.left (omega arith) }

pub returns : goal.returns
returns c = record { fits = (λ e. omega arith); first = λ later. byte_more c.args.b c.args.text.now later c.args.at c.args.left (omega arith) (search rules) }
