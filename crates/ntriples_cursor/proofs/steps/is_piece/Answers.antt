use Prim.Native.Nat.{ℕ}
use mathlib.Core.Path.{◌≡◌}
use native.Mathlib.Omega.{arith}
use Rattle.ntriples_cursor.proofs.Comparing.{piece_long, piece_same}
use borrow.Author.Rules.{rules}
use Rattle.ntriples_cursor.proofs.steps.is_piece.Goals as goal

pub returns-then-left-p : goal.returns-then-left-p
returns-then-left-p c = record { fits = (λ e. let z : ◌≡◌ {A = ℕ} 0 1 = cc in absurd (omega arith)); first = piece_long c.args.p.bytes c.args.text.now c.args.p.len c.args.at c.args.left (omega arith) (search rules) c.if-left-p.true }

pub returns : goal.returns
returns c = record { fits = (λ e. c.if-left-p.false); first = piece_same c.args.p.bytes c.args.text.now c.args.p.len c.args.at c.args.left (omega arith) (search rules) (search rules) _ c.is_same.ensures }
