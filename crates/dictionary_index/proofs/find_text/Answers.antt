use mathlib.Core.Path.{refl, sym, ◌∙◌}
use native.Mathlib.Omega.{arith}
use lib.ListN.{take, drop}
use Rattle.dictionary_bytes.proofs.Same.{same_equal, other_differ}
use Rattle.dictionary_index.proofs.Searching.{passed_none, passed_more, passed-all}
use borrow.Author.Rules.{rules}
use Rattle.dictionary_index.proofs.find_text.Goals as goal

-- src/lib.rt:37:5
pub loop-s-init : goal.loop-s-init
loop-s-init c = (omega arith, passed_none c.args.slots.now c.args.dictionary.now c.args.first (take c.args.n (drop c.args.from c.args.bytes.now)) c.args.home)

-- src/lib.rt:38:17
pub overflow_cast-w : goal.overflow_cast-w
overflow_cast-w c = omega (arith, c.type_inv.slots c.loop-s.s)

-- src/lib.rt:40:13
pub returns-then-w-eq0 : goal.returns-then-w-eq0
returns-then-w-eq0 c = record { from = c.loop-s.invariant.0; within = search rules; empty = c.if-w-eq0.true; passed = c.loop-s.invariant.1 }

-- src/lib.rt:42:18
pub overflow_add-at : goal.overflow_add-at
overflow_add-at c = omega (arith, c.requires.lead_within c.loop-s.s (omega (arith, c.if-w-eq0.false)))

-- src/lib.rt:43:12
pub has_text-requires : goal.has_text-requires
has_text-requires c = record { at_in_bounds = c.requires.lead_within c.loop-s.s (omega (arith, c.if-w-eq0.false)); n_in_bounds = c.requires.n_in_bounds }

-- src/lib.rt:44:13
pub returns-then-has_text : goal.returns-then-has_text
returns-then-has_text c = record { slot = c.loop-s.s; from = c.loop-s.invariant.0; taken = omega (arith, c.if-w-eq0.false); leads = refl; same = same_equal _ _ (sym c.has_text.ensures ∙ c.if-has_text.true) }

-- src/lib.rt:37:5
pub loop-s-preserved : goal.loop-s-preserved
loop-s-preserved c = (omega arith, passed_more c.args.slots.now c.args.dictionary.now c.args.first (take c.args.n (drop c.args.from c.args.bytes.now)) c.args.home c.loop-s.s c.loop-s.invariant.1 (omega (arith, c.if-w-eq0.false)) (other_differ _ _ (sym c.has_text.ensures ∙ c.if-has_text.false)))

-- src/lib.rt:23:1
pub returns : goal.returns
returns c = passed-all c.args.slots.now c.args.dictionary.now c.args.first (take c.args.n (drop c.args.from c.args.bytes.now)) c.args.home c.loop-s.s c.loop-s.invariant.1 (search rules)
