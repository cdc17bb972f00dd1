use mathlib.Core.Path.{refl, sym, ◌∙◌}
use native.Mathlib.Omega.{arith}
use Rattle.dictionary_bytes.proofs.Same.{same_equal, other_differ}
use Rattle.dictionary_index.proofs.Searching.{passed_none, passed_more, passed-all}
use borrow.Author.Rules.{rules}
use Rattle.dictionary_index.proofs.find_token.Goals as goal

-- src/lib.rt:119:5
pub loop-s-init : goal.loop-s-init
loop-s-init c = (omega arith, λ t H. passed_none c.args.slots.now c.args.dictionary.now c.args.first t.bytes c.args.home)

-- src/lib.rt:120:17
pub overflow_cast-w : goal.overflow_cast-w
overflow_cast-w c = omega (arith, c.type_inv.slots c.loop-s.s)

-- src/lib.rt:122:13
pub returns-then-w-eq0 : goal.returns-then-w-eq0
returns-then-w-eq0 c = λ t H. record { from = c.loop-s.invariant.0; within = search rules; empty = c.if-w-eq0.true; passed = c.loop-s.invariant.1 t H }

-- src/lib.rt:124:18
pub overflow_add-at : goal.overflow_add-at
overflow_add-at c = omega (arith, c.requires.lead_within c.loop-s.s (omega (arith, c.if-w-eq0.false)))

-- src/lib.rt:125:12
pub has_token-requires : goal.has_token-requires
has_token-requires c = record { at_in_bounds = c.requires.lead_within c.loop-s.s (omega (arith, c.if-w-eq0.false)); token = c.requires.token }

-- src/lib.rt:126:13
pub returns-then-has_token : goal.returns-then-has_token
returns-then-has_token c = λ t H. record { slot = c.loop-s.s; from = c.loop-s.invariant.0; taken = omega (arith, c.if-w-eq0.false); leads = refl; same = sym (same_equal _ _ (sym (c.has_token.ensures t H) ∙ c.if-has_token.true)) }

-- src/lib.rt:119:5
pub loop-s-preserved : goal.loop-s-preserved
loop-s-preserved c = (omega arith, λ t H. passed_more c.args.slots.now c.args.dictionary.now c.args.first t.bytes c.args.home c.loop-s.s (c.loop-s.invariant.1 t H) (omega (arith, c.if-w-eq0.false)) (λ e. other_differ _ _ (sym (c.has_token.ensures t H) ∙ c.if-has_token.false) (sym e)))

-- src/lib.rt:105:1
pub returns : goal.returns
returns c = λ t H. passed-all c.args.slots.now c.args.dictionary.now c.args.first t.bytes c.args.home c.loop-s.s (c.loop-s.invariant.1 t H) (search rules)
