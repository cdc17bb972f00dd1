use Prim.Native.Nat.{◌+◌, ◌-◌}
use mathlib.Core.Path.{◌≡◌, sym, ◌∙◌}
use native.Mathlib.Omega.{arith}
use native.Mathlib.Nat.{sub-zero}
use lib.ListN.{length, take, drop}
use Rattle.dictionary_bytes.proofs.Same.{part_length}
use Rattle.dictionary_entries.proofs.Writing.{number_more, number_end, number_over}
use Rattle.dictionary_entries.proofs.write_number.Goals as goal

pub loop-b-init : goal.loop-b-init
loop-b-init c = rw sub-zero

pub loop-b-preserved : goal.loop-b-preserved
loop-b-preserved c =
    let q : c.args.at + c.args.n - c.args.at ≡ c.args.n = omega arith in
    let l : length (take (c.args.at + c.args.n - c.args.at) (drop c.args.at c.args.out.now)) ≡ c.args.n = rw q (part_length c.args.out.now c.args.at c.args.n c.requires) in
    number_more c.loop-b.b-items c.args.n c.loop-b.b-index c.loop-b.rest (omega arith) ∙ c.loop-b.invariant

pub returns : goal.returns
returns c =
    let q : c.args.at + c.args.n - c.args.at ≡ c.args.n = omega arith in
    let l : length (take (c.args.at + c.args.n - c.args.at) (drop c.args.at c.args.out.now)) ≡ c.args.n = rw q (part_length c.args.out.now c.args.at c.args.n c.requires) in
    number_over c.args.out.now c.loop-b.b-items c.args.at c.args.n c.args.number c.requires (sym (number_end c.loop-b.b-items c.args.n c.loop-b.b-index c.loop-b.rest (omega arith)) ∙ c.loop-b.invariant)
