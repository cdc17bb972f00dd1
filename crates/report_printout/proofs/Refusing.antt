-- What is printed where there is nothing for standard output, and of a refusal. Assumes nothing.
use Prim.Native.Nat.{ℕ}
use mathlib.Core.Path.{◌≡◌}
use mathlib.Core.List.{List}
use lib.ListN.{take}
use Rattle.report_text.specs.Text.{refusal_text}
use Rattle.report_text.specs.inside.Appended.{Appended}
use Rattle.report_printout.specs.Printout.{printout, refusal}

-- No bytes on standard output, and a text on standard error.
pub errors_only : {text errors errors' : List ℕ} {o end : ℕ} (out : List ℕ) → o ≡ 0 → Appended text 0 errors errors' end → printout (take o out) (take end errors') ≡ printout (take 0 out) text
errors_only out z A i = printout (take (z i) out) (A.start_and_text i)

-- A refusal.
pub refusal-printed : (n : ℕ) {errors errors' : List ℕ} {o end : ℕ} (out : List ℕ) → o ≡ 0 → Appended (refusal_text n) 0 errors errors' end → printout (take o out) (take end errors') ≡ refusal n
refusal-printed n out z A = errors_only out z A
