-- Whether one of the marks gone through is more than 1.
use Rattle.std.proofs.Common.{◌≡◌, not, leb, take}
use Rattle.std.specs.List.{list_all}
use Rattle.kernel.proofs.shown.gustlantern_raw_marks_hold.Given as goal

abbrev pub invariant-loop-mark : goal.invariant-loop-mark
invariant-loop-mark l = not l.exceeds ≡ list_all (λ mark. leb mark 1) (take l.mark-index l.marks)
