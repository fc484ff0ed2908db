use Rattle.std.proofs.Common.{◌<◌, sym, ap, ◌∙◌, arith}
use Rattle.rules.proofs.Walking.{each_zero}
use Rattle.tables.specs.Places.{called_place, spoiled_place}
use Rattle.tables.specs.Views.{view}
use Rattle.tables.specs.Serving.Changes.{spoil_caller}
use Rattle.tables.proofs.MarkWalks.{caller_spoiled, other_kept, spoils_on}
use Rattle.tables.proofs.columns.spoil_callers.Goals as goal
use Rattle.tables.proofs.columns.spoil_callers.Goals.{then-marks-r, else-marks-r}

pub loop-r-init : goal.loop-r-init
loop-r-init c =
    let a = c.args in
    (c.requires.0, λ w b. sym (each_zero (λ r t. spoil_caller a.size a.o r t) (view a.size w b a.marks.now)))

pub loop-r-preserved : goal.loop-r-preserved
loop-r-preserved c =
    let a = c.args in
    let r = c.loop-r.r in
    let k = c.loop-r.marks in
    let slot : r < a.size.slots = omega arith in
    let called = c.called.ensures ∙ ap (called_place a.size) c.pair-i.ensures.0 in
    let on = spoils_on a.size a.o r a.marks.now k c.loop-r.invariant c.if-marks-r.marks c.if-marks-r.auto.marks in
    elim c.if-marks-r.branch [
      | then-marks-r u ↦
          on (λ w b.
          ap (view a.size w b) u.marks-is
          ∙ caller_spoiled a.size w b k c.loop-r.invariant.0 r a.o slot c.requires.1 c.called.result called
          u.spoiled.result (u.spoiled.ensures ∙ ap (spoiled_place a.size) c.pair-i.ensures.0) u.if-marks-r.true)
      | else-marks-r u ↦
          on (λ w b.
          ap (view a.size w b) u.marks-is
          ∙ other_kept a.size w b k c.loop-r.invariant.0 r a.o slot c.requires.1 c.called.result called u.if-marks-r.false)
    ]
