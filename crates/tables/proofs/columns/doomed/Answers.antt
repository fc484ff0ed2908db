use Rattle.std.proofs.Common.{ℕ, ◌+◌, ◌*◌, ◌≡◌, Bool, ◌||◌, sym, ap, ◌∙◌, arith}
use Rattle.rules.specs.Walks.{any_below}
use Rattle.rules.proofs.Walking.{any_zero, any_next}
use Rattle.tables.specs.Views.{mark}
use Rattle.tables.proofs.MarkWalks.{doomed_seen}
use Rattle.tables.proofs.columns.doomed.Goals as goal

pub loop-o-init : goal.loop-o-init
loop-o-init c = sym (any_zero _)

pub loop-o-preserved : goal.loop-o-preserved
loop-o-preserved c =
    let set : ℕ → Bool = λ j. mark c.args.marks.now (c.spoiled-from.result + j) in
    ap (λ (d : Bool). d || set c.loop-o.o) c.loop-o.invariant ∙ sym (any_next set c.loop-o.o)

pub returns : goal.returns
returns c =
    let a = c.args in
    let all : c.loop-o.o ≡ a.size.objects = omega arith in
    λ w b.
    c.loop-o.invariant
    ∙ ap (λ (n : ℕ). any_below n (λ j. mark a.marks.now (c.spoiled-from.result + j))) all
    ∙ doomed_seen a.size w b a.marks.now a.s c.spoiled-from.result c.requires.1
    (c.spoiled-from.ensures ∙ ap (λ (i : ℕ). a.size.slots + 2 * (a.size.slots * a.size.objects) + i) c.pair.ensures.0)
