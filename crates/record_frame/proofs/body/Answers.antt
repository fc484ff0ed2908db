-- What the frame tells fixes the body, and where it stands.
use Rattle.std.proofs.Common.{ℕ, sym, ap, ◌∙◌, take, drop, zero-add}
use native.Mathlib.Nat.{add-sub_cancel_left}
use Rattle.counters.specs.Sizes.{base}
use Rattle.record_layout.proofs.Telling.{framing_tells}
use Rattle.record_frame.proofs.Frames.{whole, not_whole}
use Rattle.record_frame.proofs.body.Goals as goal

pub returns-in_default : goal.returns-in_default
returns-in_default c =
    let refused = not_whole base c.args.s.now c.in_default.field-0 (sym (framing_tells _ _ c.in_default.ensures)) in
    record { bytes = sym refused.body_is; place_is = rw (refused.place_is, zero-add) }

pub slice_bounds-result-end-2 : goal.slice_bounds-result-end-2
slice_bounds-result-end-2 c =
    (whole base c.args.s.now c.in-Ok.frame (sym (framing_tells _ _ c.in-Ok.ensures))).is_there

pub returns : goal.returns
returns c =
    let s = c.args.s.now in
    let is_whole = whole base s c.in-Ok.frame (sym (framing_tells _ _ c.in-Ok.ensures)) in
    record {
      bytes = ap (λ (n : ℕ). take n (drop 4 s)) (add-sub_cancel_left 4 c.in-Ok.frame.length) ∙ sym is_whole.body_is;
      place_is = rw is_whole.place_is;
    }
