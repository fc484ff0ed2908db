-- What the frame tells leaves the reading to the kind that its number names, on the body that stands behind it.
use Rattle.std.specs.Prelude.{Option, Some, None, Ok, Err, Result, ok_or}
use Rattle.std.proofs.Common.{◌≡◌, ℕ, sym, ap, ◌∙◌, List, take, drop}
use Rattle.std.proofs.lemmas.Result.{err_from_is_err_and}
use native.Mathlib.Nat.{add-sub_cancel_left}
use Rattle.answers.specs.declared.Refusal.{Refusal}
use Rattle.answers.specs.declared.Refusal.TheVariants.{BadRecord}
use Rattle.counters.specs.Sizes.{base}
use Rattle.record_frame.proofs.Frames.{whole, not_whole}
use Rattle.record_layout.proofs.Telling.{framing_tells, within_ok}
use Rattle.record_layout.specs.Reading.{reading_of, body_reading, body, Reading}
use Rattle.record_layout.specs.Telling.{told_by_reading}
use Rattle.record_layout.specs.declared.kind.Kind.{Kind}
use Rattle.record_read.proofs.read.Goals as goal

-- the reading is that of the kind which was found, or the refusal of a number that is none's
found_reading : (found : Option Kind) (b : List ℕ) (kind : Kind) → ◌≡◌ {A = Result Kind Refusal} (Ok kind) (ok_or found BadRecord)
    → body_reading base kind b ≡ reading_of base found b
found_reading (Some k) b kind same = ap (λ (x : Kind). body_reading base x b) (within_ok _ _ same)
found_reading None b kind same = cc

none_found : (found : Option Kind) (b : List ℕ) (refusal : Refusal) → ◌≡◌ {A = Result Kind Refusal} (Err refusal) (ok_or found BadRecord)
    → ◌≡◌ {A = Reading} (Err refusal) (reading_of base found b)
none_found (Some k) b refusal same = cc
none_found None b refusal same = cc

pub slice_bounds-read-end : goal.slice_bounds-read-end
slice_bounds-read-end c = (whole base c.args.s.now c.in_ok-frame.frame (sym (framing_tells _ _ c.in_ok-frame.ensures))).is_there

pub returns-in_err-frame : goal.returns-in_err-frame
returns-in_err-frame c =
    let p = err_from_is_err_and c.from_residual.result c.from_residual.ensures.1 in
    ap told_by_reading
    (p.1
    ∙ ap Err p.2
    ∙ sym (not_whole base c.args.s.now c.in_err-frame.field-0.0 (sym (framing_tells _ _ c.in_err-frame.ensures))).reading_is)

pub returns-in_err-kind : goal.returns-in_err-kind
returns-in_err-kind c =
    let s = c.args.s.now in
    let p = err_from_is_err_and c.from_residual-in_err-kind.result c.from_residual-in_err-kind.ensures.1 in
    let is_whole = whole base s c.in_ok-frame.frame (sym (framing_tells _ _ c.in_ok-frame.ensures)) in
    ap told_by_reading
    (p.1 ∙ ap Err p.2 ∙ none_found _ (body base s) _ c.in_err-kind.ensures ∙ sym is_whole.reading_is)

pub returns : goal.returns
returns c =
    let s = c.args.s.now in
    let frame = c.in_ok-frame.frame in
    let is_whole = whole base s frame (sym (framing_tells _ _ c.in_ok-frame.ensures)) in
    let there = ap (λ (n : ℕ). take n (drop 4 s)) (add-sub_cancel_left 4 frame.length) ∙ sym is_whole.body_is in
    c.read.ensures
    ∙ ap told_by_reading
    (ap (body_reading base c.in_ok-kind.kind) there ∙ found_reading _ (body base s) _ c.in_ok-kind.ensures ∙ sym is_whole.reading_is)
