use Rattle.std.proofs.lemmas.Result.{err_from_is_err_and}
use Rattle.std.proofs.Common.{◌+◌, refl, sym, ◌∙◌, ltb, length}
use Rattle.answers.specs.Numbers.{accepted}
use Rattle.tables.specs.Serving.Memories.{tables_of}
use Rattle.tables.proofs.Memories.{same_first, same_on}
use Rattle.step_end.proofs.Ended.{LookedAtSlot, end_refused, end_passed}
use Rattle.step_end.proofs.end_in.Goals as goal

pub returns-in_err-verdict : goal.returns-in_err-verdict
returns-in_err-verdict c =
    let a = c.args in
    let m = a.memory.now in
    let standing = c.look-standing.result in
    let found = tables_of m in
    let short = ltb (length a.buf.now) (10 + standing.bytes) in
    let looked : LookedAtSlot m.size found a.slot.0 c.keep_in_range-s.result a.buf.now c.live_at-live.result standing short =
    record {
      right_slot = c.keep_in_range-s.ensures.1;
      is_live = c.live_at-live.ensures;
      is_standing = c.look-standing.ensures.0;
      is_short = refl;
    } in
    let refused = err_from_is_err_and c.from_residual.result c.from_residual.ensures.1 in
    rw (refused.1, refused.2) (record { same = same_first m; is_step = end_refused looked a.rollback a.tick _ (sym c.verdict.ensures ∙ c.in_err-verdict.was) })

pub returns : goal.returns
returns c =
    let a = c.args in
    let m = a.memory.now in
    let standing = c.look-standing.result in
    let found = tables_of m in
    let short = ltb (length a.buf.now) (10 + standing.bytes) in
    let looked : LookedAtSlot m.size found a.slot.0 c.keep_in_range-s.result a.buf.now c.live_at-live.result standing short =
    record {
      right_slot = c.keep_in_range-s.ensures.1;
      is_live = c.live_at-live.ensures;
      is_standing = c.look-standing.ensures.0;
      is_short = refl;
    } in
    record {
      same = same_on c.settle.ensures.same c.store_live.ensures.same;
      is_step =
          (λ i. record { tables = c.store_live.ensures.tables i; reply = accepted (10 + standing.bytes); buffer = c.record.new.buf })
          ∙ end_passed looked a.rollback a.tick (sym c.verdict.ensures ∙ c.in_ok-verdict.was) _ _ c.settle.ensures.tables c.record.ensures;
    }
