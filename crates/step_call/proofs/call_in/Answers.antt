-- `step_call::call_in` meets its promise.
use Rattle.std.proofs.lemmas.Result.{err_from_is_err_and}
use Rattle.std.proofs.Common.{sym, ◌∙◌}
use Rattle.answers.specs.Numbers.{accepted}
use Rattle.rules.specs.Tables.{with_pair}
use Rattle.tables.specs.Serving.Memories.{tables_of}
use Rattle.tables.proofs.Memories.{same_first, same_on}
use Rattle.step_call.proofs.Looked.{LookedAtPair, call_refused, call_passed}
use Rattle.step_call.proofs.call_in.Goals as goal

pub returns-in_err-call : goal.returns-in_err-call
returns-in_err-call c =
    let a = c.args in
    let m = a.memory.now in
    let looked : LookedAtPair m.size (tables_of m) a.slot.0 a.number.0 c.keep_in_range-s.result c.keep_in_range-o.result
    c.live_at-live.result c.pair_at-pair.result c.object_at-object.result =
    record {
      right_slot = c.keep_in_range-s.ensures.1;
      right_object = c.keep_in_range-o.ensures.1;
      is_live = c.live_at-live.ensures;
      is_pair = c.pair_at-pair.ensures;
      is_object = c.object_at-object.ensures;
    } in
    let refused = err_from_is_err_and c.from_residual.result c.from_residual.ensures.1 in
    rw (refused.1, refused.2)
    (record {
      same = same_first m;
      is_step = call_refused looked a.kind a.argument c.doomed-doomed.result c.doomed-doomed.ensures _ (sym c.in_err-call.ensures);
    })

pub returns : goal.returns
returns c =
    let a = c.args in
    let m = a.memory.now in
    let s = c.keep_in_range-s.result in
    let o = c.keep_in_range-o.result in
    let looked : LookedAtPair m.size (tables_of m) a.slot.0 a.number.0 s o
    c.live_at-live.result c.pair_at-pair.result c.object_at-object.result =
    record {
      right_slot = c.keep_in_range-s.ensures.1;
      right_object = c.keep_in_range-o.ensures.1;
      is_live = c.live_at-live.ensures;
      is_pair = c.pair_at-pair.ensures;
      is_object = c.object_at-object.ensures;
    } in
    record {
      same = same_on c.store_object.ensures.same c.store_pair.ensures.same;
      is_step =
          (λ i. record { tables = c.store_pair.ensures.tables i; reply = accepted c.act-acted.result.answer })
          ∙ (λ i. record { tables = with_pair (c.store_object.ensures.same.size i) (c.store_object.ensures.tables i) s o c.pair.result; reply = accepted c.act-acted.result.answer })
          ∙ call_passed looked a.kind a.argument c.doomed-doomed.result c.doomed-doomed.ensures
          (sym c.in_ok-call.ensures)
          c.act-acted.result c.object.result c.pair.result c.act-acted.ensures c.object.ensures c.pair.ensures;
    }
