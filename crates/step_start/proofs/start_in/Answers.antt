-- `step_start::start_in` meets its promise.
use Rattle.std.proofs.lemmas.Result.{err_from_is_err_and}
use Rattle.leaf_start.proofs.Started.{Judged, start_refused, list_within, start_passed}
use Rattle.tables.specs.Serving.Memories.{tables_of}
use Rattle.tables.proofs.Memories.{same_first, same_on}
use Rattle.record_layout.specs.Declarations.{declarations_of}
use Rattle.rules.specs.Effects.{declare_all}
use Rattle.std.proofs.Common.{◌∙◌}
use Rattle.step_start.proofs.start_in.Goals as goal

pub declare_all-requires : goal.declare_all-requires
declare_all-requires c =
    let a = c.args in
    let m = a.memory.now in
    let judged : Judged m.size (tables_of m) a.slot.0 c.keep_in_range-s.result a.list.now c.live_at.result c.verdict.result =
    record { right_slot = c.keep_in_range-s.ensures.1; is_live = c.live_at.ensures; is_verdict = c.verdict.ensures } in
    rw c.clear.ensures.same.size (c.keep_in_range-s.ensures.0, list_within judged c.in_ok-verdict.was)

pub returns-in_err-verdict : goal.returns-in_err-verdict
returns-in_err-verdict c =
    let a = c.args in
    let m = a.memory.now in
    let judged : Judged m.size (tables_of m) a.slot.0 c.keep_in_range-s.result a.list.now c.live_at.result c.verdict.result =
    record { right_slot = c.keep_in_range-s.ensures.1; is_live = c.live_at.ensures; is_verdict = c.verdict.ensures } in
    let refused = err_from_is_err_and c.from_residual.result c.from_residual.ensures.1 in
    rw (refused.1, refused.2) (record { same = same_first m; is_step = start_refused judged c.in_err-verdict.was })

pub returns : goal.returns
returns c =
    let a = c.args in
    let m = a.memory.now in
    let judged : Judged m.size (tables_of m) a.slot.0 c.keep_in_range-s.result a.list.now c.live_at.result c.verdict.result =
    record { right_slot = c.keep_in_range-s.ensures.1; is_live = c.live_at.ensures; is_verdict = c.verdict.ensures } in
    let cleared = c.clear in
    let declared = c.declare_all in
    record {
      same = same_on (same_on cleared.ensures.same declared.ensures.same) c.store_live.ensures.same;
      is_step =
          start_passed judged c.in_ok-verdict.was (tables_of cleared.new.self) (tables_of declared.new.memory) (tables_of c.store_live.new.self)
          cleared.ensures.tables
          (declared.ensures.tables ∙ (λ i. declare_all (cleared.ensures.same.size i) c.keep_in_range-s.result (declarations_of a.list.now) (tables_of cleared.new.self)))
          c.store_live.ensures.tables;
    }
