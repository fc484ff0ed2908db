use Rattle.std.proofs.Common.{ℕ, ◌+◌, ◌-◌, ◌≤◌, ◌≡◌, List, ◌++◌, length, take, drop, sym, ap, ◌∙◌, arith, rules}
use lib.Seq.{length-take-le, take-length}
use Rattle.record_front.specs.Serving.Filled.{filled}
use Rattle.record_front.proofs.Splicing.{front_and_list}
use Rattle.record_layout.proofs.PartFilled.{part_filled}
use Rattle.record_layout.specs.Fields.{front_of, record_of}
use Rattle.rules.specs.Effects.{end_entries, end_fields}
use Rattle.tables.specs.Serving.Memories.{tables_of}
use Rattle.step_end.proofs.Ended.{end_length, end_front}
use Rattle.step_end.proofs.writing.record.Goals as goal

pub returns : goal.returns
returns c =
    let a = c.args in
    let m = a.memory.now in
    let list : List ℕ = end_entries m.size a.s (tables_of m) in
    let f = end_fields a.rollback a.tick a.slot.0 in
    let made : List ℕ = c.front-front.result in
    let head : List ℕ = c.copy_from_slice.new.self in
    let begun : List ℕ = head ++ drop 10 a.buf.now in
    let room : 10 + length list ≤ length begun = search rules in
    let twelve : length made ≡ 12 = search rules in
    let ten : length (take 10 made) ≡ 10 = length-take-le 10 made (omega arith) in
    let long : length (record_of f list) ≡ 10 + a.list = end_length a.rollback a.tick a.slot.0 list ∙ ap (λ (n : ℕ). 10 + n) (sym c.requires.list_value.0) in
    let fronted : made ≡ filled 12 (front_of f (length list)) =
    c.front-front.ensures ∙ ap (λ (n : ℕ). filled 12 (front_of f n)) c.requires.list_value.0 in
    front_and_list f list made a.buf.now begun _ 10 (end_front a.rollback a.tick a.slot.0) fronted
    (ap (λ (x : List ℕ). x ++ drop 10 a.buf.now) (c.copy_from_slice.ensures.after ∙ sym (take-length (take 10 made)))
    ∙ ap (λ (n : ℕ). take (length (take 10 made)) (take 10 made) ++ drop n a.buf.now) (sym ten))
    (ap (λ (part : List ℕ). take 10 begun ++ (part ++ drop (length begun - 10) (drop 10 begun)))
    (c.entries.ensures ∙ ap (λ (x : List ℕ). x ++ drop (length list) (take (length begun - 10) (drop 10 begun))) (sym (take-length list)))
    ∙ part_filled begun list 10 room)
    (omega (arith, long, c.requires.list_value.2))
    ∙ ap (λ (n : ℕ). record_of f list ++ drop n a.buf.now) long
