-- Two copies: the frame, and behind it the head in front of what is left of the zeros.
use Rattle.std.proofs.Common.{◌≡◌, ◌≤◌, ◌+◌, ◌-◌, ◌++◌, ℕ, List, length, take, drop, arith, ap, ◌∙◌, append_assoc, length-append}
use Rattle.std.proofs.Math.ListN.{replicate}
use Rattle.std.proofs.Math.Seq.{take_at, drop_at}
use Rattle.std.proofs.lemmas.List.{drop-replicate, length-take-le}
use Rattle.record_front.specs.Serving.Filled.{filled}
use Rattle.record_front.proofs.heads.behind.Goals as goal

put : (frame head : List ℕ) (n : ℕ) → length frame ≡ 4 → n ≤ 8 → length head ≡ length (take n (drop 4 (frame ++ replicate 8 0)))
    → take 4 (frame ++ replicate 8 0) ++ (head ++ drop n (drop 4 (frame ++ replicate 8 0))) ≡ filled 12 (frame ++ head)
put frame head n four few long =
    let behind : drop 4 (frame ++ replicate 8 0) ≡ replicate 8 0 = drop_at frame (replicate 8 0) 4 four in
    let counted : length head ≡ n = long ∙ ap (λ (z : List ℕ). length (take n z)) behind ∙ length-take-le n (replicate 8 0) few in
    let fewer : 12 - length (frame ++ head) ≡ 8 - n = simp length-append (omega arith) in
    rw (take_at frame (replicate 8 0) 4 four, behind, drop-replicate {X = ℕ} n 8 0, fewer, append_assoc)

pub returns : goal.returns
returns g c =
    let made = put c.copy_from_slice.new.self c.copy_from_slice-2.new.self (4 + g.row.N - 4) c.copy_from_slice.ensures.len (omega arith) c.copy_from_slice-2.ensures.len in
    made ∙ rw (c.copy_from_slice.ensures.after, c.copy_from_slice-2.ensures.after)
