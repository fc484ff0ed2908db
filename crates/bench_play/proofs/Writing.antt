-- The lines of records behind those that stand in the buffer already.
use Rattle.std.proofs.Common.{◌≡◌, ℕ, ◌+◌, ◌≤◌, List, ◌++◌, length, take, drop, sym, ap, ◌∙◌, append_assoc, add-zero, add_assoc, arith, length-append, length-drop, take-append-drop, length-take-le, drop-drop, take_at}
use lib.Seq.{drop-append-add}
use Rattle.bench_lines.specs.Buffers.{lent}
use Rattle.bench_play.specs.Bench.{Stage, Playing, not_played, played_before}
use Rattle.bench_play.specs.Pieces.{Written}

-- text in a buffer at a place where it has room
abbrev pub placed : List ℕ → ℕ → List ℕ → List ℕ
placed buffer at text = take at buffer ++ (text ++ drop (at + length text) buffer)

-- what is written when so many bytes are taken and used already
abbrev pub written_behind : List ℕ → ℕ → ℕ → Playing → Written
written_behind buffer taken used playing =
    record {
      stage = playing.stage;
      taken = taken + playing.taken;
      lines = lent (used + length playing.lines) (placed buffer used playing.lines);
    }

pub none_written : (buffer : List ℕ) (taken used : ℕ) (stage : Stage)
    → written_behind buffer taken used (not_played stage) ≡ record { stage = stage; taken = taken; lines = lent used buffer }
none_written buffer taken used stage =
    λ i.
    record {
      stage = stage;
      taken = add-zero taken i;
      lines = lent (add-zero used i) ((ap (λ (n : ℕ). take used buffer ++ drop n buffer) (add-zero used) ∙ take-append-drop used buffer) i);
    }

module _ (buffer line more : List ℕ) (used : ℕ) (fits : used + length line ≤ length buffer) where
  front : List ℕ
  front = take used buffer ++ line

  placed_front : placed buffer used line ≡ front ++ drop (used + length line) buffer
  unfolding front
  placed_front = sym (append_assoc (take used buffer) line (drop (used + length line) buffer))

  front_long : length front ≡ used + length line
  unfolding front
  front_long = length-append (take used buffer) line ∙ ap (λ (n : ℕ). n + length line) (length-take-le used buffer (omega arith))

  pub placed_long : length (placed buffer used line) ≡ length buffer
  placed_long =
      ap length placed_front
      ∙ length-append front (drop (used + length line) buffer)
      ∙ omega (arith, front_long, length-drop (used + length line) buffer)

  both_long : used + length (line ++ more) ≡ used + length line + length more
  both_long = ap (λ (n : ℕ). used + n) (length-append line more) ∙ sym (add_assoc used (length line) (length more))

  placed_behind : placed buffer used (line ++ more) ≡ placed (placed buffer used line) (used + length line) more
  unfolding front
  placed_behind =
      let n : ℕ = used + length line in
      let behind : List ℕ = drop n buffer in
      let rest : List ℕ = drop (n + length more) buffer in
      let taken : take n (placed buffer used line) ≡ front = ap (take n) placed_front ∙ take_at front behind n front_long in
      let left : drop (n + length more) (placed buffer used line) ≡ rest =
      ap (drop (n + length more)) placed_front
      ∙ ap (λ (k : ℕ). drop (k + length more) (front ++ behind)) (sym front_long)
      ∙ drop-append-add front behind (length more)
      ∙ drop-drop (length more) n buffer in
      ap (λ (k : ℕ). take used buffer ++ ((line ++ more) ++ drop k buffer)) both_long
      ∙ ap (λ (l : List ℕ). take used buffer ++ l) (append_assoc line more rest)
      ∙ sym (append_assoc (take used buffer) line (more ++ rest))
      ∙ (λ i. sym taken i ++ (more ++ sym left i))

pub one_written : (buffer : List ℕ) (taken used here : ℕ) (line : List ℕ) (rest : Playing) → used + length line ≤ length buffer
    → written_behind buffer taken used (played_before here line rest) ≡ written_behind (placed buffer used line) (taken + here) (used + length line) rest
one_written buffer taken used here line rest fits =
    λ i.
    record {
      stage = rest.stage;
      taken = sym (add_assoc taken here rest.taken) i;
      lines = lent (both_long buffer line rest.lines used fits i) (placed_behind buffer line rest.lines used fits i);
    }
