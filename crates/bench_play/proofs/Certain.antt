-- No byte behind a piece changes what is read in front of it, where the record there is certain to be whole.
use Rattle.record_layout.specs.Reading.{length_field, kind_field, frame_rules, body, reading_of, reading, list_in, listing, Reading}
use Rattle.std.specs.Prelude.{Err, Ok}
use Rattle.std.proofs.Common.{◌≡◌, ℕ, ◌+◌, ◌-◌, ◌≤◌, Bool, true, false, ltb, List, [], ◌++◌, length, take, drop, sym, refl, ap, ◌∙◌, append-nil, arith, length-append, length-drop, ltb-false, le-ltb, lt-ltb}
use lib.ListN.{get_or-append}
use lib.Seq.{take-append-le, drop-append-le}
use Rattle.std.proofs.lemmas.Bool.Decides.{nat_tests}
use Rattle.answers.proofs.Deciding.{NoneHolds, passed}
use Rattle.answers.specs.Order.{pick, decide}
use Rattle.answers.specs.declared.Refusal.{Refusal}
use Rattle.answers.specs.declared.Refusal.TheVariants.{BadRecord}
use Rattle.counters.specs.Sizes.{Size, base}
use Rattle.record_layout.specs.Bytes.{half_of}
use Rattle.record_layout.specs.Kinds.{kind_of, body_limit}
use Rattle.record_layout.proofs.WriteBack.{list_inside, taken_inside}
use Rattle.bench_records.specs.Records.{first_read, next_read}
use Rattle.bench_play.specs.Bench.{Stage, answer_at}
use Rattle.bench_play.specs.Pieces.{whole, certain}

half_same : (piece rest : List ℕ) → 2 ≤ length piece → half_of (piece ++ rest) ≡ half_of piece
half_same piece rest h = rw (get_or-append piece rest 0 0 (omega arith), get_or-append piece rest 0 1 (omega arith))

-- the frame is there, and the body unless its length is over the limit
pub record Enough (z : Size) (s : List ℕ) : Type 0 where
  pub framed : 4 ≤ length s
  pub bodied : length_field s ≤ body_limit z → 4 + length_field s ≤ length s

passes : (z : Size) (s : List ℕ) → Enough z s → length_field s ≤ body_limit z → NoneHolds (frame_rules z s)
passes z s enough short =
    (le-ltb (length s) 4 enough.framed, (le-ltb (body_limit z) (length_field s) short, (le-ltb (length s) (4 + length_field s) (enough.bodied short), tt)))

too_long : {A : Type 0} (z : Size) (s : List ℕ) (refuse : Refusal → A) (accept : A)
    → 4 ≤ length s → ltb (body_limit z) (length_field s) ≡ true → decide (frame_rules z s) refuse accept ≡ refuse BadRecord
too_long z s refuse accept enough long = rw (le-ltb (length s) 4 enough, long)

module _ (z : Size) (piece rest : List ℕ) (enough : Enough z piece) where
  abbrev s : List ℕ
  s = piece ++ rest

  framed : 4 ≤ length piece
  framed = enough.framed

  length_same : length_field s ≡ length_field piece
  length_same = half_same piece rest (omega (arith, framed))

  also_enough : Enough z s
  also_enough =
      record {
        framed = simp length-append (omega (arith, framed));
        bodied = λ short. simp length-append (omega (arith, length_same, enough.bodied (omega (arith, length_same, short))));
      }

  kind_same : kind_field s ≡ kind_field piece
  kind_same =
      ap half_of (drop-append-le 2 piece rest (omega (arith, framed))) ∙ half_same (drop 2 piece) rest (omega (arith, framed, length-drop 2 piece))

  decide_same : {A : Type 0} (refuse : Refusal → A) (x y : A) → (length_field piece ≤ body_limit z → x ≡ y)
      → decide (frame_rules z s) refuse x ≡ decide (frame_rules z piece) refuse y
  decide_same {A} refuse x y same = go (ltb (body_limit z) (length_field piece)) refl
    where
      go : (long : Bool) → ltb (body_limit z) (length_field piece) ≡ long → decide (frame_rules z s) refuse x ≡ decide (frame_rules z piece) refuse y
      go true e =
          too_long z s refuse x also_enough.framed (ap (ltb (body_limit z)) length_same ∙ e) ∙ sym (too_long z piece refuse y framed e)
      go false e =
          let short : length_field piece ≤ body_limit z = ltb-false (body_limit z) (length_field piece) e in
          passed (frame_rules z s) refuse x (passes z s also_enough (rw length_same short))
          ∙ same short
          ∙ sym (passed (frame_rules z piece) refuse y (passes z piece enough short))

  body_same : body z s ≡ body z piece
  body_same =
      decide_same (λ refusal. []) (take (length_field s) (drop 4 s)) (take (length_field piece) (drop 4 piece))
      (λ short. ap (λ (n : ℕ). take n (drop 4 s)) length_same
      ∙ ap (take (length_field piece)) (drop-append-le 4 piece rest framed)
      ∙ take-append-le (length_field piece) (drop 4 piece) rest (omega (arith, enough.bodied short, length-drop 4 piece)))

  reading_same : reading z s ≡ reading z piece
  reading_same =
      decide_same Err (reading_of z (kind_of (kind_field s)) (body z s)) (reading_of z (kind_of (kind_field piece)) (body z piece))
      (λ short i. reading_of z (kind_of (kind_same i)) (body_same i))

  list_same : listing z s ≡ listing z piece
  list_same = ap (λ (read : Reading). list_in read s) reading_same ∙ go (reading z piece) refl
    where
      go : (read : Reading) → reading z piece ≡ read → list_in read s ≡ list_in read piece
      go (Ok read) e =
          let there : read.list ≤ read.taken = list_inside z piece read.fields read.list read.taken e in
          let inside : read.taken ≤ length piece = taken_inside z piece read.fields read.list read.taken e in
          ap (take (read.taken - read.list)) (drop-append-le read.list piece rest (omega arith))
          ∙ take-append-le (read.taken - read.list) (drop read.list piece) rest (omega (arith, length-drop read.list piece))
      go (Err refusal) e = refl

  prints_same : ltb 0 (length s) ≡ ltb 0 (length piece)
  prints_same = lt-ltb 0 (length s) (omega (arith, also_enough.framed)) ∙ sym (lt-ltb 0 (length piece) (omega (arith, framed)))

  -- the first record and one behind it alike
  answer_same : (stage : Stage) → answer_at z stage (piece ++ rest) ≡ answer_at z stage piece
  answer_same stage =
      λ i. pick stage.begun (next_read z stage.tables (reading_same i) (list_same i) (prints_same i)) (first_read z (reading_same i) (list_same i))

whole_enough : (z : Size) (bytes : List ℕ) → whole z bytes ≡ true → Enough z bytes
whole_enough z bytes all = record { framed = grind (arith, nat_tests); bodied = λ fits. grind (arith, nat_tests) }

-- what is certain in a piece is what the whole input gives; behind the end of the input there is nothing
pub certain_same : (ended : Bool) (stage : Stage) (piece rest : List ℕ) → certain base ended piece ≡ true → (ended ≡ true → rest ≡ [])
    → answer_at base stage (piece ++ rest) ≡ answer_at base stage piece
certain_same true stage piece rest sure last = ap (λ (l : List ℕ). answer_at base stage (piece ++ l)) (last refl) ∙ ap (answer_at base stage) (append-nil piece)
certain_same false stage piece rest sure last = answer_same base piece rest (whole_enough base piece sure) stage
