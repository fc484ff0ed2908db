-- A reading refuses by one refusal alone.
use Rattle.record_layout.specs.declared.kind.Kind.{Kind}
use Rattle.record_layout.specs.Reading.{read_as, kind_field, frame_rules, body_rules, body, reading_of, reading, Reading}
use Rattle.std.specs.Prelude.{Option, Some, None, Err, Ok}
use Prim.Native.Nat.{ℕ, ◌+◌}
use lib.ListN.{length}
use mathlib.Core.Bool.{Bool, true, false}
use mathlib.Core.List.{List, [], ◌∷◌}
use mathlib.Core.Path.{◌≡◌, refl, subst}
use Rattle.answers.specs.Order.{Rule, pick, decide}
use Rattle.answers.specs.declared.Refusal.{Refusal}
use Rattle.answers.specs.declared.Refusal.TheVariants.{BadRecord}
use Rattle.counters.specs.Sizes.{Size}
use Rattle.record_layout.specs.Kinds.{kind_of}
use Rattle.record_layout.specs.Fields.{fields_of, list_place}

abbrev OnlyBad : Reading → Type 0
OnlyBad (Ok read) = Unit {0}
OnlyBad (Err refusal) = refusal ≡ BadRecord

AllBad : List Rule → Type 0
AllBad [] = Unit {0}
AllBad (rule ∷ rules) = (rule.refusal ≡ BadRecord) × AllBad rules

decide_bad : (rules : List Rule) (r : Reading) → AllBad rules → OnlyBad r → OnlyBad (decide rules Err r)
unfolding AllBad
decide_bad [] r all bad = bad
decide_bad (rule ∷ rules) r all bad = go rule.holds (decide_bad rules r all.1 bad)
  where
    go : (test : Bool) → OnlyBad (decide rules Err r) → OnlyBad (pick test (Err rule.refusal) (decide rules Err r))
    go true rest = all.0
    go false rest = rest

found_bad : (z : Size) (found : Option Kind) (b : List ℕ) → OnlyBad (reading_of z found b)
unfolding AllBad
found_bad z (Some k) b = decide_bad (body_rules z k b) (read_as (fields_of k b) (list_place k) (4 + length b)) (refl, (refl, tt)) tt
found_bad z None b = refl

pub only_bad_record : (z : Size) (s : List ℕ) (refusal : Refusal) → reading z s ≡ Err refusal → refusal ≡ BadRecord
unfolding AllBad
only_bad_record z s refusal e =
    let found : Reading = reading_of z (kind_of (kind_field s)) (body z s) in
    subst OnlyBad e (decide_bad (frame_rules z s) found (refl, (refl, (refl, tt))) (found_bad z (kind_of (kind_field s)) (body z s)))
