-- No second answer fits a step's promise: what is told of it fixes every word, byte and mark, the answer, and every byte of the buffer.
use Prim.Native.Nat.{ℕ}
use mathlib.Core.List.{List}
use mathlib.Core.Path.{◌≡◌, ap}
use Rattle.answers.proofs.Tells.{reply_tells}
use Rattle.counters.specs.Sizes.{base}
use Rattle.rules.specs.Steps.{Stepping, Outcome}
use Rattle.tables.specs.Places.{Fits}
use Rattle.tables.proofs.OneToOne.{one_to_one}
use Rattle.machine.specs.Views.{view, told, told_with}
use Rattle.machine.specs.declared.Tables.{Tables}
use Rattle.machine.specs.declared.Stepped.{Stepped}

-- arrays of the lengths that the type gives them
abbrev pub Typed : Tables → Type 0
Typed t = Fits base t.words t.bytes t.marks

pub view_tells : (t other : Tables) → Typed t → Typed other → view t ≡ view other → t ≡ other
view_tells t other right right' e =
    let same = one_to_one base t.words other.words t.bytes other.bytes t.marks other.marks e right right' in
    λ i. record { words = same.0 i; bytes = same.1 i; marks = same.2 i }

pub told_tells : (r other : Stepped) → Typed r.tables → Typed other.tables → told r ≡ told other → r ≡ other
told_tells r other right right' e =
    λ i.
    record {
      tables = view_tells r.tables other.tables right right' (ap (λ (s : Stepping). s.tables) e) i;
      answer = reply_tells r.answer other.answer (ap (λ (s : Stepping). s.reply) e) i;
    }

pub told_with_tells : (r other : Stepped) (left right : List ℕ) → Typed r.tables → Typed other.tables → told_with r left ≡ told_with other right
    → (r ≡ other) × (left ≡ right)
told_with_tells r other left right typed typed' e =
    (told_tells r other typed typed' (λ i. record { tables = (e i).tables; reply = (e i).reply }), ap (λ (o : Outcome). o.buffer) e)
