-- Equal tellings come from equal framings and equal readings: no second answer fits a promise on what is told.
use Rattle.answers.specs.declared.Refusal.{Refusal}
use Rattle.record_layout.specs.declared.kind.Kind.{Kind}
use Rattle.record_layout.specs.Reading.{read_as, framed_as, Framing, Reading}
use Rattle.std.specs.Prelude.{Option, Some, None, Ok, Err, Result}
use Prim.Native.Nat.{ℕ}
use mathlib.Core.Bool.{true, false}
use mathlib.Core.List.{List, [], ◌∷◌}
use mathlib.Core.Path.{◌≡◌, refl, sym, ap, ◌∙◌}
use lib.ListN.{get_or, drop}
use Rattle.answers.proofs.Tells.{answer_of, answer_back}
use Rattle.answers.specs.Numbers.{Answer}
use Rattle.record_layout.specs.Kinds.{shape_of, kind_of}
use Rattle.record_layout.specs.Fields.{kind_of_fields}
use Rattle.record_layout.specs.Telling.{Told, values_of, told_by_framing, told_by_reading}
use Rattle.record_layout.specs.declared.kind.Kind.TheVariants.{Fresh, Start, Call, Release, End, Ended}
use Rattle.record_layout.specs.declared.fields.Event.{Event}
use Rattle.record_layout.specs.declared.fields.Fields.{Fields}

abbrev at : List ℕ → ℕ → ℕ
at values place = get_or values place 0

-- the way back: the fields of a kind with these values
abbrev fields_from : Option Kind → List ℕ → Fields
fields_from (Some Fresh) v = Fields.Fresh (record { 0 = at v 0 })
fields_from (Some Start) v = Fields.Event (Event.Start (record { 0 = at v 0 }))
fields_from (Some Call) v = Fields.Event (Event.Call (record { 0 = at v 0 }) (record { 0 = at v 1 }) (at v 2) (at v 3))
fields_from (Some Release) v = Fields.Event (Event.Release (record { 0 = at v 0 }) (record { 0 = at v 1 }))
fields_from (Some (End rollback)) v = Fields.Event (Event.End (record { 0 = at v 0 }) (at v 1) rollback)
fields_from (Some (Ended rollback)) v = Fields.Ended (at v 0) (record { 0 = at v 1 }) rollback
fields_from None v = Fields.Fresh (record { 0 = 0 })

fields_back : (f : Fields) → fields_from (kind_of (shape_of (kind_of_fields f)).number) (values_of f) ≡ f
fields_back (Fields.Fresh first) = refl
fields_back (Fields.Event (Event.Start slot)) = refl
fields_back (Fields.Event (Event.Call slot object kind argument)) = refl
fields_back (Fields.Event (Event.Release slot object)) = refl
fields_back (Fields.Event (Event.End slot tick true)) = refl
fields_back (Fields.Event (Event.End slot tick false)) = refl
fields_back (Fields.Ended tick slot true) = refl
fields_back (Fields.Ended tick slot false) = refl

abbrev framing_from : Answer → List ℕ → Framing
framing_from (Ok v) values = framed_as (at values 0) (at values 1)
framing_from (Err refusal) values = Err refusal

abbrev reading_from : Answer → List ℕ → Reading
reading_from (Ok v) values = read_as (fields_from (kind_of (at values 2)) (drop 3 values)) (at values 0) (at values 1)
reading_from (Err refusal) values = Err refusal

abbrev answer : Told → Answer
answer told = answer_of (record { number = told.number; value = 0 })

framing_back : (f : Framing) → framing_from (answer (told_by_framing f)) (told_by_framing f).values ≡ f
unfolding told_by_framing
framing_back (Ok frame) = ap (λ (a : Answer). framing_from a (frame.length ∷ frame.number ∷ [])) (answer_back (Ok 0))
framing_back (Err refusal) = ap (λ (a : Answer). framing_from a []) (answer_back (Err refusal))

reading_back : (r : Reading) → reading_from (answer (told_by_reading r)) (told_by_reading r).values ≡ r
unfolding told_by_reading
reading_back (Ok read) =
    ap (λ (a : Answer). reading_from a (read.list ∷ read.taken ∷ (shape_of (kind_of_fields read.fields)).number ∷ values_of read.fields)) (answer_back (Ok 0))
    ∙ ap (λ (f : Fields). read_as f read.list read.taken) (fields_back read.fields)
reading_back (Err refusal) = ap (λ (a : Answer). reading_from a []) (answer_back (Err refusal))

pub framing_tells : (f g : Framing) → told_by_framing f ≡ told_by_framing g → f ≡ g
framing_tells f g same = sym (framing_back f) ∙ ap (λ (told : Told). framing_from (answer told) told.values) same ∙ framing_back g

pub reading_tells : (r s : Reading) → told_by_reading r ≡ told_by_reading s → r ≡ s
reading_tells r s same = sym (reading_back r) ∙ ap (λ (told : Told). reading_from (answer told) told.values) same ∙ reading_back s

result_or : {A : Type 0} → A → Result A Refusal → A
result_or otherwise (Ok a) = a
result_or otherwise (Err refusal) = otherwise

-- equal frames, or equal records, stand in equal framings and readings
pub within_ok : {A : Type 0} (a b : A) → ◌≡◌ {A = Result A Refusal} (Ok a) (Ok b) → a ≡ b
unfolding result_or
within_ok a b same = ap (result_or a) same
