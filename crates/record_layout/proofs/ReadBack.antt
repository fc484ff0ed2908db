-- What is written reads back as its fields and its list, whatever bytes stand behind.
use Rattle.record_layout.specs.Reading.{read_as, body_rules, body_reading, reading_of, reading, list_in, listing, Reading}
use Rattle.std.specs.Prelude.{Option, Some, Err}
use Prim.Native.Nat.{ℕ, ◌+◌, ◌-◌, ◌/◌, ◌<◌}
use mathlib.Core.Bool.{true, false}
use mathlib.Core.List.{List, ◌∷◌, ◌++◌, append_assoc}
use mathlib.Core.Path.{◌≡◌, refl, sym, ap, ◌∙◌}
use native.Mathlib.Nat.{add-sub_cancel_left}
use native.Mathlib.Omega.{arith}
use lib.ListN.{length, take, drop, length-append}
use lib.Seq.{take_at, drop_at}
use Rattle.answers.proofs.Deciding.{passed}
use Rattle.counters.specs.Sizes.{Size}
use Rattle.record_layout.specs.Bytes.{half_bytes, half_of}
use Rattle.record_layout.specs.Kinds.{shape_of, kind_of, body_limit}
use Rattle.record_layout.specs.Fields.{fields_of, kind_of_event, kind_of_fields, event_head, body_of, list_place, front_of, record_of}
use Rattle.record_layout.specs.Serving.Fitting.{Fit, FitEvent}
use Rattle.record_layout.specs.Writing.{readable}
use Rattle.record_layout.specs.declared.kind.Kind.{Kind}
use Rattle.record_layout.specs.declared.kind.Kind.TheVariants.{Fresh, Start, Call, Release, End, Ended}
use Rattle.record_layout.specs.declared.fields.Event.{Event}
use Rattle.record_layout.specs.declared.fields.Fields.{Fields}
use Rattle.record_layout.proofs.Checks.{BodyFits, fits_body}
use Rattle.record_layout.proofs.LittleEndian.{word_back}
use Rattle.record_layout.proofs.Lengths.{length_front, length_body, length_record}
use Rattle.record_layout.proofs.Readable.{IsRight, readable_right}
use Rattle.record_layout.proofs.Frames.{framed, frame_reading}

-- bytes that read as these fields, with this list, take this many bytes
pub record ReadsAs (z : Size) (s : List ℕ) (f : Fields) (list : List ℕ) : Type 0 where
  pub record_is : reading z s ≡ read_as f (list_place (kind_of_fields f)) (length (record_of f list))
  pub list_is : listing z s ≡ list

kind_back : (k : Kind) (behind : List ℕ) → kind_of (half_of (half_bytes (shape_of k).number ++ behind)) ≡ Some k
kind_back Fresh behind = refl
kind_back Start behind = refl
kind_back Call behind = refl
kind_back Release behind = refl
kind_back (End false) behind = refl
kind_back (End true) behind = refl
kind_back (Ended false) behind = refl
kind_back (Ended true) behind = refl

fields_back : (f : Fields) (list : List ℕ) → Fit f → fields_of (kind_of_fields f) (body_of f list) ≡ f
fields_back (Fields.Fresh first) list fit = rw (word_back first.0 list fit)
fields_back (Fields.Event event) list fit = go event fit
  where
    go : (e : Event) → FitEvent e → fields_of (kind_of_event e) (event_head e (length list) ++ list) ≡ Fields.Event e
    go (Event.Start slot) fit = refl
    go (Event.Call slot object kind argument) fit = rw (word_back argument list fit.3)
    go (Event.Release slot object) fit = refl
    go (Event.End slot tick rollback) fit = rw (word_back tick list fit.1)
fields_back (Fields.Ended tick slot rollback) list fit = rw (word_back tick (slot.0 ∷ length list / 5 ∷ list) fit.0)

body_reads : (z : Size) (f : Fields) (list : List ℕ) → Fit f → BodyFits z (kind_of_fields f) (body_of f list)
    → body_reading z (kind_of_fields f) (body_of f list) ≡ read_as f (list_place (kind_of_fields f)) (4 + length (body_of f list))
body_reads z f list fit fits =
    let k : Kind = kind_of_fields f in
    let b : List ℕ = body_of f list in
    passed (body_rules z k b) Err (read_as (fields_of k b) (list_place k) (4 + length b)) (fits_body z k b fits)
    ∙ ap (λ (g : Fields). read_as g (list_place k) (4 + length b)) (fields_back f list fit)

-- the list of a record, found by its place and by where the record ends
list_taken : (f : Fields) (list rest : List ℕ)
    → take (length (record_of f list) - list_place (kind_of_fields f)) (drop (list_place (kind_of_fields f)) (record_of f list ++ rest)) ≡ list
list_taken f list rest =
    let front : List ℕ = front_of f (length list) in
    let at : ℕ = list_place (kind_of_fields f) in
    let long : length (record_of f list) ≡ at + length list = length-append front list ∙ rw (length_front f (length list)) in
    ap (λ (s : List ℕ). take (length (record_of f list) - at) (drop at s)) (append_assoc front list rest)
    ∙ ap (take (length (record_of f list) - at)) (drop_at front (list ++ rest) at (length_front f (length list)))
    ∙ take_at list rest (length (record_of f list) - at) (sym (ap (λ (n : ℕ). n - at) long ∙ add-sub_cancel_left at (length list)))

-- what is written reads back as its fields and its list, whatever bytes stand behind
pub written_reads_back : (z : Size) (f : Fields) (list rest : List ℕ) → body_limit z < 65536 → Fit f → readable z f list ≡ true
    → ReadsAs z (record_of f list ++ rest) f list
written_reads_back z f list rest small fit reads =
    let b : List ℕ = body_of f list in
    let k : Kind = kind_of_fields f in
    let number : ℕ = (shape_of k).number in
    let right : IsRight z k b = readable_right z f list reads in
    let told : reading z (framed (length b) number (b ++ rest)) ≡ read_as f (list_place k) (4 + length b) =
    frame_reading z number b rest right.short small
    ∙ ap (λ (found : Option Kind). reading_of z found b) (kind_back k (b ++ rest))
    ∙ body_reads z f list fit right.fits in
    let all : record_of f list ++ rest ≡ framed (length b) number (b ++ rest) = ap (λ (bytes : ℕ). framed bytes number (b ++ rest)) (sym (length_body f list)) in
    let record_is : reading z (record_of f list ++ rest) ≡ read_as f (list_place k) (length (record_of f list)) =
    ap (reading z) all ∙ told ∙ ap (read_as f (list_place k)) (omega (arith, length_body f list, length_record f list)) in
    record { record_is = record_is; list_is = ap (λ (r : Reading). list_in r (record_of f list ++ rest)) record_is ∙ list_taken f list rest }
