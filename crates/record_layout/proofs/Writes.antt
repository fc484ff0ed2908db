-- Writing: which refusal is given, that it leaves every byte, and that what is accepted reads back.
use Rattle.record_layout.specs.Reading.{read_as, reading, listing}
use Prim.Native.Nat.{ℕ, ◌≤◌, ◌<◌}
use mathlib.Core.Bool.{Bool, true, false}
use mathlib.Core.List.{List, ◌++◌}
use mathlib.Core.Logic.{◌⊎◌, inl, inr}
use mathlib.Core.Path.{◌≡◌, refl, sym, ap, ◌∙◌}
use native.Mathlib.Omega.{arith}
use lib.ListN.{length, take, drop}
use lib.Seq.{take-append_seam}
use lib.Dec.{ltb}
use borrow.Author.Tests.{lt-ltb, le-ltb, ltb-true, ltb-false}
use Rattle.answers.specs.Numbers.{accepted, refused}
use Rattle.answers.specs.declared.Refusal.{Refusal}
use Rattle.answers.proofs.Deciding.{Accepts, OneHolds, decided}
use Rattle.counters.specs.Sizes.{Size}
use Rattle.record_layout.specs.Bytes.{AreBytes}
use Rattle.record_layout.specs.Kinds.{body_limit}
use Rattle.record_layout.specs.Fields.{record_of}
use Rattle.record_layout.specs.Serving.Fitting.{Fit}
use Rattle.record_layout.specs.Writing.{Written, readable, writing_rules, writing}
use Rattle.record_layout.specs.declared.fields.Fields.{Fields}
use Rattle.record_layout.proofs.ReadBack.{ReadsAs, written_reads_back}
use Rattle.record_layout.proofs.WriteBack.{read_is_written}

module _ (z : Size) (f : Fields) (list buffer : List ℕ) where
  -- R32: fields that make no readable record are refused by 12
  pub unreadable_refused : readable z f list ≡ false
      → writing z f list buffer ≡ record { reply = record { number = 12; value = 0 }; buffer = buffer }
  unreadable_refused unreadable = rw unreadable

  -- then a short buffer by 11
  pub short_refused : readable z f list ≡ true → length buffer < length (record_of f list)
      → writing z f list buffer ≡ record { reply = record { number = 11; value = 0 }; buffer = buffer }
  short_refused reads short = rw (reads, lt-ltb (length buffer) (length (record_of f list)) short)

  -- and else the record stands in front of what the buffer held
  pub room_accepted : readable z f list ≡ true → length (record_of f list) ≤ length buffer
      → writing z f list buffer
      ≡ record {
        reply = record { number = 0; value = length (record_of f list) };
        buffer = record_of f list ++ drop (length (record_of f list)) buffer;
      }
  room_accepted reads room = rw (reads, le-ltb (length buffer) (length (record_of f list)) room)

  -- R11: a refusal has value 0 and leaves every byte
  pub refusal_leaves_all : ((writing z f list buffer).reply.number ≡ 0 → ⊥)
      → ((writing z f list buffer).reply.value ≡ 0) × ((writing z f list buffer).buffer ≡ buffer)
  refusal_leaves_all refuses = go (decided (writing_rules z f list buffer))
    where
      left : Refusal → Written
      left refusal = record { reply = refused refusal; buffer = buffer }

      made : Written
      made = record { reply = accepted (length (record_of f list)); buffer = record_of f list ++ drop (length (record_of f list)) buffer }

      go : Accepts (writing_rules z f list buffer) ⊎ OneHolds (writing_rules z f list buffer)
          → ((writing z f list buffer).reply.value ≡ 0) × ((writing z f list buffer).buffer ≡ buffer)
      go (inl accepts) = absurd (refuses (ap (λ (w : Written). w.reply.number) (accepts.gives left made)))
      go (inr refuses) =
          let same = refuses.gives left made in
          (ap (λ (w : Written). w.reply.value) same, ap (λ (w : Written). w.buffer) same)

  -- what is accepted is readable and has room
  pub accepted_has : (writing z f list buffer).reply.number ≡ 0 → (readable z f list ≡ true) × (length (record_of f list) ≤ length buffer)
  accepted_has zero = (reads (readable z f list) refl, room (ltb (length buffer) (length (record_of f list))) refl)
    where
      reads : (t : Bool) → readable z f list ≡ t → readable z f list ≡ true
      reads true e = e
      reads false e =
          let twelve = ap (λ (w : Written). w.reply.number) (unreadable_refused e) in
          absurd (omega arith)

      room : (t : Bool) → ltb (length buffer) (length (record_of f list)) ≡ t → length (record_of f list) ≤ length buffer
      room true e =
          let short = ltb-true (length buffer) (length (record_of f list)) e in
          let eleven = ap (λ (w : Written). w.reply.number) (short_refused (reads (readable z f list) refl) short) in
          absurd (omega arith)
      room false e = ltb-false (length buffer) (length (record_of f list)) e

  -- what a writer accepts reads back from its buffer
  pub accepted_reads_back : body_limit z < 65536 → Fit f → (writing z f list buffer).reply.number ≡ 0
      → ReadsAs z (writing z f list buffer).buffer f list
  accepted_reads_back small fit zero =
      let has = accepted_has zero in
      rw (room_accepted has.0 has.1) (written_reads_back z f list (drop (length (record_of f list)) buffer) small fit has.0)

-- what reads writes again the bytes that it was read from
pub read_writes_again : (z : Size) (s : List ℕ) (f : Fields) (at taken : ℕ) (buffer : List ℕ) → AreBytes s → reading z s ≡ read_as f at taken
    → let n : ℕ = length (record_of f (listing z s)) in
    n ≤ length buffer → writing z f (listing z s) buffer ≡ record { reply = accepted n; buffer = take n s ++ drop n buffer }
read_writes_again z s f at taken buffer bytes read room =
    let written : List ℕ = record_of f (listing z s) in
    let n : ℕ = length written in
    let is = read_is_written z s f at taken read bytes in
    let front : written ≡ take n s = sym (ap (take n) is.1 ∙ take-append_seam written (drop n s)) in
    room_accepted z f (listing z s) buffer is.0 room
    ∙ ap (λ (x : List ℕ). record { reply = accepted n; buffer = x ++ drop n buffer }) front
