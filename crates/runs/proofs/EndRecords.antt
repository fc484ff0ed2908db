-- The record that an end writes: its length, its bytes, and that it reads back.
use Rattle.record_layout.specs.Reading.{read_as}
use Prim.Native.Nat.{ℕ, ◌+◌, ◌*◌, ◌/◌, ◌%◌, ◌<◌, ◌≤◌}
use mathlib.Core.Bool.{Bool, true, ◌&&◌}
use mathlib.Core.List.{List, [], ◌∷◌, ◌++◌, append-nil}
use mathlib.Core.Path.{◌≡◌, refl, sym, ap, subst, ◌∙◌}
use native.Mathlib.Omega.{arith}
use lib.ListN.{length, take, drop}
use lib.Seq.{take-append_seam}
use lib.Dec.{leb, eqb}
use borrow.Author.Tests.{le-leb, lt-ltb, eq-eqb}
use Rattle.counters.specs.Sizes.{Size}
use Rattle.counters.specs.Versions.{turnover}
use Rattle.record_layout.specs.Bytes.{half_bytes, word_bytes, word_of}
use Rattle.record_layout.specs.Serving.Beside.{end_beside}
use Rattle.record_layout.specs.Entries.{Entry, entries_of, rising_from}
use Rattle.record_layout.specs.Fields.{record_of}
use Rattle.record_layout.specs.Serving.Fitting.{Fit}
use Rattle.record_layout.specs.Kinds.{shape_of, body_limit}
use Rattle.record_layout.specs.Writing.{readable}
use Rattle.record_layout.specs.declared.kind.Kind.TheVariants.{Ended}
use Rattle.record_layout.specs.declared.fields.Fields.{Fields}
use Rattle.record_layout.proofs.LittleEndian.{word_again}
use Rattle.record_layout.proofs.Lengths.{length_record, readable_beside}
use Rattle.record_layout.proofs.ReadBack.{ReadsAs, written_reads_back}
use Rattle.record_order.specs.CommonObject.{Lists}
use Rattle.rules.specs.Tables.{State, pair_at}
use Rattle.rules.specs.Effects.{end_entries, end_fields, end_record}
use Rattle.rules.specs.Steps.{Outcome, end_step}
use Rattle.runs.specs.Demands.{room_for_end}
use Rattle.runs.specs.Companions.{declared_entries, ReadsBack}
use Rattle.runs.specs.Runs.{Within}
use Rattle.rules.proofs.Exactly.{end_comes}
use Rattle.runs.proofs.JoinedEntries.{below_length, below_short, below_read, below_rises, below_lists}

module _ (z : Size) (s : ℕ) (t : State) where
  entries_count : length (end_entries z s t) ≡ 5 * length (declared_entries z s t)
  entries_count = below_length (pair_at z t s) z.objects

  -- an entry of five bytes for each object at most
  pub entries_length : length (end_entries z s t) ≤ 5 * z.objects
  entries_length = omega (arith, entries_count, below_short (pair_at z t s) z.objects)

  -- a declared object is listed with its private version, and no other is
  pub declared_listed : (o : ℕ) → o < z.objects → (pair_at z t s o).declared ≡ true → Lists (declared_entries z s t) o (pair_at z t s o).private.0
  declared_listed o inside declared = (below_lists (pair_at z t s) z.objects o (pair_at z t s o).private.0).1 (inside, declared, refl)

  pub listed_declared : (o v : ℕ) → Lists (declared_entries z s t) o v
      → (o < z.objects) × ((pair_at z t s o).declared ≡ true) × ((pair_at z t s o).private.0 ≡ v)
  listed_declared o v listed = (below_lists (pair_at z t s) z.objects o v).0 listed

-- both ends have fields of one shape
module _ (s tick : ℕ) (list : List ℕ) where
  length_end : (rollback : Bool) → length (record_of (end_fields rollback tick s) list) ≡ 10 + length list
  length_end rollback = length_record (end_fields rollback tick s) list ∙ omega arith

  readable_end : (z : Size) (rollback : Bool)
      → readable z (end_fields rollback tick s) list
      ≡ (leb (6 + length list) (body_limit z) && (eqb (length list) (5 * (length list / 5)) && end_beside z (record { 0 = s }) list))
  readable_end z rollback = readable_beside z (end_fields rollback tick s) list

-- a word's bytes are those of its 32 low bits
word_wraps : (n : ℕ) → word_bytes (n % turnover) ≡ word_bytes n
word_wraps n =
    let same : n % turnover ≡ word_of (word_bytes n) = omega arith in
    ap word_bytes same
    ∙ word_again (n % 256) (n / 256 % 256) (n / 256 / 256 % 256) (n / 256 / 256 / 256 % 256) [] (omega arith) (omega arith) (omega arith) (omega arith)

-- so a record is that of the 32 low bits of its tick
tick_wraps : (rollback : Bool) (s tick : ℕ) (list : List ℕ)
    → record_of (end_fields rollback (tick % turnover) s) list ≡ record_of (end_fields rollback tick s) list
tick_wraps rollback s tick list = ap around (word_wraps tick)
  where
    around : List ℕ → List ℕ
    around bytes = half_bytes (6 + length list) ++ (half_bytes (shape_of (Ended rollback)).number ++ (bytes ++ (s ∷ length list / 5 ∷ []))) ++ list

-- R23: the record fits the room for an end
pub record_fits : (z : Size) (rollback : Bool) (s tick : ℕ) (t : State) → length (end_record z rollback s tick t) ≤ room_for_end z
record_fits z rollback s tick t = omega (arith, length_end s tick (end_entries z s t) rollback, entries_length z s t)

-- a slot with a declared object, and private versions of 32 bits
pub record Listing (z : Size) (t : State) (s : ℕ) : Type 0 where
  pub slot : s < z.slots
  pub some : ℕ
  pub inside : some < z.objects
  pub declared : (pair_at z t s some).declared ≡ true
  pub fits : (o : ℕ) → o < z.objects → (pair_at z t s o).private.0 < turnover

some_listed : (es : List Entry) (o v : ℕ) → Lists es o v → 0 < length es
some_listed [] o v listed = absurd listed
some_listed (e ∷ es) o v listed = omega arith

module _ {z : Size} {t : State} {s : ℕ} (lists : Listing z t s) where
  -- the bytes of the entries hold them
  pub entries_are : entries_of (end_entries z s t) ≡ declared_entries z s t
  entries_are =
      ap entries_of (sym (append-nil (end_entries z s t)))
      ∙ below_read (pair_at z t s) z.objects [] lists.fits
      ∙ append-nil (declared_entries z s t)

  entries_rise : rising_from z.objects 0 (entries_of (end_entries z s t)) ≡ true
  entries_rise =
      rw entries_are
      (rw (append-nil (declared_entries z s t)) at (below_rises (pair_at z t s) z.objects z.objects [] (omega arith) refl))

  end_readable : (rollback : Bool) (tick : ℕ) → readable z (end_fields rollback tick s) (end_entries z s t) ≡ true
  end_readable rollback tick =
      let bytes : ℕ = length (end_entries z s t) in
      let count : bytes ≡ 5 * length (declared_entries z s t) = entries_count z s t in
      let some : 0 < length (declared_entries z s t) =
      some_listed (declared_entries z s t) lists.some _ (declared_listed z s t lists.some lists.inside lists.declared) in
      readable_end s tick (end_entries z s t) z rollback
      ∙ rw (
        le-leb (6 + bytes) (body_limit z) (omega (arith, entries_length z s t)),
        eq-eqb bytes (5 * (bytes / 5)) (omega arith),
        lt-ltb s z.slots lists.slot,
        lt-ltb 0 (bytes / 5) (omega arith),
        entries_rise,
      )

-- the record reads back with its tick of 32 bits, whatever stands behind it
pub record_reads_back : (z : Size) → Within z → (t : State) (rollback : Bool) (s tick : ℕ) (rest : List ℕ) → Listing z t s
    → ReadsBack z t rollback s tick (end_record z rollback s tick t ++ rest)
record_reads_back z within t rollback s tick rest lists =
    let list : List ℕ = end_entries z s t in
    let fields : Fields = end_fields rollback (tick % turnover) s in
    let fit : Fit fields = (omega arith, omega (arith, lists.slot, within.slots)) in
    let reads : ReadsAs z (record_of fields list ++ rest) fields list =
    written_reads_back z fields list rest (omega (arith, within.objects)) fit (end_readable lists rollback (tick % turnover)) in
    subst (λ (bytes : List ℕ). ReadsBack z t rollback s tick (bytes ++ rest)) (tick_wraps rollback s tick list)
    (record {
      record_is = reads.record_is ∙ ap (read_as fields 10) (length_end s (tick % turnover) list rollback ∙ ap (λ (n : ℕ). 10 + n) (entries_count z s t));
      entries = ap entries_of reads.list_is ∙ entries_are lists;
    })

module _ (z : Size) (t : State) (rollback : Bool) (s tick : ℕ) (buffer : List ℕ) (done : (end_step z rollback t s tick buffer).reply.number ≡ 0) where
  -- an accepted end has its record at the buffer's first byte, and its value is the bytes written
  pub end_written : ((end_step z rollback t s tick buffer).buffer ≡ end_record z rollback s tick t ++ drop (length (end_record z rollback s tick t)) buffer)
      × ((end_step z rollback t s tick buffer).reply.value ≡ length (end_record z rollback s tick t))
  end_written =
      let comes = end_comes z t rollback s tick buffer done in
      (ap (λ (outcome : Outcome). outcome.buffer) comes, ap (λ (outcome : Outcome). outcome.reply.value) comes)

  -- so those bytes are the record
  pub written_bytes : take (end_step z rollback t s tick buffer).reply.value (end_step z rollback t s tick buffer).buffer ≡ end_record z rollback s tick t
  written_bytes =
      let written : List ℕ = end_record z rollback s tick t in
      (λ i. take (end_written.1 i) (end_written.0 i)) ∙ take-append_seam written (drop (length written) buffer)
