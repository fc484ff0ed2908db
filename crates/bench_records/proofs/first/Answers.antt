-- What was read tells as the reading does, so it is the reading, and the first record gives what that reading gives.
use Rattle.std.specs.Prelude.{Ok}
use Rattle.std.proofs.Common.{◌≡◌, ℕ, List, length, refl, sym, ap, ◌∙◌}
use Rattle.answers.specs.declared.Refusal.TheVariants.{BadRecord}
use Rattle.counters.specs.Sizes.{base}
use Rattle.counters.specs.declared.Version.{Version}
use Rattle.record_layout.proofs.Telling.{reading_tells}
use Rattle.record_layout.proofs.WriteBack.{list_long}
use Rattle.record_layout.specs.Reading.{read_as, reading, list_in, Reading}
use Rattle.record_layout.specs.declared.fields.Fields.{Fields}
use Rattle.record_layout.specs.declared.fields.Record.{Record}
use Rattle.bench_records.specs.Records.{begins_with, not_fresh, first_fields, first_read, first_step}
use Rattle.bench_records.proofs.first.Goals as goal

-- what the first record gives, by what it reads as
known : (bytes : List ℕ) (r : Reading) → reading base bytes ≡ r → first_read base r (list_in r bytes) ≡ first_step base bytes
known bytes r e = sym (ap (λ (r : Reading). first_read base r (list_in r bytes)) e)

-- any other record than a fresh one is refused
not_opened : (r : Record) (list : List ℕ) → ((first : Version) → r.fields ≡ Fields.Fresh first → ⊥) → not_fresh base BadRecord ≡ first_read base (Ok r) list
not_opened r list other = go r.fields (λ first e. other first e)
  where
    go : (fields : Fields) → ((first : Version) → fields ≡ Fields.Fresh first → ⊥) → not_fresh base BadRecord ≡ first_fields base fields list r.taken
    go (Fields.Fresh first) other = absurd (other first refl)
    go (Fields.Event event) other = refl
    go (Fields.Ended tick slot rollback) other = refl

pub returns-in-Err : goal.returns-in-Err
returns-in-Err c = c.not_fresh.ensures ∙ known c.args.bytes.now _ (sym (reading_tells _ _ c.read-read.ensures) ∙ c.in-Err.is)

pub returns-in_default : goal.returns-in_default
returns-in_default c =
    let bytes = c.args.bytes.now in
    let record_is = sym (reading_tells _ _ c.read-read.ensures) ∙ c.in-Ok.is in
    c.not_fresh-in_default.ensures ∙ not_opened c.in-Ok.record (list_in (Ok c.in-Ok.record) bytes) c.in_default.not-Fresh ∙ known bytes _ record_is

-- the record with the fields that it is matched as
as_fresh : (r : Record) (first : Version) → r.fields ≡ Fields.Fresh first → ◌≡◌ {A = Reading} (Ok r) (read_as (Fields.Fresh first) r.list r.taken)
as_fresh r first e = ap (λ (f : Fields). read_as f r.list r.taken) e

pub fresh-requires : goal.fresh-requires
fresh-requires c =
    let s = c.args.bytes.now in
    let e = sym (reading_tells _ _ c.read-read.ensures) ∙ c.in-Ok.is ∙ as_fresh _ _ c.in-Fresh.is in
    ap length c.list_of-list.ensures.bytes ∙ sym (ap (λ (r : Reading). length (list_in r s)) e) ∙ list_long base s _ _ _ e

pub returns : goal.returns
returns c =
    c.fresh.ensures
    ∙ ap (λ (list : List ℕ). begins_with base c.in-Fresh.first list c.in-Ok.record.taken) c.list_of-list.ensures.bytes
    ∙ known c.args.bytes.now _ (sym (reading_tells _ _ c.read-read.ensures) ∙ c.in-Ok.is ∙ as_fresh _ _ c.in-Fresh.is)
