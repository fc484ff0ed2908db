-- R32: what a writer gives for fields, a list and a buffer.
use Rattle.std.specs.Prelude.{ℕ, Bool, not, ◌&&◌, List, [], ◌∷◌, ◌++◌, length, drop, leb, ltb, eqb}
use Rattle.answers.specs.Numbers.{reply_of, accepted, refused, Answer}
use Rattle.answers.specs.declared.Reply.{Reply}
use Rattle.answers.specs.Order.{Rule, decide, ◌when◌}
use Rattle.answers.specs.declared.Refusal.TheVariants.{NoRoom, BadRecord}
use Rattle.counters.specs.Sizes.{Size}
use Rattle.record_layout.specs.Kinds.{body_length, body_limit}
use Rattle.record_layout.specs.Fields.{kind_of_fields, body_of, record_of}
use Rattle.record_layout.specs.Reading.{content_right}
use Rattle.record_layout.specs.declared.fields.Fields.{Fields}

-- whether fields and list make a readable record: the last checks of reading, on the body that they make
abbrev pub readable : Size → Fields → List ℕ → Bool
readable z f list =
    leb (length (body_of f list)) (body_limit z)
    && (eqb (length (body_of f list)) (body_length z (kind_of_fields f) (body_of f list)) && content_right z (kind_of_fields f) (body_of f list))

-- what a caller sees of a writer: the reply, and all of its buffer
pub record Written : Type 0 where
  pub reply : Reply
  pub buffer : List ℕ

abbrev pub written : Answer → List ℕ → Written
written answer buffer = record { reply = reply_of answer; buffer = buffer }

abbrev pub writing_rules : Size → Fields → List ℕ → List ℕ → List Rule
writing_rules z f list buffer =
    BadRecord when not (readable z f list)
    ∷ NoRoom when ltb (length buffer) (length (record_of f list))
    ∷ []

-- a refusal leaves the buffer; else the record stands in front of it, and the value is its bytes
abbrev pub writing : Size → Fields → List ℕ → List ℕ → Written
writing z f list buffer =
    decide (writing_rules z f list buffer)
    (λ refusal. record { reply = refused refusal; buffer = buffer })
    (record { reply = accepted (length (record_of f list)); buffer = record_of f list ++ drop (length (record_of f list)) buffer })
