-- The rules' equation fixes the pump's memory to the last mark: no second filling fits it, and a refusal leaves every word, byte and mark.
use Prim.Native.Nat.{ℕ}
use mathlib.Core.Bool.{Bool}
use mathlib.Core.List.{List}
use mathlib.Core.Logic.{◌≢◌}
use mathlib.Core.Path.{◌≡◌, ap, ◌∙◌}
use Rattle.answers.proofs.Tells.{reply_tells}
use Rattle.answers.specs.Numbers.{reply_of, Answer}
use Rattle.counters.specs.Sizes.{base}
use Rattle.record_layout.specs.declared.fields.Fields.{Fields}
use Rattle.rules.specs.Steps.{Outcome, fields_step, record_step}
use Rattle.rules.proofs.Refused.{AllUnchanged, fields_refused, record_refused}
use Rattle.tables.specs.Places.{Fits}
use Rattle.tables.proofs.OneToOne.{one_to_one}
use Rattle.pump.specs.Held.{held, left_with}

module _ (w w' b b' : List ℕ) (k k' : List Bool) (fits : Fits base w b k) (fits' : Fits base w' b' k') where
  pub held_tells : held w b k ≡ held w' b' k' → (w ≡ w') × (b ≡ b') × (k ≡ k')
  held_tells e = one_to_one base w w' b b' k k' e fits fits'

  -- what a step leaves and answers is fixed by its promise
  pub left_tells : (answer other : Answer) (buffer buffer' : List ℕ) → left_with w b k answer buffer ≡ left_with w' b' k' other buffer'
      → ((w ≡ w') × (b ≡ b') × (k ≡ k')) × ((answer ≡ other) × (buffer ≡ buffer'))
  left_tells answer other buffer buffer' e = (
    held_tells (ap (λ (o : Outcome). o.tables) e),
    (reply_tells answer other (ap (λ (o : Outcome). o.reply) e), ap (λ (o : Outcome). o.buffer) e),
  )

  -- an outcome that changed nothing, in memory
  kept : (answer : Answer) (buffer buffer' : List ℕ) (outcome : Outcome) → left_with w b k answer buffer ≡ outcome
      → (outcome.reply.number ≢ 0 → AllUnchanged (held w' b' k') buffer' outcome) → (reply_of answer).number ≢ 0
      → ((w ≡ w') × (b ≡ b') × (k ≡ k')) × (buffer ≡ buffer')
  kept answer buffer buffer' outcome e leaves refused =
      let all : AllUnchanged (held w' b' k') buffer' outcome = leaves (λ none. refused (ap (λ (o : Outcome). o.reply.number) e ∙ none)) in
      (held_tells (ap (λ (o : Outcome). o.tables) e ∙ all.tables), ap (λ (o : Outcome). o.buffer) e ∙ all.buffer)

  -- a refused event leaves the memory and the buffer as they came
  pub event_kept : (answer : Answer) (fields : Fields) (list buffer buffer' : List ℕ)
      → left_with w b k answer buffer ≡ fields_step base (held w' b' k') fields list buffer' → (reply_of answer).number ≢ 0
      → ((w ≡ w') × (b ≡ b') × (k ≡ k')) × (buffer ≡ buffer')
  event_kept answer fields list buffer buffer' e =
      kept answer buffer buffer' (fields_step base (held w' b' k') fields list buffer') e (fields_refused base (held w' b' k') fields list buffer')

  pub record_kept : (answer : Answer) (bytes buffer buffer' : List ℕ)
      → left_with w b k answer buffer ≡ record_step base (held w' b' k') bytes buffer' → (reply_of answer).number ≢ 0
      → ((w ≡ w') × (b ≡ b') × (k ≡ k')) × (buffer ≡ buffer')
  record_kept answer bytes buffer buffer' e =
      kept answer buffer buffer' (record_step base (held w' b' k') bytes buffer') e (record_refused base (held w' b' k') bytes buffer')
