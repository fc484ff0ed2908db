-- No second answer fits a promise of the bench: what is seen of an answer and of the memory fixes both.
use Rattle.std.proofs.Common.{◌≡◌, ℕ, Bool, Option, None, Some, is_some, List, refl, ap}
use Rattle.std.specs.Option.{unwrap_or, option_map}
use Rattle.answers.specs.Numbers.{reply_of, Answer}
use Rattle.answers.specs.declared.Reply.{Reply}
use Rattle.answers.proofs.Tells.{reply_tells}
use Rattle.counters.specs.Sizes.{base}
use Rattle.tables.specs.Places.{Fits}
use Rattle.pump.specs.Held.{held}
use Rattle.pump.proofs.Memory.{held_tells}
use Rattle.bench_records.specs.Records.{Answering, answered}
use Rattle.bench_records.specs.declared.Answered.{Answered}

line_tells : (unprinted : Reply) (line line' : Option Answer) → unwrap_or (option_map reply_of line) unprinted ≡ unwrap_or (option_map reply_of line') unprinted → is_some line ≡ is_some line'
    → line ≡ line'
line_tells unprinted None None reply prints = refl
line_tells unprinted None (Some answer) reply prints = absurd (cc)
line_tells unprinted (Some answer) None reply prints = absurd (cc)
line_tells unprinted (Some answer) (Some answer') reply prints = ap Some (reply_tells answer answer' reply)

pub answered_tells : (unprinted : Reply) (w w' b b' : List ℕ) (k k' : List Bool) → Fits base w b k → Fits base w' b' k' → (r other : Answered)
    → answered unprinted (held w b k) r ≡ answered unprinted (held w' b' k') other → ((w ≡ w') × (b ≡ b') × (k ≡ k')) × (r ≡ other)
answered_tells unprinted w w' b b' k k' fits fits' r other e = (
  held_tells w w' b b' k k' fits fits' (ap (λ (a : Answering). a.tables) e),
  λ i. record {
    line = line_tells unprinted r.line other.line (ap (λ (a : Answering). a.reply) e) (ap (λ (a : Answering). a.prints) e) i;
    stops = (e i).stops;
    taken = (e i).taken;
  },
)
