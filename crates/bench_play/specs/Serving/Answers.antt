-- What a record gives in code: the answer of its line, where it prints one.
use Rattle.std.specs.Prelude.{ℕ, Bool, Option, None, Some, List, []}
use Rattle.answers.specs.Numbers.{reply_of, accepted, refused, Answer}
use Rattle.answers.specs.declared.Reply.{Reply}
use Rattle.answers.specs.Order.{pick}
use Rattle.answers.specs.declared.Refusal.TheVariants.{BadRecord}
use Rattle.bench_lines.specs.Lines.{line_of}

-- the reply of a record that prints none: of one behind the first, and of the first
abbrev pub unprinted : Bool → Reply
unprinted begun = pick begun (refused BadRecord) (accepted 0)

abbrev pub line_for : ℕ → Option Answer → List ℕ
line_for event None = []
line_for event (Some answer) = line_of event (reply_of answer)
