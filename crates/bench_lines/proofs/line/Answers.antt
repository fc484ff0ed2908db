-- Its three numbers fit: an event has at most twenty digits, a number of the table two, a value ten.
use Rattle.answers.specs.declared.Reply.{Reply}
use Rattle.std.proofs.Common.{ℕ, length, ap, arith, length-append}
use Rattle.bench_lines.proofs.Digits.{few_digits}
use Rattle.bench_lines.proofs.Making.{two_digits}
use Rattle.bench_lines.proofs.line.Goals as goal

pub push-requires-clause-room : goal.push-requires-clause-room
push-requires-clause-room c =
    let event = few_digits 20 c.args.event (omega arith) (omega arith) (omega arith) in
    omega (arith, event, ap length c.new-line.ensures)

pub push-requires-2-clause-room : goal.push-requires-2-clause-room
push-requires-2-clause-room c =
    let event = few_digits 20 c.args.event (omega arith) (omega arith) (omega arith) in
    let small = two_digits c.args.answer in
    let told = ap (λ (r : Reply). r.number) c.from-reply.ensures in
    let number = few_digits 2 c.from.result (omega arith) (omega arith) (omega arith) in
    omega (arith, event, number, ap length c.new-line.ensures, ap length c.push.ensures, length-append {A = ℕ})

pub push-requires-3-clause-room : goal.push-requires-3-clause-room
push-requires-3-clause-room c =
    let event = few_digits 20 c.args.event (omega arith) (omega arith) (omega arith) in
    let small = two_digits c.args.answer in
    let told = ap (λ (r : Reply). r.number) c.from-reply.ensures in
    let number = few_digits 2 c.from.result (omega arith) (omega arith) (omega arith) in
    let value = few_digits 10 c.from-2.result (omega arith) (omega arith) (omega arith) in
    omega (arith, event, number, value, ap length c.new-line.ensures, ap length c.push.ensures, ap length c.push-2.ensures, length-append {A = ℕ})
