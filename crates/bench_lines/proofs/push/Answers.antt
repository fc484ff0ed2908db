use Rattle.std.proofs.Common.{ℕ, List, [], ◌∷◌, ◌++◌, length, ap, ◌∙◌, arith, append_assoc}
use Rattle.std.proofs.lemmas.Str.{encode_ascii}
use Rattle.bench_lines.specs.Lines.{decimal}
use Rattle.bench_lines.proofs.Digits.{as_written}
use Rattle.bench_lines.proofs.push.Goals as goal

pub push_str-requires : goal.push_str-requires
push_str-requires c =
    let same = as_written c.args.n (omega arith) in
    (omega arith, omega (arith, ap length (c.format.ensures.text ∙ same)))

pub push-requires : goal.push-requires
push-requires c =
    let same = as_written c.args.n (omega arith) in
    (omega arith, omega (arith, ap length (c.format.ensures.text ∙ same), ap length (encode_ascii c.args.behind c.requires.sign)))

pub returns : goal.returns
returns c =
    let text = c.format.ensures.text ∙ as_written c.args.n (omega arith) in
    c.push.ensures.ascii c.requires.sign
    ∙ ap (λ (l : List ℕ). l ++ (c.args.behind ∷ [])) (c.push_str.ensures.bytes ∙ ap (λ (l : List ℕ). c.args.line.now.bytes ++ l) text)
    ∙ append_assoc c.args.line.now.bytes (decimal c.args.n) (c.args.behind ∷ [])
