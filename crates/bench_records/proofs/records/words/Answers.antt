use Rattle.std.proofs.Common.{sym, ◌∙◌, rules}
use Rattle.bench_records.proofs.Wording.{from_fn_gives, word_in, words_are}
use Rattle.bench_records.proofs.records.words.Goals as goal

pub returns : goal.returns
returns c =
    let list = c.args.list.now in
    from_fn_gives _ _ (word_in list) (λ i y q called. search rules) c.from_fn.result 24 c.from_fn.ensures.items ∙ sym (words_are list 24)
