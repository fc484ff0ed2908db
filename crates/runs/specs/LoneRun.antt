-- The lone run: the calls of the committed transactions, one transaction after the other in start order, over the words with the kinds
-- table alone. It knows no tables and no versions.
use Rattle.std.specs.Prelude.{ℕ, List, [], ◌∷◌, ◌++◌, get_or, set}
use Rattle.answers.specs.Order.{pick}
use Rattle.kinds.specs.Kinds.{acted}
use Rattle.kinds.specs.declared.Acted.{Acted}
use Rattle.runs.specs.Histories.{History, Call, is_committed}

-- the accepted calls of the committed transactions, in start order
abbrev pub committed_calls : History → List Call
committed_calls [] = []
committed_calls (x ∷ xs) = pick (is_committed x.status) x.calls [] ++ committed_calls xs

-- one call alone
abbrev pub alone : List ℕ → Call → Acted
alone words call = acted call.kind (get_or words call.object 0) call.argument

abbrev pub words_after : List ℕ → Call → List ℕ
words_after words call = set words call.object (alone words call).word

abbrev pub lone_answers : List ℕ → List Call → List ℕ
lone_answers words [] = []
lone_answers words (call ∷ calls) = (alone words call).answer ∷ lone_answers (words_after words call) calls

abbrev pub lone_words : List ℕ → List Call → List ℕ
lone_words words [] = words
lone_words words (call ∷ calls) = lone_words (words_after words call) calls
