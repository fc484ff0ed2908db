-- R44: session W, its twelve events, what is seen of each as it is played by the rules, and the table that it gives.
use Rattle.std.specs.Prelude.{ℕ, true, false, List, [], ◌∷◌, ◌++◌, drop, length, replicate, set}
use Rattle.counters.specs.Sizes.{base}
use Rattle.record_layout.specs.declared.fields.Event.{Event}
use Rattle.record_layout.specs.declared.fields.Fields.{Fields}
use Rattle.rules.specs.Tables.{State, object_at, fresh_tables}
use Rattle.rules.specs.Steps.{Outcome}
use Rattle.rules.specs.Events.{Handed, outcome_of}

-- R44: the buffer that every event is lent
abbrev lent : List ℕ
lent = replicate 130 0

abbrev handed : Event → List ℕ → Handed
handed event list = record { fields = Fields.Event event; list = list; buffer = lent }

abbrev pub start : ℕ → List ℕ → Handed
start slot list = handed (Event.Start (record { 0 = slot })) list

abbrev pub call : ℕ → ℕ → ℕ → ℕ → Handed
call slot object kind argument = handed (Event.Call (record { 0 = slot }) (record { 0 = object }) kind argument) []

abbrev pub read : ℕ
read = 0

abbrev pub add : ℕ
add = 2

abbrev pub spend : ℕ
spend = 3

abbrev pub release : ℕ → ℕ → Handed
release slot object = handed (Event.Release (record { 0 = slot }) (record { 0 = object })) []

abbrev pub commit : ℕ → ℕ → Handed
commit slot tick = handed (Event.End (record { 0 = slot }) tick false) []

abbrev pub rollback : ℕ → ℕ → Handed
rollback slot tick = handed (Event.End (record { 0 = slot }) tick true) []

-- what is seen of an event: number and value, all of the buffer lent to it, and word 3 afterwards
pub record Line : Type 0 where
  pub number : ℕ
  pub value : ℕ
  pub buffer : List ℕ
  pub word : ℕ

pub record Played : Type 0 where
  pub tables : State
  pub lines : List Line

abbrev with_line : Played → Outcome → Played
with_line p outcome =
    record {
      tables = outcome.tables;
      lines =
          p.lines
          ++ record {
            number = outcome.reply.number;
            value = outcome.reply.value;
            buffer = outcome.buffer;
            word = (object_at outcome.tables 3).word;
          }
          ∷ [];
    }

abbrev pub play : Played → List Handed → Played
play p [] = p
play p (event ∷ events) = play (with_line p (outcome_of base p.tables event)) events

-- R44: the first version, and the words
abbrev pub first : ℕ
first = 4294967295

abbrev pub words : List ℕ
words = set (replicate base.objects 0) 3 100

abbrev pub fresh : Played
fresh = record { tables = fresh_tables base words first; lines = [] }

abbrev pub events : List Handed
events =
    start 0 (3 ∷ 2 ∷ [])
    ∷ start 1 (3 ∷ 1 ∷ 5 ∷ 0 ∷ [])
    ∷ call 1 3 read 0
    ∷ call 0 3 spend 40
    ∷ call 0 3 add 5
    ∷ call 0 3 read 0
    ∷ call 1 3 read 0
    ∷ commit 1 8
    ∷ release 1 5
    ∷ rollback 0 7
    ∷ commit 1 8
    ∷ rollback 1 9
    ∷ []

-- number, value, bytes written and word 3 of one event
abbrev pub line : ℕ → ℕ → List ℕ → ℕ → Line
line number value bytes word = record { number = number; value = value; buffer = bytes ++ drop (length bytes) lent; word = word }

abbrev pub table : List Line
table =
    line 0 0 [] 100
    ∷ line 0 0 [] 100
    ∷ line 10 0 [] 100
    ∷ line 0 1 [] 60
    ∷ line 0 65 [] 65
    ∷ line 8 0 [] 65
    ∷ line 0 65 [] 65
    ∷ line 10 0 [] 65
    ∷ line 0 0 [] 65
    ∷ line 0 15 (0x0B ∷ 0x00 ∷ 0x02 ∷ 0x02 ∷ 0x07 ∷ 0x00 ∷ 0x00 ∷ 0x00 ∷ 0x00 ∷ 0x01 ∷ 0x03 ∷ 0x00 ∷ 0x00 ∷ 0x00 ∷ 0x00 ∷ []) 100
    ∷ line 9 0 [] 100
    ∷ line 0 20 (0x10 ∷ 0x00 ∷ 0x02 ∷ 0x02 ∷ 0x09 ∷ 0x00 ∷ 0x00 ∷ 0x00 ∷ 0x01 ∷ 0x02
    ∷ 0x03 ∷ 0x01 ∷ 0x00 ∷ 0x00 ∷ 0x00 ∷ 0x05 ∷ 0x00 ∷ 0x00 ∷ 0x00 ∷ 0x00 ∷ []) 100
    ∷ []
