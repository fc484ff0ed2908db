-- Session W as the bytes of the bench's input, and the bytes of its whole output.
use Rattle.std.specs.Prelude.{ℕ, List, [], ◌∷◌, ◌++◌}
use Rattle.record_layout.specs.Bytes.{word_bytes}
use Rattle.record_layout.specs.Fields.{record_of}
use Rattle.record_layout.specs.declared.fields.Fields.{Fields}
use Rattle.rules.specs.Events.{Handed}
use Rattle.rules.specs.SessionW.{first, words, events}

abbrev pub words_bytes : List ℕ → List ℕ
words_bytes [] = []
words_bytes (word ∷ words) = word_bytes word ++ words_bytes words

abbrev pub records_of : List Handed → List ℕ
records_of [] = []
records_of (event ∷ rest) = record_of event.fields event.list ++ records_of rest

-- the fresh record and the twelve events
abbrev pub input : List ℕ
input = record_of (Fields.Fresh (record { 0 = first })) (words_bytes words) ++ records_of events

-- R44: a line in each row
abbrev pub output : List ℕ
output =
    49 ∷ 32 ∷ 48 ∷ 32 ∷ 48 ∷ 10
    ∷ 50 ∷ 32 ∷ 48 ∷ 32 ∷ 48 ∷ 10
    ∷ 51 ∷ 32 ∷ 49 ∷ 48 ∷ 32 ∷ 48 ∷ 10
    ∷ 52 ∷ 32 ∷ 48 ∷ 32 ∷ 49 ∷ 10
    ∷ 53 ∷ 32 ∷ 48 ∷ 32 ∷ 54 ∷ 53 ∷ 10
    ∷ 54 ∷ 32 ∷ 56 ∷ 32 ∷ 48 ∷ 10
    ∷ 55 ∷ 32 ∷ 48 ∷ 32 ∷ 54 ∷ 53 ∷ 10
    ∷ 56 ∷ 32 ∷ 49 ∷ 48 ∷ 32 ∷ 48 ∷ 10
    ∷ 57 ∷ 32 ∷ 48 ∷ 32 ∷ 48 ∷ 10
    ∷ 49 ∷ 48 ∷ 32 ∷ 48 ∷ 32 ∷ 49 ∷ 53 ∷ 10
    ∷ 49 ∷ 49 ∷ 32 ∷ 57 ∷ 32 ∷ 48 ∷ 10
    ∷ 49 ∷ 50 ∷ 32 ∷ 48 ∷ 32 ∷ 50 ∷ 48 ∷ 10
    ∷ []
