-- Session W begins a run, and its events are the twelve of the table; a thirteenth turn is the end of the input, and hands on none.
use mathlib.Core.Path.{◌≡◌, refl}
use Rattle.rules.specs.Walks.{any_below, each_below, join_below}
use Rattle.rules.specs.SessionW.{first, words, events}
use Rattle.bench_records.specs.Records.{words_of}
use Rattle.bench_play.specs.SessionW.{input}
use Rattle.bench_runs.specs.Path.{Begins, events_in}

pub session_w_begins : Begins input words first
unfolding words_of
session_w_begins = record { at = 8; taken = 104; fresh = refl; words_are = refl }

pub session_w_events : events_in 13 input ≡ events
unfolding any_below each_below join_below words_of
session_w_events = refl
