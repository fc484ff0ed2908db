-- The theorem: from its fresh record on, the bench is on a run of the rules, so that demands and companions hold of it, and its lines are that run's.
use Prim.Native.Nat.{ℕ, zero, suc, ◌+◌, ◌<◌}
use mathlib.Core.List.{List, [], ◌++◌}
use mathlib.Core.Path.{◌≡◌, refl, sym, ap, subst, ◌∙◌}
use native.Mathlib.Numerals.{add-one}
use native.Mathlib.Omega.{arith}
use lib.ListN.{length, drop}
use Rattle.counters.specs.Sizes.{base}
use Rattle.counters.specs.Versions.{turnover}
use Rattle.counters.specs.declared.Version.{Version}
use Rattle.record_layout.specs.Bytes.{word_of, AreBytes}
use Rattle.record_layout.specs.Reading.{length_field, body, listing, Reading}
use Rattle.record_layout.specs.declared.fields.Fields.{Fields}
use Rattle.record_layout.proofs.Fronts.{bytes_drop, bytes_take}
use Rattle.record_layout.proofs.WriteBack.{record_read_lem, body_there}
use Rattle.rules.specs.Tables.{State, fresh_tables}
use Rattle.runs.specs.Runs.{Run, run_from, run_of}
use Rattle.runs.specs.Demands.{Demands}
use Rattle.runs.specs.Companions.{Companions}
use Rattle.runs.proofs.EveryRun.{every_run_of_the_pump}
use Rattle.bench_records.specs.Records.{Answering, words_of, begins_with, first_read}
use Rattle.bench_play.specs.Bench.{at_first, answer_at, Playing, printed_for, played_before, played_while, until_stopped, bench_output}
use Rattle.bench_runs.specs.Path.{Place, behind, places_from, events_in, replies_in, played_in, Begins, bench_run, replies_from, lines_of}
use Rattle.bench_runs.proofs.Turns.{played_turn, Follows, turns_follow}

words_long : (count : ℕ) (list : List ℕ) → length (words_of count list) ≡ count
unfolding words_of
words_long zero list = refl
words_long (suc count) list = ap suc (words_long count (drop 4 list))

word_small : (s : List ℕ) → AreBytes s → word_of s < turnover
word_small s bytes = omega (arith, bytes.each 0, bytes.each 1, bytes.each 2, bytes.each 3)

same_first : (v w : Version) → Fields.Fresh v ≡ Fields.Fresh w → v.0 ≡ w.0
same_first v w e = let same : v ≡ w = cc in ap (λ (x : Version). x.0) same

module _ (bytes words : List ℕ) (first : ℕ) (begins : Begins bytes words first) where
  -- what a fresh record tells: as many words as objects, and a first version of 32 bits
  as_many_words : length words ≡ 24
  as_many_words = ap length (sym begins.words_are) ∙ words_long 24 (listing base bytes)

  small_first : AreBytes bytes → first < turnover
  small_first are =
      let fresh : Fields = Fields.Fresh (record { 0 = first }) in
      let b : List ℕ = body base bytes in
      let read = record_read_lem base bytes fresh begins.at begins.taken begins.fresh in
      let there = body_there base bytes fresh begins.at begins.taken begins.fresh in
      let are-body : AreBytes b = subst AreBytes (sym there) (bytes_take (length_field bytes) (drop 4 bytes) (bytes_drop 4 bytes are)) in
      let word : word_of b ≡ first = same_first (record { 0 = word_of b }) (record { 0 = first }) read.fields_are in
      subst (λ (n : ℕ). n < turnover) word (word_small b are-body)

  -- the first record gives fresh tables and prints nothing
  abbrev opening : Answering
  opening = answer_at base (at_first base) bytes

  abbrev start : Place
  start = behind (record { stage = at_first base; left = bytes })

  opens : opening ≡ begins_with base (record { 0 = first }) (listing base bytes) begins.taken
  opens = ap (λ (read : Reading). first_read base read (listing base bytes)) begins.fresh

  first_tables : start.stage.tables ≡ fresh_tables base words first
  first_tables = ap (λ (a : Answering). a.tables) opens ∙ ap (λ (l : List ℕ). fresh_tables base l first) begins.words_are

  nothing_printed : printed_for (at_first base) opening ≡ []
  nothing_printed = ap (printed_for (at_first base)) opens

  module _ (turns : ℕ) where
    abbrev rest : Playing
    rest = played_while base until_stopped turns start.stage start.left (0 + length (printed_for (at_first base) opening))

    played : played_in turns bytes ≡ played_before opening.taken (printed_for (at_first base) opening) rest
    played =
        ap (λ (most : ℕ). played_while base until_stopped most (at_first base) bytes 0) (add-one turns)
        ∙ played_turn turns (at_first base) bytes 0 refl

    follows : Follows rest start (places_from turns start)
    follows = turns_follow turns start.stage start.left _ refl

    -- what the bench leaves is what the rules' run over its events leaves
    pub bench_is_run : bench_run words first turns bytes ≡ run_of base words first (events_in turns bytes)
    bench_is_run =
        let tables : (played_in turns bytes).stage.tables ≡ (run_of base words first (events_in turns bytes)).tables =
        ap (λ (p : Playing). p.stage.tables) played
        ∙ follows.tables []
        ∙ ap (λ (t : State). (run_from base (record { tables = t; history = [] }) (events_in turns bytes)).tables) first_tables in
        λ i. record { tables = tables i; history = (run_of base words first (events_in turns bytes)).history }

    -- the reply of each turn is that of the rules' step in that run
    pub bench_replies : replies_in turns bytes ≡ replies_from (fresh_tables base words first) (events_in turns bytes)
    bench_replies = follows.replies ∙ ap (λ (t : State). replies_from t (events_in turns bytes)) first_tables

    -- so demands and companions hold of it
    pub every_run_of_the_bench : AreBytes bytes
        → Demands base words (bench_run words first turns bytes) × Companions base first (bench_run words first turns bytes)
    every_run_of_the_bench are =
        subst (λ (run : Run). Demands base words run × Companions base first run) (sym bench_is_run)
        (every_run_of_the_pump words first as_many_words (small_first are) (events_in turns bytes))

    -- and what so many turns print are the lines of that run's replies
    pub turns_print : (played_in turns bytes).lines ≡ lines_of 1 (replies_from (fresh_tables base words first) (events_in turns bytes))
    turns_print =
        ap (λ (p : Playing). p.lines) played
        ∙ ap (λ (line : List ℕ). line ++ rest.lines) nothing_printed
        ∙ follows.lines
        ∙ ap (lines_of 1) bench_replies

  -- all that the bench prints
  pub bench_prints : bench_output bytes ≡ lines_of 1 (replies_from (fresh_tables base words first) (events_in (length bytes) bytes))
  bench_prints = turns_print (length bytes)
