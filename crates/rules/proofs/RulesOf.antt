-- The rules of each event in given tables, and what comes back where none of them holds.
use Prim.Native.Nat.{ℕ}
use mathlib.Core.Bool.{Bool}
use mathlib.Core.List.{List, ◌++◌}
use lib.ListN.{length, drop}
use lib.Dec.{ltb}
use Rattle.answers.specs.Numbers.{accepted}
use Rattle.answers.specs.Order.{Rule}
use Rattle.counters.specs.Sizes.{Size}
use Rattle.kinds.specs.Kinds.{acted}
use Rattle.kinds.specs.declared.Acted.{Acted}
use Rattle.record_layout.specs.Declarations.{declarations_of}
use Rattle.rules.specs.Tables.{State, object_at, live_at, pair_at}
use Rattle.rules.specs.Refusing.{doomed, unmet, start_rules, call_rules, release_rules, end_rules}
use Rattle.rules.specs.Effects.{start_effect, call_effect, release_effect, end_effect, end_record}
use Rattle.rules.specs.Steps.{Stepping, Outcome}

-- an effect, with the value of the reply
abbrev pub effected : State → ℕ → Stepping
effected t value = record { tables = t; reply = accepted value }

module _ (z : Size) (t : State) where
  abbrev pub rules_of_start : ℕ → List ℕ → List Rule
  rules_of_start s list = start_rules z s (live_at t s) (length list) (declarations_of list)

  abbrev pub started : ℕ → List ℕ → Stepping
  started s list = effected (start_effect z s (declarations_of list) t) 0

  abbrev pub rules_of_call : ℕ → ℕ → ℕ → List Rule
  rules_of_call s o kind = call_rules z s o kind (live_at t s) (doomed z t s) (pair_at z t s o) (object_at t o)

  abbrev pub acted_at : ℕ → ℕ → ℕ → Acted
  acted_at o kind argument = acted kind (object_at t o).word argument

  abbrev pub called : ℕ → ℕ → ℕ → ℕ → Stepping
  called s o kind argument = effected (call_effect z s o (acted_at o kind argument).word t) (acted_at o kind argument).answer

  abbrev pub rules_of_release : ℕ → ℕ → List Rule
  rules_of_release s o = release_rules z s o (live_at t s) (pair_at z t s o) (object_at t o)

  abbrev pub released : ℕ → ℕ → Stepping
  released s o = effected (release_effect z s o t) 0

  abbrev pub rules_of_end : Bool → ℕ → ℕ → List ℕ → List Rule
  rules_of_end rollback s tick buffer =
      end_rules z rollback s (live_at t s) (doomed z t s) (unmet z t s) (ltb (length buffer) (length (end_record z rollback s tick t)))

  abbrev pub ended : Bool → ℕ → ℕ → List ℕ → Outcome
  ended rollback s tick buffer =
      let written : List ℕ = end_record z rollback s tick t in
      record { tables = end_effect z rollback s t; reply = accepted (length written); buffer = written ++ drop (length written) buffer }
