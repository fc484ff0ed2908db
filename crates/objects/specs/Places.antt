-- What each event makes of one object and of one pair.
use Rattle.std.specs.Prelude.{ℕ, ◌+◌, ◌%◌, Bool, true, false, not, ◌&&◌, eqb}
use Rattle.answers.specs.Order.{pick}
use Rattle.counters.specs.Versions.{next, difference, turn_at}
use Rattle.counters.specs.declared.Version.{Version}
use Rattle.counters.specs.declared.Turn.{Turn}
use Rattle.counters.specs.declared.Turn.TheVariants.{Now, Wait, Released}
use Rattle.objects.specs.declared.Object.{Object}
use Rattle.objects.specs.declared.Pair.{Pair}

-- R7: a pair that is zero
abbrev pub no_pair : Pair
no_pair = record { declared = false; supremum = 0; private = record { 0 = 0 }; count = record { 0 = 0 }; called = false; spoiled = false; saved = 0 }

-- R8: the turn of a pair
abbrev pub turn_of : ℕ → Pair → Object → Turn
turn_of slots pair object = turn_at slots (difference pair.private.0 object.local.0)

abbrev pub says_released : Turn → Bool
says_released Now = false
says_released Wait = false
says_released Released = true

abbrev pub says_wait : Turn → Bool
says_wait Now = false
says_wait Wait = true
says_wait Released = false

-- R12: the next version is taken
abbrev pub given_out : Object → Object
given_out object = record { word = object.word; global = record { 0 = next object.global.0 }; local = object.local; terminal = object.terminal }

-- R12: a pair as a start leaves it
abbrev pub declared_with : ℕ → Version → Pair
declared_with supremum private =
    record { declared = true; supremum = supremum; private = private; count = record { 0 = 0 }; called = false; spoiled = false; saved = 0 }

-- R13: the count behind a call
abbrev pub count_after : Pair → ℕ
count_after pair = pick (eqb pair.supremum 0) pair.count.0 ((pair.count.0 + 1) % 256)

-- R13: whether the call lets the object go
abbrev pub reaches : Pair → Bool
reaches pair = not (eqb pair.supremum 0) && eqb (count_after pair) pair.supremum

-- R13: the object behind a call, given the word that the kind leaves
abbrev pub called_object : ℕ → Pair → Object → Object
called_object word pair object =
    record {
      word = word;
      global = object.global;
      local = pick (reaches pair) pair.private object.local;
      terminal = object.terminal;
    }

-- R13: the pair behind a call
abbrev pub called_pair : Pair → Object → Pair
called_pair pair object =
    record {
      declared = pair.declared;
      supremum = pair.supremum;
      private = pair.private;
      count = record { 0 = count_after pair };
      called = true;
      spoiled = pair.spoiled;
      saved = pick pair.called pair.saved object.word;
    }

-- R15: an object that is let go
abbrev pub let_go : Version → Object → Object
let_go private object = record { word = object.word; global = object.global; local = private; terminal = object.terminal }

-- R16: a declared object behind an end
abbrev pub settled : ℕ → Pair → Object → Object
settled slots pair object =
    record {
      word = object.word;
      global = object.global;
      local = pick (says_released (turn_of slots pair object)) object.local pair.private;
      terminal = pair.private;
    }

-- R17: whether a rollback puts the saved word back, and the object then
abbrev pub restores : Pair → Bool
restores pair = pair.declared && (pair.called && not pair.spoiled)

abbrev pub restored : Pair → Object → Object
restored pair object = record { word = pair.saved; global = object.global; local = object.local; terminal = object.terminal }

-- R17: a pair that such a rollback spoils
abbrev pub spoiled_pair : Pair → Pair
spoiled_pair pair =
    record {
      declared = pair.declared;
      supremum = pair.supremum;
      private = pair.private;
      count = pair.count;
      called = pair.called;
      spoiled = true;
      saved = pair.saved;
    }
