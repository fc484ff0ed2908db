-- The history of a run: every transaction in start order, made only from the accepted events and what came back of them.
use Rattle.std.specs.Prelude.{ℕ, Bool, true, false, ◌&&◌, List, [], ◌∷◌, ◌++◌, map, take, eqb}
use Rattle.answers.specs.declared.Reply.{Reply}
use Rattle.answers.specs.Order.{pick}
use Rattle.record_layout.specs.Declarations.{Declaration, declarations_of}
use Rattle.record_layout.specs.declared.fields.Event.{Event}
use Rattle.record_layout.specs.declared.fields.Fields.{Fields}
use Rattle.rules.specs.Events.{Handed}

pub data Status : Type 0 where
  Live : Status
  Committed : Status
  RolledBack : Status

abbrev pub is_live : Status → Bool
is_live Live = true
is_live Committed = false
is_live RolledBack = false

abbrev pub is_committed : Status → Bool
is_committed Live = false
is_committed Committed = true
is_committed RolledBack = false

abbrev pub is_rolled_back : Status → Bool
is_rolled_back Live = false
is_rolled_back Committed = false
is_rolled_back RolledBack = true

-- an accepted call, and the answer that it gave
pub record Call : Type 0 where
  pub object : ℕ
  pub kind : ℕ
  pub argument : ℕ
  pub answer : ℕ

-- an accepted start, the calls accepted since, and how it stands; where it has ended, the record that its end wrote
pub record Transaction : Type 0 where
  pub slot : ℕ
  pub declarations : List Declaration
  pub calls : List Call
  pub status : Status
  pub written : List ℕ

abbrev pub History : Type 0
History = List Transaction

-- a start
abbrev pub begun : ℕ → List Declaration → Transaction
begun slot declarations = record { slot = slot; declarations = declarations; calls = []; status = Live; written = [] }

abbrev pub with_call : Call → Transaction → Transaction
with_call call x =
    record { slot = x.slot; declarations = x.declarations; calls = x.calls ++ call ∷ []; status = x.status; written = x.written }

abbrev pub with_end : Status → List ℕ → Transaction → Transaction
with_end status written x = record { slot = x.slot; declarations = x.declarations; calls = x.calls; status = status; written = written }

-- whether this is the live transaction of a slot
abbrev pub lives_in : ℕ → Transaction → Bool
lives_in slot x = is_live x.status && eqb x.slot slot

-- the history with the live transaction of a slot changed
abbrev pub changed : ℕ → (Transaction → Transaction) → History → History
changed slot change history = map (λ x. pick (lives_in slot x) (change x) x) history

-- how an end leaves its transaction
abbrev pub status_of : Bool → Status
status_of rollback = pick rollback RolledBack Committed

-- what an accepted event adds, by its list, the value of its reply, and its buffer afterwards: a start is appended, a call and an end
-- change the live transaction of their slot
abbrev pub extended : Event → List ℕ → ℕ → List ℕ → History → History
extended (Event.Start slot) list value buffer history = history ++ begun slot.0 (declarations_of list) ∷ []
extended (Event.Call slot object kind argument) list value buffer history =
    changed slot.0 (with_call (record { object = object.0; kind = kind; argument = argument; answer = value })) history
extended (Event.Release slot object) list value buffer history = history
extended (Event.End slot tick rollback) list value buffer history = changed slot.0 (with_end (status_of rollback) (take value buffer)) history

-- R18: other fields carry no event
abbrev pub extended_by : Fields → List ℕ → ℕ → List ℕ → History → History
extended_by (Fields.Fresh first) list value buffer history = history
extended_by (Fields.Event event) list value buffer history = extended event list value buffer history
extended_by (Fields.Ended tick slot rollback) list value buffer history = history

-- a refusal leaves the history as it is
abbrev pub noted : Handed → Reply → List ℕ → History → History
noted handed reply buffer history =
    pick (eqb reply.number 0) (extended_by handed.fields handed.list reply.value buffer history) history
