-- Each refusal is given exactly where its rule holds and no earlier one does, and an event is accepted exactly where no rule holds.
use Prim.Native.Nat.{ℕ, ◌+◌}
use mathlib.Core.Bool.{Bool, true, false}
use mathlib.Core.List.{List, [], ◌∷◌, ◌++◌, map}
use mathlib.Core.Logic.{◌⊎◌, inl, inr, ◌≢◌, ◌↔◌}
use mathlib.Core.Path.{◌≡◌, refl, ap, sym, ◌∙◌}
use native.Mathlib.Omega.{arith}
use Rattle.answers.specs.Numbers.{number_of}
use Rattle.answers.specs.Order.{Rule, decide}
use Rattle.answers.specs.declared.Refusal.{Refusal}
use Rattle.answers.specs.declared.Refusal.TheVariants.{BadSlot, BadObject, BadList, Busy, Idle, NotDeclared, BadCall, Released, Doomed, Wait, NoRoom, BadRecord}
use Rattle.answers.proofs.Deciding.{NoneHolds, passed}
use Rattle.counters.specs.Sizes.{Size}
use Rattle.record_layout.specs.Declarations.{Declaration, declarations_of}
use Rattle.rules.specs.Tables.{State}
use Rattle.rules.specs.Refusing.{declaration_rules}
use Rattle.rules.specs.Steps.{Stepping, unchanged, beside, start_step, call_step, release_step, end_step}
use Rattle.rules.proofs.RulesOf.{rules_of_start, started, rules_of_call, called, rules_of_release, released, rules_of_end, ended}

-- a rule with this number holds and all rules before it pass
pub record FirstOf (rules : List Rule) (number : ℕ) : Type 0 where
  pub earlier : List Rule
  pub rule : Rule
  pub later : List Rule
  pub all : rules ≡ earlier ++ rule ∷ later
  pub passes : NoneHolds earlier
  pub holds : rule.holds ≡ true
  pub gives : number_of rule.refusal ≡ number

-- every list of rules passes, or one rule is the first that holds
one_first : (rules : List Rule) → NoneHolds rules ⊎ ((number : ℕ) × FirstOf rules number)
one_first [] = inl tt
one_first (rule ∷ rules) = by rule.holds refl (one_first rules)
  where
    behind : rule.holds ≡ false → NoneHolds rules ⊎ ((number : ℕ) × FirstOf rules number) → NoneHolds (rule ∷ rules) ⊎ ((number : ℕ) × FirstOf (rule ∷ rules) number)
    behind e (inl p) = inl (e, p)
    behind e (inr found) =
        let first : FirstOf rules found.0 = found.1 in
        inr (
          found.0,
          record {
            earlier = rule ∷ first.earlier;
            rule = first.rule;
            later = first.later;
            all = ap (λ (l : List Rule). rule ∷ l) first.all;
            passes = (e, first.passes);
            holds = first.holds;
            gives = first.gives;
          },
        )

    by : (t : Bool) → rule.holds ≡ t → NoneHolds rules ⊎ ((number : ℕ) × FirstOf rules number) → NoneHolds (rule ∷ rules) ⊎ ((number : ℕ) × FirstOf (rule ∷ rules) number)
    by true e rest = inr (number_of rule.refusal, record { earlier = []; rule = rule; later = rules; all = refl; passes = tt; holds = e; gives = refl })
    by false e rest = behind e rest

-- the first rule that holds decides
first_decides : {A : Type 0} (earlier : List Rule) (rule : Rule) (later : List Rule) (refused : Refusal → A) (accepted : A)
    → NoneHolds earlier → rule.holds ≡ true → decide (earlier ++ rule ∷ later) refused accepted ≡ refused rule.refusal
first_decides [] rule later refused accepted passes holds = rw holds
first_decides (one ∷ earlier) rule later refused accepted passes holds =
    rw passes.0 (first_decides earlier rule later refused accepted passes.1 holds)

number_not_zero : (refusal : Refusal) → number_of refusal ≢ 0
number_not_zero BadSlot = omega arith
number_not_zero BadObject = omega arith
number_not_zero BadList = omega arith
number_not_zero Busy = omega arith
number_not_zero Idle = omega arith
number_not_zero NotDeclared = omega arith
number_not_zero BadCall = omega arith
number_not_zero Released = omega arith
number_not_zero Doomed = omega arith
number_not_zero Wait = omega arith
number_not_zero NoRoom = omega arith
number_not_zero BadRecord = omega arith

-- the numbers that the rules of a list give, in order
abbrev pub numbers : List Rule → List ℕ
numbers rules = map (λ rule. number_of rule.refusal) rules

-- the number that comes back, by rules whose numbers stand in this order
pub record Exact (rules : List Rule) (order : List ℕ) (number : ℕ) : Type 0 where
  pub in_order : numbers rules ≡ order
  pub accepts : (number ≡ 0) ↔ NoneHolds rules
  pub refuses : (n : ℕ) → n ≢ 0 → (number ≡ n) ↔ FirstOf rules n

-- of any list of rules, where what is given back has the number of the refusal, and 0 where it is accepted
pub decided_exactly : {A : Type 0} (number : A → ℕ) (rules : List Rule) (order : List ℕ) (refused : Refusal → A) (accepted : A)
    → numbers rules ≡ order → ((refusal : Refusal) → number (refused refusal) ≡ number_of refusal) → number accepted ≡ 0
    → Exact rules order (number (decide rules refused accepted))
decided_exactly number rules order refused accepted in_order tells zero =
    record {
      in_order = in_order;
      accepts = (accepts (one_first rules), all_pass);
      refuses = λ n other. (refuses n other (one_first rules), given n);
    }
  where
    given : (n : ℕ) → FirstOf rules n → number (decide rules refused accepted) ≡ n
    given n f =
        ap (λ (l : List Rule). number (decide l refused accepted)) f.all
        ∙ ap number (first_decides f.earlier f.rule f.later refused accepted f.passes f.holds)
        ∙ tells f.rule.refusal
        ∙ f.gives

    all_pass : NoneHolds rules → number (decide rules refused accepted) ≡ 0
    all_pass p = ap number (passed rules refused accepted p) ∙ zero

    accepts : NoneHolds rules ⊎ ((n : ℕ) × FirstOf rules n) → number (decide rules refused accepted) ≡ 0 → NoneHolds rules
    accepts (inl p) e = p
    accepts (inr f) e = absurd (number_not_zero f.1.rule.refusal (f.1.gives ∙ sym (given f.0 f.1) ∙ e))

    refuses : (n : ℕ) → n ≢ 0 → NoneHolds rules ⊎ ((n : ℕ) × FirstOf rules n) → number (decide rules refused accepted) ≡ n → FirstOf rules n
    refuses n other (inl p) e = absurd (other (sym e ∙ all_pass p))
    refuses n other (inr f) e = rw (sym (given f.0 f.1) ∙ e) at f.1

-- R22: both tests of each declaration in turn
abbrev pub declaration_order : List Declaration → List ℕ
declaration_order [] = []
declaration_order (declaration ∷ rest) = 2 ∷ 3 ∷ declaration_order rest

declarations_in_order : (z : Size) (least : ℕ) (declarations : List Declaration) → numbers (declaration_rules z least declarations) ≡ declaration_order declarations
declarations_in_order z least [] = refl
declarations_in_order z least (declaration ∷ rest) = ap (λ (l : List ℕ). 2 ∷ 3 ∷ l) (declarations_in_order z (declaration.object + 1) rest)

module _ (z : Size) (t : State) where
  step_exactly : (rules : List Rule) (order : List ℕ) (done : Stepping) → numbers rules ≡ order → done.reply.number ≡ 0
      → Exact rules order (decide rules (unchanged t) done).reply.number
  step_exactly rules order done in_order zero =
      decided_exactly (λ stepping. stepping.reply.number) rules order (unchanged t) done in_order (λ refusal. refl) zero

  -- R21, of a start
  pub start_exactly : (s : ℕ) (list : List ℕ)
      → Exact (rules_of_start z t s list) (1 ∷ 4 ∷ 3 ∷ declaration_order (declarations_of list)) (start_step z t s list).reply.number
  start_exactly s list =
      step_exactly (rules_of_start z t s list) (1 ∷ 4 ∷ 3 ∷ declaration_order (declarations_of list)) (started z t s list)
      (ap (λ (l : List ℕ). 1 ∷ 4 ∷ 3 ∷ l) (declarations_in_order z 0 (declarations_of list))) refl

  -- of a call
  pub call_exactly : (s o kind argument : ℕ)
      → Exact (rules_of_call z t s o kind) (1 ∷ 5 ∷ 2 ∷ 6 ∷ 7 ∷ 9 ∷ 8 ∷ 10 ∷ []) (call_step z t s o kind argument).reply.number
  call_exactly s o kind argument =
      step_exactly (rules_of_call z t s o kind) (1 ∷ 5 ∷ 2 ∷ 6 ∷ 7 ∷ 9 ∷ 8 ∷ 10 ∷ []) (called z t s o kind argument) refl refl

  -- of a release
  pub release_exactly : (s o : ℕ) → Exact (rules_of_release z t s o) (1 ∷ 5 ∷ 2 ∷ 6 ∷ 8 ∷ 10 ∷ []) (release_step z t s o).reply.number
  release_exactly s o = step_exactly (rules_of_release z t s o) (1 ∷ 5 ∷ 2 ∷ 6 ∷ 8 ∷ 10 ∷ []) (released z t s o) refl refl

  end_exactly : (rollback : Bool) (s tick : ℕ) (buffer order : List ℕ) → numbers (rules_of_end z t rollback s tick buffer) ≡ order
      → Exact (rules_of_end z t rollback s tick buffer) order (end_step z rollback t s tick buffer).reply.number
  end_exactly rollback s tick buffer order in_order =
      decided_exactly (λ outcome. outcome.reply.number) (rules_of_end z t rollback s tick buffer) order (λ refusal. beside buffer (unchanged t refusal))
      (ended z t rollback s tick buffer) in_order (λ refusal. refl) refl

  -- of a commit
  pub commit_exactly : (s tick : ℕ) (buffer : List ℕ)
      → Exact (rules_of_end z t false s tick buffer) (1 ∷ 5 ∷ 9 ∷ 10 ∷ 11 ∷ []) (end_step z false t s tick buffer).reply.number
  commit_exactly s tick buffer = end_exactly false s tick buffer (1 ∷ 5 ∷ 9 ∷ 10 ∷ 11 ∷ []) refl

  -- of a rollback
  pub rollback_exactly : (s tick : ℕ) (buffer : List ℕ)
      → Exact (rules_of_end z t true s tick buffer) (1 ∷ 5 ∷ 10 ∷ 11 ∷ []) (end_step z true t s tick buffer).reply.number
  rollback_exactly s tick buffer = end_exactly true s tick buffer (1 ∷ 5 ∷ 10 ∷ 11 ∷ []) refl

  -- what is accepted comes back whole
  pub start_comes : (s : ℕ) (list : List ℕ) → (start_step z t s list).reply.number ≡ 0 → start_step z t s list ≡ started z t s list
  start_comes s list done = passed (rules_of_start z t s list) (unchanged t) (started z t s list) ((start_exactly s list).accepts.0 done)

  pub call_comes : (s o kind argument : ℕ) → (call_step z t s o kind argument).reply.number ≡ 0
      → call_step z t s o kind argument ≡ called z t s o kind argument
  call_comes s o kind argument done =
      passed (rules_of_call z t s o kind) (unchanged t) (called z t s o kind argument) ((call_exactly s o kind argument).accepts.0 done)

  pub release_comes : (s o : ℕ) → (release_step z t s o).reply.number ≡ 0 → release_step z t s o ≡ released z t s o
  release_comes s o done = passed (rules_of_release z t s o) (unchanged t) (released z t s o) ((release_exactly s o).accepts.0 done)

  end_passes : (rollback : Bool) (s tick : ℕ) (buffer : List ℕ) → (end_step z rollback t s tick buffer).reply.number ≡ 0
      → NoneHolds (rules_of_end z t rollback s tick buffer)
  end_passes false s tick buffer done = (commit_exactly s tick buffer).accepts.0 done
  end_passes true s tick buffer done = (rollback_exactly s tick buffer).accepts.0 done

  pub end_comes : (rollback : Bool) (s tick : ℕ) (buffer : List ℕ) → (end_step z rollback t s tick buffer).reply.number ≡ 0
      → end_step z rollback t s tick buffer ≡ ended z t rollback s tick buffer
  end_comes rollback s tick buffer done =
      passed (rules_of_end z t rollback s tick buffer) (λ refusal. beside buffer (unchanged t refusal)) (ended z t rollback s tick buffer)
      (end_passes rollback s tick buffer done)
