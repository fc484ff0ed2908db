-- The answer on bytes: which rule gives it, that changing A and B over changes it over, and that no second one fits.
use Rattle.counters.specs.declared.Comparison.{Comparison}
use Rattle.std.specs.Prelude.{None, Ok, Err, Option, Some}
use Prim.Native.Nat.{ℕ}
use mathlib.Core.Bool.{Bool, true, false}
use mathlib.Core.List.{List, [], ◌∷◌}
use mathlib.Core.Path.{◌≡◌, refl, sym, ap, ◌∙◌}
use lib.ListN.{get_or}
use Rattle.answers.proofs.Tells.{answer_of, answer_back}
use Rattle.answers.specs.declared.Reply.{Reply}
use Rattle.answers.specs.Order.{decide}
use Rattle.answers.specs.Numbers.{Answer}
use Rattle.answers.specs.declared.Refusal.TheVariants.{BadRecord}
use Rattle.counters.specs.Sizes.{Size}
use Rattle.counters.specs.Comparing.{compared}
use Rattle.counters.specs.declared.Comparison.TheVariants.{A, B, Same, Far}
use Rattle.record_layout.specs.Bytes.{AreBytes}
use Rattle.record_layout.specs.Entries.{entries_of}
use Rattle.record_layout.specs.Reading.{reading, listing}
use Rattle.record_order.specs.CameFirst.{meeting_of, is_end, order_rules, came_first, order_of, swapped_over, CameFirst}
use Rattle.record_order.specs.CommonObject.{Smallest}
use Rattle.record_order.proofs.SmallestFound.{smallest_answers, meeting_swapped}
use Rattle.record_order.proofs.Ends.{end_list_rises, list_versions}

module _ (z : Size) (a b : List ℕ) where
  abbrev answered : Bool → Bool → CameFirst
  answered a-is-end b-is-end = decide (order_rules a-is-end b-is-end) Err (Ok (meeting_of (entries_of (listing z a)) (entries_of (listing z b))))

  -- R34: bytes of A that read as no end record are refused
  pub refused_for_a : is_end (reading z a) ≡ false → came_first z a b ≡ Err BadRecord
  refused_for_a not_a = ap (λ (t : Bool). answered t (is_end (reading z b))) not_a

  -- and then bytes of B
  pub refused_for_b : is_end (reading z a) ≡ true → is_end (reading z b) ≡ false → came_first z a b ≡ Err BadRecord
  refused_for_b is-a not-b = ap (λ (t : Bool). answered t (is_end (reading z b))) is-a ∙ ap (answered true) not-b

  module _ (is-a : is_end (reading z a) ≡ true) (is_b : is_end (reading z b) ≡ true) where
    -- of two end records only the lists count
    pub both_meet : came_first z a b ≡ Ok (meeting_of (entries_of (listing z a)) (entries_of (listing z b)))
    both_meet = ap (λ (t : Bool). answered t (is_end (reading z b))) is-a ∙ ap (answered true) is_b

    -- and the smallest object that both list decides
    pub smallest_decides : (o v w : ℕ) → Smallest (entries_of (listing z a)) (entries_of (listing z b)) o v w → came_first z a b ≡ Ok (Some (compared v w))
    smallest_decides o v w smallest =
        both_meet
        ∙ ap (λ (found : Option Comparison). Ok found) (smallest_answers z.objects _ _ (end_list_rises z a is-a) (end_list_rises z b is_b) o v w smallest)

decided_swapped : (end-a end-b : Bool) (met changed : CameFirst) → (end-a ≡ true → end-b ≡ true → changed ≡ swapped_over met)
    → decide (order_rules end-b end-a) Err changed ≡ swapped_over (decide (order_rules end-a end-b) Err met)
decided_swapped true true met changed swaps = swaps refl refl
decided_swapped true false met changed swaps = refl
decided_swapped false true met changed swaps = refl
decided_swapped false false met changed swaps = refl

-- changing A and B over changes the answer over
pub came_first_swapped : (z : Size) (a b : List ℕ) → AreBytes a → AreBytes b → came_first z b a ≡ swapped_over (came_first z a b)
came_first_swapped z a b bytes-a bytes-b =
    decided_swapped (is_end (reading z a)) (is_end (reading z b)) _ _
    (λ end-a end-b.
    ap (λ (found : Option Comparison). Ok found)
    (meeting_swapped z.objects (entries_of (listing z a)) (entries_of (listing z b))
    (end_list_rises z a end-a) (end_list_rises z b end-b) (list_versions z a bytes-a) (list_versions z b bytes-b)))

-- R38 read by number
abbrev orders : List CameFirst
orders = Ok None ∷ Ok (Some A) ∷ Ok (Some B) ∷ Ok (Some Same) ∷ Ok (Some Far) ∷ []

abbrev order_from : Answer → CameFirst
order_from (Ok code) = get_or orders code (Ok None)
order_from (Err refusal) = Err refusal

order_back : (r : CameFirst) → order_from (answer_of (order_of r)) ≡ r
order_back (Ok (Some A)) = ap order_from (answer_back (Ok 1))
order_back (Ok (Some B)) = ap order_from (answer_back (Ok 2))
order_back (Ok (Some Same)) = ap order_from (answer_back (Ok 3))
order_back (Ok (Some Far)) = ap order_from (answer_back (Ok 4))
order_back (Ok None) = ap order_from (answer_back (Ok 5))
order_back (Err refusal) = ap order_from (answer_back (Err refusal))

-- no second answer fits a promise on what is told: equal replies come from equal answers
pub order_tells : (r other : CameFirst) → order_of r ≡ order_of other → r ≡ other
order_tells r other same = sym (order_back r) ∙ ap (λ (reply : Reply). order_from (answer_of reply)) same ∙ order_back other
