-- The answer of two lists is that of the smallest object that both list, and of nothing else.
use Rattle.std.specs.Prelude.{None, Some, option_map}
use Prim.Native.Nat.{ℕ, ◌+◌, ◌%◌, ◌≤◌, ◌<◌}
use mathlib.Core.List.{List}
use mathlib.Core.Logic.{⊎_elim}
use mathlib.Core.Path.{◌≡◌, sym, ap, ◌∙◌}
use native.Mathlib.Omega.{arith}
use Rattle.counters.specs.Versions.{turnover}
use Rattle.counters.specs.Comparing.{compared, swapped}
use Rattle.counters.specs.declared.Comparison.{Comparison}
use Rattle.counters.specs.declared.Comparison.TheVariants.{A, Far}
use Rattle.counters.proofs.Compared.{last_a, only_far, first_unwrapped, compared_swapped}
use Rattle.record_layout.specs.Entries.{Entry}
use Rattle.record_order.specs.CameFirst.{meeting_of}
use Rattle.record_order.specs.CommonObject.{Lists, Common, Smallest, Rising, VersionsFit}
use Rattle.record_order.proofs.Listed.{one_version}
use Rattle.record_order.proofs.Search.{Found, found_or_none}

-- R35: nothing is found where no object is listed by both
pub unrelated : (es fs : List Entry) → ((o v w : ℕ) → Common es fs o v w → ⊥) → meeting_of es fs ≡ None
unrelated es fs none = ⊎_elim (λ found. absurd (none _ _ _ found.common)) (λ nothing. nothing.answer) (found_or_none es fs)

-- and nowhere else
pub unrelated_only : (es fs : List Entry) → meeting_of es fs ≡ None → (o v w : ℕ) → Common es fs o v w → ⊥
unrelated_only es fs answer =
    ⊎_elim
    (λ found. let clash : ◌≡◌ {A = ℕ} 0 1 = cc found.answer in absurd (omega arith))
    (λ nothing. nothing.none)
    (found_or_none es fs)

module _ (objects : ℕ) (es fs : List Entry) (rises-a : Rising objects es) where
  smallest_found : (found : Found es fs) → Smallest es fs found.object found.version_a found.version_b
  smallest_found found =
      record { common = found.common; least = λ other x y below common. omega (arith, found.first objects 0 rises-a other x y common) }

  -- an answer on versions is that of the smallest object that both list
  pub compared_only : (c : Comparison) → meeting_of es fs ≡ Some c → (o : ℕ) × (v : ℕ) × (w : ℕ) × Smallest es fs o v w × (c ≡ compared v w)
  compared_only c answer =
      ⊎_elim
      (λ found.
      let same : Some c ≡ Some (compared found.version_a found.version_b) = sym answer ∙ found.answer in
      (found.object, found.version_a, found.version_b, smallest_found found, cc))
      (λ nothing. let clash : ◌≡◌ {A = ℕ} 0 1 = cc nothing.answer in absurd (omega arith))
      (found_or_none es fs)

  -- R36: the versions of the smallest object that both list give the answer
  pub smallest_answers : Rising objects fs → (o v w : ℕ) → Smallest es fs o v w → meeting_of es fs ≡ Some (compared v w)
  smallest_answers rises-b o v w smallest =
      ⊎_elim
      (λ found.
      let not-below : found.object < o → ⊥ = λ below. smallest.least _ _ _ below found.common in
      let not_above : found.object ≤ o = found.first objects 0 rises-a o v w smallest.common in
      let same : found.object ≡ o = omega arith in
      let listed-a : Lists es o found.version_a = rw same at found.common.in_a in
      let listed_b : Lists fs o found.version_b = rw same at found.common.in_b in
      let same-a : found.version_a ≡ v = one_version objects 0 es rises-a o _ _ listed-a smallest.common.in_a in
      let same-b : found.version_b ≡ w = one_version objects 0 fs rises-b o _ _ listed_b smallest.common.in_b in
      found.answer ∙ rw (same-a, same-b))
      (λ nothing. absurd (nothing.none o v w smallest.common))
      (found_or_none es fs)

  module _ (rises-b : Rising objects fs) (o v : ℕ) (fits : v < turnover) where
    -- e of 2147483647: A
    pub last_is_a : Smallest es fs o v ((v + 2147483647) % turnover) → meeting_of es fs ≡ Some A
    last_is_a smallest = smallest_answers rises-b o v _ smallest ∙ ap Some (last_a v fits)

    -- e of 2147483648: Far
    pub half_is_far : Smallest es fs o v ((v + 2147483648) % turnover) → meeting_of es fs ≡ Some Far
    half_is_far smallest = smallest_answers rises-b o v _ smallest ∙ ap Some (only_far v fits)

  -- R37: versions counted on past the turnover that differ by less than 2147483648 are told in their order
  pub true_order : Rising objects fs → (o p q : ℕ) → p < q → q < p + 2147483648
      → Smallest es fs o (p % turnover) (q % turnover) → meeting_of es fs ≡ Some A
  true_order rises-b o p q before near smallest = smallest_answers rises-b o _ _ smallest ∙ ap Some (first_unwrapped p q before near)

  -- R37 at the turnover: 4294967295 comes before 0
  pub turnover_is_a : Rising objects fs → (o : ℕ) → Smallest es fs o 4294967295 0 → meeting_of es fs ≡ Some A
  turnover_is_a rises-b o smallest = true_order rises-b o 4294967295 4294967296 (omega arith) (omega arith) smallest

-- changing A and B over changes the answer over
pub meeting_swapped : (objects : ℕ) (es fs : List Entry) → Rising objects es → Rising objects fs → VersionsFit es → VersionsFit fs
    → meeting_of fs es ≡ option_map swapped (meeting_of es fs)
meeting_swapped objects es fs rises-a rises-b fit-a fit-b =
    ⊎_elim
    (λ found.
    let v = found.version_a in
    let w = found.version_b in
    let smallest = smallest_found objects es fs rises-a found in
    smallest_answers objects fs es rises-b rises-a found.object w v
    (record { common = changed found.common; least = λ other x y below common. smallest.least other y x below (changed common) })
    ∙ ap Some (compared_swapped v w (fit-a _ v found.common.in_a) (fit-b _ w found.common.in_b))
    ∙ ap (option_map swapped) (sym found.answer))
    (λ nothing. unrelated fs es (λ o v w common. nothing.none o w v (changed common)) ∙ ap (option_map swapped) (sym nothing.answer))
    (found_or_none es fs)
  where
    changed : {es fs : List Entry} {o v w : ℕ} → Common es fs o v w → Common fs es o w v
    changed common = record { in_a = common.in_b; in_b = common.in_a }
