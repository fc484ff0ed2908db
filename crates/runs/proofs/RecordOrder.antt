-- Which came first, of two end records whose entries are known.
use Rattle.counters.specs.declared.Comparison.{Comparison}
use Rattle.std.specs.Prelude.{Some, Ok}
use Prim.Native.Nat.{ℕ, ◌+◌, ◌%◌, ◌<◌}
use mathlib.Core.Bool.{Bool, true, false, ◌&&◌}
use mathlib.Core.List.{List}
use mathlib.Core.Path.{◌≡◌, ap, ◌∙◌}
use native.Mathlib.Omega.{arith}
use Rattle.counters.specs.Sizes.{Size}
use Rattle.counters.specs.Versions.{turnover}
use Rattle.counters.specs.Comparing.{compared, swapped}
use Rattle.counters.specs.declared.Comparison.TheVariants.{A, B}
use Rattle.counters.proofs.Compared.{first_unwrapped, compared_swapped}
use Rattle.record_layout.specs.Declarations.{Declaration, names}
use Rattle.record_layout.specs.Entries.{entries_of}
use Rattle.record_layout.specs.Reading.{reading, listing}
use Rattle.record_order.specs.CameFirst.{came_first, is_end}
use Rattle.record_order.specs.CommonObject.{Lists}
use Rattle.record_order.proofs.Answers.{smallest_decides}

-- bytes that read as an end record, which lists exactly the objects that a start declares, with these versions wrapped to 32 bits
pub record Recorded (z : Size) (written : List ℕ) (declarations : List Declaration) (version : ℕ → ℕ) : Type 0 where
  pub is_end_lem : is_end (reading z written) ≡ true
  pub listed : (o : ℕ) → names declarations o ≡ true → Lists (entries_of (listing z written)) o (version o % turnover)
  pub only : (o v : ℕ) → Lists (entries_of (listing z written)) o v → names declarations o ≡ true

-- the smallest object that both starts name is the smallest that both records list
smallest_named : (z : Size) (a b : List ℕ) (starts-a starts-b : List Declaration) (version-a version-b : ℕ → ℕ) → Recorded z a starts-a version-a → Recorded z b starts-b version-b
    → (o : ℕ) → names starts-a o ≡ true → names starts-b o ≡ true → ((q : ℕ) → q < o → names starts-a q ≡ true → names starts-b q ≡ true → ⊥)
    → came_first z a b ≡ Ok (Some (compared (version-a o % turnover) (version-b o % turnover)))
smallest_named z a b starts-a starts-b version-a version-b recorded-a recorded-b o in_a in_b least =
    smallest_decides z a b recorded-a.is_end_lem recorded-b.is_end_lem o (version-a o % turnover) (version-b o % turnover)
    (record {
      common = record { in_a = recorded-a.listed o in_a; in_b = recorded-b.listed o in_b };
      least = λ other x y below common. least other below (recorded-a.only other x common.in_a) (recorded-b.only other y common.in_b);
    })

not_both : (a b : Bool) → a && b ≡ false → a ≡ true → b ≡ true → ⊥
not_both a b e is-a is_b =
    let both : true ≡ false = rw (is-a, is_b) at e in
    let clash : ◌≡◌ {A = ℕ} 0 1 = cc in
    omega arith

-- R37: the answer is the start order, both ways round
pub in_true_order : (z : Size) (a b : List ℕ) (starts-a starts-b : List Declaration) (version-a version-b : ℕ → ℕ) → Recorded z a starts-a version-a → Recorded z b starts-b version-b
    → (o : ℕ) → names starts-a o ≡ true → names starts-b o ≡ true → ((q : ℕ) → q < o → names starts-a q && names starts-b q ≡ false)
    → version-a o < version-b o → version-b o < version-a o + 2147483648 → (came_first z a b ≡ Ok (Some A)) × (came_first z b a ≡ Ok (Some B))
in_true_order z a b starts-a starts-b version-a version-b recorded-a recorded-b o in_a in_b least before near =
    let first : compared (version-a o % turnover) (version-b o % turnover) ≡ A = first_unwrapped (version-a o) (version-b o) before near in (
      smallest_named z a b starts-a starts-b version-a version-b recorded-a recorded-b o in_a in_b (λ q below. not_both (names starts-a q) (names starts-b q) (least q below))
          ∙ ap (λ (c : Comparison). Ok (Some c)) first,
      smallest_named z b a starts-b starts-a version-b version-a recorded-b recorded-a o in_b in_a
          (λ q below named-b named-a. not_both (names starts-a q) (names starts-b q) (least q below) named-a named-b)
          ∙ ap (λ (c : Comparison). Ok (Some c)) (compared_swapped (version-a o % turnover) (version-b o % turnover) (omega arith) (omega arith) ∙ ap swapped first),
    )
