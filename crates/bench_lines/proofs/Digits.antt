-- The digits of a number: as the library writes them and as R40 has them, one more in front, and how many there are.
use Rattle.std.proofs.Common.{◌≡◌, ℕ, zero, suc, ◌+◌, ◌*◌, ◌/◌, ◌^◌, ◌<◌, ◌≤◌, List, [], ◌∷◌, ◌++◌, length, sym, refl, ap, ◌∙◌, arith, eq-eqb, ne_eqb, length-append}
use mathlib.Core.Bool.{Bool, true, false}
use native.Mathlib.Nat.{pow-suc}
use lib.Dec.{eqb}
use lib.Seq.{append_snoc}
use Rattle.answers.specs.Order.{pick}
use Rattle.std.specs.Fmt.{decimal as written}
use Rattle.std.proofs.lemmas.Fmt.{AppendsLastDigit, decimal_from_appends, length-decimal-le}
use Rattle.bench_lines.specs.Lines.{digit_of, digits_of, decimal}

-- the last of so many digits, and those in front of it
abbrev up_to : ℕ → ℕ → List ℕ
up_to zero n = []
up_to (suc places) n = digits_of places (n / 10) ++ (digit_of n ∷ [])

pub no_digits : (places n : ℕ) → n ≡ 0 → digits_of places n ≡ []
unfolding digits_of
no_digits zero n none = refl
no_digits (suc places) n none = rw (eq-eqb n 0 none)

some_digits : (places n : ℕ) → (n ≡ 0 → ⊥) → digits_of places n ≡ up_to places n
unfolding digits_of
some_digits zero n some = refl
some_digits (suc places) n some = rw (ne_eqb n 0 some)

appends : AppendsLastDigit up_to
appends =
    record {
      one = λ places n one. rw (no_digits places (n / 10) (omega arith)) (ap (λ (d : ℕ). (48 + d) ∷ []) (omega arith));
      more = λ places n more. ap (λ (l : List ℕ). l ++ (digit_of n ∷ [])) (some_digits places (n / 10) (λ none. omega arith));
    }

pub as_written : (n : ℕ) → n < 2 ^ 64 → written n ≡ decimal n
as_written n fits = sym (decimal_from_appends up_to appends 21 n fits (length-decimal-le 21 n (omega arith) (omega arith) fits))

pub few_digits : (most n : ℕ) → 0 < most → n < 10 ^ most → n < 2 ^ 64 → length (decimal n) ≤ most
few_digits most n some few fits = rw (← as_written n fits) (length-decimal-le most n some few fits)

below_tenth : (p n : ℕ) → n < p * 10 → n / 10 < p
below_tenth p n h = omega arith

-- the tenth of a number has a digit less
tenth : (places n : ℕ) → n < 10 ^ suc places → n / 10 < 10 ^ places
tenth places n h = below_tenth (10 ^ places) n (rw (pow-suc 10 places) at (h))

-- a place more than a number needs adds no digit
more_places : (places n : ℕ) → n < 10 ^ places → digits_of places n ≡ digits_of (suc places) n
unfolding digits_of
more_places zero n h = rw (eq-eqb n 0 (omega arith))
more_places (suc places) n h =
    ap (λ (front : List ℕ). pick (eqb n 0) [] (front ++ (digit_of n ∷ []))) (more_places places (n / 10) (tenth places n h))

-- the last digit stands behind the digits of the tenth
last_digit : (places n : ℕ) → 0 < n → n < 10 ^ suc places → digits_of (suc places) n ≡ digits_of (suc places) (n / 10) ++ (digit_of n ∷ [])
unfolding digits_of
last_digit places n some fits =
    let not-zero : n ≡ 0 → ⊥ = λ e. omega arith in
    rw (ne_eqb n 0 not-zero) (ap (λ (front : List ℕ). front ++ (digit_of n ∷ [])) (more_places places (n / 10) (tenth places n fits)))

-- a number below a power of ten has no more digits than that
pub few_digits_of : (places most n : ℕ) → n < 10 ^ most → length (digits_of places n) ≤ most
unfolding digits_of
few_digits_of zero most n h = omega arith
few_digits_of (suc places) zero n h = rw (eq-eqb n 0 (omega arith)) (omega arith)
few_digits_of (suc places) (suc most) n h = go (eqb n 0) (few_digits_of places most (n / 10) (tenth most n h))
  where
    go : (none : Bool) → length (digits_of places (n / 10)) ≤ most → length (pick none [] (digits_of places (n / 10) ++ (digit_of n ∷ []))) ≤ suc most
    go true less = omega arith
    go false less = simp length-append (omega arith)

module _ (n : ℕ) (some : 0 < n) (fits : n < 10 ^ 20) where
  pub digit_put : (behind : List ℕ) → digits_of 20 n ++ behind ≡ digits_of 20 (n / 10) ++ (digit_of n ∷ behind)
  digit_put behind =
      ap (λ (front : List ℕ). front ++ behind) (last_digit 19 n some fits) ∙ append_snoc (digits_of 20 (n / 10)) (digit_of n) behind

  pub digit_counted : length (digits_of 20 n) ≡ length (digits_of 20 (n / 10)) + 1
  digit_counted = ap length (last_digit 19 n some fits) ∙ length-append (digits_of 20 (n / 10)) (digit_of n ∷ [])

pub decimal_counted : (n : ℕ) → length (decimal n) ≡ length (digits_of 20 (n / 10)) + 1
decimal_counted n = length-append (digits_of 20 (n / 10)) (digit_of n ∷ [])

pub few_decimal : (most n : ℕ) → n < 10 ^ suc most → length (decimal n) ≤ suc most
few_decimal most n h = omega (arith, decimal_counted n, few_digits_of 20 most (n / 10) (tenth most n h))
