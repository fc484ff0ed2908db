-- The words of a list, read each at its place.
use Rattle.std.proofs.Common.{◌≡◌, ℕ, zero, suc, ◌+◌, ◌*◌, ◌<◌, ◌≤◌, Bool, true, false, ltb, List, ◌∷◌, map, drop, refl, ap, subst, ◌∙◌, arith, get_or, drop-drop, ltb-true, ltb-false}
use Rattle.std.specs.Array.{IsFromFnResult, IsFromFnResultFrom}
use Rattle.std.specs.List.{range_with_len}
use Rattle.std.proofs.lemmas.List.FromFn.{fill_by_all}
use denote.Param.Members.{Mut, Called}
use Rattle.record_layout.specs.Bytes.{word_of}
use Rattle.bench_records.specs.Records.{words_of}

-- calls of a closure that changes nothing it holds, one for each place
module _ {F : Type 0} (g : Mut F (ℕ × Unit {0}) ℕ) (f : F) (value : ℕ → ℕ)
    (gives : (i y : ℕ) (q : F) → Called g f (i, tt) y q → (y ≡ value i) × (q ≡ f)) where
  at_each : (ys : List ℕ) (i n : ℕ) → IsFromFnResultFrom g f ys i n → (k : ℕ) → i ≤ k → k < i + n → get_or ys k 0 ≡ value k
  at_each ys i zero calls k low high = absurd (omega arith)
  at_each ys i (suc n) (q, y, element, called, rest) k low high =
      let told = gives i y q called in
      go (ltb i k) refl (at_each ys (i + 1) n (subst (λ (q : F). IsFromFnResultFrom g q ys (i + 1) n) told.1 rest) k) told.0
    where
      go : (above : Bool) → ltb i k ≡ above → (i + 1 ≤ k → k < i + 1 + n → get_or ys k 0 ≡ value k) → y ≡ value i → get_or ys k 0 ≡ value k
      go true e behind here = behind (omega (arith, ltb-true i k e)) (omega arith)
      go false e behind here =
          let same : i ≡ k = omega (arith, ltb-false i k e) in
          subst (λ (j : ℕ). get_or ys j 0 ≡ value j) same (element.1 0 ∙ here)

  pub from_fn_gives : (ys : List ℕ) (n : ℕ) → IsFromFnResult g f ys n → ys ≡ map value (range_with_len 0 n)
  from_fn_gives ys n made = fill_by_all value ys n 0 made.long (λ k below. at_each ys 0 n made.each k (omega arith) (omega arith))

-- the word at a place of a list
abbrev pub word_in : List ℕ → ℕ → ℕ
word_in list o = word_of (drop (4 * o) list)

words_behind : (list : List ℕ) (o count : ℕ) → words_of count (drop (4 * o) list) ≡ map (word_in list) (range_with_len o count)
unfolding words_of
words_behind list o zero = refl
words_behind list o (suc count) =
    let place : 4 * o + 4 ≡ 4 * (o + 1) = omega arith in
    ap (λ (rest : List ℕ). word_in list o ∷ rest)
    (ap (words_of count) (drop-drop 4 (4 * o) list ∙ ap (λ (n : ℕ). drop n list) place) ∙ words_behind list (o + 1) count)

pub words_are : (list : List ℕ) (count : ℕ) → words_of count list ≡ map (word_in list) (range_with_len 0 count)
words_are list count = words_behind list 0 count
