-- Words stored one by one in a lent list of as many are the list of them.
use Prim.Native.Nat.{ℕ}
use mathlib.Core.List.{List, [], ◌∷◌}
use mathlib.Core.Path.{◌≡◌, refl, ◌∙◌}
use native.Mathlib.Omega.{arith}
use lib.ListN.{length, set, length-set}

pub four_words : (l : List ℕ) → length l ≡ 4 → (a b c d : ℕ) → set (set (set (set l 0 a) 1 b) 2 c) 3 d ≡ a ∷ b ∷ c ∷ d ∷ []
four_words (p ∷ q ∷ r ∷ s ∷ []) four a b c d = refl
four_words (p ∷ q ∷ r ∷ s ∷ t ∷ rest) four a b c d = absurd (omega arith)
four_words (p ∷ q ∷ r ∷ []) four a b c d = absurd (omega arith)
four_words (p ∷ q ∷ []) four a b c d = absurd (omega arith)
four_words (p ∷ []) four a b c d = absurd (omega arith)
four_words [] four a b c d = absurd (omega arith)

pub eight_words : (l : List ℕ) → length l ≡ 8 → (a b c d e f g h : ℕ)
    → set (set (set (set (set (set (set (set l 0 a) 1 b) 2 c) 3 d) 4 e) 5 f) 6 g) 7 h ≡ a ∷ b ∷ c ∷ d ∷ e ∷ f ∷ g ∷ h ∷ []
eight_words (p ∷ q ∷ r ∷ s ∷ rest) eight a b c d e f g h =
    let four : length rest ≡ 4 = omega arith in
    λ i. a ∷ b ∷ c ∷ d ∷ four_words rest four e f g h i
eight_words (p ∷ q ∷ r ∷ []) eight a b c d e f g h = absurd (omega arith)
eight_words (p ∷ q ∷ []) eight a b c d e f g h = absurd (omega arith)
eight_words (p ∷ []) eight a b c d e f g h = absurd (omega arith)
eight_words [] eight a b c d e f g h = absurd (omega arith)

-- and the list stays as long as it is meanwhile
pub four_long : (l : List ℕ) (a b c d : ℕ) → length (set (set (set (set l 0 a) 1 b) 2 c) 3 d) ≡ length l
four_long l a b c d =
    length-set (set (set (set l 0 a) 1 b) 2 c) 3 d ∙ length-set (set (set l 0 a) 1 b) 2 c ∙ length-set (set l 0 a) 1 b ∙ length-set l 0 a
