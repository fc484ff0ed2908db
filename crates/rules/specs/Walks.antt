-- Walks over every number below a bound, in rising order.
use Rattle.std.specs.Prelude.{ℕ, zero, suc, Bool, false, ◌||◌, List, [], ◌++◌}

-- whether a test holds for any number below the bound
unfoldable pub any_below : ℕ → (ℕ → Bool) → Bool
any_below zero test = false
any_below (suc k) test = any_below k test || test k

-- what is left after each number below the bound had its turn
unfoldable pub each_below : {A : Type 0} → ℕ → (ℕ → A → A) → A → A
each_below zero turn start = start
each_below (suc k) turn start = turn k (each_below k turn start)

-- the lists of all numbers below the bound, one behind the other
unfoldable pub join_below : {A : Type 0} → ℕ → (ℕ → List A) → List A
join_below zero part = []
join_below (suc k) part = join_below k part ++ part k
