-- The live declarers of an object in start order, by the versions given out: what is seen of each is what stands at its place.
use Prim.Native.Nat.{ℕ, zero, suc, ◌+◌, ◌-◌, ◌<◌}
use mathlib.Core.Bool.{Bool, true, false}
use mathlib.Core.List.{[], ◌∷◌, map}
use mathlib.Core.Path.{◌≡◌, refl, ap, ◌∙◌}
use native.Mathlib.Omega.{arith}
use Rattle.record_layout.specs.Declarations.{names}
use Rattle.runs.specs.Histories.{History, Transaction, is_live}
use Rattle.runs.specs.Companions.{declarers, live_declarers, numbered}
use Rattle.rules.proofs.Picking.{and_false}
use Rattle.runs.proofs.Scan.{Standing, declares, word_after, LiveFact, Scan}

-- places that agree
pub numbered_alike : {A : Type 0} (count : ℕ) (f g : ℕ → A) → ((k : ℕ) → f k ≡ g k) → numbered count f ≡ numbered count g
numbered_alike count f g same = ap (numbered count) (λ i k. same k i)

-- `last` is how many versions have been given out in all
module _ {A : Type 0} (o first last : ℕ) (v : Standing) (see : Transaction → A) (at : ℕ → A)
    (seen : (given word : ℕ) (x : Transaction) → given < last → LiveFact o first v given word x → see x ≡ at given) where
  -- from the version given out, or the terminal where that is higher, the live declarers follow one by one up to the last
  abbrev Follow : ℕ → History → Type 0
  Follow given xs = (from count : ℕ) → from ≡ given + (v.terminal - given) → from + count ≡ last → given + declarers o xs ≡ last
      → map see (live_declarers o xs) ≡ numbered count (λ k. at (from + k))

  live_follows : (given word : ℕ) (x : Transaction) (xs : History) → is_live x.status ≡ true → names x.declarations o ≡ true
      → LiveFact o first v given word x → Follow (given + declares o x) xs → Follow given (x ∷ xs)
  live_follows given word x xs live named fact rest from zero starts ends all =
      let one : declares o x ≡ 1 = rw named in absurd (omega (arith, fact.ahead))
  live_follows given word x xs live named fact rest from (suc count) starts ends all = rw (live, named) (λ i. here i ∷ behind i)
    where
      one : declares o x ≡ 1
      one = rw named

      here : see x ≡ at (from + 0)
      here = seen given word x (omega (arith, one)) fact ∙ ap at (omega (arith, fact.ahead))

      behind : map see (live_declarers o xs) ≡ numbered count (λ k. at (from + suc k))
      behind =
          rest (suc from) count (omega (arith, one, fact.ahead)) (omega arith) (omega arith)
          ∙ numbered_alike count (λ k. at (suc from + k)) (λ k. at (from + suc k)) (λ k. ap at (omega arith))

  pub follow : (given word : ℕ) (xs : History) → Scan o first v given word xs → Follow given xs
  follow given word [] scan = λ from count starts ends all. let none : count ≡ 0 = omega arith in rw none
  follow given word (x ∷ xs) scan =
      by (is_live x.status) refl (names x.declarations o) refl (follow (given + declares o x) (word_after o v word x) xs scan.1)
    where
      by : (live : Bool) → is_live x.status ≡ live → (named : Bool) → names x.declarations o ≡ named → Follow (given + declares o x) xs
          → Follow given (x ∷ xs)
      by live e false f rest =
          let none : declares o x ≡ 0 = rw f in
          λ from count starts ends all. rw (f, and_false (is_live x.status)) (rest from count (omega arith) ends (omega arith))
      by false e true f rest =
          let one : declares o x ≡ 1 = rw f in
          λ from count starts ends all. rw e (rest from count (omega (arith, scan.0.past e f)) ends (omega arith))
      by true e true f rest = live_follows given word x xs e f (scan.0.live e f) rest
