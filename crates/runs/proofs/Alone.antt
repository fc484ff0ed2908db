-- The lone run, object by object: its answers and its words are those of each object by itself.
use Prim.Native.Nat.{ℕ, ◌<◌}
use mathlib.Core.Bool.{Bool, true, false}
use mathlib.Core.List.{List, [], ◌∷◌, ◌++◌, map}
use mathlib.Core.Path.{◌≡◌, refl, sym, ap, ◌∙◌, subst}
use native.Mathlib.Omega.{arith}
use lib.ListN.{length, get_or, length-set, length-map, get_or-map}
use lib.Seq.{get_or-set_same, get_or-set_other, ext_get_or}
use lib.Dec.{eqb}
use borrow.Author.Tests.{eqb-true, eqb-false, eq-eqb}
use Rattle.answers.specs.Order.{pick}
use Rattle.objects.specs.declared.Object.{Object}
use Rattle.rules.specs.Tables.{no_object}
use Rattle.runs.specs.Histories.{Call}
use Rattle.runs.specs.LoneRun.{alone, words_after, lone_answers, lone_words}
use Rattle.runs.proofs.OneObject.{calls_on, replay, Agree, replay_append}

-- every call's object is below the bound
abbrev pub Inside : ℕ → List Call → Type 0
Inside n [] = Unit {0}
Inside n (call ∷ calls) = (call.object < n) × Inside n calls

pub inside_append : (n : ℕ) (a b : List Call) → Inside n a → Inside n b → Inside n (a ++ b)
inside_append n [] b first then = then
inside_append n (call ∷ a) b first then = (first.0, inside_append n a b first.1 then)

-- calls that agree, less the first of them
agree_behind : (a b : List Call) (word : ℕ) → Agree (a ++ b) word → Agree b (replay a word)
agree_behind [] b word agree = agree
agree_behind (call ∷ a) b word agree = agree_behind a b _ agree.1

-- what calls_on keeps of one call
abbrev kept : ℕ → Call → List Call
kept o call = pick (eqb call.object o) (call ∷ []) []

module _ (words : List ℕ) (call : Call) where
  length_after : length (words_after words call) ≡ length words
  length_after = length-set words call.object (alone words call).word

  inside_after : (calls : List Call) → Inside (length words) calls → Inside (length (words_after words call)) calls
  inside_after calls inside = subst (λ (n : ℕ). Inside n calls) (sym length_after) inside

  -- one call leaves at each object what the object by itself has after it
  word_after : call.object < length words → (o : ℕ) → get_or (words_after words call) o 0 ≡ replay (kept o call) (get_or words o 0)
  word_after inside o = by (eqb call.object o) refl
    where
      by : (same : Bool) → eqb call.object o ≡ same → get_or (words_after words call) o 0 ≡ replay (kept o call) (get_or words o 0)
      by true e = rw (e, sym (eqb-true call.object o e)) (get_or-set_same words call.object (alone words call).word 0 inside)
      by false e = rw e (get_or-set_other words call.object o (alone words call).word 0 (λ same. eqb-false call.object o e (sym same)))

pub lone_length : (words : List ℕ) (calls : List Call) → length (lone_words words calls) ≡ length words
lone_length words [] = refl
lone_length words (call ∷ calls) = lone_length (words_after words call) calls ∙ length_after words call

pub lone_words_at : (words : List ℕ) (calls : List Call) → Inside (length words) calls → (o : ℕ)
    → get_or (lone_words words calls) o 0 ≡ replay (calls_on o calls) (get_or words o 0)
lone_words_at words [] inside o = refl
lone_words_at words (call ∷ calls) inside o =
    lone_words_at (words_after words call) calls (inside_after words call calls inside.1) o
    ∙ ap (replay (calls_on o calls)) (word_after words call inside.0 o)
    ∙ sym (replay_append (kept o call) (calls_on o calls) (get_or words o 0))

pub lone_answers_lem : (words : List ℕ) (calls : List Call) → Inside (length words) calls
    → ((o : ℕ) → o < length words → Agree (calls_on o calls) (get_or words o 0)) → lone_answers words calls ≡ map (λ call. call.answer) calls
lone_answers_lem words [] inside agree = refl
lone_answers_lem words (call ∷ calls) inside agree =
    λ i. own.0 i ∷ lone_answers_lem (words_after words call) calls (inside_after words call calls inside.1) behind i
  where
    own : Agree (call ∷ calls_on call.object calls) (get_or words call.object 0)
    own = rw (eq-eqb call.object call.object refl) at (agree call.object inside.0)

    behind : (o : ℕ) → o < length (words_after words call) → Agree (calls_on o calls) (get_or (words_after words call) o 0)
    behind o below =
        subst (Agree (calls_on o calls)) (sym (word_after words call inside.0 o))
        (agree_behind (kept o call) (calls_on o calls) (get_or words o 0) (agree o (omega (arith, length_after words call))))

-- objects whose words are each what its calls leave
pub words_are : (words : List ℕ) (calls : List Call) (objects : List Object) → length objects ≡ length words → Inside (length words) calls
    → ((o : ℕ) → o < length words → (get_or objects o no_object).word ≡ replay (calls_on o calls) (get_or words o 0))
    → lone_words words calls ≡ map (λ object. object.word) objects
words_are words calls objects all inside each =
    ext_get_or 0 (lone_words words calls) (map (λ object. object.word) objects)
    (lone_length words calls ∙ sym all ∙ sym (length-map objects (λ object. object.word)))
    (λ o below.
    lone_words_at words calls inside o
    ∙ sym (each o (omega (arith, lone_length words calls)))
    ∙ sym (get_or-map (λ object. object.word) objects o no_object))
