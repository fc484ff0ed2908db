-- The loop that declares the listed objects, by its place in the list of bytes.
use Prim.Native.Nat.{ℕ, ◌+◌, ◌-◌, ◌≤◌, ◌<◌}
use mathlib.Core.List.{List, ◌∷◌}
use mathlib.Core.Path.{◌≡◌, sym, ap, ◌∙◌}
use native.Mathlib.Omega.{arith}
use lib.ListN.{length, drop, get_or}
use Rattle.counters.specs.Sizes.{Size}
use Rattle.record_layout.specs.Declarations.{Declaration, declarations_of}
use Rattle.record_layout.proofs.DeclarationWalk.{declarations_next, declarations_end}
use Rattle.rules.specs.Effects.{declare_one, declare_all}
use Rattle.rules.specs.Tables.{State}
use Rattle.leaf_start.specs.Serving.Listed.{ListedBelow}

-- what the loop keeps: what is left of the list is declared in the tables as they are now
pub record Declaring (z : Size) (s : ℕ) (list : List ℕ) (next : ℕ) (t₀ t : State) : Type 0 where
  pub reached : next ≤ length list
  pub within : ListedBelow z.objects (declarations_of (drop next list))
  pub declared : declare_all z s (declarations_of list) t₀ ≡ declare_all z s (declarations_of (drop next list)) t

module _ {z : Size} {s : ℕ} {list : List ℕ} {next : ℕ} {t₀ t : State} (declaring : Declaring z s list next t₀ t) where
  module _ (more : 1 < length list - next) where
    abbrev first : Declaration
    first = record { object = get_or list next 0; supremum = get_or list (next + 1) 0 }

    left_within : ListedBelow z.objects (first ∷ declarations_of (drop (next + 2) list))
    left_within = rw (declarations_next list next more) at declaring.within

    pub next_within : get_or list next 0 < z.objects
    next_within = left_within.0

    -- a turn
    pub declares_on : (u : State) → u ≡ declare_one z s (get_or list next 0) (get_or list (next + 1) 0) t → Declaring z s list (next + 2) t₀ u
    declares_on u one =
        record {
          reached = omega arith;
          within = left_within.1;
          declared =
              declaring.declared
              ∙ ap (λ (l : List Declaration). declare_all z s l t) (declarations_next list next more)
              ∙ ap (declare_all z s (declarations_of (drop (next + 2) list))) (sym one);
        }

  pub declares_all : length list - next ≤ 1 → t ≡ declare_all z s (declarations_of list) t₀
  declares_all none = sym (declaring.declared ∙ ap (λ (l : List Declaration). declare_all z s l t) (declarations_end list next none))
