-- What is read after a call or a release, place by place.
use Prim.Native.Nat.{ℕ, ◌<◌}
use mathlib.Core.Bool.{◌&&◌}
use mathlib.Core.Path.{◌≡◌, refl}
use lib.Dec.{eqb}
use Rattle.answers.specs.Order.{pick}
use Rattle.counters.specs.Sizes.{Size}
use Rattle.kinds.specs.Kinds.{acted}
use Rattle.objects.specs.Places.{called_object, called_pair, let_go}
use Rattle.objects.specs.declared.Object.{Object}
use Rattle.objects.specs.declared.Pair.{Pair}
use Rattle.rules.specs.Tables.{State, object_at, pair_at, with_object}
use Rattle.rules.specs.Effects.{call_effect, release_effect}
use Rattle.rules.proofs.Stores.{Sized, pair_after, object_after, sized_pair, sized_object}

-- the tables u after a call in t
pub record Called (z : Size) (s o kind argument : ℕ) (t u : State) : Type 0 where
  pub sized : Sized z u
  pub object : (q : ℕ) → object_at u q ≡ pick (eqb q o) (called_object (acted kind (object_at t o).word argument).word (pair_at z t s o) (object_at t o)) (object_at t q)
  pub pair : (r q : ℕ) → q < z.objects
      → pair_at z u r q ≡ pick (eqb r s && eqb q o) (called_pair (pair_at z t s o) (object_at t o)) (pair_at z t r q)
  pub live : u.live ≡ t.live

-- the tables u after a release in t
pub record GaveWay (z : Size) (s o : ℕ) (t u : State) : Type 0 where
  pub sized : Sized z u
  pub object : (q : ℕ) → object_at u q ≡ pick (eqb q o) (let_go (pair_at z t s o).private (object_at t o)) (object_at t q)
  pub pairs : u.pairs ≡ t.pairs
  pub live : u.live ≡ t.live

module _ (z : Size) (t : State) (sized : Sized z t) (s o : ℕ) (inside : o < z.objects) where
  -- the effects of a call and of a release, place by place
  pub call_effect_lem : (kind argument : ℕ) → s < z.slots → Called z s o kind argument t (call_effect z s o (acted kind (object_at t o).word argument).word t)
  call_effect_lem kind argument slot =
      let object : Object = called_object (acted kind (object_at t o).word argument).word (pair_at z t s o) (object_at t o) in
      let pair : Pair = called_pair (pair_at z t s o) (object_at t o) in
      let acted-on : Sized z (with_object t o object) = sized_object z t sized o object in
      record {
        sized = sized_pair z (with_object t o object) acted-on s o pair;
        object = λ q. object_after z t sized o q object inside;
        pair = λ r q below. pair_after z (with_object t o object) acted-on s o r q pair slot inside below;
        live = refl;
      }

  pub release_effect_lem : GaveWay z s o t (release_effect z s o t)
  release_effect_lem =
      let object : Object = let_go (pair_at z t s o).private (object_at t o) in
      record { sized = sized_object z t sized o object; object = λ q. object_after z t sized o q object inside; pairs = refl; live = refl }
