-- What a framing tells of the body, its place and the reading.
use Rattle.record_layout.specs.declared.fields.Frame.{Frame}
use Rattle.record_layout.proofs.Telling.{within_ok}
use Rattle.record_layout.specs.Reading.{framed_as, length_field, kind_field, frame_rules, framing, body, body_place, reading, reading_of}
use Rattle.std.specs.Prelude.{Err, Ok}
use Prim.Native.Nat.{ℕ, ◌+◌, ◌≤◌}
use mathlib.Core.List.{List, []}
use mathlib.Core.Logic.{◌⊎◌, inl, inr}
use mathlib.Core.Path.{◌≡◌, ◌∙◌, sym, ap}
use lib.ListN.{length, take, drop}
use native.Mathlib.Omega.{arith}
use Rattle.answers.proofs.Deciding.{Accepts, OneHolds, decided}
use Rattle.answers.specs.declared.Refusal.{Refusal}
use Rattle.counters.specs.Sizes.{Size}
use Rattle.record_layout.proofs.Checks.{frame_fits}
use Rattle.record_layout.specs.Kinds.{kind_of}

pub record IsWhole (z : Size) (s : List ℕ) (length_told number : ℕ) : Type 0 where
  pub is_there : 4 + length_told ≤ length s
  pub body_is : body z s ≡ take length_told (drop 4 s)
  pub place_is : body_place z s ≡ 4
  pub reading_is : reading z s ≡ reading_of z (kind_of number) (body z s)

pub whole : (z : Size) (s : List ℕ) (frame : Frame) → framing z s ≡ Ok frame → IsWhole z s frame.length frame.number
whole z s frame e = go (decided (frame_rules z s))
  where
    go : Accepts (frame_rules z s) ⊎ OneHolds (frame_rules z s) → IsWhole z s frame.length frame.number
    go (inl a) =
        let same = within_ok _ _ (sym (a.gives Err (framed_as (length_field s) (kind_field s))) ∙ e) in
        let long : length_field s ≡ frame.length = ap (λ (f : Frame). f.length) same in
        let kind : kind_field s ≡ frame.number = ap (λ (f : Frame). f.number) same in
        record {
          is_there = rw (← long) (frame_fits z s a.passes).all_there;
          body_is = rw (← long) (a.gives (λ refusal. []) (take (length_field s) (drop 4 s)));
          place_is = a.gives (λ refusal. 0) 4;
          reading_is = a.gives Err (reading_of z (kind_of (kind_field s)) (body z s)) ∙ rw kind;
        }
    go (inr r) =
        let clash : ◌≡◌ {A = ℕ} 0 1 = cc (r.gives Err (framed_as (length_field s) (kind_field s))) in
        absurd (omega arith)

pub record IsRefused (z : Size) (s : List ℕ) (refusal : Refusal) : Type 0 where
  pub body_is : body z s ≡ []
  pub place_is : body_place z s ≡ 0
  pub reading_is : reading z s ≡ Err refusal

pub not_whole : (z : Size) (s : List ℕ) (refusal : Refusal) → framing z s ≡ Err refusal → IsRefused z s refusal
not_whole z s refusal e = go (decided (frame_rules z s))
  where
    go : Accepts (frame_rules z s) ⊎ OneHolds (frame_rules z s) → IsRefused z s refusal
    go (inl a) =
        let clash : ◌≡◌ {A = ℕ} 0 1 = cc (a.gives Err (framed_as (length_field s) (kind_field s))) in
        absurd (omega arith)
    go (inr r) =
        let same : r.refusal ≡ refusal = cc (r.gives Err (framed_as (length_field s) (kind_field s))) in
        record {
          body_is = r.gives (λ refusal. []) (take (length_field s) (drop 4 s));
          place_is = r.gives (λ refusal. 0) 4;
          reading_is = r.gives Err (reading_of z (kind_of (kind_field s)) (body z s)) ∙ rw same;
        }
