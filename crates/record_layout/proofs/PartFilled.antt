-- A part of a buffer, lent to a copy and given back.
use Prim.Native.Nat.{ℕ, ◌+◌, ◌-◌, ◌≤◌}
use mathlib.Core.List.{List, [], ◌++◌, append-nil}
use mathlib.Core.Path.{◌≡◌}
use native.Mathlib.Omega.{arith}
use native.Mathlib.Nat.{le_refl}
use lib.ListN.{length, take, drop, length-drop, drop_of_length-le}
use lib.Seq.{length-take-le, take_all, take-length, drop-drop}

-- a part of a buffer that a copy has filled from its first byte, back in its place
pub part_filled : (b src : List ℕ) (at : ℕ) → at + length src ≤ length b
    → take at b ++ ((take (length src) src ++ drop (length src) (take (length b - at) (drop at b))) ++ drop (length b - at) (drop at b))
    ≡ take at b ++ (src ++ drop (at + length src) b)
part_filled b src at h =
    let whole : take (length b - at) (drop at b) ≡ drop at b = take_all (length b - at) (drop at b) (simp length-drop (le_refl (length b - at))) in
    let past : length b ≤ at + (length b - at) = omega arith in
    let none : drop (at + (length b - at)) b ≡ [] = drop_of_length-le b past in
    simp (take-length, whole, drop-drop, none, append-nil)

-- and it has room for what fits behind that place
pub part_room : (b : List ℕ) (at n : ℕ) → at + n ≤ length b → n ≤ length (take (length b - at) (drop at b))
part_room b at n h =
    let long : length (take (length b - at) (drop at b)) ≡ length b - at =
    length-take-le (length b - at) (drop at b) (simp length-drop (le_refl (length b - at))) in
    omega (arith, long, h)
