-- A promise of a part fixes all of it that a program can see.
use Prim.Native.Nat.{ℕ}
use mathlib.Core.List.{List}
use mathlib.Core.Path.{◌≡◌, sym, ◌∙◌}
use denote.Ref.{Bor}
use lib.ListN.{length}
use Rattle.record_layout.specs.Bytes.{IsPart}

-- the block and the offset where a slice begins, how long it is, and its bytes
pub record Seen : Type 0 where
  pub block : ℕ
  pub offset : ℕ
  pub long : ℕ
  pub bytes : List ℕ

abbrev pub seen : Bor (List ℕ) → Seen
seen r = record { block = r.ref_ptr.0; offset = r.ref_ptr.1; long = length r.now; bytes = r.now }

-- no second part fits: two that meet one promise are seen alike
pub part_tells : (r other s : Bor (List ℕ)) (place : ℕ) (held : List ℕ) → IsPart r s place held → IsPart other s place held → seen r ≡ seen other
part_tells r other s place held part again =
    let places : r.ref_ptr ≡ other.ref_ptr = part.place_is ∙ sym again.place_is in
    let same : r.now ≡ other.now = part.bytes ∙ sym again.bytes in
    λ i. record { block = (places i).0; offset = (places i).1; long = length (same i); bytes = same i }

-- and nothing else is in a slice
pub seen_tells : (r other : Bor (List ℕ)) → seen r ≡ seen other → r ≡ other
seen_tells r other same = λ i. record { ref_ptr = ((same i).block, (same i).offset); now = (same i).bytes }
