-- What bytes that read as an end record list: objects that rise, with versions of 32 bits.
use Rattle.record_layout.specs.Reading.{read_as, end_right, body, reading, list_in, listing, Reading}
use Rattle.std.specs.Prelude.{Err, Ok}
use Prim.Native.Nat.{ℕ, ◌-◌}
use mathlib.Core.Bool.{Bool, true, false, ◌&&◌}
use mathlib.Core.List.{List, [], ◌∷◌}
use mathlib.Core.Logic.{inl, inr}
use mathlib.Core.Path.{◌≡◌, refl, sym, subst}
use native.Mathlib.Omega.{arith}
use lib.Dec.{ltb}
use lib.ListN.{drop}
use Rattle.counters.specs.Sizes.{Size}
use Rattle.record_layout.specs.Bytes.{byte_at, AreBytes}
use Rattle.record_layout.specs.Entries.{entries_of, rising_from}
use Rattle.record_layout.specs.declared.fields.Fields.{Fields}
use Rattle.record_layout.proofs.Fronts.{bytes_drop, bytes_take}
use Rattle.answers.proofs.Tests.{both_true}
use Rattle.record_layout.proofs.WriteBack.{record_read_lem, list_behind}
use Rattle.record_order.specs.CameFirst.{is_end, of_end}
use Rattle.record_order.specs.CommonObject.{Rising, VersionsFit}

no_end : {A : Type 0} → ◌≡◌ {A = Bool} false true → A
no_end wrong = let clash : ◌≡◌ {A = ℕ} 0 1 = cc in absurd (omega arith)

end_rises : (z : Size) (b : List ℕ) → end_right z b ≡ true → Rising z.objects (entries_of (drop 6 b))
end_rises z b right =
    let behind-slot = (both_true (ltb (byte_at b 4) z.slots) (ltb 0 (byte_at b 5) && rising_from z.objects 0 (entries_of (drop 6 b))) right).1 in
    (both_true (ltb 0 (byte_at b 5)) (rising_from z.objects 0 (entries_of (drop 6 b))) behind-slot).1

-- R28: an end record whose objects do not rise is refused
pub end_list_rises : (z : Size) (s : List ℕ) → is_end (reading z s) ≡ true → Rising z.objects (entries_of (listing z s))
end_list_rises z s is_end_lem = go (reading z s) refl is_end_lem
  where
    of_fields : (fields : Fields) (list taken : ℕ) → reading z s ≡ read_as fields list taken → of_end fields ≡ true → Rising z.objects (entries_of (listing z s))
    of_fields (Fields.Fresh first) list taken e is_end_lem = no_end is_end_lem
    of_fields (Fields.Event event) list taken e is_end_lem = no_end is_end_lem
    of_fields (Fields.Ended tick slot rollback) list taken e is_end_lem =
        let right : end_right z (body z s) ≡ true = (record_read_lem z s (Fields.Ended tick slot rollback) list taken e).fits.right_content in
        subst (λ (l : List ℕ). Rising z.objects (entries_of l)) (sym (list_behind z s (Fields.Ended tick slot rollback) list taken e)) (end_rises z (body z s) right)

    go : (r : Reading) → reading z s ≡ r → is_end r ≡ true → Rising z.objects (entries_of (listing z s))
    go (Ok read) e is_end_lem = of_fields read.fields read.list read.taken e is_end_lem
    go (Err refusal) e is_end_lem = no_end is_end_lem

-- parts of bytes are bytes
list_bytes : (z : Size) (s : List ℕ) → AreBytes s → AreBytes (listing z s)
list_bytes z s bytes = go (reading z s)
  where
    go : (r : Reading) → AreBytes (list_in r s)
    go (Ok read) = bytes_take (read.taken - read.list) (drop read.list s) (bytes_drop read.list s bytes)
    go (Err refusal) = record { each = λ at. omega arith }

-- the versions in bytes are of 32 bits
entries_fit : (l : List ℕ) → AreBytes l → VersionsFit (entries_of l)
entries_fit (o ∷ a ∷ b ∷ c ∷ d ∷ rest) bytes object version (inl here) = omega (arith, bytes.each 1, bytes.each 2, bytes.each 3, bytes.each 4)
entries_fit (o ∷ a ∷ b ∷ c ∷ d ∷ rest) bytes object version (inr later) = entries_fit rest (bytes_drop 5 (o ∷ a ∷ b ∷ c ∷ d ∷ rest) bytes) object version later
entries_fit (o ∷ a ∷ b ∷ c ∷ []) bytes object version listed = absurd listed
entries_fit (o ∷ a ∷ b ∷ []) bytes object version listed = absurd listed
entries_fit (o ∷ a ∷ []) bytes object version listed = absurd listed
entries_fit (o ∷ []) bytes object version listed = absurd listed
entries_fit [] bytes object version listed = absurd listed

-- the versions that a record of bytes lists are of 32 bits
pub list_versions : (z : Size) (s : List ℕ) → AreBytes s → VersionsFit (entries_of (listing z s))
list_versions z s bytes = entries_fit (listing z s) (list_bytes z s bytes)
