-- Where each part of the tables (R4) stands in three lists, of words, of bytes and of marks. The pair of slot s and object o has the number
-- s * objects + o.
use Rattle.std.specs.Prelude.{ℕ, ◌+◌, ◌*◌, Bool, List, ◌≡◌, length}
use Rattle.counters.specs.Sizes.{Size}

-- among the words: of each object the word and its three versions, then of each pair the private version and the saved word
abbrev pub object_place : ℕ → ℕ
object_place o = 4 * o

abbrev pub private_place : Size → ℕ → ℕ
private_place z i = 4 * z.objects + 2 * i

-- among the bytes: of each pair the supremum and the count
abbrev pub supremum_place : ℕ → ℕ
supremum_place i = 2 * i

-- among the marks: live of each slot, then of all pairs declared, then called, then spoiled
abbrev pub declared_place : Size → ℕ → ℕ
declared_place z i = z.slots + i

abbrev pub called_place : Size → ℕ → ℕ
called_place z i = z.slots + z.slots * z.objects + i

abbrev pub spoiled_place : Size → ℕ → ℕ
spoiled_place z i = z.slots + 2 * (z.slots * z.objects) + i

-- how long the three lists are: no place is spare
abbrev pub words_long : Size → ℕ
words_long z = 4 * z.objects + 2 * (z.slots * z.objects)

abbrev pub bytes_long : Size → ℕ
bytes_long z = 2 * (z.slots * z.objects)

abbrev pub marks_long : Size → ℕ
marks_long z = z.slots + 3 * (z.slots * z.objects)

abbrev pub Fits : Size → List ℕ → List ℕ → List Bool → Type 0
Fits z w b k = (length w ≡ words_long z) × (length b ≡ bytes_long z) × (length k ≡ marks_long z)
