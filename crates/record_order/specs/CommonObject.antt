-- R35: what it means that an object is the smallest that two lists have, whatever walk finds it.
use Rattle.std.specs.Prelude.{ℕ, ◌<◌, true, List, [], ◌∷◌, ◌⊎◌, ◌≡◌}
use Rattle.counters.specs.Versions.{turnover}
use Rattle.record_layout.specs.Entries.{Entry, rising_from}

-- the list has an entry with this object and this version
abbrev pub Lists : List Entry → ℕ → ℕ → Type 0
Lists [] object version = ⊥
Lists (e ∷ es) object version = ((e.object ≡ object) × (e.version ≡ version)) ⊎ Lists es object version

-- both list the object, A with version v and B with version w
pub record Common (es fs : List Entry) (object v w : ℕ) : Type 0 where
  pub in_a : Lists es object v
  pub in_b : Lists fs object w

-- and no smaller object is listed by both
pub record Smallest (es fs : List Entry) (object v w : ℕ) : Type 0 where
  pub common : Common es fs object v w
  pub least : (other x y : ℕ) → other < object → Common es fs other x y → ⊥

-- the objects rise, all below `objects`
abbrev pub Rising : ℕ → List Entry → Type 0
Rising objects es = rising_from objects 0 es ≡ true

-- every version is one of 32 bits
abbrev pub VersionsFit : List Entry → Type 0
VersionsFit es = (object version : ℕ) → Lists es object version → version < turnover
