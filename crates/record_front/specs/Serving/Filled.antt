-- Bytes that stand at the front of an array and are followed by zeros.
use Rattle.std.specs.Prelude.{ℕ, ◌-◌, List, ◌++◌, length, replicate}

abbrev pub filled : ℕ → List ℕ → List ℕ
filled room bytes = bytes ++ replicate (room - length bytes) 0
