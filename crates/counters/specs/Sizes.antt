-- The sizes of a pump, the parameter of every definition that depends on them.
use Rattle.counters.specs.declared.Size as declared

abbrev pub Size : Type 0
Size = declared.Size

-- R1: the pump
abbrev pub base : Size
base = record { slots = 16; objects = 24 }
