-- The number, place and layer of each fault of a memory. Every promise names a fault by its case, and takes these from here.
use Rattle.std.specs.Prelude.{ℕ, max}
use Rattle.memory.specs.declared.fault.MemoryFault.{MemoryFault}
use Rattle.memory.specs.declared.fault.MemoryFault.TheVariants.{WordCount, HighPrice, Geometry, NotHeld}
use Rattle.memory.specs.declared.fault.Setting.{Setting}
use Rattle.memory.specs.declared.fault.Setting.TheVariants.{First, Second}
use Rattle.memory.specs.declared.fault.Rule.{Rule}
use Rattle.memory.specs.declared.fault.Rule.TheVariants.{LineLength, SetCount, WayCount, Product}

pub record Code : Type 0 where
  pub number : ℕ
  pub place : ℕ
  pub layer : ℕ

-- a fault of the memory or of its making: layer 1
abbrev pub first_layer : ℕ → ℕ → Code
first_layer n p = record { number = n; place = p; layer = 1 }

-- the settings and the rules, counted from 1
abbrev pub setting_place : Setting → ℕ
setting_place First = 1
setting_place Second = 2

abbrev pub rule_place : Rule → ℕ
rule_place LineLength = 1
rule_place SetCount = 2
rule_place WayCount = 3
rule_place Product = 4

abbrev pub code : MemoryFault → Code
code (WordCount count) = first_layer 1 count
code (HighPrice s) = first_layer 3 (setting_place s)
code (Geometry r) = first_layer 4 (rule_place r)
code (NotHeld p) = first_layer 9 p

-- the fault of a span, or of one address, that a memory of this size does not hold
abbrev pub not_held : ℕ → ℕ → MemoryFault
not_held first size = NotHeld (max first size)
