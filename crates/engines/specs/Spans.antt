-- The spans that a section needs, and the first of them that a memory does not hold.
use Rattle.std.specs.Prelude.{◌⊎◌, List, [], ◌∷◌}
use Rattle.memory.specs.declared.fault.MemoryFault.{MemoryFault}
use Rattle.memory.specs.Meanings.{Meaning}
use Rattle.memory.specs.Calls.{Admits, Bars}
use Rattle.placement.specs.declared.regions.Span.{Span}

abbrev pub AllHeld : Meaning → List Span → Type 0
AllHeld m [] = Unit {0}
AllHeld m (x ∷ xs) = Admits m x.first x.count × AllHeld m xs

-- a span is not held, and those before it are
abbrev pub FirstBarred : Meaning → List Span → MemoryFault → Type 0
FirstBarred m [] f = ⊥
FirstBarred m (x ∷ xs) f = Bars m x.first x.count f ⊎ (Admits m x.first x.count × FirstBarred m xs f)
