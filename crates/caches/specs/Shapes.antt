-- The rules of a geometry, and by which of them one is refused.
use Rattle.std.specs.Prelude.{◌≡◌, ℕ, ◌*◌, ◌<◌, ◌≤◌, count_ones}
use Rattle.memory.specs.declared.fault.MemoryFault.{MemoryFault}
use Rattle.memory.specs.declared.fault.MemoryFault.TheVariants.{WordCount, HighPrice, Geometry, NotHeld}
use Rattle.memory.specs.declared.fault.Rule.{Rule}
use Rattle.memory.specs.declared.fault.Rule.TheVariants.{LineLength, SetCount, WayCount, Product}

-- a line length and a set count have just one bit set
abbrev pub LineRule : ℕ → Type 0
LineRule line = (count_ones line ≡ 1) × (line ≤ 16)

abbrev pub SetsRule : ℕ → Type 0
SetsRule sets = (count_ones sets ≡ 1) × (sets ≤ 64)

abbrev pub WaysRule : ℕ → Type 0
WaysRule ways = (1 ≤ ways) × (ways ≤ 8)

-- the first rule that three numbers break
abbrev pub Breaks : ℕ → ℕ → ℕ → Rule → Type 0
Breaks line sets ways LineLength = LineRule line → ⊥
Breaks line sets ways SetCount = LineRule line × (SetsRule sets → ⊥)
Breaks line sets ways WayCount = LineRule line × SetsRule sets × (WaysRule ways → ⊥)
Breaks line sets ways Product = LineRule line × SetsRule sets × WaysRule ways × (64 < sets * ways)

-- a fault that names the first broken rule
abbrev pub Refused : ℕ → ℕ → ℕ → MemoryFault → Type 0
Refused line sets ways (Geometry rule) = Breaks line sets ways rule
Refused line sets ways (WordCount n) = ⊥
Refused line sets ways (HighPrice s) = ⊥
Refused line sets ways (NotHeld n) = ⊥
