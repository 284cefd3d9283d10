-- What the numbers of a `store` or a `layer` command make, and by which fault they are refused.
use Rattle.std.specs.Prelude.{◌≡◌, ℕ, ◌*◌, ◌<◌, ◌≤◌, replicate}
use Rattle.memory.specs.declared.fault.MemoryFault.{MemoryFault}
use Rattle.memory.specs.declared.fault.MemoryFault.TheVariants.{WordCount, HighPrice, Geometry, NotHeld}
use Rattle.memory.specs.declared.fault.Setting.{Setting}
use Rattle.memory.specs.declared.fault.Setting.TheVariants.{First, Second}
use Rattle.memory.specs.Meanings.{Meaning}
use Rattle.memory.specs.Flats.{flat_meaning}
use Rattle.caches.specs.Shapes.{LineRule, SetsRule, WaysRule, Breaks}
use Rattle.caches.specs.Policies.{Tags}
use Rattle.caches.specs.Direct.{direct_tags}
use Rattle.caches.specs.Lru.{lru_tags}
use Rattle.script.specs.declared.command.PolicyName.{PolicyName}
use Rattle.script.specs.declared.command.PolicyName.TheVariants.{Direct, Lru}

-- so many words make a store
abbrev pub Enough : ℕ → Type 0
Enough size = (1 ≤ size) × (size ≤ 4096)

-- the first of two prices that is too high
abbrev pub HighSetting : ℕ → ℕ → Setting → Type 0
HighSetting first second First = 255 < first
HighSetting first second Second = (first ≤ 255) × (255 < second)

-- the word count is looked at before the prices
abbrev pub StoreFault : ℕ → ℕ → ℕ → MemoryFault → Type 0
StoreFault reads writes size (WordCount n) = (n ≡ size) × (Enough size → ⊥)
StoreFault reads writes size (HighPrice s) = Enough size × HighSetting reads writes s
StoreFault reads writes size (Geometry rule) = ⊥
StoreFault reads writes size (NotHeld p) = ⊥

-- a store of so many zero words
abbrev pub new_store : ℕ → ℕ → ℕ → Meaning
new_store reads writes size = flat_meaning (replicate size 0) reads writes

-- three numbers that make a geometry
abbrev pub Shaped : ℕ → ℕ → ℕ → Type 0
Shaped line sets ways = LineRule line × SetsRule sets × WaysRule ways × (sets * ways ≤ 64)

-- the hit price is looked at before the geometry
abbrev pub LayerFault : ℕ → ℕ → ℕ → ℕ → MemoryFault → Type 0
LayerFault line sets ways hit (WordCount n) = ⊥
LayerFault line sets ways hit (HighPrice First) = 255 < hit
LayerFault line sets ways hit (HighPrice Second) = ⊥
LayerFault line sets ways hit (Geometry rule) = (hit ≤ 255) × Breaks line sets ways rule
LayerFault line sets ways hit (NotHeld p) = ⊥

-- a policy that keeps no line yet
abbrev pub new_tags : PolicyName → ℕ → ℕ → ℕ → Tags
new_tags Direct line sets ways = direct_tags line sets (replicate sets 0)
new_tags Lru line sets ways = lru_tags line sets ways (replicate (sets * ways) 0)
