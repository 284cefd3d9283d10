-- Caches and layers as the code has them.
use Rattle.std.specs.Prelude.{ℕ, Bool, Result, MatchResult}
use Rattle.memory.specs.declared.fault.MemoryFault.{MemoryFault}
use Rattle.memory.specs.Meanings.{Meaning}
use Rattle.memory.specs.Calls.{Fetches, Stores, Refuses}
use Rattle.caches.specs.Policies.{Tags}
use Rattle.caches.specs.Layers.{layered}
use Rattle.caches.specs.declared.cache.Cache.{Cache}
use Rattle.caches.specs.declared.layer.Layer.{Layer}

-- what a cache atop a memory means, by what its policy tells and what the memory means
abbrev pub atop : {X : Type 0} → (X → Tags) → Cache X → Meaning → Meaning
atop tags c m = layered (tags c.policy) c.hit.value m

-- what a layer means, by what its policy tells and what the memory below means
abbrev pub laid : {X Y : Type 0} → (X → Tags) → (Y → Meaning) → Layer X Y → Meaning
laid tags means l = atop tags l.cache (means l.below)

-- whether a policy keeps the line of an address now
abbrev pub keeping : Tags → ℕ → Bool
keeping p a = p.rules.kept a p.told

-- a fetch of a, and a store of w at a, accepted or refused
abbrev pub Fetched : Meaning → ℕ → Meaning → Result (ℕ × ℕ) MemoryFault → Type 0
Fetched m a n r = MatchResult r (Fetches m a n) (Refuses m a n)

abbrev pub Stored : Meaning → ℕ → ℕ → Meaning → Result ℕ MemoryFault → Type 0
Stored m a w n r = MatchResult r (Stores m a w n) (Refuses m a n)
