-- A slot: a cache atop a memory, or the memory itself while the slot is free.
use Rattle.std.specs.Prelude.{Option, Some, None}
use Rattle.memory.specs.Meanings.{Meaning}
use Rattle.caches.specs.Policies.{Tags}
use Rattle.caches.specs.Laid.{atop}
use Rattle.caches.specs.declared.cache.Cache.{Cache}

abbrev pub slotted : {X : Type 0} → (X → Tags) → Option (Cache X) → Meaning → Meaning
slotted tags (Some c) m = atop tags c m
slotted tags None m = m
