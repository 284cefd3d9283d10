-- Why the laws hold that a slot owes: lemmas, which stand here since an impl can cite no others.
use Rattle.std.specs.Prelude.{ℕ, Bool, true, false, cond, Option, Some, None}
use Rattle.memory.specs.Makes.{Lawful}
use Rattle.memory.specs.Meanings.{Meaning}
use Rattle.caches.specs.Policies.{Tags, Steady}
use Rattle.caches.specs.Layers.{layered}
use Rattle.caches.specs.Laws.{layer_lawful}
use Rattle.caches.specs.declared.cache.Cache.{Cache}
use Rattle.piles.specs.Slots.{slotted}

-- a layer or what is below it, by any tags and at any price
pub either_lawful :
    (used : Bool) (p : Tags) (hit : ℕ) (m : Meaning) → Lawful (layered p hit m).make → Lawful m.make → Lawful (cond used (layered p hit m) m).make
either_lawful true p hit m layer below = layer
either_lawful false p hit m layer below = below

pub slot_lawful :
    {X : Type 0} (tags : X → Tags) → ((x : X) → Steady (tags x).rules) → (c : Option (Cache X)) (m : Meaning)
    → Lawful m.make → Lawful (slotted tags c m).make
slot_lawful tags steady (Some c) m below =
    either_lawful true (tags c.policy) c.hit.value m (layer_lawful _ (steady c.policy) c.hit.value c.hit.small _ below) below
slot_lawful tags steady None m below = below
