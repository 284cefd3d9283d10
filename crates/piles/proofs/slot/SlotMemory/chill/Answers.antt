use Rattle.piles.proofs.slot.SlotMemory.chill.Goals as goal

pub returns-in-Some : goal.returns-in-Some
returns-in-Some g c = rw c.in-Some.is c.chill.ensures
