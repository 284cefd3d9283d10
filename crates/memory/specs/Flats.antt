-- The flat store: its price is that of a read or of a write, and its clock state is empty.
use Rattle.std.specs.Prelude.{ℕ, List, []}
use Rattle.memory.specs.Makes.{Request, read, write, Make}
use Rattle.memory.specs.Meanings.{Meaning}

abbrev pub flat_price : ℕ → ℕ → Request → List ℕ → ℕ
flat_price reads writes (read a) s = reads
flat_price reads writes (write a) s = writes

-- requests and chills leave its clock state as it is
abbrev pub flat_make : ℕ → ℕ → Make
flat_make reads writes = record { price = flat_price reads writes; next = λ q s. s; cold = λ s. s }

-- a flat store of these words, with a price for reads and one for writes
abbrev pub flat_meaning : List ℕ → ℕ → ℕ → Meaning
flat_meaning ws reads writes = record { contents = ws; clock = []; make = flat_make reads writes }
