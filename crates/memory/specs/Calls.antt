-- What each call of a memory says: m is the memory before it, n the memory after it.
use Rattle.std.specs.Prelude.{◌≡◌, ℕ, ◌+◌, ◌<◌, ◌≤◌, length, slice_index}
use Rattle.memory.specs.declared.fault.MemoryFault.{MemoryFault}
use Rattle.memory.specs.Faults.{not_held}
use Rattle.memory.specs.Makes.{read, write}
use Rattle.memory.specs.Meanings.{Meaning, fetched, stored, poked}

-- an accepted peek at a, and its answer
pub record Peeks (m : Meaning) (a : ℕ) (answer : ℕ) : Type 0 where
  pub held : a < length m.contents
  pub answers : answer ≡ slice_index m.contents a

-- an accepted poke of w at a
pub record Pokes (m : Meaning) (a w : ℕ) (n : Meaning) : Type 0 where
  pub held : a < length m.contents
  pub after : n ≡ poked m a w

-- an accepted fetch of a: the word and its price
pub record Fetches (m : Meaning) (a : ℕ) (n : Meaning) (answer : ℕ × ℕ) : Type 0 where
  pub held : a < length m.contents
  pub answers : answer.0 ≡ slice_index m.contents a
  pub priced : answer.1 ≡ m.make.price (read a) m.clock
  pub after : n ≡ fetched m a

-- an accepted store of w at a: its price
pub record Stores (m : Meaning) (a w : ℕ) (n : Meaning) (answer : ℕ) : Type 0 where
  pub held : a < length m.contents
  pub priced : answer ≡ m.make.price (write a) m.clock
  pub after : n ≡ stored m a w

-- a refused call at a: the address is not held, and nothing is altered
pub record Refuses (m : Meaning) (a : ℕ) (n : Meaning) (f : MemoryFault) : Type 0 where
  pub unheld : length m.contents ≤ a
  pub fault : f ≡ not_held a (length m.contents)
  pub after : n ≡ m

-- a span that is held: it is empty, or ends within the size
abbrev pub Admits : Meaning → ℕ → ℕ → Type 0
Admits m first count = 1 ≤ count → first + count ≤ length m.contents

-- a span that is not held
pub record Bars (m : Meaning) (first count : ℕ) (f : MemoryFault) : Type 0 where
  pub some : 1 ≤ count
  pub past : length m.contents < first + count
  pub fault : f ≡ not_held first (length m.contents)
