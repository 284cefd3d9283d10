-- What a memory means, and what each call leaves of it.
use Rattle.std.specs.Prelude.{ℕ, List, slice_set}
use Rattle.memory.specs.Makes.{Make, read, write}

-- its words, by address; its clock state; and its make. Memories with one make price alike
pub record Meaning : Type 0 where
  pub contents : List ℕ
  pub clock : List ℕ
  pub make : Make

-- after a fetch of a
abbrev pub fetched : Meaning → ℕ → Meaning
fetched m a = record { contents = m.contents; clock = m.make.next (read a) m.clock; make = m.make }

-- after a store of w at a
abbrev pub stored : Meaning → ℕ → ℕ → Meaning
stored m a w = record { contents = slice_set m.contents a w; clock = m.make.next (write a) m.clock; make = m.make }

-- after a poke of w at a
abbrev pub poked : Meaning → ℕ → ℕ → Meaning
poked m a w = record { contents = slice_set m.contents a w; clock = m.clock; make = m.make }

-- after a chill
abbrev pub chilled : Meaning → Meaning
chilled m = record { contents = m.contents; clock = m.make.cold m.clock; make = m.make }
