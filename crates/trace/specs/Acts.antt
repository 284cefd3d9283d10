-- What code asks of a memory, act by act, and where that leads.
use Rattle.std.specs.Prelude.{ℕ, zero, suc, ◌+◌, ◌*◌, List, [], ◌∷◌, ◌++◌, map, take, drop, slice_index, slice_set}
use Rattle.memory.specs.Makes.{Request, read, write}
use Rattle.memory.specs.Meanings.{Meaning, fetched, stored}

-- a read of an address, or a write of a word to it
pub data Act : Type 0 where
  reads : ℕ → Act
  writes : ℕ → ℕ → Act

abbrev pub request : Act → Request
request (reads a) = read a
request (writes a w) = write a

-- the memory after one act, and after a list of them
abbrev pub does : Meaning → Act → Meaning
does m (reads a) = fetched m a
does m (writes a w) = stored m a w

abbrev pub after : Meaning → List Act → Meaning
after m [] = m
after m (x ∷ xs) = after (does m x) xs

-- what they cost
abbrev pub cycles : Meaning → List Act → ℕ
cycles m [] = 0
cycles m (x ∷ xs) = m.make.price (request x) m.clock + cycles (does m x) xs

-- the trace word of an act: kind, section, address
abbrev pub trace_word : ℕ → Act → ℕ
trace_word s (reads a) = 0x4000_0000 + s * 0x0400_0000 + a
trace_word s (writes a w) = 0x8000_0000 + s * 0x0400_0000 + a

abbrev pub trace_words : ℕ → List Act → List ℕ
trace_words s xs = map (trace_word s) xs

-- a list's items once ws are written from place n on
abbrev pub written : {X : Type 0} → List X → ℕ → List X → List X
written xs n [] = xs
written xs n (w ∷ ws) = written (slice_set xs n w) (n + 1) ws

-- the acts of each turn below n, in ascending order
unfoldable pub each : ℕ → (ℕ → List Act) → List Act
each zero f = []
each (suc n) f = each n f ++ f n

-- turn i of reading a region, and of writing a list's words to one
abbrev pub gets : ℕ → ℕ → List Act
gets a i = reads (a + i) ∷ []

abbrev pub puts : ℕ → List ℕ → ℕ → List Act
puts a ws i = writes (a + i) (slice_index ws i) ∷ []

-- turn i of making a region's words 0
abbrev pub clears : ℕ → ℕ → List Act
clears a i = writes (a + i) 0 ∷ []

-- the n words from an address on
unfoldable pub span : List ℕ → ℕ → ℕ → List ℕ
span xs a n = take n (drop a xs)
