-- Where an address belongs.
use Rattle.std.specs.Prelude.{ℕ, ◌+◌, ◌/◌, ◌%◌}

-- the set of an address: its line, modulo the sets
abbrev pub set_at : ℕ → ℕ → ℕ → ℕ
set_at line sets a = a / line % sets

-- how a table tells the line of an address: line + 1, for 0 is none
abbrev pub mark_at : ℕ → ℕ → ℕ
mark_at line a = a / line + 1
