-- What requests alone decide.
use Rattle.std.specs.Prelude.{ℕ, ◌+◌, List, [], ◌∷◌}
use Rattle.memory.specs.Makes.{Request, Make}

-- where requests lead a clock state
abbrev pub lead : Make → List Request → List ℕ → List ℕ
lead k [] s = s
lead k (q ∷ qs) s = lead k qs (k.next q s)

-- what they cost from a clock state on
abbrev pub cost : Make → List Request → List ℕ → ℕ
cost k [] s = 0
cost k (q ∷ qs) s = k.price q s + cost k qs (k.next q s)
