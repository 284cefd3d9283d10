-- Requests, and what a kind of memory makes of them: prices and clock states.
use Rattle.std.specs.Prelude.{◌≡◌, ℕ, ◌≤◌, List, [], ◌∷◌}

-- a request reads or writes one address
pub data Request : Type 0 where
  read : ℕ → Request
  write : ℕ → Request

-- a make: the price of a request, the clock state after it, and the cold clock state, each by the clock state now
pub record Make : Type 0 where
  pub price : Request → List ℕ → ℕ
  pub next : Request → List ℕ → List ℕ
  pub cold : List ℕ → List ℕ

-- the laws of every make, at every clock state: a price is bounded, no request changes what the cold state is, and cold is cold
pub record Lawful (k : Make) : Type 0 where
  pub priced : (q : Request) (s : List ℕ) → k.price q s ≤ 65535
  pub forgets : (q : Request) (s : List ℕ) → k.cold (k.next q s) ≡ k.cold s
  pub settles : (s : List ℕ) → k.cold (k.cold s) ≡ k.cold s

-- the prices of requests in order, each in the clock state that the ones before it lead to
abbrev pub prices_of : Make → List Request → List ℕ → List ℕ
prices_of k [] s = []
prices_of k (q ∷ qs) s = k.price q s ∷ prices_of k qs (k.next q s)
