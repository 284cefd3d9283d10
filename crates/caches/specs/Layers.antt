-- What a cache layer means, over the rules of any policy and the make of any memory below.
use Rattle.std.specs.Prelude.{ℕ, ◌+◌, min, cond, List, ◌++◌, take, drop, replicate}
use Rattle.memory.specs.Makes.{Request, read, write, Make}
use Rattle.memory.specs.Meanings.{Meaning}
use Rattle.caches.specs.Policies.{Rules, Tags}

-- a layer's own table in a clock state: the first n numbers, missing ones 0. The rest is the state below
unfoldable pub own : ℕ → List ℕ → List ℕ
own n s = take n (s ++ replicate n 0)

-- what a request costs that goes below: the hit price and the price below, stopping at 65,535
abbrev pub through : ℕ → ℕ → ℕ
through hit price = min (hit + price) 65535

-- a read of a kept line costs the hit price; everything else goes below
abbrev pub layer_price : Rules → ℕ → Make → Request → List ℕ → ℕ
layer_price p hit k (read a) s = cond (p.kept a (own p.count s)) hit (through hit (k.price (read a) (drop p.count s)))
layer_price p hit k (write a) s = through hit (k.price (write a) (drop p.count s))

-- a read of a kept line leaves the state below alone, and a write the table
abbrev pub layer_next : Rules → Make → Request → List ℕ → List ℕ
layer_next p k (read a) s =
    cond (p.kept a (own p.count s)) (p.used a (own p.count s) ++ drop p.count s)
    (p.entered a (own p.count s) ++ k.next (read a) (drop p.count s))
layer_next p k (write a) s = own p.count s ++ k.next (write a) (drop p.count s)

-- cold: the table empty, and cold below
abbrev pub layer_cold : Rules → Make → List ℕ → List ℕ
layer_cold p k s = p.empty ++ k.cold (drop p.count s)

abbrev pub layer_make : Rules → ℕ → Make → Make
layer_make p hit k = record { price = layer_price p hit k; next = layer_next p k; cold = layer_cold p k }

-- a layer over a memory: its contents, and its own table followed by the clock state below
abbrev pub layered : Tags → ℕ → Meaning → Meaning
layered p hit m =
    record { contents = m.contents; clock = p.told ++ m.clock; make = layer_make p.rules hit m.make }
