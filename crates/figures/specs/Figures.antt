-- Worked figures, each as what the definitions give and what it should be.
use Rattle.std.specs.Prelude.{◌≡◌, List, [], ◌∷◌, ℕ, take}
use Rattle.memory.specs.Makes.{Request, read, write, Make, prices_of}
use Rattle.memory.specs.Flats.{flat_make}
use Rattle.caches.specs.Layers.{layer_make}
use Rattle.caches.specs.Direct.{direct_rules}
use Rattle.caches.specs.Lru.{lru_rules}
use Rattle.ciphers.specs.Field.{aes_s}
use Rattle.ciphers.specs.Present.{present_place}
use Rattle.ciphers.specs.Rules.{cipher_rules}
use Rattle.ciphers.specs.Counter.{counter_mode}

pub record Figure : Type 0 where
  pub given : List ℕ
  pub worked : List ℕ

abbrev pub Stands : List Figure → Type 0
Stands [] = Unit {0}
Stands (f ∷ fs) = (f.given ≡ f.worked) × Stands fs

-- the prices of requests from the cold clock state
abbrev pub cold_prices : Make → List Request → List ℕ
cold_prices k qs = prices_of k qs (k.cold [])

-- a flat store at 5 and 5 under a layer of 4-word lines with hit price 1: direct-mapped with 2 sets, and LRU with 1 set of 2 ways
abbrev pub direct_example : Make
direct_example = layer_make (direct_rules 4 2) 1 (flat_make 5 5)

abbrev pub lru_example : Make
lru_example = layer_make (lru_rules 4 1 2) 1 (flat_make 5 5)

-- the block of the examples of FIPS 197, and their key of n words: the bytes 0, 1, 2 and so on
abbrev pub example_block : List ℕ
example_block = 0x00112233 ∷ 0x44556677 ∷ 0x8899aabb ∷ 0xccddeeff ∷ []

abbrev pub counting_key : ℕ → List ℕ
counting_key n = take n (0x00010203 ∷ 0x04050607 ∷ 0x08090a0b ∷ 0x0c0d0e0f ∷ 0x10111213 ∷ 0x14151617 ∷ 0x18191a1b ∷ 0x1c1d1e1f ∷ [])

abbrev pub figures : List Figure
figures =
    record {
      given = cold_prices direct_example (read 0 ∷ read 3 ∷ read 8 ∷ read 0 ∷ write 0 ∷ []);
      worked = 6 ∷ 1 ∷ 6 ∷ 6 ∷ 6 ∷ [];
    }
    ∷ record {
      given = cold_prices lru_example (read 0 ∷ read 4 ∷ read 0 ∷ read 8 ∷ read 4 ∷ read 0 ∷ []);
      worked = 6 ∷ 6 ∷ 1 ∷ 6 ∷ 6 ∷ 6 ∷ [];
    }
    ∷ record { given = aes_s 0x00 ∷ aes_s 0x53 ∷ []; worked = 0x63 ∷ 0xed ∷ [] }
    ∷ record { given = present_place 1 ∷ present_place 62 ∷ []; worked = 16 ∷ 47 ∷ [] }
    ∷ record {
      given = counter_mode (cipher_rules 0) (counting_key 4) example_block (0 ∷ 0 ∷ 0 ∷ 0 ∷ []);
      worked = 0x69c4e0d8 ∷ 0x6a7b0430 ∷ 0xd8cdb780 ∷ 0x70b4c55a ∷ [];
    }
    ∷ record {
      given = counter_mode (cipher_rules 1) (counting_key 6) example_block (0 ∷ 0 ∷ 0 ∷ 0 ∷ []);
      worked = 0xdda97ca4 ∷ 0x864cdfe0 ∷ 0x6eaf70a0 ∷ 0xec0d7191 ∷ [];
    }
    ∷ record {
      given = counter_mode (cipher_rules 2) (counting_key 8) example_block (0 ∷ 0 ∷ 0 ∷ 0 ∷ []);
      worked = 0x8ea2b7ca ∷ 0x516745bf ∷ 0xeafc4990 ∷ 0x4b496089 ∷ [];
    }
    ∷ record {
      given = counter_mode (cipher_rules 3) (0 ∷ 0 ∷ 0 ∷ []) (0 ∷ 0 ∷ []) (0 ∷ 0 ∷ []);
      worked = 0x5579c138 ∷ 0x7b228445 ∷ [];
    }
    ∷ []
