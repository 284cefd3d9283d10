-- PRESENT-80: its state is one number of 64 bits and its key register one of 80. Each recursion is on what is done so far.
use Rattle.std.specs.Prelude.{ℕ, zero, suc, ◌+◌, ◌*◌, ◌/◌, ◌%◌, ◌^◌, true, false, List, [], ◌∷◌, ◌++◌, ◌==◌, bit_xor, slice_index}
use Rattle.ciphers.specs.Bytes.{bit_of}

-- S of PRESENT
unfoldable pub present_s : ℕ → ℕ
present_s v = slice_index (0xc ∷ 0x5 ∷ 0x6 ∷ 0xb ∷ 0x9 ∷ 0x0 ∷ 0xa ∷ 0xd ∷ 0x3 ∷ 0xe ∷ 0xf ∷ 0x8 ∷ 0x4 ∷ 0x7 ∷ 0x1 ∷ 0x2 ∷ []) v

-- S at both nibbles of a byte
abbrev pub present_byte : ℕ → ℕ
present_byte v = present_s (v / 16) * 16 + present_s (v % 16)

-- S at the n low nibbles of a number
unfoldable pub present_nibbles : ℕ → ℕ → ℕ
present_nibbles zero x = 0
present_nibbles (suc n) x = present_nibbles n (x / 16) * 16 + present_s (x % 16)

abbrev pub present_layer : ℕ → ℕ
present_layer s = present_nibbles 16 s

-- where bit i goes
abbrev pub present_place : ℕ → ℕ
present_place i = elim (i == 63) [ true ↦ 63 | false ↦ 16 * i % 63 ]

-- which bit comes to place i
abbrev pub present_source : ℕ → ℕ
present_source i = elim (i == 63) [ true ↦ 63 | false ↦ 4 * i % 63 ]

-- the n low bits, each at its new place
abbrev pub low_moved : ℕ → ℕ → ℕ
low_moved s zero = 0
low_moved s (suc n) = low_moved s n + bit_of s n * 2 ^ present_place n

unfoldable pub present_move : ℕ → ℕ
present_move s = low_moved s 64

-- two words as a number of 64 bits, word 0 on top, and back
abbrev pub words_number : ℕ → ℕ → ℕ
words_number high low = high * 2 ^ 32 + low

abbrev pub number_words : ℕ → List ℕ
number_words x = x / 2 ^ 32 ∷ x % 2 ^ 32 ∷ []

-- the round key of two schedule words, number n from 0
abbrev pub present_key : List ℕ → ℕ → ℕ
present_key ws n = words_number (slice_index ws (2 * n)) (slice_index ws (2 * n + 1))

-- one round with its key
abbrev pub present_round : ℕ → ℕ → ℕ
present_round k s = present_move (present_layer (bit_xor s k))

-- the state after n rounds
unfoldable pub present_after : List ℕ → ℕ → ℕ → ℕ
present_after ws zero s = s
present_after ws (suc n) s = present_round (present_key ws n) (present_after ws n s)

-- a block enciphered in R rounds
abbrev pub present_enciphered : ℕ → List ℕ → List ℕ → List ℕ
present_enciphered R ws block =
    number_words (bit_xor (present_after ws R (words_number (slice_index block 0) (slice_index block 1))) (present_key ws R))

-- the register of a key: its 80 top bits
abbrev pub present_register : List ℕ → ℕ
present_register key = slice_index key 0 * 2 ^ 48 + slice_index key 1 * 2 ^ 16 + slice_index key 2 / 2 ^ 16

-- 80 bits rotated left by 61, and S at their top nibble
abbrev pub rotated_register : ℕ → ℕ
rotated_register x = x % 2 ^ 19 * 2 ^ 61 + x / 2 ^ 19

abbrev pub top_nibble_by_s : ℕ → ℕ
top_nibble_by_s x = present_s (x / 2 ^ 76) * 2 ^ 76 + x % 2 ^ 76

-- the register's update number r, from 1
unfoldable pub present_turned : ℕ → ℕ → ℕ
present_turned r x = bit_xor (top_nibble_by_s (rotated_register x)) (r * 2 ^ 15)

-- the register after n updates
unfoldable pub register_after : ℕ → ℕ → ℕ
register_after x zero = x
register_after x (suc n) = present_turned (suc n) (register_after x n)

-- the schedule words of the first n round keys, each the 64 top bits of the register
unfoldable pub present_expanded : ℕ → ℕ → List ℕ
present_expanded x zero = []
present_expanded x (suc n) = present_expanded x n ++ number_words (register_after x n / 2 ^ 16)

-- the whole schedule for R rounds
abbrev pub present_schedule : ℕ → List ℕ → List ℕ
present_schedule R key = present_expanded (present_register key) (R + 1)
