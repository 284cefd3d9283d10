-- Bits, bytes and words. The first byte of a word is on top.
use Rattle.std.specs.Prelude.{ℕ, zero, suc, ◌+◌, ◌*◌, ◌/◌, ◌%◌, ◌^◌, List, [], ◌∷◌, map, slice_index}
use Rattle.std.specs.List.{range_with_len}

-- f 0, f 1 and so on, n of them
abbrev pub listed : {X : Type 0} → ℕ → (ℕ → X) → List X
listed n f = map f (range_with_len 0 n)

-- bit i of a number, which is worth 2 ^ i
abbrev pub bit_of : ℕ → ℕ → ℕ
bit_of y i = y / 2 ^ i % 2

-- the number whose bits below n are f 0, f 1 and so on
abbrev pub bits_sum : (ℕ → ℕ) → ℕ → ℕ
bits_sum f zero = 0
bits_sum f (suc n) = bits_sum f n + f n * 2 ^ n

-- the four bytes of a word
abbrev pub word_bytes : ℕ → List ℕ
word_bytes w = w / 2 ^ 24 % 256 ∷ w / 2 ^ 16 % 256 ∷ w / 2 ^ 8 % 256 ∷ w % 256 ∷ []

-- the word of four bytes
abbrev pub bytes_word : List ℕ → ℕ
bytes_word bs = slice_index bs 0 * 2 ^ 24 + slice_index bs 1 * 2 ^ 16 + slice_index bs 2 * 2 ^ 8 + slice_index bs 3
