-- Hexadecimal digits as text.
use Rattle.std.specs.Prelude.{ℕ, ◌+◌, ◌/◌, ◌%◌, ◌^◌, cond, List, [], ◌∷◌, map, nat_lt}

-- the byte of a digit: 0 to 9, then a to f
abbrev pub hex_digit : ℕ → ℕ
hex_digit d = cond (nat_lt d 10) (48 + d) (87 + d)

-- the eight digits of a memory word, the highest first
abbrev pub word_digits : ℕ → List ℕ
word_digits w = map (λ (place : ℕ). hex_digit (w / 2 ^ place % 16)) (28 ∷ 24 ∷ 20 ∷ 16 ∷ 12 ∷ 8 ∷ 4 ∷ 0 ∷ [])
