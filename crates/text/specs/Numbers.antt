-- The numbers that words of digits write.
use Rattle.std.specs.Prelude.{ℕ, ◌+◌, ◌*◌, ◌^◌, cond, List, [], ◌∷◌, length, Some, None, Option, nat_lt}
use Rattle.std.specs.Char.{digit_value}

-- the number that digits in a base write after those of n, if each byte is such a digit
abbrev pub number_after : ℕ → ℕ → List ℕ → Option ℕ
number_after base n [] = Some n
number_after base n (b ∷ bs) = cond (nat_lt (digit_value b) base) (number_after base (n * base + digit_value b) bs) None

-- the number that one digit or more writes
abbrev pub numeral : ℕ → List ℕ → Option ℕ
numeral base [] = None
numeral base (b ∷ bs) = number_after base 0 (b ∷ bs)

-- a number that is below a limit
abbrev pub below : ℕ → Option ℕ → Option ℕ
below limit None = None
below limit (Some n) = cond (nat_lt n limit) (Some n) None

-- a decimal number below 2^64
abbrev pub decimal_of : List ℕ → Option ℕ
decimal_of digits = below (2 ^ 64) (numeral 10 digits)

-- a memory word: one to eight hexadecimal digits of either case
abbrev pub hexadecimal_of : List ℕ → Option ℕ
hexadecimal_of digits = cond (nat_lt 8 (length digits)) None (numeral 16 digits)
