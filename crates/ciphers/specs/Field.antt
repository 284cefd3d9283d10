-- Bytes as elements of GF(2^8) modulo x^8 + x^4 + x^3 + x + 1, and the S-box of AES (FIPS 197).
use Rattle.std.specs.Prelude.{ℕ, zero, suc, ◌+◌, ◌*◌, ◌/◌, ◌%◌, true, false, ◌==◌, bit_xor}
use Rattle.ciphers.specs.Bytes.{bit_of, bits_sum}

-- x times a
abbrev pub times_x : ℕ → ℕ
times_x a = bit_xor (a * 2 % 256) (a / 128 * 0x1b)

-- the sum of b times x to each power whose bit is among the n low bits of a
abbrev pub low_product : ℕ → ℕ → ℕ → ℕ
low_product zero a b = 0
low_product (suc n) a b = bit_xor (elim (a % 2 == 1) [ true ↦ b | false ↦ 0 ]) (low_product n (a / 2) (times_x b))

abbrev pub field_product : ℕ → ℕ → ℕ
field_product a b = low_product 8 a b

-- the first of the n numbers from j on whose product with a is 1, or 0 where there is none
abbrev pub first_inverse : ℕ → ℕ → ℕ → ℕ
first_inverse zero j a = 0
first_inverse (suc n) j a = elim (field_product a j == 1) [ true ↦ j | false ↦ first_inverse n (suc j) a ]

-- the inverse of a byte, with 0 for 0
abbrev pub field_inverse : ℕ → ℕ
field_inverse a = first_inverse 256 0 a

-- bit i of what the affine step makes of y
abbrev pub affine_bit : ℕ → ℕ → ℕ
affine_bit y i =
    (bit_of y i + bit_of y ((i + 4) % 8) + bit_of y ((i + 5) % 8) + bit_of y ((i + 6) % 8) + bit_of y ((i + 7) % 8) + bit_of 0x63 i) % 2

-- S of AES
unfoldable pub aes_s : ℕ → ℕ
aes_s v = bits_sum (affine_bit (field_inverse v)) 8
