-- S at the nibbles of a number of 64 bits, byte by byte.
use Rattle.std.proofs.Common.{◌≡◌, ℕ, suc, ◌+◌, ◌*◌, ◌/◌, ◌%◌, ◌^◌, refl, ap, ◌∙◌, arith}
use Rattle.std.proofs.lemmas.Nat.{shr-shr}
use Rattle.ciphers.specs.Present.{present_s, present_byte, present_nibbles, present_layer}

two_more : (n y : ℕ) → present_nibbles (suc (suc n)) y ≡ present_nibbles n (y / 256) * 256 + present_byte (y % 256)
unfolding present_nibbles
two_more n y =
    let q : y / 16 / 16 ≡ y / 256 = omega arith in
    let h : y / 16 % 16 ≡ y % 256 / 16 = omega arith in
    let l : y % 16 ≡ y % 256 % 16 = omega arith in
    let e = ap (present_nibbles n) q in
    let f = ap present_s h in
    let g = ap present_s l in
    omega (arith, e, f, g)

-- the byte whose lowest bit is bit k, and the nibbles above it
byte_at : (n k s : ℕ) → present_nibbles (suc (suc n)) (s / 2 ^ k) ≡ present_nibbles n (s / 2 ^ (k + 8)) * 256 + present_byte (s / 2 ^ k % 256)
byte_at n k s =
    two_more n (s / 2 ^ k)
    ∙ ap (λ (y : ℕ). present_nibbles n y * 256 + present_byte (s / 2 ^ k % 256)) (shr-shr s k 8)

none_left : (x : ℕ) → present_nibbles 0 x ≡ 0
unfolding present_nibbles
none_left x = refl

-- a number of 64 bits whose bytes went through S one by one
pub layer_by_bytes : (s : ℕ)
    → present_layer s
    ≡ present_byte (s / 2 ^ 56 % 256) * 2 ^ 56 + present_byte (s / 2 ^ 48 % 256) * 2 ^ 48 + present_byte (s / 2 ^ 40 % 256) * 2 ^ 40
    + present_byte (s / 2 ^ 32 % 256) * 2 ^ 32 + present_byte (s / 2 ^ 24 % 256) * 2 ^ 24 + present_byte (s / 2 ^ 16 % 256) * 2 ^ 16
    + present_byte (s / 2 ^ 8 % 256) * 2 ^ 8 + present_byte (s % 256)
layer_by_bytes s =
    omega (arith, two_more 14 s, byte_at 12 8 s, byte_at 10 16 s, byte_at 8 24 s, byte_at 6 32 s, byte_at 4 40 s, byte_at 2 48 s, byte_at 0 56 s, none_left (s / 2 ^ 64))
