-- What a word of the schedule of AES takes where it begins a stretch of k.
use Rattle.std.proofs.Common.{◌≡◌, ℕ, ◌+◌, ◌-◌, ◌*◌, ◌/◌, ◌%◌, ◌^◌, ◌<◌, [], ◌∷◌, sym, refl, ap, ◌∙◌, arith}
use lib.Bits.{bit_or, or_shifted}
use Rattle.ciphers.specs.Aes.{rotated_word, rcon}
use Rattle.ciphers.proofs.Lookups.{slice_index_below}

pub rotated_is : (w : ℕ) → w < 2 ^ 32 → bit_or (w * 2 ^ 8 % 2 ^ 32) (w / 2 ^ 24) ≡ rotated_word w
rotated_is w h =
    let e : w * 2 ^ 8 % 2 ^ 32 ≡ w % 2 ^ 24 * 2 ^ 8 = omega arith in
    ap (λ (x : ℕ). bit_or x (w / 2 ^ 24)) e ∙ or_shifted (w % 2 ^ 24) 8 (w / 2 ^ 24) (omega arith) ∙ ap (λ (x : ℕ). x + w / 2 ^ 24) (sym e)

pub rcon_below : (j : ℕ) → rcon j < 256
rcon_below j =
    slice_index_below (0x01 ∷ 0x02 ∷ 0x04 ∷ 0x08 ∷ 0x10 ∷ 0x20 ∷ 0x40 ∷ 0x80 ∷ 0x1b ∷ 0x36 ∷ []) 256 (omega arith) refl (j - 1)
