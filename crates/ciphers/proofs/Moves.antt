-- The bit move, read off from the top place down.
use Rattle.std.proofs.Common.{◌≡◌, ℕ, zero, suc, ◌+◌, ◌-◌, ◌*◌, ◌%◌, ◌^◌, ◌<◌, ◌≤◌, refl, sym, ap, ◌∙◌, pow-suc, arith, pow_mono}
use Rattle.std.specs.List.{fold, range_with_len}
use Rattle.ciphers.specs.Bytes.{bit_of}
use Rattle.ciphers.specs.Present.{present_place, present_source, present_move}

-- one more bit below those so far, in 64 bits and in any number of them
abbrev pub shifted_in : (ℕ → ℕ) → ℕ → ℕ → ℕ
shifted_in b a t = a * 2 % 2 ^ 64 + b t

abbrev appended : (ℕ → ℕ) → ℕ → ℕ → ℕ
appended b a t = a * 2 + b t

-- from k bits on, 64 - k more don't leave the 64
none_lost : (b : ℕ → ℕ) → ((t : ℕ) → b t < 2) → (n k a t : ℕ) → a < 2 ^ k → k + n ≤ 64
    → fold (shifted_in b) a (range_with_len t n) ≡ fold (appended b) a (range_with_len t n)
none_lost b h zero k a t below room = refl
none_lost b h (suc n) k a t below room =
    let le : suc k ≤ 64 = omega arith in
    let top : 2 ^ suc k ≤ 2 ^ 64 = pow_mono le in
    let more : a * 2 + b t < 2 ^ suc k = omega (arith, pow-suc 2 k, h t) in
    let whole : a * 2 % 2 ^ 64 ≡ a * 2 = omega (arith, pow-suc 2 k) in
    ap (λ (x : ℕ). fold (shifted_in b) (x + b t) (range_with_len (t + 1) n)) whole ∙ none_lost b h n (suc k) (a * 2 + b t) (t + 1) more (omega arith)

abbrev moved : (ℕ → ℕ) → ℕ → ℕ
moved b zero = 0
moved b (suc n) = moved b n + b n * 2 ^ present_place n

-- over unknown bits, which keeps their quotients out of the sum
same_bits : (b : ℕ → ℕ) → moved b 64 ≡ fold (appended (λ t. b (present_source (63 - t)))) 0 (range_with_len 0 64)
same_bits b = omega arith

-- the bits of the moved state, which come in from the top place down
abbrev pub arriving : ℕ → ℕ → ℕ
arriving s t = bit_of s (present_source (63 - t))

pub move_from_top : (s : ℕ) → fold (shifted_in (arriving s)) 0 (range_with_len 0 64) ≡ present_move s
unfolding present_move
move_from_top s = none_lost (arriving s) (λ t. omega arith) 64 0 0 0 (omega arith) (omega arith) ∙ sym (same_bits (bit_of s))
