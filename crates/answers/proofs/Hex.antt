-- A memory word's digits are those of its bytes.
use Rattle.std.proofs.Common.{◌≡◌, ℕ, zero, suc, ◌/◌, ◌%◌, ◌^◌, ◌<◌, List, ◌∷◌, slice_index, refl, ap, ap₂, ◌∙◌, arith, w32}
use Rattle.std.specs.Int.{to_be_bytes}
use Rattle.hex.specs.Hex.{lower_digits, encode_lower, encode_with}
use Rattle.answers.specs.Digits.{hex_digit, word_digits}

-- the table of the digits has at each place the digit of the place
digit_at : (d : ℕ) → d < 16 → slice_index lower_digits d ≡ hex_digit d
digit_at zero h = refl
digit_at (suc zero) h = refl
digit_at (suc (suc zero)) h = refl
digit_at (suc (suc (suc zero))) h = refl
digit_at (suc (suc (suc (suc zero)))) h = refl
digit_at (suc (suc (suc (suc (suc zero))))) h = refl
digit_at (suc (suc (suc (suc (suc (suc zero)))))) h = refl
digit_at (suc (suc (suc (suc (suc (suc (suc zero))))))) h = refl
digit_at (suc (suc (suc (suc (suc (suc (suc (suc zero)))))))) h = refl
digit_at (suc (suc (suc (suc (suc (suc (suc (suc (suc zero))))))))) h = refl
digit_at (suc (suc (suc (suc (suc (suc (suc (suc (suc (suc zero)))))))))) h = refl
digit_at (suc (suc (suc (suc (suc (suc (suc (suc (suc (suc (suc zero))))))))))) h = refl
digit_at (suc (suc (suc (suc (suc (suc (suc (suc (suc (suc (suc (suc zero)))))))))))) h = refl
digit_at (suc (suc (suc (suc (suc (suc (suc (suc (suc (suc (suc (suc (suc zero))))))))))))) h = refl
digit_at (suc (suc (suc (suc (suc (suc (suc (suc (suc (suc (suc (suc (suc (suc zero)))))))))))))) h = refl
digit_at (suc (suc (suc (suc (suc (suc (suc (suc (suc (suc (suc (suc (suc (suc (suc zero))))))))))))))) h = refl
digit_at (suc (suc (suc (suc (suc (suc (suc (suc (suc (suc (suc (suc (suc (suc (suc (suc n)))))))))))))))) h = absurd (omega arith)

-- two digits of a byte of the word
pair : (b x y : ℕ) (xs ys : List ℕ) → b < 256 → b / 16 ≡ x → b % 16 ≡ y → xs ≡ ys
    → slice_index lower_digits (b / 16) ∷ slice_index lower_digits (b % 16) ∷ xs ≡ hex_digit x ∷ hex_digit y ∷ ys
pair b x y xs ys h high low e =
    ap₂ (λ (d : ℕ) (ds : List ℕ). d ∷ ds) (digit_at (b / 16) (omega arith) ∙ ap hex_digit high)
    (ap₂ (λ (d : ℕ) (ds : List ℕ). d ∷ ds) (digit_at (b % 16) (omega arith) ∙ ap hex_digit low) e)

pub word_text : (w : ℕ) → w < 2 ^ 32 → encode_lower (to_be_bytes w32 w) ≡ word_digits w
unfolding encode_with
word_text w h =
    pair _ _ _ _ _ (omega arith) (omega arith) (omega arith)
    (pair _ _ _ _ _ (omega arith) (omega arith) (omega arith)
    (pair _ _ _ _ _ (omega arith) (omega arith) (omega arith)
    (pair _ _ _ _ _ (omega arith) (omega arith) (omega arith) refl)))
