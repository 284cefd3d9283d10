-- How the digits of a word add up to its number, digit by digit.
use Rattle.std.proofs.Common.{◌≡◌, ℕ, suc, ◌+◌, ◌*◌, ◌^◌, ◌<◌, ◌≤◌, true, false, cond, ltb, List, [], ◌∷◌, length, get_or, drop, IfSome, Some, None, Option, sym, refl, ap, ◌∙◌, ⊎_elim, mul-le-mul_right, mul_assoc, mul_comm, add-mul, add-one, arith, drop-cons}
use native.Mathlib.Nat.{pow-zero, pow-succ', pow-le-pow_right}
use Rattle.std.proofs.lemmas.Bool.{lt-ltb, le-ltb, ltb-true, cond-true, cond-false, cases_Bool}
use Rattle.std.specs.Char.{digit_value}
use Rattle.text.specs.Numbers.{number_after, numeral, below}

-- one digit more: x is the byte at i, and d its value
pub number_more : (base n x d : ℕ) (digits : List ℕ) (i : ℕ) → i < length digits → x ≡ get_or digits i 0 → (digit_value x < base) × (d ≡ digit_value x)
    → number_after base n (drop i digits) ≡ number_after base (n * base + d) (drop (i + 1) digits)
number_more base n x d digits i h at_i digit =
    let e : drop i digits ≡ x ∷ drop (suc i) digits = drop-cons digits i 0 h ∙ ap (λ y. y ∷ drop (suc i) digits) (sym at_i) in
    ap (number_after base n) e ∙ cond-true _ _ _ (lt-ltb (digit_value x) base digit.0)
    ∙ ap (λ y. number_after base (n * base + y) (drop (suc i) digits)) (sym digit.1) ∙ ap (λ k. number_after base (n * base + d) (drop k digits)) (sym (add-one i))

-- digits only add, so a number past the limit stays so
pub number_over : (base limit n : ℕ) (digits : List ℕ) → 0 < base → limit ≤ n → below limit (number_after base n digits) ≡ None
number_over base limit n [] some over = cond-false _ _ _ (le-ltb n limit over)
number_over base limit n (b ∷ bs) some over =
    let k : 1 * n ≤ base * n = mul-le-mul_right n some in
    elim (ltb (digit_value b) base) as (λ t. below limit (cond t (number_after base (n * base + digit_value b) bs) None) ≡ None) [
      | true ↦ number_over base limit (n * base + digit_value b) bs some (omega (arith, mul_comm n base))
      | false ↦ refl
    ]

-- one digit more that takes the number past the limit
pub number_bursts : (base limit n x d : ℕ) (digits : List ℕ) (i : ℕ) → i < length digits → x ≡ get_or digits i 0
    → (digit_value x < base) × (d ≡ digit_value x) → 0 < base → limit ≤ n * base + d
    → below limit (number_after base n (drop i digits)) ≡ None
number_bursts base limit n x d digits i h at_i digit some over =
    ap (below limit) (number_more base n x d digits i h at_i digit) ∙ number_over base limit (n * base + d) (drop (i + 1) digits) some over

weaker : {P Q : ℕ → Type 0} (o : Option ℕ) → ((v : ℕ) → P v → Q v) → IfSome o P → IfSome o Q
weaker None f h = tt
weaker (Some v) f h = f v h

small_more : (base n d v k : ℕ) → d < base → v < (n * base + d + 1) * base ^ k → v < (n + 1) * base ^ suc k
small_more base n d v k h l =
    let step : n * base + d + 1 ≤ (n + 1) * base = omega (arith, add-mul n 1 base) in
    omega (arith, mul-le-mul_right (base ^ k) step, mul_assoc (n + 1) base (base ^ k), ap (λ x. (n + 1) * x) (pow-succ' base k))

-- digits write less than the next power of the base
pub number_small : (base n : ℕ) (digits : List ℕ) → IfSome (number_after base n digits) (λ v. v < (n + 1) * base ^ length digits)
number_small base n [] = omega (arith, ap (λ x. (n + 1) * x) (pow-zero base))
number_small base n (b ∷ bs) =
    ⊎_elim
    (λ yes_digit. rw yes_digit (weaker (number_after base (n * base + digit_value b) bs)
    (λ v l. small_more base n (digit_value b) v (length bs) (ltb-true (digit_value b) base yes_digit) l) (number_small base (n * base + digit_value b) bs)))
    (λ no_digit. rw no_digit tt)
    (cases_Bool (ltb (digit_value b) base))

pub word_small : (digits : List ℕ) → length digits ≤ 8 → IfSome (numeral 16 digits) (λ v. v < 2 ^ 32)
word_small [] h = tt
word_small (b ∷ bs) h =
    let k : 16 ^ length (b ∷ bs) ≤ 16 ^ 8 = pow-le-pow_right (omega arith) h in
    weaker (number_after 16 0 (b ∷ bs)) (λ v l. omega arith) (number_small 16 0 (b ∷ bs))

-- eight hexadecimal digits are below the limit of a number
pub word_below : (digits : List ℕ) → length digits ≤ 8 → below (2 ^ 64) (numeral 16 digits) ≡ numeral 16 digits
word_below digits h =
    elim (numeral 16 digits) as (λ o. IfSome o (λ v. v < 2 ^ 32) → below (2 ^ 64) o ≡ o)
    [ None ↦ λ _. refl | Some v ↦ λ small. cond-true _ _ _ (lt-ltb v (2 ^ 64) (omega arith)) ]
    (word_small digits h)
