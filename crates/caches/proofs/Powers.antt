-- A number of at most 64 with just one bit set is two to its trailing zeros: one test, computed at each of them.
use Rattle.std.specs.Prelude.{◌≡◌, ℕ, zero, suc, ◌-◌, ◌%◌, ◌^◌, ◌<◌, ◌≤◌, Bool, true, false, cond, T, ◌==◌, bit_and, nat_lt}
use Rattle.std.proofs.Common.{sym, subst, inl, inr, not-suc-le-zero, le_of_suc-le-suc, eq-or-lt_of_le, arith, eqb→eq, ltb→lt}
use Rattle.std.proofs.lemmas.Nat.{and_mask}
use Rattle.std.specs.Int.Count.{ones, ones_in, count_trailing_zeros}

abbrev both : Bool → Bool → Bool
both true b = b
both false b = false

-- f passes at each number below k
abbrev every : (ℕ → Bool) → ℕ → Bool
every f zero = true
every f (suc k) = both (f k) (every f k)

both_left : (a b : Bool) → T (both a b) → T a
both_left true b t = tt
both_left false b t = t

both_right : (a b : Bool) → T (both a b) → T b
both_right true b t = t
both_right false b t = absurd t

every_at : (f : ℕ → Bool) (k : ℕ) → T (every f k) → (n : ℕ) → n < k → T (f n)
every_at f zero t n h = absurd (not-suc-le-zero h)
every_at f (suc k) t n h =
    elim (eq-or-lt_of_le (le_of_suc-le-suc h)) [
      | inl e ↦ subst (λ (m : ℕ). T (f m)) (sym e) (both_left (f k) (every f k) t)
      | inr l ↦ every_at f k (both_right (f k) (every f k) t) n l
    ]

-- what is to hold of n, where one bit of it is set
right : ℕ → Bool
right n = cond (ones n == 1) (both (nat_lt (count_trailing_zeros 64 n) 64) (2 ^ count_trailing_zeros 64 n == n)) true

tested : T (every right 65)
unfolding right ones count_trailing_zeros ones_in
tested = tt

opened : (n : ℕ) → ones n ≡ 1 → T (right n) → (count_trailing_zeros 64 n < 64) × (2 ^ count_trailing_zeros 64 n ≡ n)
unfolding right
opened n e t =
    let u : T (both (nat_lt (count_trailing_zeros 64 n) 64) (2 ^ count_trailing_zeros 64 n == n)) =
    subst (λ (o : ℕ). T (cond (o == 1) (both (nat_lt (count_trailing_zeros 64 n) 64) (2 ^ count_trailing_zeros 64 n == n)) true)) e t
    in
    (ltb→lt _ _ (both_left _ _ u), eqb→eq _ _ (both_right _ _ u))

pub power : (n : ℕ) → ones n ≡ 1 → n ≤ 64 → (count_trailing_zeros 64 n < 64) × (2 ^ count_trailing_zeros 64 n ≡ n)
power n e h = opened n e (every_at right 65 tested n (omega arith))

-- such a number less one masks what is left by division
pub masked : (x n : ℕ) → ones n ≡ 1 → n ≤ 64 → bit_and x (n - 1) ≡ x % n
masked x n e h = subst (λ (m : ℕ). bit_and x (m - 1) ≡ x % m) (power n e h).1 (and_mask x (count_trailing_zeros 64 n))
