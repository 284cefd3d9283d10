-- What is told of an array that is empty, and of one that the direct-mapped policy reads or writes.
use Rattle.std.specs.Prelude.{◌≡◌, ℕ, zero, suc, ◌<◌, ◌≤◌, List, [], ◌∷◌, take, set, replicate, nat_eq, slice_index, slice_set, refl}
use Rattle.std.proofs.Common.{ap, ◌∙◌, not-suc-le-zero, le_of_suc-le-suc}
use Rattle.std.proofs.lemmas.List.{get_or-take, take-replicate}
use Rattle.caches.specs.Policies.{entering}
use Rattle.caches.specs.Places.{set_at, mark_at}
use Rattle.caches.specs.Direct.{direct_rules, direct_tags}

pub told_empty : (n : ℕ) (t : List ℕ) → n ≤ 64 → t ≡ replicate 64 0 → take n t ≡ replicate n 0
told_empty n t h e = ap (take n) e ∙ take-replicate n 64 0 h

take_set_lt : (n : ℕ) (l : List ℕ) (i v : ℕ) → i < n → take n (slice_set l i v) ≡ slice_set (take n l) i v
take_set_lt zero l i v h = absurd (not-suc-le-zero h)
take_set_lt (suc n) [] i v h = refl
take_set_lt (suc n) (x ∷ l) zero v h = refl
take_set_lt (suc n) (x ∷ l) (suc i) v h = ap (λ (t : List ℕ). x ∷ t) (take_set_lt n l i v (le_of_suc-le-suc h))

module _ (line sets a : ℕ) (t : List ℕ) where
  -- the set i and the mark x of an address
  module _ (x i : ℕ) (marked : x ≡ mark_at line a) (placed : i ≡ set_at line sets a) (within : i < sets) where
    pub told_after : direct_tags line sets (take sets (slice_set t i x)) ≡ entering (direct_tags line sets (take sets t)) a
    told_after =
        let k : set (take sets t) i x ≡ set (take sets t) (set_at line sets a) (mark_at line a) = cc in
        ap (direct_tags line sets) (take_set_lt sets t i x within ∙ k)

    pub kept_told : nat_eq (slice_index t i) x ≡ (direct_rules line sets).kept a (take sets t)
    kept_told = let g = get_or-take sets t i 0 within in cc
