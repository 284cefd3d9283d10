-- Rows of a table: pushing step by step, and a row of the told part.
use Rattle.std.specs.Prelude.{◌≡◌, ℕ, ◌+◌, ◌*◌, ◌<◌, ◌≤◌, Bool, true, false, cond, List, [], ◌∷◌, ◌++◌, length, take, drop, slice_index, slice_index_or, slice_set, ◌==◌, ◌||◌, refl}
use Rattle.std.specs.List.{list_any}
use Rattle.std.proofs.Common.{sym, ap, ◌∙◌, add-one, arith}
use Rattle.std.proofs.lemmas.List.{append-nil, append_assoc, length-append, length-take, length-drop, take-append-drop, take_at, take_all, drop_all, take-append-le, drop-append-le, drop_more, set_split}
use Rattle.std.proofs.lemmas.Bool.{eq-eqb}
use Rattle.caches.specs.Policies.{entering}
use Rattle.caches.specs.Laws.{pushed, length_newest, length_with_row}
use Rattle.caches.specs.Places.{set_at, mark_at}
use Rattle.caches.specs.Lru.{has, newest, row_at, with_row, lru_rules, lru_tags}

-- where the line is found
pub pushed_found :
    (x c : ℕ) (row : List ℕ) (i : ℕ) → i < length row → slice_index row i ≡ x → slice_set row i c ≡ take i row ++ pushed x c (drop i row)
pushed_found x c row i h e =
    let y = slice_index_or row i 0 in
    set_split row i c h
    ∙ ap (λ (k : ℕ). take i row ++ (c ∷ drop k row)) (sym (add-one i))
    ∙ ap (λ (r : List ℕ). take i row ++ r)
    (ap (λ (b : Bool). c ∷ cond b (drop (i + 1) row) (pushed x y (drop (i + 1) row))) (sym (eq-eqb y x e)) ∙ ap (pushed x c) (sym (drop_more row i 0 h)))

pub pushed_all : (x c : ℕ) (row : List ℕ) (i : ℕ) → length row ≤ i → row ≡ take i row ++ pushed x c (drop i row)
pushed_all x c row i h = sym (ap (λ (r : List ℕ). take i row ++ pushed x c r) (drop_all i row h) ∙ append-nil (take i row) ∙ take_all i row h)

-- a row has a number where any of its numbers is that one
any_step : (x y : ℕ) (ys : List ℕ) (b : Bool) → list_any (λ (z : ℕ). z == x) ys ≡ has x ys → (b || list_any (λ (z : ℕ). z == x) ys) ≡ cond b true (has x ys)
any_step x y ys true e = refl
any_step x y ys false e = e

pub any_has : (x : ℕ) (row : List ℕ) → list_any (λ (y : ℕ). y == x) row ≡ has x row
any_has x [] = refl
any_has x (y ∷ ys) = any_step x y ys (y == x) (any_has x ys)

module _ (first ways : ℕ) where
  pub row_append : (u v : List ℕ) → first + ways ≤ length u → row_at first ways (u ++ v) ≡ row_at first ways u
  row_append u v h =
      ap (take ways) (drop-append-le first u v (omega arith)) ∙ take-append-le ways (drop first u) v (simp length-drop (omega arith))

  module _ (f : List ℕ → List ℕ) (kept : (r : List ℕ) → length (f r) ≡ length r) where
    with_row_append : (u v : List ℕ) → first + ways ≤ length u → with_row first ways f (u ++ v) ≡ with_row first ways f u ++ v
    with_row_append u v h =
        let a : take first (u ++ v) ≡ take first u = take-append-le first u v (omega arith) in
        let b = row_append u v h in
        let c = drop-append-le first u v (omega arith) in
        let d = drop-append-le ways (drop first u) v (simp length-drop (omega arith)) in
        let e : with_row first ways f (u ++ v) ≡ take first u ++ (f (row_at first ways u) ++ (drop ways (drop first u) ++ v)) = cc in
        e ∙ simp append_assoc

    -- a row of the told part
    pub told_row : (n : ℕ) (t : List ℕ) → first + ways ≤ n → n ≤ length t → take n (with_row first ways f t) ≡ with_row first ways f (take n t)
    told_row n t h l =
        let u : length (take n t) ≡ n = simp length-take (omega arith) in
        ap (λ (s : List ℕ). take n (with_row first ways f s)) (sym (take-append-drop n t))
        ∙ ap (take n) (with_row_append (take n t) (drop n t) (omega arith))
        ∙ take_at (with_row first ways f (take n t)) (drop n t) n (length_with_row first ways f kept (take n t) ∙ u)

  pub row_told : (n : ℕ) (t : List ℕ) → first + ways ≤ n → n ≤ length t → row_at first ways t ≡ row_at first ways (take n t)
  row_told n t h l =
      let u : length (take n t) ≡ n = simp length-take (omega arith) in
      ap (row_at first ways) (sym (take-append-drop n t)) ∙ row_append (take n t) (drop n t) (omega arith)

-- a row written back
pub length_back : (first k : ℕ) (t r : List ℕ) → length r ≡ length (take k (drop first t)) → length (take first t ++ (r ++ drop k (drop first t))) ≡ length t
length_back first k t r e = simp (length-append, e, length-take, length-drop) (omega arith)

module _ (line sets ways a : ℕ) (t : List ℕ) (x first k : ℕ) (marked : x ≡ mark_at line a) (placed : first ≡ set_at line sets a * ways) (all : k ≡ ways)
    (within : first + ways ≤ sets * ways) (whole : sets * ways ≤ length t) where
  pub entered_at :
      (r : List ℕ) → r ≡ newest x (take k (drop first t))
      → lru_tags line sets ways (take (sets * ways) (take first t ++ (r ++ drop k (drop first t)))) ≡ entering (lru_tags line sets ways (take (sets * ways) t)) a
  entered_at r e =
      let b : take first t ++ (r ++ drop k (drop first t)) ≡ with_row first ways (newest x) t = cc in
      let d = told_row first ways (newest x) (length_newest x) (sets * ways) t within whole in
      let n : with_row first ways (newest x) (take (sets * ways) t) ≡ (lru_rules line sets ways).entered a (take (sets * ways) t) = cc in
      ap (lru_tags line sets ways) (ap (take (sets * ways)) b ∙ d ∙ n)

  pub kept_at : has x (take k (drop first t)) ≡ (lru_rules line sets ways).kept a (take (sets * ways) t)
  kept_at =
      let d = row_told first ways (sets * ways) t within whole in
      cc
