-- Clock state and cost come from the make, the clock state found and the requests: from no word.
use Rattle.std.proofs.Common.{◌≡◌, ℕ, zero, suc, ◌+◌, ◌*◌, ◌<◌, List, [], ◌∷◌, ◌++◌, map, sym, refl, ap, ◌∙◌, append_assoc, append-nil, add-zero, add-suc, suc-mul, zero-mul, arith}
use Rattle.memory.specs.Makes.{Request, read, write, Make, Lawful}
use Rattle.memory.specs.Meanings.{Meaning, fetched, stored}
use Rattle.trace.specs.Acts.{Act, reads, writes, request, after, cycles, each}
use Rattle.trace.specs.Costs.{lead, cost}

pub after_make : (m : Meaning) (xs : List Act) → (after m xs).make ≡ m.make
after_make m [] = refl
after_make m (reads a ∷ xs) = after_make (fetched m a) xs
after_make m (writes a w ∷ xs) = after_make (stored m a w) xs

pub after_clock : (m : Meaning) (xs : List Act) → (after m xs).clock ≡ lead m.make (map request xs) m.clock
after_clock m [] = refl
after_clock m (reads a ∷ xs) = after_clock (fetched m a) xs
after_clock m (writes a w ∷ xs) = after_clock (stored m a w) xs

pub cycles_cost : (m : Meaning) (xs : List Act) → cycles m xs ≡ cost m.make (map request xs) m.clock
cycles_cost m [] = refl
cycles_cost m (reads a ∷ xs) = ap (λ n. m.make.price (read a) m.clock + n) (cycles_cost (fetched m a) xs)
cycles_cost m (writes a w ∷ xs) = ap (λ n. m.make.price (write a) m.clock + n) (cycles_cost (stored m a w) xs)

-- two runs of one make from one clock state that ask alike
pub alike_cost : (m n : Meaning) (xs ys : List Act) → m.make ≡ n.make → m.clock ≡ n.clock → map request xs ≡ map request ys → cycles m xs ≡ cycles n ys
alike_cost m n xs ys e f h = cycles_cost m xs ∙ rw (e, f, h) (sym (cycles_cost n ys))

pub alike_clock : (m n : Meaning) (xs ys : List Act) → m.make ≡ n.make → m.clock ≡ n.clock → map request xs ≡ map request ys
    → (after m xs).clock ≡ (after n ys).clock
alike_clock m n xs ys e f h = after_clock m xs ∙ rw (e, f, h) (sym (after_clock n ys))

-- no request reaches the cold clock state
pub cold_lead : (k : Make) → Lawful k → (qs : List Request) (s : List ℕ) → k.cold (lead k qs s) ≡ k.cold s
cold_lead k l [] s = refl
cold_lead k l (q ∷ qs) s = cold_lead k l qs (k.next q s) ∙ l.forgets q s

pub each_same : (n : ℕ) (f g : ℕ → List Act) → ((i : ℕ) → i < n → f i ≡ g i) → each n f ≡ each n g
unfolding each
each_same zero f g h = refl
each_same (suc n) f g h =
    ap (λ zs. zs ++ f n) (each_same n f g (λ i l. h i (omega arith))) ∙ ap (λ zs. each n g ++ zs) (h n (omega arith))

pub each_add : (n k : ℕ) (f : ℕ → List Act) → each (n + k) f ≡ each n f ++ each k (λ j. f (n + j))
unfolding each
each_add n zero f = ap (λ j. each j f) (add-zero n) ∙ sym (append-nil (each n f))
each_add n (suc k) f =
    ap (λ j. each j f) (add-suc n k) ∙ ap (λ zs. zs ++ f (n + k)) (each_add n k f) ∙ append_assoc (each n f) (each k (λ j. f (n + j))) (f (n + k))

-- turns counted in one go, or row by row
pub each_times : (n k : ℕ) (f : ℕ → List Act) → each (n * k) f ≡ each n (λ i. each k (λ j. f (i * k + j)))
unfolding each
each_times zero k f = ap (λ j. each j f) (zero-mul k)
each_times (suc n) k f =
    ap (λ j. each j f) (suc-mul n k) ∙ each_add (n * k) k f ∙ ap (λ zs. zs ++ each k (λ j. f (n * k + j))) (each_times n k f)
