use Rattle.std.proofs.Common.{◌≡◌, ℕ, zero, suc, ◌+◌, List, [], ◌∷◌, ◌++◌, map, length, set, sym, refl, ap, ◌∙◌, subst, add-zero, add_assoc, zero-add, mul-add, add-one, arith, length-append}
use mathlib.Core.List.{map-append}
use lib.ListN.{length-map}
use Rattle.memory.specs.Meanings.{Meaning}
use Rattle.trace.specs.Acts.{Act, request, does, after, cycles, trace_word, written, each}
use Rattle.trace.specs.Did.{Scene, Did}

pub after_append : (m : Meaning) (xs ys : List Act) → after m (xs ++ ys) ≡ after (after m xs) ys
after_append m [] ys = refl
after_append m (x ∷ xs) ys = after_append (does m x) xs ys

pub cycles_append : (m : Meaning) (xs ys : List Act) → cycles m (xs ++ ys) ≡ cycles m xs + cycles (after m xs) ys
cycles_append m [] ys = sym (zero-add _)
cycles_append m (x ∷ xs) ys =
    ap (λ n. m.make.price (request x) m.clock + n) (cycles_append (does m x) xs ys) ∙ sym (add_assoc _ _ _)

pub written_append : {X : Type 0} (xs : List X) (n : ℕ) (ws vs : List X) → written xs n (ws ++ vs) ≡ written (written xs n ws) (n + length ws) vs
written_append xs n [] vs = ap (λ k. written xs k vs) (sym (add-zero n))
written_append xs n (w ∷ ws) vs =
    let e : n + 1 + length ws ≡ n + length (w ∷ ws) = omega arith in
    written_append (set xs n w) (n + 1) ws vs ∙ ap (λ k. written (written (set xs n w) (n + 1) ws) k vs) e

-- nothing done
pub none : (s : Scene) → Did 0 [] s s 0
none s =
    record {
      count = refl;
      memory = refl;
      items = refl;
      len = sym (add-zero _);
      section = refl;
      entries = omega arith;
      cost = refl;
      size = refl;
      room = refl;
      fits = omega arith;
    }

-- one piece of work, and another after it
pub joined : {n k : ℕ} {xs ys : List Act} {s t u : Scene} {p q : ℕ} → Did n xs s t p → Did k ys t u q → Did (n + k) (xs ++ ys) s u (p + q)
joined {n} {k} {xs} {ys} {s} {t} {u} {p} {q} d e =
    let w = trace_word s.section in
    let at : s.len + length (map w xs) ≡ s.len + n = ap (λ j. s.len + j) (length-map xs w ∙ d.count) in
    record {
      count = length-append xs ys ∙ ap (λ j. j + length ys) d.count ∙ ap (λ j. n + j) e.count;
      memory = rw (e.memory, d.memory) (sym (after_append s.memory xs ys));
      items =
          rw (e.items, d.items, d.section, d.len, map-append)
          (sym (written_append s.items s.len (map w xs) (map w ys) ∙ ap (λ j. written (written s.items s.len (map w xs)) j (map w ys)) at));
      len = omega arith;
      section = e.section ∙ d.section;
      entries = omega arith;
      cost = rw (d.cost, e.cost, d.memory) (sym (cycles_append s.memory xs ys));
      size = e.size ∙ d.size;
      room = e.room ∙ d.room;
      fits = omega (arith, mul-add 65535 n k);
    }

pub each_more : (n : ℕ) (f : ℕ → List Act) → each (n + 1) f ≡ each n f ++ f n
unfolding each
each_more n f = rw add-one

pub each_none : (f : ℕ → List Act) → each 0 f ≡ []
unfolding each
each_none f = refl

-- one turn more
pub again : {n k : ℕ} (i : ℕ) (f : ℕ → List Act) {s t u : Scene} {p q : ℕ} → Did n (each i f) s t p → Did k (f i) t u q → Did (n + k) (each (i + 1) f) s u (p + q)
again {n} {k} i f {s} {t} {u} {p} {q} d e = rw (each_more i f) (joined d e)

-- no turn yet
pub starts : (f : ℕ → List Act) (s : Scene) → Did 0 (each 0 f) s s 0
starts f s = rw (each_none f) (none s)

-- the same acts, counted and priced another way
pub counted : {n k : ℕ} {xs : List Act} {s t : Scene} {p q : ℕ} → Did n xs s t p → n ≡ k → p ≡ q → Did k xs s t q
counted {n} {k} {xs} {s} {t} {p} {q} d e f = subst (λ j. Did j xs s t q) e (subst (λ j. Did n xs s t j) f d)

-- the same, of acts that are known to be others
pub retold : {n : ℕ} {xs ys : List Act} {s t : Scene} {p : ℕ} → Did n xs s t p → xs ≡ ys → Did n ys s t p
retold {n} {xs} {ys} {s} {t} {p} d e = subst (λ zs. Did n zs s t p) e d

-- turns that ask alike ask alike together
pub asked : (n : ℕ) (f g : ℕ → List Act) → ((i : ℕ) → map request (f i) ≡ map request (g i)) → map request (each n f) ≡ map request (each n g)
unfolding each
asked zero f g h = refl
asked (suc n) f g h =
    map-append request (each n f) (f n) ∙ ap (λ zs. zs ++ map request (f n)) (asked n f g h) ∙ ap (λ zs. map request (each n g) ++ zs) (h n) ∙ sym (map-append request (each n g) (g n))
