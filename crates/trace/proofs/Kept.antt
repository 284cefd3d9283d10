-- A word that no act writes is as it was.
use Rattle.std.proofs.Common.{◌≡◌, ℕ, zero, suc, ◌<◌, ◌≢◌, List, [], ◌∷◌, ◌++◌, get_or, refl, ap, ◌∙◌, arith}
use Rattle.std.proofs.lemmas.List.{get_or-set_other}
use Rattle.memory.specs.Meanings.{Meaning, fetched, stored}
use Rattle.trace.specs.Acts.{Act, reads, writes, after, each}
use Rattle.trace.specs.Did.{Scene, Did}

abbrev pub Elsewhere : ℕ → List Act → Type 0
Elsewhere a [] = Unit {0}
Elsewhere a (reads b ∷ xs) = Elsewhere a xs
Elsewhere a (writes b w ∷ xs) = (a ≢ b) × Elsewhere a xs

pub kept : (m : Meaning) (xs : List Act) (a : ℕ) → Elsewhere a xs → get_or (after m xs).contents a 0 ≡ get_or m.contents a 0
kept m [] a h = refl
kept m (reads b ∷ xs) a h = kept (fetched m b) xs a h
kept m (writes b w ∷ xs) a h = kept (stored m b w) xs a h.1 ∙ get_or-set_other m.contents b a w 0 h.0

pub elsewhere_append : (a : ℕ) (xs ys : List Act) → Elsewhere a xs → Elsewhere a ys → Elsewhere a (xs ++ ys)
elsewhere_append a [] ys p q = q
elsewhere_append a (reads b ∷ xs) ys p q = elsewhere_append a xs ys p q
elsewhere_append a (writes b w ∷ xs) ys p q = (p.0, elsewhere_append a xs ys p.1 q)

pub elsewhere_each : (a n : ℕ) (f : ℕ → List Act) → ((i : ℕ) → i < n → Elsewhere a (f i)) → Elsewhere a (each n f)
unfolding each
elsewhere_each a zero f h = tt
elsewhere_each a (suc n) f h =
    elsewhere_append a (each n f) (f n) (elsewhere_each a n f (λ i l. h i (omega arith))) (h n (omega arith))

-- what work leaves at an address that it does not write
pub spared : {n : ℕ} {xs : List Act} {s t : Scene} {p : ℕ} (a : ℕ) → Did n xs s t p → Elsewhere a xs → get_or t.memory.contents a 0 ≡ get_or s.memory.contents a 0
spared {n} {xs} {s} {t} {p} a d h = ap (λ m. get_or m.contents a 0) d.memory ∙ kept s.memory xs a h

pub spared_each : {n : ℕ} (i : ℕ) (f : ℕ → List Act) {s t : Scene} {p : ℕ} (a : ℕ) → Did n (each i f) s t p → ((j : ℕ) → j < i → Elsewhere a (f j))
    → get_or t.memory.contents a 0 ≡ get_or s.memory.contents a 0
spared_each {n} i f {s} {t} {p} a d h = spared a d (elsewhere_each a i f h)

-- acts that write nothing
abbrev pub Silent : List Act → Type 0
Silent [] = Unit {0}
Silent (reads b ∷ xs) = Silent xs
Silent (writes b w ∷ xs) = ⊥

silent_keeps : (m : Meaning) (xs : List Act) → Silent xs → (after m xs).contents ≡ m.contents
silent_keeps m [] h = refl
silent_keeps m (reads b ∷ xs) h = silent_keeps (fetched m b) xs h
silent_keeps m (writes b w ∷ xs) h = absurd h

pub silent_append : (xs ys : List Act) → Silent xs → Silent ys → Silent (xs ++ ys)
silent_append [] ys p q = q
silent_append (reads b ∷ xs) ys p q = silent_append xs ys p q
silent_append (writes b w ∷ xs) ys p q = absurd p

pub silent_each : (n : ℕ) (f : ℕ → List Act) → ((i : ℕ) → i < n → Silent (f i)) → Silent (each n f)
unfolding each
silent_each zero f h = tt
silent_each (suc n) f h = silent_append (each n f) (f n) (silent_each n f (λ i l. h i (omega arith))) (h n (omega arith))

pub unwritten : {n : ℕ} {xs : List Act} {s t : Scene} {p : ℕ} → Did n xs s t p → Silent xs → t.memory.contents ≡ s.memory.contents
unwritten {n} {xs} {s} {t} {p} d h = ap (λ m. m.contents) d.memory ∙ silent_keeps s.memory xs h
