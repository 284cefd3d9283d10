-- What reading and writing a span leaves.
use Rattle.std.proofs.Common.{◌≡◌, ℕ, zero, suc, ◌+◌, ◌-◌, ◌<◌, ◌≤◌, List, [], ◌∷◌, ◌++◌, length, get_or, take, drop, set, sym, refl, ap, ◌∙◌, subst, inl, inr, eq-or-lt_of_le, arith, length-drop, length-set}
use Rattle.std.proofs.lemmas.List.{get_or-set_same, get_or-set_other, get_or-take, get_or-drop, length-take-le, ext_get_or, drop-set-add, take_more_set, drop-take, take-take, drop-drop}
use Rattle.memory.specs.Meanings.{Meaning}
use Rattle.trace.specs.Acts.{Act, after, each, gets, puts, span}
use Rattle.trace.specs.Did.{Scene, Did}
use Rattle.trace.proofs.Joins.{after_append}
use Rattle.trace.proofs.Kept.{Elsewhere, spared}

pub slice_index_span : (xs : List ℕ) (a n k : ℕ) → k < n → get_or (span xs a n) k 0 ≡ get_or xs (a + k) 0
unfolding span
slice_index_span xs a n k l = get_or-take n (drop a xs) k 0 l ∙ get_or-drop a xs k 0

pub length_span : (xs : List ℕ) (a n : ℕ) → a + n ≤ length xs → length (span xs a n) ≡ n
unfolding span
length_span xs a n h = length-take-le n (drop a xs) (simp length-drop (omega arith))

-- a list is a span where it has the span's words
pub is_span : (ws xs : List ℕ) (a n : ℕ) → a + n ≤ length xs → length ws ≡ n → ((k : ℕ) → k < n → get_or ws k 0 ≡ get_or xs (a + k) 0) → ws ≡ span xs a n
is_span ws xs a n h e f =
    ext_get_or 0 ws (span xs a n) (e ∙ sym (length_span xs a n h)) (λ k l. let lt : k < n = omega arith in f k lt ∙ sym (slice_index_span xs a n k lt))

-- a span that no act writes
pub spared_span : {n : ℕ} {xs : List Act} {s t : Scene} {p : ℕ} (a k : ℕ) → Did n xs s t p → a + k ≤ length s.memory.contents
    → ((j : ℕ) → j < k → Elsewhere (a + j) xs) → span t.memory.contents a k ≡ span s.memory.contents a k
spared_span {n} {xs} {s} {t} {p} a k d h f =
    let h' : a + k ≤ length t.memory.contents = omega (arith, d.size) in
    is_span (span t.memory.contents a k) s.memory.contents a k h (length_span t.memory.contents a k h')
    (λ j l. slice_index_span t.memory.contents a k j l ∙ spared (a + j) d (f j l))

-- reading leaves every word
pub after_gets : (m : Meaning) (a n : ℕ) → (after m (each n (gets a))).contents ≡ m.contents
unfolding each
after_gets m a zero = refl
after_gets m a (suc n) = ap (λ k. k.contents) (after_append m (each n (gets a)) (gets a n)) ∙ after_gets m a n

-- writing a list's words puts them there
pub length_puts : (m : Meaning) (a : ℕ) (ws : List ℕ) (n : ℕ) → length (after m (each n (puts a ws))).contents ≡ length m.contents
unfolding each
length_puts m a ws zero = refl
length_puts m a ws (suc n) =
    ap (λ k. length k.contents) (after_append m (each n (puts a ws)) (puts a ws n)) ∙ length-set _ _ _ ∙ length_puts m a ws n

pub slice_index_puts : (m : Meaning) (a : ℕ) (ws : List ℕ) (n k : ℕ) → k < n → a + n ≤ length m.contents
    → get_or (after m (each n (puts a ws))).contents (a + k) 0 ≡ get_or ws k 0
unfolding each
slice_index_puts m a ws zero k l h = absurd (let z : ⊥ = omega arith in z)
slice_index_puts m a ws (suc n) k l h =
    let xs = (after m (each n (puts a ws))).contents in
    let in_set : a + n < length xs = omega (arith, length_puts m a ws n) in
    let P : ℕ → Type 0 = λ j. get_or (set xs (a + n) (get_or ws n 0)) (a + j) 0 ≡ get_or ws j 0 in
    ap (λ j. get_or j.contents (a + k) 0) (after_append m (each n (puts a ws)) (puts a ws n))
    ∙ elim (eq-or-lt_of_le (let le : k ≤ n = omega arith in le)) as (λ _. P k) [
      | inl e ↦ subst P (sym e) (get_or-set_same xs (a + n) (get_or ws n 0) 0 in_set)
      | inr lt ↦ get_or-set_other xs (a + n) (a + k) (get_or ws n 0) 0 (λ e. omega arith) ∙ slice_index_puts m a ws n k lt (omega arith)
    ]

pub put_span : {s t : Scene} {p : ℕ} (a n : ℕ) (ws : List ℕ) → Did n (each n (puts a ws)) s t p → a + n ≤ length s.memory.contents → length ws ≡ n
    → span t.memory.contents a n ≡ ws
put_span {s} {t} {p} a n ws d h e =
    let h' : a + n ≤ length t.memory.contents = omega (arith, d.size) in
    sym (is_span ws t.memory.contents a n h' e
    (λ k l. sym (ap (λ m. get_or m.contents (a + k) 0) d.memory ∙ slice_index_puts s.memory a ws n k l h)))

pub got_all : {s t : Scene} {p : ℕ} (a n : ℕ) → Did n (each n (gets a)) s t p → t.memory.contents ≡ s.memory.contents
got_all {s} {t} {p} a n d = ap (λ m. m.contents) d.memory ∙ after_gets s.memory a n

-- the same words written
pub other_words : {s t : Scene} {p : ℕ} (a : ℕ) (ws vs : List ℕ) → Did (length ws) (each (length ws) (puts a ws)) s t p → ws ≡ vs
    → Did (length vs) (each (length vs) (puts a vs)) s t p
other_words {s} {t} {p} a ws vs d e = subst (λ xs. Did (length xs) (each (length xs) (puts a xs)) s t p) e d

-- a word written just behind a span makes it longer
pub span_more : (xs : List ℕ) (a n w : ℕ) → a + n < length xs → span (set xs (a + n) w) a (n + 1) ≡ span xs a n ++ w ∷ []
unfolding span
span_more xs a n w h =
    let lt : n < length (drop a xs) = simp length-drop (omega arith) in
    ap (λ ys. take (n + 1) ys) (drop-set-add a xs n w) ∙ take_more_set (drop a xs) n w lt

-- a word of a span that is known
pub of_span : (xs ws : List ℕ) (a n j : ℕ) → span xs a n ≡ ws → j < n → get_or xs (a + j) 0 ≡ get_or ws j 0
of_span xs ws a n j e l = sym (slice_index_span xs a n j l) ∙ ap (λ vs. get_or vs j 0) e

-- a span of a span
pub span_span : (xs : List ℕ) (a k b n : ℕ) → b + n ≤ k → span (span xs a k) b n ≡ span xs (a + b) n
unfolding span
span_span xs a k b n h =
    let e : k ≡ b + (k - b) = omega arith in
    let le : n ≤ k - b = omega arith in
    ap (λ j. take n (drop b (take j (drop a xs)))) e ∙ ap (λ ys. take n ys) (drop-take b (k - b) (drop a xs)) ∙ take-take n (k - b) (drop b (drop a xs)) le
    ∙ ap (λ ys. take n ys) (drop-drop b a xs)
