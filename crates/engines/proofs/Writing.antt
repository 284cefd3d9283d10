-- Words that are to be written, one list after another.
use Rattle.std.proofs.Common.{◌≡◌, ℕ, zero, suc, ◌+◌, ◌*◌, ◌^◌, ◌<◌, ◌≤◌, List, [], ◌∷◌, ◌++◌, length, get_or, take, sym, refl, ap, ◌∙◌, append-nil, arith}
use Rattle.std.specs.List.{flat_map}
use Rattle.std.proofs.lemmas.List.{take_more}
use Rattle.std.proofs.lemmas.List.Sums.{sum_by-cons, sum_by_more, sum_by_more_le}
use Rattle.std.proofs.lemmas.Grind.{flat_map-append}
use Rattle.memory.specs.Meanings.{Meaning}
use Rattle.memory.specs.Calls.{Admits}
use Rattle.trace.specs.Did.{Scene, Did}
use Rattle.trace.proofs.Joins.{joined, counted, retold}
use Rattle.engines.specs.Spans.{AllHeld}
use Rattle.engines.specs.declared.spans.Write.{Write}
use Rattle.engines.specs.Writes.{write_acts, spans_of, acts_of, entries_of}
use Rattle.engines.proofs.Few.{few}

-- each of the spans that are held is held
pub held_at : (m : Meaning) (ws : List Write) (i : ℕ) (d : Write) → AllHeld m (spans_of ws) → i < length ws
    → Admits m (get_or ws i d).first (length (get_or ws i d).words.now)
held_at m [] i d h l = absurd (let z : ⊥ = omega arith in z)
held_at m (w ∷ ws) zero d h l = h.0
held_at m (w ∷ ws) (suc i) d h l = held_at m ws i d h.1 (omega arith)

-- held words are no more than a memory can have, list by list
pub few_entries : (m : Meaning) (ws : List Write) → length m.contents ≤ 4096 → AllHeld m (spans_of ws) → entries_of ws ≤ 4096 * length ws
few_entries m [] b h = omega arith
few_entries m (w ∷ ws) b h = omega (arith, sum_by-cons (λ x. length x.words.now) w ws, few m w.first (length w.words.now) b h.0, few_entries m ws b h.1)

-- so the cost of sixteen lists fits
pub cost_fits : {p q : ℕ} (m : Meaning) (ws : List Write) (i : ℕ) (d : Write) → length m.contents ≤ 4096 → length ws ≤ 16 → AllHeld m (spans_of ws) → i < length ws
    → p ≤ 65535 * entries_of (take i ws) → q ≤ 65535 * length (get_or ws i d).words.now → p + q < 2 ^ 32
cost_fits {p} {q} m ws i d b k h l e f = omega (arith, few_entries m ws b h, sum_by_more_le (λ x. length x.words.now) ws i d l)

-- one list more
pub one_more : {s t u : Scene} {p q : ℕ} (ws : List Write) (i : ℕ) (d : Write) → i < length ws
    → Did (entries_of (take i ws)) (acts_of (take i ws)) s t p → Did (length (get_or ws i d).words.now) (write_acts (get_or ws i d)) t u q
    → Did (entries_of (take (i + 1) ws)) (acts_of (take (i + 1) ws)) s u (p + q)
one_more {s} {t} {u} {p} {q} ws i d l a b =
    let w = get_or ws i d in
    let acts : acts_of (take i ws) ++ write_acts w ≡ acts_of (take (i + 1) ws) =
    sym (ap (flat_map write_acts) (take_more ws i d l) ∙ flat_map-append write_acts (take i ws) (w ∷ []) ∙ ap (λ zs. acts_of (take i ws) ++ zs) (append-nil (write_acts w))) in
    counted (retold (joined a b) acts) (sym (sum_by_more (λ x. length x.words.now) ws i d l)) refl
