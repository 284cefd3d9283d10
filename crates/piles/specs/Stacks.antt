-- What comes of putting one more layer on top of a pile.
use Rattle.std.specs.Prelude.{◌≡◌, ℕ, ◌+◌, Result, MatchResult}
use Rattle.memory.specs.Meanings.{Meaning}
use Rattle.caches.specs.Policies.{Tags}
use Rattle.caches.specs.Layers.{layered}
use Rattle.piles.specs.declared.stack.Full.{Full}

-- by what a pile means and for how many layers it has room: the new layer is over what was there, or the pile is full and as it was
abbrev pub Puts : {X : Type 0} → (X → Meaning) → (X → ℕ) → X → Tags → ℕ → X → Result Unit Full → Type 0
Puts means room old p hit new r =
    MatchResult r (λ _. (means new ≡ layered p hit (means old)) × (room new + 1 ≡ room old)) (λ _. (new ≡ old) × (room old ≡ 0))
