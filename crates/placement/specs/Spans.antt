-- The addresses of a span.
use Rattle.std.specs.Prelude.{ℕ, ◌+◌, ◌<◌, ◌≤◌}
use Rattle.placement.specs.declared.regions.Span.{Span}

-- an address of a span
abbrev pub Inside : Span → ℕ → Type 0
Inside s a = (s.first ≤ a) × (a < s.first + s.count)

-- two spans have no address in common, or they have one
abbrev pub Apart : Span → Span → Type 0
Apart s t = (a : ℕ) → Inside s a → Inside t a → ⊥

abbrev pub Shares : Span → Span → Type 0
Shares s t = (a : ℕ) × Inside s a × Inside t a
